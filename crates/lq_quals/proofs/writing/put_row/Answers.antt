use Rattle.std.proofs.Common.{◌≡◌, ◌^◌, get_or, pos, ℤ, sym, ap, subst, ◌∙◌, arith, to_z, of_z, w64}
use Rattle.std.specs.Prelude.{OnOk, slice_get}
use Rattle.std.specs.List.{AllByRecursion}
use Rattle.std.specs.Option.{option_copied}
use Rattle.lq_linear.specs.Terms.{IsCoefficient}
use Rattle.lq_linear.proofs.Collecting.{all_at}
use Rattle.lq_linear.proofs.FormLemmas.{coefficient_held}
use Rattle.lq_linear.proofs.LooseLemmas.{within_held}
use Rattle.lq_quals.proofs.WritingLemmas.{got, term_more, row_end}
use Rattle.lq_quals.proofs.writing.put_row.Goals as goal

pub loop-symbol-preserved : goal.loop-symbol-preserved
loop-symbol-preserved c =
    let terms = c.terms-symbol-items.result.now in
    let i = c.loop-symbol.symbol-index in
    let term = get_or terms i (0, pos 0) in
    let all : AllByRecursion (λ t. IsCoefficient t.1) terms = subst (λ ts. AllByRecursion (λ t. IsCoefficient t.1) ts) (sym c.terms-symbol-items.ensures.terms) c.terms-symbol-items.ensures.bounds.are_terms.coefficients in
    let held : to_z w64 (of_z w64 term.1) ≡ term.1 = coefficient_held term.1 (all_at (λ t. IsCoefficient t.1) terms i (0, pos 0) c.loop-symbol-test.true all) in
    let atom : option_copied c.get.result ≡ slice_get c.args.atoms.now term.0 = got c.args.atoms.now term.0 c.get.result c.get.ensures.lookup.3 in
    term_more c.args.atoms.now terms i c.loop-symbol.at_front c.loop-symbol.out.items c.put_sign.new.out.items c.put_multiple.new.out.items _ (to_z w64 (of_z w64 term.1)) (option_copied c.get.result)
    c.loop-symbol-test.true held atom c.in_ok-put_sign.ensures c.in_ok-put_multiple.ensures c.loop-symbol.invariant

pub returns : goal.returns
returns c =
    let terms = c.terms-symbol-items.result.now in
    let most : ℤ = c.row.inside.most in
    let held : to_z w64 (of_z w64 most) ≡ most = within_held (2 ^ 40) most (omega arith) c.row.invariant.1 in
    let row = c.args.row.now in
    let whole = row_end c.args.atoms.now terms c.loop-symbol.symbol-index c.loop-symbol.at_front c.args.out.now.items c.loop-symbol.out.items c.extend_from_slice.new.self.items c.args.between.now row (to_z w64 (of_z w64 most))
    c.loop-symbol-test.false (c.terms-symbol-items.ensures.terms ∙ ap (λ r. r.terms) c.row.view_is) (held ∙ ap (λ r. r.most) c.row.view_is) c.loop-symbol.invariant c.in_ok-extend_from_slice.ensures.items in
    subst (λ t. OnOk c.put_number.result (c.put_number.new.out.items ≡ t)) whole c.put_number.ensures.ok
