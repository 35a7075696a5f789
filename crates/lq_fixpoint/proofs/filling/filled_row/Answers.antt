use Rattle.std.proofs.Common.{◌≡◌, ◌∙◌, ◌-ℤ◌, sym, ap, subst, arith, to_z, of_z, w64}
use Rattle.std.proofs.lemmas.Int.{ints}
use Rattle.lq_linear.specs.Terms.{IsCollected}
use Rattle.lq_linear.specs.Row.{Inequality}
use Rattle.lq_symbolic.proofs.Collected.{are_collected}
use Rattle.lq_templates.specs.Conditions.{filled_terms}
use Rattle.lq_fixpoint.proofs.FillingLemmas.{filled_made, some_is, some_fits}
use Rattle.lq_fixpoint.proofs.filling.filled_row.Goals as goal

pub row_of_terms-requires : goal.row_of_terms-requires
row_of_terms-requires c = subst IsCollected (sym c.in_ok-sum.ensures.terms) (are_collected (filled_terms c.args.values.now c.terms.result.now))

pub returns : goal.returns
returns c =
    let row = c.args.row.now in
    let fits = some_fits _ _ _ _ c.checked_sub.ensures c.in_ok-most.ensures.ok_part in
    let told = some_is _ _ _ _ c.checked_sub.ensures c.in_ok-most.ensures.ok_part in
    let same : c.row.inside.most ≡ row.most = ap (λ (r : Inequality). r.most) c.row.view_is in
    let most : to_z w64 (of_z w64 c.in_ok-most.most) ≡ row.most -ℤ c.in_ok-sum.sum.constant = omega (arith, ints, fits, told, same) in
    filled_made c.args.values.now row c.terms.result.now c.in_ok-sum.sum.terms.items c.in_ok-sum.sum.constant _ c.row_of_terms.result
    (c.terms.ensures.terms ∙ ap (λ (r : Inequality). r.terms) c.row.view_is) c.in_ok-sum.ensures.terms c.in_ok-sum.ensures.constant most c.row_of_terms.ensures
