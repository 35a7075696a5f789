use Rattle.std.proofs.Common.{pos, ◌+◌, get_or, drop, sym, ap, ◌∙◌, subst}
use Rattle.std.proofs.lemmas.List.{drop_all}
use Rattle.lq_linear.specs.Terms.{IsCoefficient, IsWithin, coefficient}
use Rattle.lq_linear.proofs.Collecting.{all_at, coefficient_at, coefficient_rest}
use Rattle.lq_linear.proofs.FormLemmas.{coefficient_held, drop_at}
use Rattle.lq_linear.proofs.loose.coefficient_in.Goals as goal

pub returns-then-other-symbol : goal.returns-then-other-symbol
returns-then-other-symbol c =
    let terms = c.args.terms.now in
    let i = c.loop-other.other-index in
    let small : IsCoefficient (get_or terms i (0, pos 0)).1 = all_at (λ t. IsCoefficient t.1) terms i (0, pos 0) c.loop-other-test.true c.requires.coefficients in
    let held = coefficient_held (get_or terms i (0, pos 0)).1 small in
    record {
      value = held ∙ sym (coefficient_at terms i (0, pos 0) c.loop-other-test.true c.requires.ascending) ∙ ap (coefficient terms) c.if-other-symbol.true;
      within = subst (IsWithin 65536) (sym held) small.within;
    }

pub loop-other-preserved : goal.loop-other-preserved
loop-other-preserved c =
    let terms = c.args.terms.now in
    let i = c.loop-other.other-index in
    c.loop-other.invariant ∙ ap (λ l. coefficient l c.args.symbol) (drop_at terms i (0, pos 0) c.loop-other-test.true)
    ∙ coefficient_rest (get_or terms i (0, pos 0)) (drop (i + 1) terms) c.args.symbol c.if-other-symbol.false

pub returns-clause-value : goal.returns-clause-value
returns-clause-value c = sym (c.loop-other.invariant ∙ ap (λ l. coefficient l c.args.symbol) (drop_all c.loop-other.other-index c.args.terms.now c.loop-other-test.false))
