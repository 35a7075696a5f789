use Rattle.std.proofs.Common.{◌≡◌, pos, get_or, ◌+◌, ◌*◌, ◌+ℤ◌, ◌*ℤ◌, drop, sym, ap, ◌∙◌, subst, arith, to_z, of_z}
use mir.Syntax.{w128}
use Rattle.std.proofs.lemmas.Int.{ints}
use Rattle.lq_linear.specs.Terms.{IsWithin, IsCoefficient, terms_value}
use Rattle.lq_linear.specs.Weight.{symbol_weight}
use Rattle.lq_linear.proofs.Collecting.{all_at}
use Rattle.lq_linear.proofs.FormLemmas.{coefficient_held}
use Rattle.lq_linear.proofs.WeightLemmas.{step_value}
use Rattle.lq_linear.proofs.weight.weight_of_terms.Goals as goal

pub loop-symbol-preserved : goal.loop-symbol-preserved
loop-symbol-preserved c =
    let terms = c.args.terms.now in
    let i = c.loop-symbol.symbol-index in
    let before = c.loop-symbol.invariant.within in
    let new = c.weight_of_term-total.ensures.within in
    let small : IsCoefficient (get_or terms i (0, pos 0)).1 = all_at (λ t. IsCoefficient t.1) terms i (0, pos 0) c.loop-symbol-test.true c.requires.coefficients in
    let total = to_z w128 c.loop-symbol.total-bits in
    let held : to_z w128 (of_z w128 (to_z w128 c.loop-symbol.total-bits +ℤ to_z w128 (of_z w128 c.weight_of_term-total.result))) ≡ total +ℤ c.weight_of_term-total.result
    = omega (arith, ints, before.low, before.high, new.low, new.high) in
    record {
      rest = ap (λ z. z +ℤ terms_value symbol_weight (drop (i + 1) terms)) held
          ∙ step_value symbol_weight terms i total c.weight_of_term-total.result _ c.loop-symbol-test.true c.loop-symbol.invariant.rest
          (c.weight_of_term-total.ensures.value ∙ ap (λ z. z *ℤ symbol_weight (get_or terms i (0, pos 0)).0) (coefficient_held (get_or terms i (0, pos 0)).1 small));
      within = subst (IsWithin (151115727451828646838272 * (i + 1))) (sym held) (record { low = omega (arith, ints, before.low, new.low); high = omega (arith, ints, before.high, new.high) });
    }
