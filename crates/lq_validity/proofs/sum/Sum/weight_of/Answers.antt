use Rattle.std.proofs.Common.{◌≡◌, ◌+◌, ◌*◌, ◌+ℤ◌, drop, sym, ap, ◌∙◌, subst, arith, to_z, of_z}
use mir.Syntax.{w128}
use Rattle.std.proofs.lemmas.Int.{ints}
use Rattle.lq_linear.specs.Terms.{IsWithin}
use Rattle.lq_validity.specs.declared.sum.Sum.{Sum}
use Rattle.lq_validity.specs.Sum.{parts_sum}
use Rattle.lq_validity.proofs.SumLemmas.{step_weight}
use Rattle.lq_validity.proofs.sum.Sum.weight_of.Goals as goal

pub loop-multiplier-preserved : goal.loop-multiplier-preserved
loop-multiplier-preserved c =
    let i = c.loop-multiplier.multiplier-index in
    let before = c.loop-multiplier.invariant.within in
    let new = c.multiple_of-total.ensures.near.weight_near in
    let total = to_z w128 c.loop-multiplier.total-bits in
    let held : to_z w128 (of_z w128 (to_z w128 c.loop-multiplier.total-bits +ℤ to_z w128 (of_z w128 c.multiple_of-total.result.weight))) ≡ total +ℤ c.multiple_of-total.result.weight
    = omega (arith, ints, before.low, before.high, new.low, new.high, c.requires.few, c.loop-multiplier-test.true) in
    record {
      rest = ap (λ z. z +ℤ (parts_sum c.args.sums.now (drop (i + 1) c.args.parts.now)).weight) held
          ∙ step_weight c.args.sums.now c.args.parts.now i total c.multiple_of-total.result.weight _ c.loop-multiplier-test.true c.loop-multiplier.invariant.rest
          (ap (λ (s : Sum). s.weight) c.multiple_of-total.ensures.value);
      within = subst (IsWithin (20769187434139310514121985316880384 * (i + 1))) (sym held) (record { low = omega (arith, ints, before.low, new.low); high = omega (arith, ints, before.high, new.high) });
    }
