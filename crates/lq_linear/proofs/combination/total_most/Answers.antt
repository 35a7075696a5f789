use Rattle.std.proofs.Common.{◌≡◌, ◌+◌, ◌*◌, ◌+ℤ◌, ◌*ℤ◌, pos, get_or, reverse, drop, sym, ap, ◌∙◌, subst, arith, to_z, of_z}
use mir.Syntax.{w128}
use Rattle.std.proofs.lemmas.Int.{ints}
use Rattle.lq_linear.specs.Terms.{IsWithin}
use Rattle.lq_linear.specs.Item.{rows}
use Rattle.lq_linear.specs.Derivation.{combined}
use Rattle.lq_linear.proofs.CombinationLemmas.{step_most}
use Rattle.lq_linear.proofs.combination.total_most.Goals as goal

pub loop-multiplier-preserved : goal.loop-multiplier-preserved
loop-multiplier-preserved c =
    let all = rows (reverse c.args.items.now) in
    let i = c.loop-multiplier.multiplier-index in
    let before = c.loop-multiplier.invariant.within in
    let new = c.multiplied_most-total.ensures.within in
    let total = to_z w128 c.loop-multiplier.total-bits in
    let held : to_z w128 (of_z w128 (to_z w128 c.loop-multiplier.total-bits +ℤ to_z w128 (of_z w128 c.multiplied_most-total.result))) ≡ total +ℤ c.multiplied_most-total.result
    = omega (arith, ints, before.low, before.high, new.low, new.high) in
    record {
      rest = ap (λ z. z +ℤ (combined all (drop (i + 1) c.args.parts.now)).most) held
          ∙ step_most all c.args.parts.now i total c.multiplied_most-total.result _ c.loop-multiplier-test.true c.loop-multiplier.invariant.rest
          (c.multiplied_most-total.ensures.value ∙ ap (λ r. pos (get_or c.args.parts.now i (0, 0)).0 *ℤ r.most) c.row_at.ensures);
      within = subst (IsWithin (9444732965739290427392 * (i + 1))) (sym held) (record { low = omega (arith, ints, before.low, new.low); high = omega (arith, ints, before.high, new.high) });
    }
