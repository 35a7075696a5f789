use Rattle.std.proofs.Common.{◌≡◌, ◌<◌, arith, rules, ap, ◌∙◌, w64}
use Rattle.std.specs.Prelude.{nat_abs}
use mir.Val.{SFits}
use Rattle.std.proofs.lemmas.Int.{to_z-of_z}
use Rattle.lq_meaning.specs.Control.{iteration_count}
use Rattle.lq_meaning.proofs.Iterations.{foreaches}
use Rattle.lq_meaning.proofs.line.due.each.Goals as goal

pub returns : goal.returns
returns c p =
    let from : SFits w64 c.in-Ok.ends.0 = search rules in
    let to : SFits w64 c.in-Ok.ends.1 = search rules in
    let by : SFits w64 c.args.step = c.ranges.step in
    let step : c.unsigned_abs-step.result ≡ nat_abs c.args.step = simp to_z-of_z at c.unsigned_abs-step.ensures.value in
    let counted = simp to_z-of_z at c.iteration_count-count.ensures in
    let count : c.iteration_count-count.result ≡ iteration_count c.in-Ok.ends.0 c.in-Ok.ends.1 (nat_abs c.args.step) = counted ∙ ap (λ n. iteration_count c.in-Ok.ends.0 c.in-Ok.ends.1 n) step in
    let some : 0 < c.iteration_count-count.result = omega (arith, c.if-count-eq0.false) in
    rw (to_z-of_z w64 c.in-Ok.ends.0 from, step)
    (foreaches p c.args.at c.args.slot c.args.low.now c.args.high.now c.args.step c.args.branch c.args.slots.now c.in-Ok.ends.0 c.in-Ok.ends.1 c.iteration_count-count.result
    c.in-Ok.ensures.left c.in-Ok.ensures.right count some c.if-count-gt-MOST_ITERATIONS.false)
