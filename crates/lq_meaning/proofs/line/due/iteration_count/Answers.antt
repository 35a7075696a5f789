use Rattle.std.proofs.Common.{◌≡◌, ◌<◌, ◌<ℤ◌, ◌-ℤ◌, arith, w64}
use Rattle.std.specs.Prelude.{nat_abs}
use mir.Val.{SFits}
use Rattle.std.proofs.lemmas.Int.{ints, to_z-of_z}
use Rattle.lq_meaning.proofs.Iterations.{counted_by}
use Rattle.lq_meaning.proofs.line.due.iteration_count.Goals as goal

pub returns : goal.returns
returns c =
    let high : SFits w64 c.args.high = c.ranges.high in
    let low : SFits w64 c.args.low = c.ranges.low in
    let distance : c.abs_diff.result ≡ nat_abs (c.args.high -ℤ c.args.low) = simp to_z-of_z at c.abs_diff.ensures in
    let above : c.args.low <ℤ c.args.high = grind (arith, ints) in
    let some : 0 < c.args.step = omega (arith, c.if-step-eq0.false) in
    counted_by c.args.low c.args.high c.args.step c.abs_diff.result distance above some
