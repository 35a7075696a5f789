use Rattle.std.proofs.Common.{◌≡◌, ℕ, suc, ◌-◌, length}
use Rattle.lq_templates.specs.Names.{marked}
use Rattle.lq_ground.proofs.position.mark.Given as goal

abbrev pub invariant-loop-marks : goal.invariant-loop-marks
invariant-loop-marks l = (n : ℕ) → marked l.marks n ≡ marked l.initial.marks n

abbrev pub decreases-loop-marks : goal.decreases-loop-marks
decreases-loop-marks l = suc l.slot - length l.marks
