use Rattle.std.proofs.Common.{◌≡◌, ℕ, suc, ◌-◌, length}
use Rattle.lq_ground.specs.Noted.{noted}
use Rattle.lq_ground.proofs.noted.note.Given as goal

abbrev pub invariant-loop-table : goal.invariant-loop-table
invariant-loop-table l = (n : ℕ) → noted l.table n ≡ noted l.initial.table n

abbrev pub decreases-loop-table : goal.decreases-loop-table
decreases-loop-table l = suc l.at - length l.table
