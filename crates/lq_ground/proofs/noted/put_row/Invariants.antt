use Rattle.std.proofs.Common.{◌≡◌, ℕ, suc, ◌-◌, length, slice_get}
use Rattle.lq_ground.specs.Noted.{row_of}
use Rattle.lq_ground.proofs.noted.put_row.Given as goal

abbrev pub invariant-loop-alloc : goal.invariant-loop-alloc
invariant-loop-alloc l = (n : ℕ) → row_of (slice_get l.rows n) ≡ row_of (slice_get l.initial.rows n)

abbrev pub decreases-loop-alloc : goal.decreases-loop-alloc
decreases-loop-alloc l = suc l.at - length l.rows
