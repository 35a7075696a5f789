-- What follows when a count goes on.
use Rattle.std.proofs.Common.{ℕ, ◌≤◌, arith}
use Rattle.lq_shelf.specs.Faults.{Rose}

-- a count that rose, and then did not fall, rose
pub Rose-later : (old middle new : ℕ) → Rose old middle → middle ≤ new → Rose old new
Rose-later old middle new rose later = omega arith

-- a count that did not fall, and then rose, rose
pub Rose-earlier : (old middle new : ℕ) → old ≤ middle → Rose middle new → Rose old new
Rose-earlier old middle new earlier rose = omega arith
