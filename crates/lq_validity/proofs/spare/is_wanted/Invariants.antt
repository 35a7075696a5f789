use Rattle.std.proofs.Common.{ℕ, ◌<◌, get_or}
use Rattle.lq_linear.specs.Terms.{coefficient}
use Rattle.lq_linear.specs.Row.{nothing}
use Rattle.lq_validity.specs.Spare.{AreAligned}
use Rattle.lq_validity.proofs.spare.is_wanted.Given as goal

abbrev pub invariant-loop-goal : goal.invariant-loop-goal
invariant-loop-goal l = (k : ℕ) → k < l.goal-index → AreAligned (coefficient (get_or l.goals k nothing).terms l.symbol) l.multiple → ⊥
