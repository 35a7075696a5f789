use Rattle.std.proofs.Common.{◌≡◌, ℕ, ◌<◌, true, false, get_or}
use Rattle.lq_linear.specs.Terms.{coefficient}
use Rattle.lq_linear.specs.Row.{nothing}
use Rattle.lq_validity.specs.Spare.{AreOpposite}
use Rattle.lq_validity.proofs.spare.has_partner.Given as goal

abbrev pub invariant-loop-place : goal.invariant-loop-place
invariant-loop-place l = (k : ℕ) → k < l.place → get_or l.left k false ≡ true → AreOpposite (coefficient (get_or l.rows k nothing).terms l.symbol) l.multiple → ⊥
