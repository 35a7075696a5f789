use Rattle.std.proofs.Common.{◌≡◌, ℕ, ◌<◌, pos, true, false, get_or, length}
use Rattle.lq_linear.specs.Terms.{coefficient}
use Rattle.lq_linear.specs.Row.{nothing}
use Rattle.lq_validity.proofs.rows.rows_with.Given as goal

abbrev pub invariant-loop-row : goal.invariant-loop-row
invariant-loop-row l = record {
  count : length l.marks.items ≡ l.row-index;
  marked : (k : ℕ) → k < l.row-index → (coefficient (get_or l.rows k nothing).terms l.symbol ≡ pos 0 → ⊥) → get_or l.marks.items k false ≡ true;
}
