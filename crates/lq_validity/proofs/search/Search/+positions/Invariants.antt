use Rattle.std.proofs.Common.{◌≡◌, ℕ, ◌+◌, ◌*◌, ◌<◌, ◌≤◌, reverse}
use Rattle.lq_linear.specs.Item.{rows}
use Rattle.lq_validity.specs.Marks.{IsMarked}
use Rattle.lq_linear.specs.Derivation.{Combination}
use Rattle.lq_validity.specs.Families.{WithMoreAt}
use Rattle.lq_validity.proofs.search.Search.+positions.Given as goal

abbrev pub decreases-first_of : goal.decreases-first_of
decreases-first_of l = 2 * l.left + 1

abbrev pub decreases-first_at : goal.decreases-first_at
decreases-first_at l = 2 * l.left

abbrev pub invariant-first_of-loop-number : goal.invariant-first_of-loop-number
invariant-first_of-loop-number l = record {
  same : l.numbers.items ≡ l.fn.numbers.items;
  none : (k : ℕ) → l.from ≤ k → k < l.number → (c : Combination)
      → WithMoreAt l.self.multipliers.now (IsMarked l.self.marks.now) (rows (reverse l.self.items.now)) l.goal l.self.direct l.fn.numbers.items l.left k c → ⊥;
}
