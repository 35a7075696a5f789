use Rattle.std.proofs.Common.{◌≡◌, ℕ, ◌<◌, [], reverse}
use Rattle.lq_linear.specs.Item.{rows}
use Rattle.lq_validity.specs.Marks.{IsMarked}
use Rattle.lq_linear.specs.Derivation.{Combination}
use Rattle.lq_validity.specs.Families.{WithMore}
use Rattle.lq_validity.proofs.search.Search.first.Given as goal

abbrev pub invariant-loop-left : goal.invariant-loop-left
invariant-loop-left l = record {
  same : l.numbers.items ≡ [];
  none : (k : ℕ) → k < l.left → (c : Combination)
      → WithMore l.self.multipliers.now (IsMarked l.self.marks.now) (rows (reverse l.self.items.now)) l.goal l.self.direct [] k 1 c → ⊥;
}
