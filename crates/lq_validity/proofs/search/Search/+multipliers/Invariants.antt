use Rattle.std.proofs.Common.{◌≡◌, ℕ, ◌+◌, ◌*◌, ◌<◌, length, drop, get_or, reverse}
use Rattle.lq_linear.specs.Item.{rows}
use Rattle.lq_linear.specs.Derivation.{Combination}
use Rattle.lq_validity.specs.Families.{WithNumbersBy}
use Rattle.lq_validity.proofs.search.Search.+multipliers.Given as goal

abbrev pub decreases-first_multiplied : goal.decreases-first_multiplied
decreases-first_multiplied l = 2 * length l.numbers.now + 1

abbrev pub decreases-first_multiplied_by : goal.decreases-first_multiplied_by
decreases-first_multiplied_by l = 2 * length l.rest.now + 2

abbrev pub invariant-first_multiplied-loop-multiplier : goal.invariant-first_multiplied-loop-multiplier
invariant-first_multiplied-loop-multiplier l = record {
  same : l.parts.items ≡ l.fn.parts.items;
  none : (k : ℕ) → k < l.multiplier-index → (c : Combination)
      → WithNumbersBy l.self.multipliers.now (rows (reverse l.self.items.now)) l.goal l.self.direct l.fn.parts.items (get_or l.numbers 0 0) (drop 1 l.numbers) (get_or l.self.multipliers.now k 0) c → ⊥;
}
