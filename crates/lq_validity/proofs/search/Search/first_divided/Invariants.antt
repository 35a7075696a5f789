use Rattle.std.proofs.Common.{ℕ, ◌<◌, reverse}
use Rattle.lq_linear.specs.Item.{rows}
use Rattle.lq_linear.specs.Derivation.{Combination}
use Rattle.lq_validity.proofs.DividedLemmas.{Dividing}
use Rattle.lq_validity.proofs.search.Search.first_divided.Given as goal

abbrev pub invariant-loop-divisor : goal.invariant-loop-divisor
invariant-loop-divisor l = (k : ℕ) → k < l.divisor-index → (c : Combination) → Dividing l.self.multipliers.now (rows (reverse l.self.items.now)) l.goal l.self.direct l.parts k c → ⊥
