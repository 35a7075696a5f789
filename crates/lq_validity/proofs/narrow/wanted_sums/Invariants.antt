use Rattle.std.proofs.Common.{ℕ, ◌<◌, ◌^◌, get_or}
use Rattle.std.specs.List.{AllByRecursion}
use Rattle.std.specs.Prelude.{Contains}
use Rattle.lq_validity.specs.Sum.{IsNear}
use Rattle.lq_validity.specs.Narrow.{wanted_for}
use Rattle.lq_validity.proofs.narrow.wanted_sums.Given as goal

abbrev pub invariant-loop-divisor : goal.invariant-loop-divisor
invariant-loop-divisor l = record {
  near : AllByRecursion (IsNear (2 ^ 120)) l.wanted.items;
  each : (k : ℕ) → k < l.divisor-index → Contains l.wanted.items (wanted_for l.goal (get_or l.multipliers k 0));
}
