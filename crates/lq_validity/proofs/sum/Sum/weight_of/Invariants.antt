use Rattle.std.proofs.Common.{◌≡◌, ◌*◌, ◌^◌, ◌+ℤ◌, drop}
use Rattle.lq_linear.specs.Terms.{IsWithin}
use Rattle.lq_validity.specs.Sum.{parts_sum}
use Rattle.lq_validity.proofs.sum.Sum.weight_of.Given as goal

abbrev pub invariant-loop-multiplier : goal.invariant-loop-multiplier
invariant-loop-multiplier l = record {
  rest : l.total +ℤ (parts_sum l.sums (drop l.multiplier-index l.parts)).weight ≡ (parts_sum l.sums l.parts).weight;
  within : IsWithin (2 ^ 114 * l.multiplier-index) l.total;
}
