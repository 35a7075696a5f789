use Rattle.std.proofs.Common.{◌≡◌, ◌*◌, ◌^◌, ◌+ℤ◌, drop, reverse}
use Rattle.lq_linear.specs.Terms.{IsWithin}
use Rattle.lq_linear.specs.Item.{rows}
use Rattle.lq_linear.specs.Derivation.{combined}
use Rattle.lq_linear.proofs.combination.total_most.Given as goal

abbrev pub invariant-loop-multiplier : goal.invariant-loop-multiplier
invariant-loop-multiplier l =
    let all = rows (reverse l.items) in
    record {
      rest : l.total +ℤ (combined all (drop l.multiplier-index l.parts)).most ≡ (combined all l.parts).most;
      within : IsWithin (2 ^ 73 * l.multiplier-index) l.total;
    }
