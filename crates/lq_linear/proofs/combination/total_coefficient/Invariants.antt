use Rattle.std.proofs.Common.{◌≡◌, ◌*◌, ◌^◌, ◌+ℤ◌, drop, reverse}
use Rattle.lq_linear.specs.Terms.{IsWithin, coefficient}
use Rattle.lq_linear.specs.Item.{rows}
use Rattle.lq_linear.specs.Derivation.{combined}
use Rattle.lq_linear.proofs.combination.total_coefficient.Given as goal

abbrev pub invariant-loop-multiplier : goal.invariant-loop-multiplier
invariant-loop-multiplier l =
    let all = rows (reverse l.items) in
    record {
      rest : l.total +ℤ coefficient (combined all (drop l.multiplier-index l.parts)).terms l.symbol ≡ coefficient (combined all l.parts).terms l.symbol;
      within : IsWithin (2 ^ 49 * l.multiplier-index) l.total;
    }
