use Rattle.std.proofs.Common.{◌≡◌, ◌+◌, ◌≤◌, length}
use Rattle.std.specs.List.{filter_map}
use Rattle.lq_linear.specs.Collect.{as_row}
use Rattle.lq_templates.specs.Conditions.{filled}
use Rattle.lq_full.proofs.counting.count_held.Given as goal

abbrev pub invariant-loop-row : goal.invariant-loop-row
invariant-loop-row l = record {
  counted : l.count + length (filter_map (λ row. as_row (filled l.values row)) l.rest) ≡ length (filter_map (λ row. as_row (filled l.values row)) l.rows);
  few : l.count + length l.rest ≤ length l.rows;
}

abbrev pub decreases-loop-row : goal.decreases-loop-row
decreases-loop-row l = length l.rest
