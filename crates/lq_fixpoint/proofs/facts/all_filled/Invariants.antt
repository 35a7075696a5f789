use Rattle.std.proofs.Common.{◌≡◌, ◌++◌, map, length, Some}
use Rattle.std.specs.List.{AllByRecursion}
use Rattle.lq_linear.specs.Row.{IsBounded}
use Rattle.lq_linear.specs.Collect.{as_row}
use Rattle.lq_templates.specs.Conditions.{filled}
use Rattle.lq_fixpoint.proofs.facts.all_filled.Given as goal

abbrev pub invariant-loop-row : goal.invariant-loop-row
invariant-loop-row l = record {
  rows : map as_row (map (filled l.values) l.rows) ≡ map (λ row. Some row) l.goals ++ map as_row (map (filled l.values) l.rest);
  bounded : AllByRecursion IsBounded (map (filled l.values) l.rows) → AllByRecursion IsBounded (map (filled l.values) l.rest);
}

abbrev pub decreases-loop-row : goal.decreases-loop-row
decreases-loop-row l = length l.rest
