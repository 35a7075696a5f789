use Rattle.std.proofs.Common.{◌≡◌, ◌++◌, map, length, Some}
use Rattle.std.specs.List.{AllByRecursion, flat_map}
use Rattle.lq_linear.specs.Row.{IsBounded}
use Rattle.lq_linear.specs.Collect.{as_row}
use Rattle.lq_templates.specs.Conditions.{rows_of}
use Rattle.lq_fixpoint.proofs.facts.goals_under.Given as goal

abbrev pub invariant-loop-given : goal.invariant-loop-given
invariant-loop-given l = record {
  rows : map as_row (flat_map (rows_of l.assign) l.c.goals) ≡ map (λ row. Some row) l.goals ++ map as_row (flat_map (rows_of l.assign) l.rest);
  bounded : AllByRecursion IsBounded (flat_map (rows_of l.assign) l.c.goals) → AllByRecursion IsBounded (flat_map (rows_of l.assign) l.rest);
}

abbrev pub decreases-loop-given : goal.decreases-loop-given
decreases-loop-given l = length l.rest
