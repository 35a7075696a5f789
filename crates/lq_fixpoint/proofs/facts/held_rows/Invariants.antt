use Rattle.std.proofs.Common.{◌≡◌, ◌++◌, map, length}
use Rattle.std.specs.List.{filter_map}
use Rattle.lq_linear.specs.Collect.{as_row}
use Rattle.lq_linear.specs.declared.item.Item.TheVariants.{Holds}
use Rattle.lq_templates.specs.Conditions.{filled}
use Rattle.lq_fixpoint.proofs.facts.held_rows.Given as goal

abbrev pub invariant-loop-row : goal.invariant-loop-row
invariant-loop-row l =
    l.items ++ map Holds (filter_map (λ row. as_row (filled l.values row)) l.rest) ≡ map Holds (filter_map (λ row. as_row (filled l.values row)) l.rows)

abbrev pub decreases-loop-row : goal.decreases-loop-row
decreases-loop-row l = length l.rest
