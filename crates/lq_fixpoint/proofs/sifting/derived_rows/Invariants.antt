use Rattle.std.proofs.Common.{◌++◌, List, length, reverse}
use Rattle.std.specs.Prelude.{Contains}
use Rattle.std.specs.List.{filter_map}
use Rattle.lq_linear.specs.Row.{Inequality}
use Rattle.lq_linear.specs.Collect.{as_row}
use Rattle.lq_templates.specs.Conditions.{filled, IsDerived}
use Rattle.lq_fixpoint.specs.Sifting.{IsSifted}
use Rattle.lq_fixpoint.proofs.sifting.derived_rows.Given as goal

abbrev pub invariant-loop-row : goal.invariant-loop-row
invariant-loop-row l = record {
  sifted : (part : List Inequality) → IsSifted (λ row. IsDerived l.index.multipliers (reverse l.index.items) (filled l.values row)) l.rest part
      → IsSifted (λ row. IsDerived l.index.multipliers (reverse l.index.items) (filled l.values row)) l.rows (l.derived ++ part);
  there : (goal : Inequality) → Contains (filter_map (λ row. as_row (filled l.values row)) l.rest) goal → Contains l.index.goals goal;
}

abbrev pub decreases-loop-row : goal.decreases-loop-row
decreases-loop-row l = length l.rest
