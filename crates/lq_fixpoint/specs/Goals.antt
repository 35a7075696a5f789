-- Goals as rows.
use Rattle.std.specs.Prelude.{◌≡◌, List, [], Option, None, Some, map}
use Rattle.std.specs.List.{AllByRecursion, filter_map}
use Rattle.lq_linear.specs.Row.{Inequality, IsBounded}
use Rattle.lq_linear.specs.Collect.{as_row}
use Rattle.lq_templates.specs.declared.condition.Given.{Given}
use Rattle.lq_templates.specs.declared.condition.Given.TheVariants.{Fixed, Of}
use Rattle.lq_templates.specs.declared.condition.Assign.{Assign}
use Rattle.lq_templates.specs.Conditions.{filled, rows_at}

-- the rows that goals are collected to, one for each; none where not all are within the bounds
abbrev pub AreRowsOf : List Inequality → Option (List Inequality) → Type 0
AreRowsOf goals None = ¬ AllByRecursion IsBounded goals
AreRowsOf goals (Some rows) = map as_row goals ≡ map (λ row. Some row) rows

-- the rows of a template, if that is the goal, those within the bounds
abbrev pub bounded_of : Assign → Given → List Inequality
bounded_of assign (Fixed item) = []
bounded_of assign (Of template values) = filter_map (λ row. as_row (filled values row)) (rows_at assign template)
