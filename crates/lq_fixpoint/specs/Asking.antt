-- What is asked of conditions whose goals are the rows of templates.
use Rattle.std.specs.Prelude.{IsTrue}
use Rattle.std.specs.List.{list_all}
use Rattle.lq_templates.specs.declared.condition.Condition.{Condition}
use Rattle.lq_templates.specs.Conditions.{is_rows, asks_rows}

-- a condition that asks for the rows of a template asks for nothing else
abbrev pub AsksAlike : Condition → Type 0
AsksAlike c = IsTrue (asks_rows c) → IsTrue (list_all is_rows c.goals)
