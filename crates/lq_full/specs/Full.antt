-- The full assignment, and how many facts conditions have under an assignment (docs/CHECKING.md, "Verdict"; docs/COMMANDS.md, "Limits").
use Rattle.std.specs.Prelude.{ℕ, max, List, [], ◌∷◌, map}
use Rattle.std.specs.List.{flat_map, sum_by}
use Rattle.lq_linear.specs.declared.item.Item.{Item}
use Rattle.lq_linear.specs.declared.item.Item.TheVariants.{Holds, Division, Remainder}
use Rattle.lq_quals.specs.declared.quals.Quals.{Quals}
use Rattle.lq_templates.specs.declared.condition.Condition.{Condition}
use Rattle.lq_templates.specs.declared.condition.Assign.{Assign}
use Rattle.lq_templates.specs.declared.template.Template.{Template}
use Rattle.lq_templates.specs.Conditions.{items_of}
use Rattle.lq_instances.specs.Instances.{instances}

-- the full assignment: each template has all its instances
abbrev pub full : Quals → List Template → Assign
full quals templates = record { rows = map (λ t. instances t quals) templates }

-- what an item counts as a fact: a row one, a division or a remainder three
abbrev pub weight : Item → ℕ
weight (Holds row) = 1
weight (Division quotient dividend divisor) = 3
weight (Remainder remainder dividend divisor) = 3

-- how many facts a condition has under an assignment
abbrev pub count_facts : Assign → Condition → ℕ
count_facts assign c = sum_by weight (flat_map (items_of assign) c.facts)

-- the most facts that one of these conditions has
abbrev pub most_facts : Assign → List Condition → ℕ
most_facts assign [] = 0
most_facts assign (c ∷ list) = max (count_facts assign c) (most_facts assign list)
