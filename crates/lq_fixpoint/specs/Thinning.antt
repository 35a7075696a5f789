-- What is asked of an assignment. Helpers of private functions.
use Rattle.std.specs.Prelude.{ℕ, ◌+◌, List, [], ◌∷◌, IsTrue, length}
use Rattle.std.specs.List.{AllByRecursion, flat_map}
use Rattle.lq_linear.specs.Row.{Inequality}
use Rattle.lq_linear.specs.declared.item.Item.{Item}
use Rattle.lq_templates.specs.declared.condition.Given.{Given}
use Rattle.lq_templates.specs.declared.condition.Condition.{Condition}
use Rattle.lq_templates.specs.declared.condition.Assign.{Assign}
use Rattle.lq_templates.specs.Conditions.{rows_of, asks_rows, IsDerived, IsMet}

-- how many rows lists of rows have
abbrev pub total : List (List Inequality) → ℕ
total [] = 0
total (rows ∷ others) = length rows + total others

-- how many rows an assignment has
abbrev pub row_count : Assign → ℕ
row_count assign = total assign.rows

-- these items derive what these goals are under an assignment
abbrev pub AreDerived : (multipliers : List ℕ) → (facts : List Item) → List Given → Assign → Type 0
AreDerived multipliers facts goals assign = AllByRecursion (IsDerived multipliers facts) (flat_map (rows_of assign) goals)

-- these items derive what a condition asks for, if it asks for the rows of templates
abbrev pub IsServedBy : (multipliers : List ℕ) → (facts : List Item) → Condition → Assign → Type 0
IsServedBy multipliers facts c assign = IsTrue (asks_rows c) → AreDerived multipliers facts c.goals assign

-- a condition is met, if it asks for the rows of templates
abbrev pub IsServed : (multipliers : List ℕ) → Condition → Assign → Type 0
IsServed multipliers c assign = IsTrue (asks_rows c) → IsMet multipliers assign c

-- each condition is
abbrev pub AreServed : (multipliers : List ℕ) → List Condition → Assign → Type 0
AreServed multipliers list assign = AllByRecursion (λ c. IsTrue (asks_rows c) → IsMet multipliers assign c) list
