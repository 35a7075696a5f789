-- Conditions as data: what their facts and goals are under an assignment, and what of it is derived (docs/CHECKING.md,
-- "Conditions" and "Verdict").
use Rattle.std.specs.Prelude.{◌≡◌, ℕ, ◌-◌, Bool, true, false, List, [], ◌∷◌, ◌++◌, map, reverse, ℤ, pos, negsuc, ◌+ℤ◌, ◌-ℤ◌, ◌*ℤ◌, slice_index_or, IsTrue, IsFalse}
use Rattle.std.specs.List.{AllByRecursion, AllZip, list_any, flat_map, filter_map}
use Rattle.lq_tree.specs.declared.place.Place.{Place}
use Rattle.lq_linear.specs.Terms.{Term, times}
use Rattle.lq_linear.specs.Form.{Linear}
use Rattle.lq_linear.specs.Row.{Inequality, IsBounded, Meets, nothing}
use Rattle.lq_linear.specs.Collect.{as_row, constant}
use Rattle.lq_linear.specs.Item.{MeetsItem}
use Rattle.lq_linear.specs.Derivation.{Derives}
use Rattle.lq_linear.specs.declared.item.Item.{Item}
use Rattle.lq_linear.specs.declared.item.Item.TheVariants.{Holds, Division, Remainder}
use Rattle.lq_templates.specs.declared.condition.Given.{Given}
use Rattle.lq_templates.specs.declared.condition.Given.TheVariants.{Fixed, Of}
use Rattle.lq_templates.specs.declared.condition.Rule.{Rule}
use Rattle.lq_templates.specs.declared.condition.Site.{Site}
use Rattle.lq_templates.specs.declared.condition.Condition.{Condition}
use Rattle.lq_templates.specs.declared.condition.Assign.{Assign}

-- ---- the rows of a template at forms

-- terms over names, with forms in the place of the names
abbrev pub filled_terms : (values : List Linear) → List Term → List Term
filled_terms values terms = flat_map (λ (term : Term). times term.1 (slice_index_or values term.0 (constant (pos 0))).terms) terms

-- what the constants of these forms add to the terms
abbrev pub filled_constant : (values : List Linear) → List Term → ℤ
filled_constant values [] = pos 0
filled_constant values (term ∷ terms) = (term.1 *ℤ (slice_index_or values term.0 (constant (pos 0))).constant) +ℤ filled_constant values terms

-- a row over names, with forms in the place of the names
abbrev pub filled : (values : List Linear) → Inequality → Inequality
filled values row = record { terms = filled_terms values row.terms; most = row.most -ℤ filled_constant values row.terms }

-- the rows that an assignment gives the template with this number, from 1
abbrev pub rows_at : Assign → (template : ℕ) → List Inequality
rows_at assign template = slice_index_or assign.rows (template - 1) []

-- the rows of a template hold where its names stand for these numbers
abbrev pub RowsHold : Assign → (template : ℕ) → (numbers : List ℤ) → Type 0
RowsHold assign template numbers = AllByRecursion (Meets (λ name. slice_index_or numbers name (pos 0))) (rows_at assign template)

-- ---- what is given under an assignment

-- the items that are facts: of a template's rows those within the bounds
abbrev pub items_of : Assign → Given → List Item
items_of assign (Fixed item) = item ∷ []
items_of assign (Of template values) = map Holds (filter_map (λ row. as_row (filled values row)) (rows_at assign template))

-- the facts of a condition, newest first
abbrev pub facts_of : Assign → Condition → List Item
facts_of assign c = reverse (flat_map (items_of assign) c.facts)

-- the row that a fixed goal is
abbrev pub row_of : Item → Inequality
row_of (Holds row) = row
row_of (Division quotient dividend divisor) = nothing
row_of (Remainder remainder dividend divisor) = nothing

-- the rows that are goals, also those that pass the bounds
abbrev pub rows_of : Assign → Given → List Inequality
rows_of assign (Fixed item) = row_of item ∷ []
rows_of assign (Of template values) = map (filled values) (rows_at assign template)

-- the goals of a condition
abbrev pub goals_of : Assign → Condition → List Inequality
goals_of assign c = flat_map (rows_of assign) c.goals

-- ---- met, and valid

-- a goal is derived: it is within the bounds, and the facts derive it
pub record IsDerived (multipliers : List ℕ) (facts : List Item) (goal : Inequality) : Type 0 where
  pub bounded : IsBounded goal
  pub derived : Derives multipliers facts goal

-- an assignment meets a condition: each goal is derived
abbrev pub IsMet : (multipliers : List ℕ) → Assign → Condition → Type 0
IsMet multipliers assign c = AllByRecursion (IsDerived multipliers (facts_of assign c)) (goals_of assign c)

-- a condition is valid: wherever symbols stand for numbers that meet its facts, they meet its goals
abbrev pub IsValid : Assign → Condition → Type 0
IsValid assign c = (v : ℕ → ℤ) → AllByRecursion (MeetsItem v) (facts_of assign c) → AllByRecursion (Meets v) (goals_of assign c)

-- ---- assignments

-- the one list is some elements of the other, in their order
pub data IsPart {X : Type 0} : List X → List X → Type 0 where
  none : IsPart [] []
  kept : {x : X} {part whole : List X} → IsPart part whole → IsPart (x ∷ part) (x ∷ whole)
  left : {x : X} {part whole : List X} → IsPart part whole → IsPart part (x ∷ whole)

-- each template keeps only rows that it has in the other assignment
abbrev pub IsWithin : (assign other : Assign) → Type 0
IsWithin assign other = AllZip IsPart assign.rows other.rows

-- ---- the greatest assignment, and the first failure

-- a goal is the rows of a template
abbrev pub is_rows : Given → Bool
is_rows (Fixed item) = false
is_rows (Of template values) = true

-- a condition asks for the rows of a template
abbrev pub asks_rows : Condition → Bool
asks_rows c = list_any is_rows c.goals

-- some instances for each template, so that each condition that asks for rows is met
pub record IsSolution (multipliers : List ℕ) (full : Assign) (list : List Condition) (assign : Assign) : Type 0 where
  pub within : IsWithin assign full
  pub met : AllByRecursion (λ c. IsTrue (asks_rows c) → IsMet multipliers assign c) list

-- the solution that every other is within
pub record IsGreatest (multipliers : List ℕ) (full : Assign) (list : List Condition) (assign : Assign) : Type 0 where
  pub solution : IsSolution multipliers full list assign
  pub greatest : (other : Assign) → IsSolution multipliers full list other → IsWithin other assign

-- the first condition with a fixed goal that isn't met
pub record IsFirstFailure (multipliers : List ℕ) (list : List Condition) (assign : Assign) (failure : Condition) : Type 0 where
  pub before : List Condition
  pub after : List Condition
  pub there : list ≡ before ++ failure ∷ after
  pub met_before : AllByRecursion (λ c. IsFalse (asks_rows c) → IsMet multipliers assign c) before
  pub is_fixed : IsFalse (asks_rows failure)
  pub fails : ¬ IsMet multipliers assign failure

-- ---- how conditions are written

-- a statement's place, where there is no pair
abbrev pub site : Place → Site
site at = record { at = at; first = at; second = at; class = 0; kinds = (false, false); fields = (0, 0) }

-- a condition with one goal
abbrev pub asks : Rule → Site → (facts : List Given) → (goal : Given) → Condition
asks rule site facts goal = record { facts = facts; goals = goal ∷ []; rule = rule; site = site }

-- nothing is at most -1
abbrev pub absurdity : Given
absurdity = Fixed (Holds (record { terms = []; most = negsuc 0 }))
