-- What is left of the work on an assignment. Helpers of private functions.
use Rattle.std.specs.Prelude.{◌≡◌, ℕ, ◌<◌, Bool, true, false, List, [], ◌∷◌, Some, length, slice_get, slice_set, slice_index_or, Contains, MatchBool}
use Rattle.lq_templates.specs.declared.condition.Condition.{Condition}
use Rattle.lq_templates.specs.declared.condition.Assign.{Assign}
use Rattle.lq_templates.specs.Conditions.{IsWithin}
use Rattle.lq_fixpoint.specs.declared.work.Work.{Work}
use Rattle.lq_fixpoint.specs.Thinning.{row_count, IsServed, AreServed}

-- marks, with those with these numbers too
abbrev pub marked : (numbers : List ℕ) → (due : List Bool) → List Bool
marked [] due = due
marked (number ∷ numbers) due = marked numbers (slice_set due number true)

-- the condition with this number isn't due
abbrev pub IsSettled : Work → (number : ℕ) → Type 0
IsSettled work number = slice_index_or work.due.items number true ≡ false

-- each condition that isn't due is met, if it asks for the rows of templates
pub record IsKept (multipliers : List ℕ) (list : List Condition) (users : List (List ℕ)) (work : Work) : Type 0 where
  pub counted : length work.due.items ≡ length list
  pub listed : length work.assign.rows ≡ length users
  pub served : (number : ℕ) (c : Condition) → slice_get list number ≡ Some c → IsSettled work number → IsServed multipliers c work.assign

-- rows were dropped, of which no assignment keeps any that does what is asked. What is left does it. A condition that isn't due wasn't before, and
-- stands on no template that lost rows.
pub record Drops (Asked : Assign → Type 0) (users : List (List ℕ)) (dropped : Bool) (old new : Work) : Type 0 where
  pub within : IsWithin new.assign old.assign
  pub keeps : (other : Assign) → IsWithin other old.assign → Asked other → IsWithin other new.assign
  pub asked : Asked new.assign
  pub counted : length new.due.items ≡ length old.due.items
  pub settled : (number : ℕ) → IsSettled new number → IsSettled old number
  pub apart : (number : ℕ) → IsSettled new number → (place : ℕ) → Contains (slice_index_or users place []) number
      → slice_index_or new.assign.rows place [] ≡ slice_index_or old.assign.rows place []
  pub told : MatchBool dropped (row_count new.assign < row_count old.assign) (new ≡ old)

-- the condition with this number was tested, where it was due
pub record IsTested (multipliers : List ℕ) (list : List Condition) (users : List (List ℕ)) (number : ℕ) (dropped : Bool) (old new : Work) : Type 0 where
  pub within : IsWithin new.assign old.assign
  pub keeps : (other : Assign) → IsWithin other old.assign → AreServed multipliers list other → IsWithin other new.assign
  pub kept : IsKept multipliers list users new
  pub told : MatchBool dropped (row_count new.assign < row_count old.assign) (IsSettled new number × ((other : ℕ) → IsSettled old other → IsSettled new other))

-- the conditions below this number were
pub record AreTested (multipliers : List ℕ) (list : List Condition) (users : List (List ℕ)) (number : ℕ) (dropped : Bool) (old new : Work) : Type 0 where
  pub within : IsWithin new.assign old.assign
  pub keeps : (other : Assign) → IsWithin other old.assign → AreServed multipliers list other → IsWithin other new.assign
  pub kept : IsKept multipliers list users new
  pub told : MatchBool dropped (row_count new.assign < row_count old.assign) ((other : ℕ) → other < number → IsSettled new other)
