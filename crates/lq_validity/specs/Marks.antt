-- Marks on the rows that are facts. Helpers of private functions.
use Rattle.std.specs.Prelude.{◌≡◌, ℕ, ◌-◌, ◌<◌, ◌↔◌, ◌⊎◌, Bool, true, false, List, ◌++◌, length, slice_index_or}
use Rattle.lq_linear.specs.Row.{IsBounded, nothing}
use Rattle.lq_linear.specs.Item.{rows, rows_of}
use Rattle.lq_linear.specs.Derivation.{IsFact}
use Rattle.lq_linear.specs.declared.item.Item.{Item}

-- the row with this number, from 1, is marked
abbrev pub IsMarked : List Bool → ℕ → Type 0
IsMarked marks number = (0 < number) × (slice_index_or marks (number - 1) false ≡ true)

-- new has the marks old and then one for each row of the item: whether it is within the bounds, and, of a third row, whether the item is exact
pub record AddsMarks (item : Item) (exact : Bool) (old new : List Bool) : Type 0 where
  pub added : List Bool
  pub joined : new ≡ old ++ added
  pub count : length added ≡ length (rows_of item)
  pub marks : (place : ℕ) → place < length added
      → ((slice_index_or added place false ≡ true) ↔ (IsBounded (slice_index_or (rows_of item) place nothing) × (place ≡ 2 → exact ≡ true)))

-- the marks of items, newest first, are those of their facts
pub record Marks (multipliers : List ℕ) (items : List Item) (marks : List Bool) : Type 0 where
  pub count : length marks ≡ length (rows items)
  pub right : (n : ℕ) → IsMarked marks n ↔ IsFact multipliers items n

-- the marks of either list
pub record AreEither (first second both : List Bool) : Type 0 where
  pub count : length both ≡ length first
  pub either : (number : ℕ) → IsMarked both number → IsMarked first number ⊎ IsMarked second number
  pub first_kept : (number : ℕ) → IsMarked first number → IsMarked both number
  pub second_kept : length second ≡ length first → (number : ℕ) → IsMarked second number → IsMarked both number

-- the marks of both lists
pub record AreBoth (first second both : List Bool) : Type 0 where
  pub count : length both ≡ length first
  pub right : (number : ℕ) → IsMarked both number ↔ (IsMarked first number × IsMarked second number)
