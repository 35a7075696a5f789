-- Where rows and divisions stand. Helpers of private functions.
use Rattle.std.specs.Prelude.{◌≡◌, ℕ, ◌+◌, ◌<◌, List, ◌∷◌, ◌++◌, length, reverse}
use Rattle.lq_linear.specs.Item.{rows, rows_of}
use Rattle.lq_linear.specs.declared.item.Item.{Item}
use Rattle.std.specs.List.{AllByRecursion}
use Rattle.lq_linear.specs.Derivation.{Part, NumbersAscend}
use Rattle.lq_linear.specs.Certificate.{Exactness}
use Rattle.lq_cert.specs.Right.{IsAllowed, MayUse}
use Rattle.lq_validity.specs.Derives.{divisions, division_count}

-- the row with this number stands at this place of the item with this index
pub record IsRowAt (items : List Item) (number index place : ℕ) : Type 0 where
  pub before : List Item
  pub item : Item
  pub after : List Item
  pub parts : items ≡ before ++ item ∷ after
  pub indexed : index ≡ length before
  pub within : place < length (rows_of item)
  pub counted : number ≡ length (rows (reverse before)) + place + 1

-- no row has this number
abbrev pub NoRow : List Item → ℕ → Type 0
NoRow items number = (index place : ℕ) → IsRowAt items number index place → ⊥

-- the division or remainder with this number has this index
pub record IsDivisionAt (items : List Item) (number index : ℕ) : Type 0 where
  pub before : List Item
  pub item : Item
  pub after : List Item
  pub parts : items ≡ before ++ item ∷ after
  pub indexed : index ≡ length before
  pub divides : division_count item ≡ 1
  pub counted : number ≡ divisions (reverse before) + 1

-- none has this number
abbrev pub NoDivision : List Item → ℕ → Type 0
NoDivision items number = (index : ℕ) → IsDivisionAt items number index → ⊥

-- the numbers ascend, the multipliers are allowed and the rows may be used
pub record AreRightParts (entries : List Exactness) (items : List Item) (parts : List Part) : Type 0 where
  pub ascending : NumbersAscend parts
  pub multipliers : AllByRecursion (λ part. IsAllowed part.0) parts
  pub usable : AllByRecursion (λ part. MayUse entries items part.1) parts
