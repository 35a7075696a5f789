-- The check of literals (docs/CHECKING.md, "The literal check").
use Rattle.std.specs.Prelude.{◌≡◌, ℕ, Bool, not, ◌||◌, ◌==◌, nat_lt, if◌then◌else◌, List, [], ◌∷◌, ◌++◌, map, filter, Option, None, Some}
use Rattle.std.specs.List.{list_any}
use Rattle.lq_tree.specs.declared.place.Place.{Place}
use Rattle.lq_alone.specs.declared.slice.Store.{Store}
use Rattle.lq_alone.specs.declared.slice.Step.{Step}
use Rattle.lq_alone.specs.declared.slice.Step.TheVariants.{Store as StoreStep, Print as PrintStep}
use Rattle.lq_alone.specs.declared.slice.Slice.{Slice}

-- an index that is not below the count
abbrev pub is_past : ℕ → ℕ → Bool
is_past count index = not (nat_lt index count)

abbrev pub store_is_past : ℕ → Store → Bool
store_is_past count s = is_past count s.index

-- a store of one block to an index that the other block stores to as well
abbrev pub meets : List Store → Store → Bool
meets others s = list_any (λ (o : Store). o.index == s.index) others

abbrev pub step_index : Step → ℕ
step_index (StoreStep s) = s.index
step_index (PrintStep at index) = index

abbrev pub step_at : Step → Place
step_at (StoreStep s) = s.at
step_at (PrintStep at index) = at

abbrev pub store_at : Store → Place
store_at s = s.at

-- the places of the stores that fail a test
abbrev pub failing : (Store → Bool) → List Store → List Place
failing fails stores = map store_at (filter fails stores)

-- The places of all statements at which the check fails, in the order of the text: the declaration where the
-- count is 0, each store and print whose index is not below the count, and each store of the second block that
-- meets one of the first.
abbrev pub literal_faults : Slice → List Place
literal_faults s =
    (if s.count == 0 then s.declaration ∷ [] else [])
    ++ failing (store_is_past s.count) s.before
    ++ failing (store_is_past s.count) s.left.stores
    ++ failing (λ t. store_is_past s.count t || meets s.left.stores t) s.right.stores
    ++ map step_at (filter (λ t. is_past s.count (step_index t)) s.after)

-- where the check fails first, if it does
abbrev pub first_of : List Place → Option Place
first_of [] = None
first_of (at ∷ places) = Some at

-- the check accepts
abbrev pub IsAccepted : Slice → Type 0
IsAccepted s = literal_faults s ≡ []
