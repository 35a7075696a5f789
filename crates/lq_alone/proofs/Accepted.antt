-- What the check of literals tells of a slice that it accepts.
use Rattle.std.proofs.Common.{◌≡◌, ◌≢◌, ℕ, zero, suc, ◌<◌, Bool, true, false, ◌||◌, ◌==◌, cond, if◌then◌else◌, List, [], ◌∷◌, ◌++◌, map, refl, arith}
use Rattle.std.specs.List.{All, filter}
use Rattle.std.proofs.lemmas.List.Elements.{All-nil, All-cons, All-weaker}
use Rattle.std.proofs.lemmas.Bool.{not-false, ltb-true, or_parts, eqb-false}
use Rattle.lq_tree.specs.declared.place.Place.{Place}
use Rattle.lq_alone.specs.declared.slice.Store.{Store}
use Rattle.lq_alone.specs.declared.slice.Step.{Step}
use Rattle.lq_alone.specs.declared.slice.Slice.{Slice}
use Rattle.lq_alone.specs.Literal.{is_past, store_is_past, meets, step_index, step_at, store_at, failing, IsAccepted}

-- two lists of nothing together are each nothing
append-nil_parts : {X : Type 0} (xs ys : List X) → xs ++ ys ≡ [] → (xs ≡ []) × (ys ≡ [])
append-nil_parts [] ys e = (refl, e)
append-nil_parts (x ∷ xs) ys e = absurd cc

-- the step of the next: a test that is known at the first element
none_kept_first : {X Y : Type 0} (f : X → Y) (test : X → Bool) (x : X) (xs : List X) (t : Bool) →
    test x ≡ t → map f (cond t (x ∷ filter test xs) (filter test xs)) ≡ [] →
    (map f (filter test xs) ≡ [] → All (λ y. test y ≡ false) xs) → All (λ y. test y ≡ false) (x ∷ xs)
none_kept_first f test x xs true is e rest = absurd cc
none_kept_first f test x xs false is e rest = All-cons (λ y. test y ≡ false) x xs is (rest e)

-- where nothing is kept, nothing passes
none_kept : {X Y : Type 0} (f : X → Y) (test : X → Bool) (xs : List X) → map f (filter test xs) ≡ [] → All (λ x. test x ≡ false) xs
none_kept f test [] e = All-nil _
none_kept f test (x ∷ xs) e = none_kept_first f test x xs (test x) refl e (none_kept f test xs)

-- an index that is not past the count is below it
below_from_past : (count index : ℕ) → is_past count index ≡ false → index < count
below_from_past count index e = ltb-true _ _ (not-false _ e)

-- a store that meets none of the others goes to another index than each
apart_from_meets : (others : List Store) (s : Store) → meets others s ≡ false → All (λ (o : Store). o.index ≢ s.index) others
apart_from_meets [] s e = All-nil _
apart_from_meets (o ∷ others) s e =
    let parts = or_parts _ _ e in
    All-cons (λ (o : Store). o.index ≢ s.index) o others (eqb-false _ _ parts.0) (apart_from_meets others s parts.1)

-- an accepted slice: an array of at least one element, every index below the count, and no store of the second block
-- at an index that the first stores to
pub record Accepted (s : Slice) : Type 0 where
  pub some : 0 < s.count
  pub before : All (λ (t : Store). t.index < s.count) s.before
  pub left : All (λ (t : Store). t.index < s.count) s.left.stores
  pub right : All (λ (t : Store). t.index < s.count) s.right.stores
  pub differ : All (λ (t : Store). All (λ (o : Store). o.index ≢ t.index) s.left.stores) s.right.stores
  pub after : All (λ (t : Step). step_index t < s.count) s.after

-- no fault at the declaration: there is an element
some_elements : (count : ℕ) (declaration : Place) → (if count == 0 then declaration ∷ [] else []) ≡ [] → 0 < count
some_elements zero declaration e = absurd cc
some_elements (suc n) declaration e = omega arith

-- stores of which none fails for an index past the count
below_from_check : (count : ℕ) (stores : List Store) → failing (store_is_past count) stores ≡ [] → All (λ (t : Store). t.index < count) stores
below_from_check count stores e =
    All-weaker (λ t. store_is_past count t ≡ false) (λ (t : Store). t.index < count) (λ t. below_from_past count t.index) stores
    (none_kept store_at (store_is_past count) stores e)

-- what the second block's test tells
module _ (count : ℕ) (left right : List Store) (e : failing (λ t. store_is_past count t || meets left t) right ≡ []) where
  passes : All (λ t. (store_is_past count t || meets left t) ≡ false) right
  passes = none_kept store_at (λ t. store_is_past count t || meets left t) right e

  right_below : All (λ (t : Store). t.index < count) right
  right_below =
      All-weaker (λ t. (store_is_past count t || meets left t) ≡ false) (λ (t : Store). t.index < count)
      (λ t h. below_from_past count t.index (or_parts _ _ h).0) right passes

  right_differs : All (λ (t : Store). All (λ (o : Store). o.index ≢ t.index) left) right
  right_differs =
      All-weaker (λ t. (store_is_past count t || meets left t) ≡ false) (λ (t : Store). All (λ (o : Store). o.index ≢ t.index) left)
      (λ t h. apart_from_meets left t (or_parts _ _ h).1) right passes

-- the same of the statements behind the blocks
steps_from_check : (count : ℕ) (steps : List Step) → map step_at (filter (λ t. is_past count (step_index t)) steps) ≡ [] →
    All (λ (t : Step). step_index t < count) steps
steps_from_check count steps e =
    All-weaker (λ t. is_past count (step_index t) ≡ false) (λ (t : Step). step_index t < count) (λ t. below_from_past count (step_index t)) steps
    (none_kept step_at (λ t. is_past count (step_index t)) steps e)

-- what the check accepts is so
pub Accepted-from_check : (s : Slice) → IsAccepted s → Accepted s
Accepted-from_check s e =
    let after = append-nil_parts _ _ e in
    let right = append-nil_parts _ _ after.0 in
    let left = append-nil_parts _ _ right.0 in
    let before = append-nil_parts _ _ left.0 in
    record {
      some = some_elements s.count s.declaration before.0;
      before = below_from_check s.count s.before before.1;
      left = below_from_check s.count s.left.stores left.1;
      right = right_below s.count s.left.stores s.right.stores right.1;
      differ = right_differs s.count s.left.stores s.right.stores right.1;
      after = steps_from_check s.count s.after after.1;
    }
