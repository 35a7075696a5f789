-- What holds of each element of a list, and of each two, by index and by recursion.
use Rattle.std.proofs.Common.{ℕ, zero, suc, ◌<◌, List, [], ◌∷◌, length, arith}
use Rattle.std.specs.Prelude.{slice_index_or, All, AllPairs}
use Rattle.std.specs.List.{AllByRecursion}

module _ {X : Type 0} where
  pub all_by_recursion : (P : X → Type 0) (xs : List X) → ((j : ℕ) (d : X) → j < length xs → P (slice_index_or xs j d)) → AllByRecursion P xs
  all_by_recursion P [] each = tt
  all_by_recursion P (x ∷ xs) each = (each 0 x (omega arith), all_by_recursion P xs (λ j d inside. each (suc j) d (omega arith)))

  pub all_by_index : (P : X → Type 0) (xs : List X) → AllByRecursion P xs → All P xs
  all_by_index P [] all j d inside = absurd (omega arith)
  all_by_index P (x ∷ xs) all zero d inside = all.0
  all_by_index P (x ∷ xs) all (suc j) d inside = all_by_index P xs all.1 j d (omega arith)

  -- the first of a list with each behind it, and those behind it
  pub first_pairs : (R : X → X → Type 0) (x : X) (xs : List X) → AllPairs R (x ∷ xs) → AllByRecursion (R x) xs × AllPairs R xs
  first_pairs R x xs all = (
    all_by_recursion (R x) xs (λ j d inside. all 0 (suc j) d (omega arith) (omega arith)),
    λ i j d before inside. all (suc i) (suc j) d (omega arith) (omega arith),
  )

  pub pairs_cons : (R : X → X → Type 0) (x : X) (xs : List X) → AllByRecursion (R x) xs → AllPairs R xs → AllPairs R (x ∷ xs)
  pairs_cons R x xs first rest i zero d before inside = absurd (omega arith)
  pairs_cons R x xs first rest zero (suc j) d before inside = all_by_index (R x) xs first j d (omega arith)
  pairs_cons R x xs first rest (suc i) (suc j) d before inside = rest i j d (omega arith) (omega arith)

  pub all_map : (P Q : X → Type 0) → ((x : X) → P x → Q x) → (xs : List X) → AllByRecursion P xs → AllByRecursion Q xs
  all_map P Q each [] all = tt
  all_map P Q each (x ∷ xs) all = (each x all.0, all_map P Q each xs all.1)
