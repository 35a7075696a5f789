-- The sum of a number over a list, where one place or two are known.
use Rattle.std.proofs.Common.{◌≡◌, ◌≢◌, ℕ, zero, suc, ◌+◌, ◌≤◌, List, [], ◌∷◌, set, sym, ap, refl, sum_by, arith}
use mathlib.Core.Option.{some, some-injective, some-ne-none}
use lib.ListN.{get_elem?}
use Rattle.std.proofs.lemmas.List.Sums.{sum_by-cons}

module _ {A : Type 0} (f : A → ℕ) where
  -- after a change at one place
  pub sum_by_set_at : (xs : List A) (i : ℕ) (x y : A) → get_elem? xs i ≡ some x → sum_by f (set xs i y) + f x ≡ sum_by f xs + f y
  sum_by_set_at [] i x y at = absurd (some-ne-none x (sym at))
  sum_by_set_at (z ∷ xs) zero x y at =
      let same = ap f (some-injective z x at) in
      let new = sum_by-cons f y xs in
      let old = sum_by-cons f z xs in
      omega arith
  sum_by_set_at (z ∷ xs) (suc i) x y at =
      let inside = sum_by_set_at xs i x y at in
      let new = sum_by-cons f z (set xs i y) in
      let old = sum_by-cons f z xs in
      omega arith

  -- one place has no more than the sum
  pub one_of_sum : (xs : List A) (i : ℕ) (x : A) → get_elem? xs i ≡ some x → f x ≤ sum_by f xs
  one_of_sum [] i x at = absurd (some-ne-none x (sym at))
  one_of_sum (z ∷ xs) zero x at =
      let same = ap f (some-injective z x at) in
      let whole = sum_by-cons f z xs in
      omega arith
  one_of_sum (z ∷ xs) (suc i) x at =
      let inside = one_of_sum xs i x at in
      let whole = sum_by-cons f z xs in
      omega arith

  -- two places have no more than the sum
  pub two_of_sum : (xs : List A) (i j : ℕ) (x y : A) → i ≢ j → get_elem? xs i ≡ some x → get_elem? xs j ≡ some y → f x + f y ≤ sum_by f xs
  two_of_sum [] i j x y apart at there = absurd (some-ne-none x (sym at))
  two_of_sum (z ∷ xs) zero zero x y apart at there = absurd (apart refl)
  two_of_sum (z ∷ xs) zero (suc j) x y apart at there =
      let same = ap f (some-injective z x at) in
      let inside = one_of_sum xs j y there in
      let whole = sum_by-cons f z xs in
      omega arith
  two_of_sum (z ∷ xs) (suc i) zero x y apart at there =
      let same = ap f (some-injective z y there) in
      let inside = one_of_sum xs i x at in
      let whole = sum_by-cons f z xs in
      omega arith
  two_of_sum (z ∷ xs) (suc i) (suc j) x y apart at there =
      let inside = two_of_sum xs i j x y (λ e. apart (ap suc e)) at there in
      let whole = sum_by-cons f z xs in
      omega arith
