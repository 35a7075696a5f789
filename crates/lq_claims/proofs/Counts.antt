-- How often numbers stand in lists; and lists of views: sums over them, and what holds of each, after views were changed, split and joined.
use Rattle.std.proofs.Common.{◌≡◌, ◌≢◌, ℕ, zero, suc, ◌+◌, List, [], ◌∷◌, ◌++◌, set, sym, ap, refl, subst, ⊎_elim, cond, eq-eqb, ne_eqb, sum_by, arith}
use mathlib.Core.Option.{some, some-injective, some-ne-none}
use lib.ListN.{get_elem?}
use Rattle.atomic_table.proofs.Lists.{at_set}
use Rattle.std.proofs.lemmas.List.Sums.{sum_by-cons, sum_by-append, sum_by_push}
use Rattle.lq_rule.proofs.Totals.{sum_by_set_at}
use Rattle.std.specs.Prelude.{◌==◌}
use Rattle.lq_claims.specs.View.{times}

module _ (k : ℕ) where
  -- the sum that `times` is
  abbrev pub counts : ℕ → ℕ
  counts other = cond (other == k) 1 0

  pub times_same : (n : ℕ) (xs : List ℕ) → n ≡ k → times k (n ∷ xs) ≡ 1 + times k xs
  times_same n xs e = rw (sum_by-cons counts n xs, eq-eqb n k e)

  pub times_other : (n : ℕ) (xs : List ℕ) → n ≢ k → times k (n ∷ xs) ≡ times k xs
  times_other n xs apart = rw (sum_by-cons counts n xs, ne_eqb n k apart) (omega arith)

  pub times_append : (xs ys : List ℕ) → times k (xs ++ ys) ≡ times k xs + times k ys
  times_append xs ys = sum_by-append counts xs ys

module _ {A : Type 0} where
  -- two numbers summed up together
  pub sum_by_both : (f g h : A → ℕ) → ((x : A) → h x ≡ f x + g x) → (xs : List A) → sum_by h xs ≡ sum_by f xs + sum_by g xs
  sum_by_both f g h both [] = refl
  sum_by_both f g h both (x ∷ xs) =
      let here = both x in
      let there = sum_by_both f g h both xs in
      let a = sum_by-cons h x xs in
      let b = sum_by-cons f x xs in
      let c = sum_by-cons g x xs in
      omega arith

  -- where all others have none, one place has the sum
  pub sum_of_one : (f : A → ℕ) (xs : List A) (i : ℕ) (x : A) → get_elem? xs i ≡ some x
      → ((j : ℕ) (y : A) → j ≢ i → get_elem? xs j ≡ some y → f y ≡ 0) → sum_by f xs ≡ f x
  sum_of_one f [] i x at none_else = absurd (some-ne-none x (sym at))
  sum_of_one f (z ∷ xs) zero x at none_else =
      let same = ap f (some-injective z x at) in
      let rest = sum_of_none f xs (λ j y there. none_else (suc j) y (λ e. omega arith) there) in
      let whole = sum_by-cons f z xs in
      omega arith
    where
      sum_of_none : (f : A → ℕ) (ys : List A) → ((j : ℕ) (y : A) → get_elem? ys j ≡ some y → f y ≡ 0) → sum_by f ys ≡ 0
      sum_of_none f [] each = refl
      sum_of_none f (y ∷ ys) each =
          let here = each zero y refl in
          let rest = sum_of_none f ys (λ j u there. each (suc j) u there) in
          let whole = sum_by-cons f y ys in
          omega arith
  sum_of_one f (z ∷ xs) (suc i) x at none_else =
      let here = none_else zero z (λ e. omega arith) refl in
      let rest = sum_of_one f xs i x at (λ j y apart there. none_else (suc j) y (λ e. apart (omega arith)) there) in
      let whole = sum_by-cons f z xs in
      omega arith

  -- the sum after a split: one part stays in the place, and the other stands at the end
  pub split_total : (f : A → ℕ) (xs : List A) (i : ℕ) (x left right : A) → get_elem? xs i ≡ some x → f left + f right ≡ f x
      → sum_by f (set xs i left ++ right ∷ []) ≡ sum_by f xs
  split_total f xs i x left right at parts =
      let changed = sum_by_set_at f xs i x left at in
      let more = sum_by_push f (set xs i left) right in
      omega arith

  -- the sum after a join: one place has both, and the other has nothing
  pub join_total : (f : A → ℕ) (xs : List A) (i j : ℕ) (x y both nothing : A) → get_elem? xs i ≡ some x → get_elem? (set xs i both) j ≡ some y
      → f both ≡ f x + f y → f nothing ≡ 0 → sum_by f (set (set xs i both) j nothing) ≡ sum_by f xs
  join_total f xs i j x y both nothing at there sums zero_left =
      let first = sum_by_set_at f xs i x both at in
      let second = sum_by_set_at f (set xs i both) j y nothing there in
      omega arith

  -- what holds of each holds of each after a change at one place
  pub views_set : (P : A → Type 0) (xs : List A) (i : ℕ) (y : A) → ((j : ℕ) (x : A) → j ≢ i → get_elem? xs j ≡ some x → P x) → P y
      → (j : ℕ) (x : A) → get_elem? (set xs i y) j ≡ some x → P x
  views_set P xs i y others here j x at =
      ⊎_elim
      (λ (t : (j ≡ i) × (y ≡ x)). subst P t.1 here)
      (λ (t : (j ≢ i) × (get_elem? xs j ≡ some x)). others j x t.0 t.1)
      (at_set xs i j y x at)
