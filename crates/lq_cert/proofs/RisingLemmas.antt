-- Lists that ascend by a key.
use Rattle.std.proofs.Common.{◌≡◌, ℕ, zero, suc, ◌+◌, ◌<◌, ◌≤◌, inl, inr, List, [], ◌∷◌, length, get_or, drop, sym, ap, arith, add-one, drop-cons}
use Rattle.std.specs.List.{AllByRecursion}
use Rattle.lq_linear.specs.Ascend.{AscendBy}
use Rattle.lq_linear.specs.Certificate.{Exactness}
use Rattle.lq_linear.proofs.Collecting.{all_map}
use Rattle.lq_cert.specs.Right.{HasEntry}

module _ {X : Type 0} (key : X → ℕ) (Q : X → Type 0) where
  -- from the key n on, and each is right
  abbrev pub RisesFrom : ℕ → List X → Type 0
  RisesFrom n [] = Unit {0}
  RisesFrom n (x ∷ xs) = (n ≤ key x) × Q x × RisesFrom (key x + 1) xs

  rises_later : (n m : ℕ) (xs : List X) → m < n → RisesFrom n xs → AllByRecursion (λ x. m < key x) xs
  rises_later n m [] l h = tt
  rises_later n m (x ∷ xs) l h = (omega (arith, h.0), rises_later (key x + 1) m xs (omega (arith, h.0)) h.2)

  pub rises_all : (n : ℕ) (xs : List X) → RisesFrom n xs → AllByRecursion Q xs
  rises_all n [] h = tt
  rises_all n (x ∷ xs) h = (h.1, rises_all (key x + 1) xs h.2)

  pub rises_ascend : (n : ℕ) (xs : List X) → RisesFrom n xs → AscendBy key xs
  rises_ascend n [] h = tt
  rises_ascend n (x ∷ xs) h = (rises_later (key x + 1) (key x) xs (omega arith) h.2, rises_ascend (key x + 1) xs h.2)

  rises_if : (n : ℕ) (xs : List X) → AllByRecursion (λ x. n ≤ key x) xs → AscendBy key xs → AllByRecursion Q xs → RisesFrom n xs
  rises_if n [] f a q = tt
  rises_if n (x ∷ xs) f a q = (f.0, q.0, rises_if (key x + 1) xs (all_map (λ y. key x < key y) (λ y. key x + 1 ≤ key y) (λ y l. omega arith) xs a.0) a.1 q.1)

  from_zero : (xs : List X) → AllByRecursion (λ x. 0 ≤ key x) xs
  from_zero [] = tt
  from_zero (x ∷ xs) = (omega arith, from_zero xs)

  pub rises : (xs : List X) → AscendBy key xs → AllByRecursion Q xs → RisesFrom 0 xs
  rises xs a q = rises_if 0 xs (from_zero xs) a q

pub drop_at : {X : Type 0} (xs : List X) (i : ℕ) (x : X) → i < length xs → x ≡ get_or xs i x → drop i xs ≡ x ∷ drop (i + 1) xs
drop_at xs i x l e = rw (add-one, drop-cons xs i x) (ap (λ y. y ∷ drop (suc i) xs) (sym e))

pub all_both : {X : Type 0} (P Q : X → Type 0) (xs : List X) → AllByRecursion P xs → AllByRecursion Q xs → AllByRecursion (λ x. P x × Q x) xs
all_both P Q [] h k = tt
all_both P Q (x ∷ xs) h k = ((h.0, k.0), all_both P Q xs h.1 k.1)

pub entry_at : (entries : List Exactness) (i n : ℕ) (d : Exactness) → i < length entries → (get_or entries i d).item ≡ n → HasEntry entries n
entry_at [] i n d l e = absurd (omega arith)
entry_at (x ∷ entries) zero n d l e = inl e
entry_at (x ∷ entries) (suc i) n d l e = inr (entry_at entries i n d (omega arith) e)

pub no_entry : (entries : List Exactness) (n : ℕ) → ((k : ℕ) (d : Exactness) → k < length entries → (get_or entries k d).item ≡ n → ⊥) → HasEntry entries n → ⊥
no_entry [] n h e = e
no_entry (x ∷ entries) n h (inl e) = h 0 x (omega arith) e
no_entry (x ∷ entries) n h (inr e) = no_entry entries n (λ k d l q. h (suc k) d (omega arith) q) e
