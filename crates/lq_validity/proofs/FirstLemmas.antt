-- The first of families of combinations.
use Rattle.std.proofs.Common.{◌≡◌, ℕ, zero, suc, ◌<◌, ◌≤◌, inl, inr, List, [], ◌∷◌, ◌++◌, length, get_or, refl, sym, ap, ◌∙◌, arith, subst, length-append}
use Rattle.std.proofs.lemmas.Bool.{cases_order}
use Rattle.std.proofs.lemmas.List.{get_or_read}
use Rattle.std.specs.Prelude.{Contains}
use Rattle.lq_linear.specs.Derivation.{Part, Combination, IsMultiplier}
use Rattle.lq_linear.proofs.Collecting.{all_at}
use Rattle.lq_validity.proofs.MarkLemmas.{contains_at}
use Rattle.lq_linear.specs.Ascend.{Ascend}
use Rattle.lq_validity.specs.Order.{Before, DividesBefore, LexBefore, numbers_of, multipliers_of}

pub lex_irrefl : (xs : List ℕ) → LexBefore xs xs → ⊥
lex_irrefl [] h = absurd h
lex_irrefl (x ∷ xs) (inl l) = omega arith
lex_irrefl (x ∷ xs) (inr h) = lex_irrefl xs h.1

pub lex_prefix : (p xs ys : List ℕ) (x y : ℕ) → LexBefore (p ++ x ∷ xs) (p ++ y ∷ ys) → x ≤ y
lex_prefix [] xs ys x y (inl l) = omega arith
lex_prefix [] xs ys x y (inr h) = omega (arith, h.0)
lex_prefix (q ∷ p) xs ys x y (inl l) = absurd (omega arith)
lex_prefix (q ∷ p) xs ys x y (inr h) = lex_prefix p xs ys x y h.1

pub same_prefix : (p xs ys : List ℕ) (x y : ℕ) → p ++ x ∷ xs ≡ p ++ y ∷ ys → x ≡ y
same_prefix [] xs ys x y e = cc
same_prefix (q ∷ p) xs ys x y e = same_prefix p xs ys x y (tails e) where
  tails : q ∷ (p ++ x ∷ xs) ≡ q ∷ (p ++ y ∷ ys) → p ++ x ∷ xs ≡ p ++ y ∷ ys
  tails e = cc

pub numbers_length : (parts : List Part) → length (numbers_of parts) ≡ length parts
numbers_length [] = refl
numbers_length (part ∷ parts) = ap suc (numbers_length parts)

-- a combination with a later number at the first place of difference isn't before
pub not_by_number : (a b : Combination) (p xs ys : List ℕ) (x y : ℕ) → numbers_of a.parts ≡ p ++ x ∷ xs → numbers_of b.parts ≡ p ++ y ∷ ys → length xs ≡ length ys → y < x → Before a b → ⊥
not_by_number a b p xs ys x y e q s l (inl h) =
    omega (arith, h, sym (numbers_length a.parts) ∙ ap length e, sym (numbers_length b.parts) ∙ ap length q, length-append p (x ∷ xs), length-append p (y ∷ ys), s)
not_by_number a b p xs ys x y e q s l (inr h) = elim h.1 [
  | inl n ↦ omega (arith, lex_prefix p xs ys x y (subst (λ m. LexBefore m (p ++ y ∷ ys)) e (subst (LexBefore (numbers_of a.parts)) q n)))
  | inr n ↦ omega (arith, same_prefix p xs ys x y (sym e ∙ n.0 ∙ q))
]

-- nor one with the same numbers and a later multiplier
pub not_by_multiplier : (a b : Combination) (p xs ys : List ℕ) (x y : ℕ) → numbers_of a.parts ≡ numbers_of b.parts → multipliers_of a.parts ≡ p ++ x ∷ xs → multipliers_of b.parts ≡ p ++ y ∷ ys → y < x → Before a b → ⊥
not_by_multiplier a b p xs ys x y s e q l (inl h) = omega (arith, h, sym (numbers_length a.parts) ∙ ap length s ∙ numbers_length b.parts)
not_by_multiplier a b p xs ys x y s e q l (inr h) = elim h.1 [
  | inl n ↦ lex_irrefl (numbers_of b.parts) (subst (λ m. LexBefore m (numbers_of b.parts)) s n)
  | inr n ↦ elim n.1 [
    | inl m ↦ omega (arith, lex_prefix p xs ys x y (subst (λ k. LexBefore k (p ++ y ∷ ys)) e (subst (LexBefore (multipliers_of a.parts)) q m)))
    | inr m ↦ omega (arith, same_prefix p xs ys x y (sym e ∙ m.0 ∙ q))
  ]
]

-- of combinations with the same parts the divisor decides
pub divisor_decides : (a b : Combination) → a.parts ≡ b.parts → Before a b → DividesBefore a b
divisor_decides a b e (inl h) = absurd (omega (arith, h, ap length e))
divisor_decides a b e (inr h) = elim h.1 [
  | inl n ↦ absurd (lex_irrefl (numbers_of b.parts) (subst (λ m. LexBefore m (numbers_of b.parts)) (ap numbers_of e) n))
  | inr n ↦ elim n.1 [
    | inl m ↦ absurd (lex_irrefl (multipliers_of b.parts) (subst (λ k. LexBefore k (multipliers_of b.parts)) (ap multipliers_of e) m))
    | inr m ↦ m.1
  ]
]

-- numbers that ascend: a later place has a greater one
pub ascends_at : (xs : List ℕ) (i k : ℕ) → Ascend xs → i < k → k < length xs → get_or xs i 0 < get_or xs k 0
ascends_at [] i k a l m = absurd (omega arith)
ascends_at (x ∷ xs) zero zero a l m = absurd (omega arith)
ascends_at (x ∷ xs) zero (suc k) a l m = all_at (λ y. x < y) xs k 0 (omega arith) a.0
ascends_at (x ∷ xs) (suc i) zero a l m = absurd (omega arith)
ascends_at (x ∷ xs) (suc i) (suc k) a l m = ascends_at xs i k a.1 (omega arith) (omega arith)

pub positive_at : (xs : List ℕ) (i : ℕ) → Ascend (0 ∷ xs) → i < length xs → 0 < get_or xs i 0
positive_at xs i a l = all_at (λ y. 0 < y) xs i 0 l a.0

pub multiplier_at : (xs : List ℕ) (i : ℕ) → Ascend (0 ∷ xs) → i < length xs → IsMultiplier xs (get_or xs i 0)
multiplier_at xs i a l = (positive_at xs i a l, contains_at xs i l)

-- the place of a number that the list contains
pub place_of : (xs : List ℕ) (x : ℕ) → Contains xs x → (k : ℕ) × (k < length xs) × (get_or xs k 0 ≡ x)
place_of xs x c = (c.0, c.1, sym (get_or_read xs c.0 x c.1 (sym c.2) 0))

-- the first of a list of families, one for each place, of which each later one stands behind
module _ (Those : Combination → Type 0) (At : ℕ → Combination → Type 0) (i : ℕ) where
  pub first_here : (found : Combination) → (At i found → Those found) → ((other : Combination) → Those other → (k : ℕ) × At k other)
      → ((k : ℕ) → k < i → (c : Combination) → At k c → ⊥) → ((k : ℕ) (other : Combination) → i < k → At k other → Before other found → ⊥)
      → At i found → ((other : Combination) → At i other → Before other found → ⊥)
      → Those found × ((other : Combination) → Those other → Before other found → ⊥)
  first_here found up down none later here least = (
    up here,
    λ other those before.
        let at = down other those in
        elim (cases_order at.0 i) [
          | inl e ↦ least other (subst (λ k. At k other) e at.1) before
          | inr (inl l) ↦ none at.0 l other at.1
          | inr (inr l) ↦ later at.0 other l at.1 before
        ],
  )
