-- Sums of whole multiples of symbols.
use Rattle.std.specs.Prelude.{◌≡◌, ℕ, ◌+◌, ◌^◌, ◌<◌, ◌≤◌, ◌==◌, if◌then◌else◌, List, [], ◌∷◌, map, length, slice_index_or, ℤ, pos, neg_ℤ, ◌+ℤ◌, ◌*ℤ◌, ◌≤ℤ◌}
use Rattle.std.specs.List.{AllByRecursion}
use Rattle.lq_linear.specs.Ascend.{AscendBy}

-- z is at most n, its sign put aside
pub record IsWithin (n : ℕ) (z : ℤ) : Type 0 where
  pub low : neg_ℤ (pos n) ≤ℤ z
  pub high : z ≤ℤ pos n

-- a symbol and what it is multiplied by
abbrev pub Term : Type 0
Term = ℕ × ℤ

-- what the symbol is multiplied by in a sum of terms, in which it may stand more than once: 0 where it doesn't stand in it
abbrev pub coefficient : List Term → ℕ → ℤ
coefficient [] symbol = pos 0
coefficient (term ∷ terms) symbol = (if term.0 == symbol then term.1 else pos 0) +ℤ coefficient terms symbol

-- two sums are the same one, collected or not: they multiply each symbol by the same number
abbrev pub AreAlike : List Term → List Term → Type 0
AreAlike terms others = (symbol : ℕ) → coefficient terms symbol ≡ coefficient others symbol

-- the multiple of a sum by z
abbrev pub times : ℤ → List Term → List Term
times z terms = map (λ term. (term.0, z *ℤ term.1)) terms

-- what a sum is where v gives each symbol a whole number
abbrev pub terms_value : (ℕ → ℤ) → List Term → ℤ
terms_value v [] = pos 0
terms_value v (term ∷ terms) = (term.1 *ℤ v term.0) +ℤ terms_value v terms

-- the symbols ascend strictly
abbrev pub Ascends : List Term → Type 0
Ascends terms = AscendBy (λ term. term.0) terms

-- collected: the symbols ascend, and none is multiplied by 0
pub record IsCollected (terms : List Term) : Type 0 where
  pub ascending : Ascends terms
  pub no_zero : AllByRecursion (λ term. ¬ (term.1 ≡ pos 0)) terms

-- the multiple of a symbol in a form isn't 0, and is within 2^16 (docs/CHECKING.md, "Derivation")
pub record IsCoefficient (z : ℤ) : Type 0 where
  pub not_zero : ¬ (z ≡ pos 0)
  pub within : IsWithin (2 ^ 16) z

-- the terms of a form: collected, and within the bounds
pub record AreTerms (terms : List Term) : Type 0 where
  pub ascending : Ascends terms
  pub coefficients : AllByRecursion (λ term. IsCoefficient term.1) terms
  pub few : length terms ≤ 16

-- new is the sum old and one term more, collected where old is
pub record AddsTerm (symbol : ℕ) (z : ℤ) (old new : List Term) : Type 0 where
  pub alike : AreAlike new ((symbol, z) ∷ old)
  pub collected : IsCollected old → IsCollected new
  pub near : (n : ℕ) → AllByRecursion (λ term. IsWithin n term.1) old → AllByRecursion (λ term. IsWithin (n + 2 ^ 16) term.1) new

-- the first place with this symbol or a later one, or the end
pub record IsPlaceOf (symbol : ℕ) (terms : List Term) (place : ℕ) : Type 0 where
  pub inside : place ≤ length terms
  pub before : (k : ℕ) → k < place → (slice_index_or terms k (0, pos 0)).0 < symbol
  pub there : place < length terms → symbol ≤ (slice_index_or terms place (0, pos 0)).0
