-- Which of two combinations stands before the other.
use Rattle.std.specs.Prelude.{◌≡◌, ℕ, ◌<◌, ◌⊎◌, true, false, List, [], ◌∷◌, map, length}
use Rattle.lq_linear.specs.Derivation.{Part, Combination}

-- the numbers of the rows that are used
abbrev pub numbers_of : List Part → List ℕ
numbers_of parts = map (λ part. part.1) parts

-- their multipliers
abbrev pub multipliers_of : List Part → List ℕ
multipliers_of parts = map (λ part. part.0) parts

-- of lists of one length: where they first differ, the first has the smaller number
abbrev pub LexBefore : List ℕ → List ℕ → Type 0
LexBefore [] ys = ⊥
LexBefore (x ∷ xs) [] = ⊥
LexBefore (x ∷ xs) (y ∷ ys) = (x < y) ⊎ ((x ≡ y) × LexBefore xs ys)

-- the smaller divisor, and for one divisor a consequence before a contradiction
abbrev pub DividesBefore : Combination → Combination → Type 0
DividesBefore a b = (a.divisor < b.divisor) ⊎ ((a.divisor ≡ b.divisor) × (a.void ≡ false) × (b.void ≡ true))

-- fewer facts, then positions, then multipliers, then the divisor (docs/CHECKING.md, "Derivation")
abbrev pub Before : Combination → Combination → Type 0
Before a b =
    (length a.parts < length b.parts)
    ⊎ ((length a.parts ≡ length b.parts) × (LexBefore (numbers_of a.parts) (numbers_of b.parts)
    ⊎ ((numbers_of a.parts ≡ numbers_of b.parts) × (LexBefore (multipliers_of a.parts) (multipliers_of b.parts)
    ⊎ ((multipliers_of a.parts ≡ multipliers_of b.parts) × DividesBefore a b)))))

-- c is one of those, and none of them stands before it
abbrev pub IsFirst : (Combination → Type 0) → Combination → Type 0
IsFirst Those c = Those c × ((other : Combination) → Those other → ¬ Before other c)
