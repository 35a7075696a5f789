-- What items derive.
use Rattle.std.specs.Prelude.{◌≡◌, ℕ, ◌+◌, ◌<◌, ◌≤◌, ◌/◌, ◌⊎◌, Bool, false, MatchBool, List, [], ◌∷◌, length, ℤ, pos, negsuc, ◌*ℤ◌, ◌≤ℤ◌, ◌<ℤ◌, Contains}
use Rattle.std.specs.List.{AllByRecursion}
use Rattle.lq_linear.specs.Ascend.{AscendBy}
use Rattle.lq_linear.specs.Terms.{AreAlike, coefficient, times}
use Rattle.lq_linear.specs.Row.{Inequality, IsBounded, nothing, added, multiplied}
use Rattle.lq_linear.specs.Item.{rows_of, rows, row_numbered, dividend_row}
use Rattle.lq_linear.specs.declared.item.Item.{Item}
use Rattle.lq_linear.specs.declared.combination.TheConstants.{WIDTH}

-- z divided by n, rounded down
abbrev pub floor : ℤ → ℕ → ℤ
floor (pos a) n = pos (a / n)
floor (negsuc a) n = negsuc (a / n)

-- a multiplier, and the number of the row that it multiplies, from 1
abbrev pub Part : Type 0
Part = ℕ × ℕ

-- what a combination takes: multiples of rows, a divisor, and whether they contradict each other
pub record Combination : Type 0 where
  pub void : Bool
  pub divisor : ℕ
  pub parts : List Part

-- the multiples of the rows added up
abbrev pub combined : List Inequality → List Part → Inequality
combined all [] = nothing
combined all (part ∷ parts) = added (multiplied part.0 (row_numbered all part.1)) (combined all parts)

-- the numbers of the rows ascend, so no row is taken twice
abbrev pub NumbersAscend : List Part → Type 0
NumbersAscend parts = AscendBy (λ part. part.1) parts

-- at most `width` rows that may be used, at different places, with multipliers and a divisor that are allowed
pub record IsCombination (width : ℕ) (Allowed Usable : ℕ → Type 0) (combination : Combination) : Type 0 where
  pub few : length combination.parts ≤ width
  pub ascending : NumbersAscend combination.parts
  pub multipliers : AllByRecursion (λ part. Allowed part.0) combination.parts
  pub usable : AllByRecursion (λ part. Usable part.1) combination.parts
  pub allowed : Allowed combination.divisor

-- the sum is the divisor times the goal's, and its constant divided by the divisor and rounded down is at most the goal's
pub record IsConsequence (all : List Inequality) (parts : List Part) (divisor : ℕ) (goal : Inequality) : Type 0 where
  pub alike : AreAlike (combined all parts).terms (times (pos divisor) goal.terms)
  pub most : floor (combined all parts).most divisor ≤ℤ goal.most

-- nothing is at most a negative number
pub record IsContradiction (all : List Inequality) (parts : List Part) : Type 0 where
  pub alike : AreAlike (combined all parts).terms []
  pub negative : (combined all parts).most <ℤ pos 0

-- the combination gives the goal, as a consequence or, with the divisor 1, as a contradiction (docs/CHECKING.md, "Derivation")
abbrev pub Proves : List Inequality → Inequality → Combination → Type 0
Proves all goal combination = MatchBool combination.void
    (IsContradiction all combination.parts × (combination.divisor ≡ 1))
    (IsConsequence all combination.parts combination.divisor goal)

-- a number of the list; 0 is never one
abbrev pub IsMultiplier : List ℕ → ℕ → Type 0
IsMultiplier multipliers n = (0 < n) × Contains multipliers n

-- some combination of usable rows gives the goal
abbrev pub Follows : List ℕ → (ℕ → Type 0) → List Inequality → Inequality → Type 0
Follows multipliers Usable all goal =
    (combination : Combination) × IsCombination WIDTH (IsMultiplier multipliers) Usable combination × Proves all goal combination

-- some combination of usable rows gives the goal, and not as a contradiction
abbrev pub FollowsDirectly : List ℕ → (ℕ → Type 0) → List Inequality → Inequality → Type 0
FollowsDirectly multipliers Usable all goal =
    (combination : Combination) × IsCombination WIDTH (IsMultiplier multipliers) Usable combination × (combination.void ≡ false) × Proves all goal combination

-- the row at a place of its item, from 0, is a fact: it is within the bounds, and a third row also needs `Exact`
pub record IsRowFact (item : Item) (place : ℕ) (Exact : Type 0) : Type 0 where
  pub there : place < length (rows_of item)
  pub bounded : IsBounded (row_numbered (rows_of item) (place + 1))
  pub third : place ≡ 2 → Exact

-- the row with this number is a fact; the items stand newest first, and a third row needs that the dividend isn't negative, which the facts before the item must tell (docs/CHECKING.md, "Items as facts")
abbrev pub IsFact : List ℕ → List Item → ℕ → Type 0
IsFact multipliers [] number = ⊥
IsFact multipliers (item ∷ before) number =
    IsFact multipliers before number
    ⊎ ((place : ℕ) × (number ≡ length (rows before) + place + 1)
    × IsRowFact item place (FollowsDirectly multipliers (IsFact multipliers before) (rows before) (dividend_row item)))

-- the items, newest first, derive the goal
abbrev pub Derives : List ℕ → List Item → Inequality → Type 0
Derives multipliers items goal = Follows multipliers (IsFact multipliers items) (rows items) goal

-- the multiples of the rows and the divisor times the goal multiply the symbol by the same number
abbrev pub Agree : List Inequality → List Part → ℕ → Inequality → ℕ → Type 0
Agree all parts divisor goal symbol = coefficient (combined all parts).terms symbol ≡ pos divisor *ℤ coefficient goal.terms symbol
