-- The combinations among which each step of the search looks for the first. Helpers of private functions.
use Rattle.std.specs.Prelude.{◌≡◌, ℕ, ◌+◌, ◌-◌, ◌<◌, ◌≤◌, Bool, true, false, Option, Some, None, MatchOption, List, [], ◌∷◌, ◌++◌, length}
use Rattle.std.specs.List.{AllByRecursion}
use Rattle.lq_linear.specs.Row.{Inequality}
use Rattle.lq_linear.specs.Derivation.{Part, Combination, IsMultiplier, Proves, IsConsequence, IsContradiction}
use Rattle.lq_linear.specs.Ascend.{Ascend}
use Rattle.lq_validity.specs.Order.{Before, numbers_of}

-- the combination, whatever its parts, gives the goal
pub record Settles (multipliers : List ℕ) (all : List Inequality) (goal : Inequality) (direct : Bool) (c : Combination) : Type 0 where
  pub divides : IsMultiplier multipliers c.divisor
  pub proves : Proves all goal c
  pub directly : direct ≡ true → c.void ≡ false

-- with just these parts
abbrev pub WithParts : List ℕ → List Inequality → Inequality → Bool → List Part → Combination → Type 0
WithParts multipliers all goal direct parts c = (c.parts ≡ parts) × Settles multipliers all goal direct c

-- with these parts, and further ones of the rows with these numbers
pub record WithNumbers (multipliers : List ℕ) (all : List Inequality) (goal : Inequality) (direct : Bool) (parts : List Part) (numbers : List ℕ) (c : Combination) : Type 0 where
  pub more : List Part
  pub joined : c.parts ≡ parts ++ more
  pub numbered : numbers_of more ≡ numbers
  pub multiplied : AllByRecursion (λ part. IsMultiplier multipliers part.0) more
  pub settles : Settles multipliers all goal direct c

-- of the rows with these numbers and `left` further ones that may be used, from the number `from` on
pub record WithMore (multipliers : List ℕ) (Usable : ℕ → Type 0) (all : List Inequality) (goal : Inequality) (direct : Bool) (numbers : List ℕ) (left from : ℕ) (c : Combination) : Type 0 where
  pub more : List ℕ
  pub joined : numbers_of c.parts ≡ numbers ++ more
  pub count : length more ≡ left
  pub ascending : Ascend more
  pub starts : AllByRecursion (λ n. from ≤ n) more
  pub usable : AllByRecursion Usable more
  pub multiplied : AllByRecursion (λ part. IsMultiplier multipliers part.0) c.parts
  pub settles : Settles multipliers all goal direct c

-- of fewer than `count` rows
pub record WithFew (multipliers : List ℕ) (Usable : ℕ → Type 0) (all : List Inequality) (goal : Inequality) (direct : Bool) (count : ℕ) (c : Combination) : Type 0 where
  pub left : ℕ
  pub fewer : left < count
  pub rest : WithMore multipliers Usable all goal direct [] left 1 c

-- what was found is the first of a family, or the family has none
abbrev pub FindsFirst : (Combination → Type 0) → Option Combination → Type 0
FindsFirst Those found = MatchOption found ((c : Combination) → Those c → ⊥) (λ c. Those c × ((other : Combination) → Those other → ¬ Before other c))

-- and a first further part with this multiplier
abbrev pub WithNumbersBy : List ℕ → List Inequality → Inequality → Bool → List Part → ℕ → List ℕ → ℕ → Combination → Type 0
WithNumbersBy multipliers all goal direct parts number rest multiplier c =
    WithNumbers multipliers all goal direct (parts ++ (multiplier, number) ∷ []) rest c

-- and a next row with this number
abbrev pub WithMoreAt : List ℕ → (ℕ → Type 0) → List Inequality → Inequality → Bool → List ℕ → ℕ → ℕ → Combination → Type 0
WithMoreAt multipliers Usable all goal direct numbers left number c =
    Usable number × WithMore multipliers Usable all goal direct (numbers ++ number ∷ []) (left - 1) (number + 1) c

-- what is found with one divisor: a consequence first, then with the divisor 1 a contradiction
abbrev pub SettledBy : Bool → List Inequality → Inequality → List Part → ℕ → Option Bool → Type 0
SettledBy direct all goal parts divisor None =
    (IsConsequence all parts divisor goal → ⊥) × (direct ≡ false → divisor ≡ 1 → IsContradiction all parts → ⊥)
SettledBy direct all goal parts divisor (Some false) = IsConsequence all parts divisor goal
SettledBy direct all goal parts divisor (Some true) =
    (IsConsequence all parts divisor goal → ⊥) × (direct ≡ false) × (divisor ≡ 1) × IsContradiction all parts
