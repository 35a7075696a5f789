-- Which certificates are right. Items stand in the order in which they became known.
use Rattle.std.specs.Prelude.{◌≡◌, ℕ, ◌+◌, ◌^◌, ◌≤◌, ◌⊎◌, false, List, [], ◌∷◌, ◌++◌, length, reverse}
use Rattle.std.specs.List.{AllByRecursion}
use Rattle.lq_linear.specs.Ascend.{AscendBy}
use Rattle.lq_linear.specs.Row.{Inequality}
use Rattle.lq_linear.specs.Item.{rows, dividend_row}
use Rattle.lq_linear.specs.Derivation.{Combination, IsCombination, IsMultiplier, Proves, IsRowFact}
use Rattle.lq_linear.specs.Certificate.{Exactness, Certificate}
use Rattle.lq_linear.specs.declared.item.Item.{Item}
use Rattle.lq_linear.specs.declared.combination.TheConstants.{WIDTH}
use Rattle.lq_validity.specs.Derives.{divisions, division_count}

-- a multiplier or divisor of a certificate (docs/PROOF-FILE.md, "Combinations")
abbrev pub IsAllowed : ℕ → Type 0
IsAllowed n = (1 ≤ n) × (n ≤ 2 ^ 20)

-- an entry for the division or remainder with this number
abbrev pub HasEntry : List Exactness → ℕ → Type 0
HasEntry [] number = ⊥
HasEntry (entry ∷ entries) number = (entry.item ≡ number) ⊎ HasEntry entries number

-- the row with this number may be used: it is within the bounds, and a third row needs an entry for its item
pub record MayUse (entries : List Exactness) (items : List Item) (number : ℕ) : Type 0 where
  pub before : List Item
  pub item : Item
  pub after : List Item
  pub place : ℕ
  pub parts : items ≡ before ++ item ∷ after
  pub counted : number ≡ length (rows (reverse before)) + place + 1
  pub fact : IsRowFact item place (HasEntry entries (divisions (reverse before) + 1))

-- a right combination of at most 256 rows that may be used
abbrev pub IsRight : List Exactness → List Item → Inequality → Combination → Type 0
IsRight entries items goal c = IsCombination 256 IsAllowed (MayUse entries items) c × Proves (rows (reverse items)) goal c

-- an entry is right: the rows before its item show, and not by a contradiction, that the dividend isn't negative
pub record IsRightEntry (entries : List Exactness) (items : List Item) (entry : Exactness) : Type 0 where
  pub before : List Item
  pub item : Item
  pub after : List Item
  pub parts : items ≡ before ++ item ∷ after
  pub divides : division_count item ≡ 1
  pub counted : entry.item ≡ divisions (reverse before) + 1
  pub directly : entry.combination.void ≡ false
  pub right : IsRight entries before (dividend_row item) entry.combination

-- the entries ascend by their item
abbrev pub EntriesAscend : List Exactness → Type 0
EntriesAscend entries = AscendBy (λ entry. entry.item) entries

-- the certificate shows that the items give the goal
pub record IsRightCertificate (items : List Item) (goal : Inequality) (certificate : Certificate) : Type 0 where
  pub ascending : EntriesAscend certificate.exacts
  pub entries : AllByRecursion (IsRightEntry certificate.exacts items) certificate.exacts
  pub goal_right : IsRight certificate.exacts items goal certificate.goal

-- the combination is one that a search with these multipliers may find
pub record IsNarrow (multipliers : List ℕ) (c : Combination) : Type 0 where
  pub few : length c.parts ≤ WIDTH
  pub multiplied : AllByRecursion (λ part. IsMultiplier multipliers part.0) c.parts
  pub divided : IsMultiplier multipliers c.divisor
