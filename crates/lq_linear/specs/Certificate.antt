-- Certificates: combinations that were found, written down.
use Rattle.std.specs.Prelude.{◌≡◌, ℕ, List, false, IsTrue}
use Rattle.lq_linear.specs.Derivation.{Combination}

-- a contradiction has the divisor 1
abbrev pub HasOne : Combination → Type 0
HasOne combination = IsTrue combination.void → combination.divisor ≡ 1

-- that the dividend of an item isn't negative, by a combination; the item is counted among divisions and remainders, from 1
pub record Exactness : Type 0 where
  pub item : ℕ
  pub combination : Combination

-- a consequence, and no contradiction
abbrev pub IsDirect : Combination → Type 0
IsDirect combination = combination.void ≡ false

-- the combinations for dividends, and the one for the goal
pub record Certificate : Type 0 where
  pub exacts : List Exactness
  pub goal : Combination
