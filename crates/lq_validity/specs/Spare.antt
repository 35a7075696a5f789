-- Rows that can be spared: no combination takes them, since one of their symbols can't cancel. Helpers of private functions.
use Rattle.std.specs.Prelude.{◌≡◌, ℕ, ◌<◌, ◌≤◌, ◌⊎◌, Bool, List, length, ℤ, pos, ◌<ℤ◌, Contains}
use Rattle.std.specs.List.{AllByRecursion}
use Rattle.lq_linear.specs.Terms.{AreAlike, coefficient, times}
use Rattle.lq_linear.specs.Row.{Inequality, nothing}
use Rattle.lq_linear.specs.Item.{row_numbered}
use Rattle.lq_linear.specs.Derivation.{Part, combined}
use Rattle.lq_validity.specs.Marks.{IsMarked}

-- neither is 0, and their signs differ
abbrev pub AreOpposite : ℤ → ℤ → Type 0
AreOpposite a b = ((a <ℤ pos 0) × (pos 0 <ℤ b)) ⊎ ((pos 0 <ℤ a) × (b <ℤ pos 0))

-- neither is 0, and their signs are the same
abbrev pub AreAligned : ℤ → ℤ → Type 0
AreAligned a b = ((a <ℤ pos 0) × (b <ℤ pos 0)) ⊎ ((pos 0 <ℤ a) × (pos 0 <ℤ b))

-- the row has a symbol that no row that is left has with the other sign, and no goal with the same one
pub record IsSpare (all goals : List Inequality) (left : List Bool) (number : ℕ) : Type 0 where
  pub symbol : ℕ
  pub stands : ¬ (coefficient (row_numbered all number).terms symbol ≡ pos 0)
  pub alone : (other : ℕ) → IsMarked left other → ¬ AreOpposite (coefficient (row_numbered all other).terms symbol) (coefficient (row_numbered all number).terms symbol)
  pub unwanted : (goal : Inequality) → Contains goals goal → ¬ AreAligned (coefficient goal.terms symbol) (coefficient (row_numbered all number).terms symbol)

-- multiples of rows that are there
abbrev pub AreThere : List Inequality → List Part → Type 0
AreThere all parts = AllByRecursion (λ part. (0 < part.0) × (0 < part.1) × (part.1 ≤ length all)) parts

-- each sum of multiples that has the form of a multiple of the goal's is of rows that are left
abbrev pub LeavesFor : List Inequality → List Bool → Inequality → Type 0
LeavesFor all left goal = (parts : List Part) (divisor : ℕ) → AreThere all parts → AreAlike (combined all parts).terms (times (pos divisor) goal.terms) → AllByRecursion (λ part. IsMarked left part.1) parts

-- so for each of the goals, and for the empty form that a contradiction has
pub record Leaves (all goals : List Inequality) (left : List Bool) : Type 0 where
  pub none : LeavesFor all left nothing
  pub each : (goal : Inequality) → Contains goals goal → LeavesFor all left goal

-- new is old without the mark of this row
pub record Unmarks (number : ℕ) (old new : List Bool) : Type 0 where
  pub kept : (other : ℕ) → IsMarked old other → ¬ (other ≡ number) → IsMarked new other
