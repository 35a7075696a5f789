-- Marks that are narrowed to what a goal needs. Helpers of private functions.
use Rattle.std.specs.Prelude.{◌≡◌, ℕ, ◌+◌, ◌^◌, ◌≤◌, ◌<◌, Bool, List, ◌++◌, map, length, ℤ, pos, negsuc, ◌+ℤ◌, ◌-ℤ◌, ◌*ℤ◌, Contains}
use Rattle.std.specs.List.{AllByRecursion}
use Rattle.lq_linear.specs.Terms.{IsWithin, coefficient}
use Rattle.lq_linear.specs.Row.{Inequality}
use Rattle.lq_linear.specs.Weight.{weight_of}
use Rattle.lq_linear.specs.Item.{row_numbered}
use Rattle.lq_linear.specs.Derivation.{Part, IsMultiplier, IsConsequence, IsContradiction}
use Rattle.lq_linear.specs.declared.combination.TheConstants.{WIDTH}
use Rattle.lq_validity.specs.declared.sum.Sum.{Sum}
use Rattle.lq_validity.specs.Marks.{IsMarked}
use Rattle.lq_validity.specs.Sum.{sum_of, IsNear}
use Rattle.lq_validity.specs.Pool.{AreNear, HasSums, HasMultiples}
use Rattle.lq_validity.specs.declared.pool.Multiple.{Multiple}
use Rattle.lq_validity.specs.Table.{Table}

-- at most WIDTH parts with marked rows
pub record AreMarked (multipliers : List ℕ) (marks : List Bool) (parts : List Part) : Type 0 where
  pub few : length parts ≤ WIDTH
  pub each : AllByRecursion (λ part. Contains multipliers part.0 × IsMarked marks part.1) parts

-- the marks are among the others, and each combination that gives the goal as a consequence keeps its marks
pub record KeepsConsequences (multipliers : List ℕ) (marks useful : List Bool) (all : List Inequality) (goal : Inequality) : Type 0 where
  pub count : length useful ≡ length marks
  pub facts : (number : ℕ) → IsMarked useful number → IsMarked marks number
  pub kept : (parts : List Part) (divisor : ℕ) → AreMarked multipliers marks parts → IsMultiplier multipliers divisor → IsConsequence all parts divisor goal → AllByRecursion (λ part. IsMarked useful part.1) parts

-- and each contradiction
pub record KeepsContradictions (multipliers : List ℕ) (marks useful : List Bool) (all : List Inequality) : Type 0 where
  pub count : length useful ≡ length marks
  pub facts : (number : ℕ) → IsMarked useful number → IsMarked marks number
  pub kept : (parts : List Part) → AreMarked multipliers marks parts → IsContradiction all parts → AllByRecursion (λ part. IsMarked useful part.1) parts

-- what a combination with a divisor has to weigh and to be at most
abbrev pub wanted_for : Inequality → ℕ → Sum
wanted_for goal divisor = record { weight = pos divisor *ℤ weight_of goal; most = (pos divisor *ℤ goal.most) +ℤ (pos divisor -ℤ pos 1) }

-- what a contradiction has to
abbrev pub void_sum : Sum
void_sum = record { weight = pos 0; most = negsuc 0 }

-- the sums that are wanted for a goal, one for each divisor
pub record AreWanted (multipliers : List ℕ) (goal : Inequality) (wanted : List Sum) : Type 0 where
  pub near : AllByRecursion (IsNear (2 ^ 120)) wanted
  pub each : (divisor : ℕ) → Contains multipliers divisor → Contains wanted (wanted_for goal divisor)

-- the rows in which the symbol stands are marked
abbrev pub AreRowsWith : ℕ → List Inequality → List Bool → Type 0
AreRowsWith symbol all leads = (k : ℕ) → k < length all → ¬ (coefficient (row_numbered all (k + 1)).terms symbol ≡ pos 0) → IsMarked leads (k + 1)

-- the pool has the multiples of the marked ones among the rows, whether more rows follow or not
pub record IsPool (multipliers : List ℕ) (marks : List Bool) (all : List Inequality) (multiples : List Multiple) (table : Table) : Type 0 where
  pub near : AreNear multiples
  pub has : HasSums multiples table
  pub more : List Sum
  pub there : HasMultiples multipliers (IsMarked marks) (map sum_of all ++ more) multiples
  pub marked : length marks ≤ length all

-- the sums are those of the rows, and small
pub record AreWeighed (sums : List Sum) (all : List Inequality) : Type 0 where
  pub same : sums ≡ map sum_of all
  pub near : AllByRecursion (IsNear (2 ^ 82)) sums

-- what the rows and the goal weigh
pub record KnowsWeights (sums : List Sum) (weight : ℤ) (all : List Inequality) (goal : Inequality) : Type 0 where
  pub weighed : AreWeighed sums all
  pub same : weight ≡ weight_of goal
  pub near : IsWithin (2 ^ 82) weight
