-- Sets of numbers in which each number leads to one that isn't greater.
use Rattle.std.specs.Prelude.{◌≡◌, ℕ, ◌<◌, ◌≤◌, length, List, sum, slice_index}

-- no number leads to a greater one
abbrev pub IsForest : List ℕ → Type 0
IsForest parents = (i : ℕ) → slice_index parents i ≤ i

-- the one leads to the other, in some steps
pub data Leads (parents : List ℕ) : ℕ → ℕ → Type 0 where
  stays : {i : ℕ} → Leads parents i i
  steps : {i j : ℕ} → Leads parents (slice_index parents i) j → Leads parents i j

-- the labels are the same in each set
abbrev pub Respects : (label : ℕ → ℕ) → List ℕ → Type 0
Respects label parents = (i : ℕ) → i < length parents → label (slice_index parents i) ≡ label i

-- the sets stay as they are, and the ways get no longer
pub record Shortened (old new : List ℕ) : Type 0 where
  pub forest : IsForest new
  pub count : length new ≡ length old
  pub less : sum new ≤ sum old
  pub onward : (i : ℕ) → Leads old i (slice_index new i)
  pub back : (label : ℕ → ℕ) → Respects label new → Respects label old

-- the least number of the set of a number
pub record IsLeast (old new : List ℕ) (number least : ℕ) : Type 0 where
  pub itself : slice_index new least ≡ least
  pub found : Leads old number least
  pub within : least ≤ number

-- a label for each number, the same in each set and in no two sets
pub record AreLabels (parents labels : List ℕ) : Type 0 where
  pub count : length labels ≡ length parents
  pub found : (i : ℕ) → i < length parents → Leads parents i (slice_index labels i)
  pub respect : Respects (λ i. slice_index labels i) parents
