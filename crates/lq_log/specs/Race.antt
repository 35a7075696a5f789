-- Which accesses race (docs/LANGUAGE.md, "Races").
use Rattle.std.specs.Prelude.{◌≡◌, ◌≢◌, ℕ, ◌%◌, ◌==◌, ◌<◌, ◌≤◌, ◌⊎◌, Bool, false, not, ◌&&◌, ◌||◌, IsTrue, List, [], ◌∷◌, ◌++◌, length, Some, slice_get}
use Rattle.lq_log.specs.declared.entry.Entry.{Entry}

-- Two paths first differ at a branch. Where they first differ at a number of forks passed, or one begins the other,
-- they are ordered.
abbrev mutual
  pub unordered : List ℕ → List ℕ → Bool
  unordered [] other = false
  unordered (passed ∷ path) [] = false
  unordered (passed ∷ path) (forks ∷ other) = passed == forks && part path other

  -- behind the same number of forks passed
  pub part : List ℕ → List ℕ → Bool
  part [] other = false
  part (branch ∷ path) [] = false
  part (branch ∷ path) (taken ∷ other) = not (branch == taken) || unordered path other

-- two accesses of one address
abbrev pub meet : Entry → Entry → Bool
meet a b = a.block == b.block && a.element == b.element && a.field == b.field

-- two accesses of one address that are unordered, and of which at least one is a store
abbrev pub races : Entry → Entry → Bool
races a b = unordered a.path b.path && meet a b && (a.write || b.write)

-- the entries with these numbers, from 0, are a race
pub record IsRace (log : List Entry) (i j : ℕ) : Type 0 where
  pub first : Entry
  pub second : Entry
  pub at_i : slice_get log i ≡ Some first
  pub at_j : slice_get log j ≡ Some second
  pub before : i < j
  pub race : IsTrue (races first second)

-- of the races with the least second entry the one with the least first entry
pub record IsLeastRace (log : List Entry) (i j : ℕ) : Type 0 where
  pub race : IsRace log i j
  pub least : (k l : ℕ) → IsRace log k l → (j < l) ⊎ ((j ≡ l) × (i ≤ k))

-- no two entries are a race
abbrev pub IsRaceFree : List Entry → Type 0
IsRaceFree log = (i j : ℕ) → IsRace log i j → ⊥

-- one path begins another
abbrev pub Begins : List ℕ → List ℕ → Type 0
Begins path other = (rest : List ℕ) × (other ≡ path ++ rest)

-- behind this front, which they have in common, the paths go on with two different numbers
pub record DifferBehind (front path other : List ℕ) : Type 0 where
  pub here : ℕ
  pub there : ℕ
  pub rest : List ℕ
  pub rest_there : List ℕ
  pub path_is : path ≡ front ++ here ∷ rest
  pub other_is : other ≡ front ++ there ∷ rest_there
  pub differ : here ≢ there

-- the paths first differ in a branch, that is behind an odd count of numbers
pub record IsUnordered (path other : List ℕ) : Type 0 where
  pub front : List ℕ
  pub behind : DifferBehind front path other
  pub odd : length front % 2 ≡ 1

-- the paths first differ in a number of forks passed, that is behind an even count of numbers
pub record DifferInForks (path other : List ℕ) : Type 0 where
  pub front : List ℕ
  pub behind : DifferBehind front path other
  pub even : length front % 2 ≡ 0

-- one path begins the other, or they first differ in a number of forks passed
abbrev pub IsOrdered : List ℕ → List ℕ → Type 0
IsOrdered path other = Begins path other ⊎ (Begins other path ⊎ DifferInForks path other)
