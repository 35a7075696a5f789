-- What a search for races keeps of the accesses that it has passed. Helpers of private functions.
use Rattle.std.specs.Prelude.{◌≡◌, ◌≢◌, ℕ, ◌+◌, ◌*◌, ◌<◌, Bool, true, false, ◌||◌, IsTrue, List, ◌∷◌, ◌++◌, length, Option, None, Some, MatchOption, slice_get, Vec}
use Rattle.std.specs.Bool.{nat_eq}
use Rattle.std.specs.Cmp.Lexicographic.{pointwise}
use Rattle.std.specs.HashMap.{HashMap, get_by}
use Rattle.std.specs.declared.alloc.Global.{Global}
use Rattle.std.specs.declared.hash.FoldHasher.{FoldHasher}
use Rattle.std.specs.declared.hash.BuildHasherDefault.{BuildHasherDefault}
use Rattle.lq_log.specs.declared.entry.Entry.{Entry}
use Rattle.lq_log.specs.declared.forks.Seen.{Seen}
use Rattle.lq_log.specs.declared.forks.Seen.TheVariants.{InOneBranch, LoadsInSeveral}
use Rattle.lq_log.specs.Race.{IsRace}

-- what was seen at each fork, by the numbers up to its branch
abbrev pub Forks : Type 0
Forks = HashMap (Vec ℕ Global) Seen (BuildHasherDefault FoldHasher)

-- what was seen behind this front
abbrev pub seen_at : Forks → List ℕ → Option Seen
seen_at forks front = get_by (λ key. pointwise nat_eq front key.items) forks

-- the numbers of an access: those of its address, and behind them its path
abbrev pub numbers_of : Entry → List ℕ
numbers_of entry = entry.block ∷ entry.element ∷ entry.field ∷ entry.path

-- behind this front entry i takes this branch, and it is a store or not
pub record Takes (log : List Entry) (front : List ℕ) (i branch : ℕ) (write : Bool) : Type 0 where
  pub entry : Entry
  pub at_i : slice_get log i ≡ Some entry
  pub rest : List ℕ
  pub numbers_are : numbers_of entry ≡ front ++ branch ∷ rest
  pub write_is : entry.write ≡ write

-- an entry before j takes another branch than this one, and one of the two is a store
pub record Meets (log : List Entry) (front : List ℕ) (j branch : ℕ) (write : Bool) : Type 0 where
  pub i : ℕ
  pub before : i < j
  pub taken : ℕ
  pub stores : Bool
  pub takes : Takes log front i taken stores
  pub other : taken ≢ branch
  pub one_stores : IsTrue (stores || write)

-- the entries before j that take a branch take this one, and some are stores or none is
pub record AreInOne (log : List Entry) (front : List ℕ) (j branch : ℕ) (stored : Bool) : Type 0 where
  pub same : (i taken : ℕ) (write : Bool) → i < j → Takes log front i taken write → taken ≡ branch
  pub stores : (i taken : ℕ) → i < j → Takes log front i taken true → stored ≡ true
  pub one : ℕ
  pub before : one < j
  pub takes : Takes log front one branch stored

-- the entries before j that take a branch are loads, and they take several
pub record AreInSeveral (log : List Entry) (front : List ℕ) (j : ℕ) : Type 0 where
  pub loads : (i taken : ℕ) → i < j → Takes log front i taken true → ⊥
  pub other : (branch : ℕ) → (i taken : ℕ) × (i < j) × Takes log front i taken false × (taken ≢ branch)

-- what was seen tells of the entries before j
abbrev pub Tells : List Entry → List ℕ → ℕ → Option Seen → Type 0
Tells log front j None = (i taken : ℕ) (write : Bool) → i < j → Takes log front i taken write → ⊥
Tells log front j (Some (InOneBranch branch stored)) = AreInOne log front j branch stored
Tells log front j (Some LoadsInSeveral) = AreInSeveral log front j

-- what is seen with one more access, or none where it meets one of those that were seen
abbrev pub Adds : Option Seen → ℕ → Bool → Option Seen → Type 0
Adds seen branch write more = (log : List Entry) (front : List ℕ) (j : ℕ) → Takes log front j branch write → Tells log front j seen → MatchOption more (Meets log front j branch write) (λ all. Tells log front (j + 1) (Some all))

-- entry j meets an entry before it behind this front, or it is noted there and nowhere else
abbrev pub IsNotedAt : List Entry → List ℕ → ℕ → ℕ → Bool → Forks → Forks → Bool → Type 0
IsNotedAt log front j branch write old new true = Meets log front j branch write
IsNotedAt log front j branch write old new false = Tells log front (j + 1) (seen_at new front) × ((other : List ℕ) → front ≢ other → seen_at new other ≡ seen_at old other)

-- an access that takes this branch is noted behind this front, in each log that the map tells of
abbrev pub NotesAt : List ℕ → ℕ → Bool → Forks → Forks → Bool → Type 0
NotesAt front branch write old new raced = (log : List Entry) (j : ℕ) → Takes log front j branch write → Tells log front j (seen_at old front) → IsNotedAt log front j branch write old new raced

-- at each fork, that is behind an address and an odd count of numbers of a path, the entries before j are kept
abbrev pub Keeps : Forks → List Entry → ℕ → Type 0
Keeps forks log j = (front : List ℕ) (n : ℕ) → length front ≡ 3 + 2 * n + 1 → Tells log front j (seen_at forks front)

-- entry j is the second entry of a race, or it is kept too
abbrev pub IsNoted : List Entry → ℕ → Forks → Bool → Type 0
IsNoted log j new true = (i : ℕ) × IsRace log i j
IsNoted log j new false = Keeps new log (j + 1)

-- an access is noted, in each log whose entries before it are kept
abbrev pub Notes : Entry → Forks → Forks → Bool → Type 0
Notes entry old new raced = (log : List Entry) (j : ℕ) → slice_get log j ≡ Some entry → Keeps old log j → IsNoted log j new raced
