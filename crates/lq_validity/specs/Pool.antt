-- The multiples of facts, and the table of their sums. Helpers of private functions.
use Rattle.std.specs.Prelude.{◌≡◌, ℕ, ◌^◌, ◌⊎◌, Bool, true, List, length, ℤ, pos, Contains}
use Rattle.std.specs.List.{AllByRecursion}
use Rattle.lq_linear.specs.Derivation.{Part}
use Rattle.lq_validity.specs.declared.sum.Sum.{Sum}
use Rattle.lq_validity.specs.declared.pool.Multiple.{Multiple}
use Rattle.lq_validity.specs.Marks.{IsMarked}
use Rattle.lq_validity.specs.Sum.{plus, no_sum, IsNear, part_sum}
use Rattle.lq_validity.specs.Table.{Table, HasAtMost, CompletesSome}

-- no multiple
abbrev pub no_multiple : Multiple
no_multiple = record { number = 0; sum = no_sum }

-- the numbers of the multiples are small enough to be added up
abbrev pub AreNear : List Multiple → Type 0
AreNear multiples = AllByRecursion (λ one. IsNear (2 ^ 114) one.sum) multiples

-- the table has the empty sum, each multiple, and each two multiples added up
pub record HasSums (multiples : List Multiple) (table : Table) : Type 0 where
  pub none : HasAtMost table (pos 0) (pos 0)
  pub single : (a : Multiple) → Contains multiples a → HasAtMost table a.sum.weight a.sum.most
  pub double : (a b : Multiple) → Contains multiples a → Contains multiples b → HasAtMost table (plus a.sum b.sum).weight (plus a.sum b.sum).most

-- new has what old has, each as low or lower, and the sum added to each multiple
pub record PutsPairs (multiples : List Multiple) (sum : Sum) (old new : Table) : Type 0 where
  pub lower : (weight most : ℤ) → HasAtMost old weight most → HasAtMost new weight most
  pub pairs : (b : Multiple) → Contains multiples b → HasAtMost new (plus sum b.sum).weight (plus sum b.sum).most

-- the multiple that a part stands for, where the rows are given as sums
abbrev pub multiple_at : List Sum → Part → Multiple
multiple_at sums part = record { number = part.1; sum = part_sum sums part }

-- the multiples are there of each row that may be used
abbrev pub HasMultiples : List ℕ → (ℕ → Type 0) → List Sum → List Multiple → Type 0
HasMultiples multipliers Usable sums multiples = (part : Part) → Contains multipliers part.0 → Usable part.1 → Contains multiples (multiple_at sums part)

-- the pool keeps what it has, and gets all multiples of the row where it is marked
pub record PutsFact (multipliers : List ℕ) (sums : List Sum) (mark : Bool) (number : ℕ) (old new : List Multiple) (table : Table) : Type 0 where
  pub near : AreNear new
  pub has : HasSums new table
  pub kept : (a : Multiple) → Contains old a → Contains new a
  pub added : mark ≡ true → (multiplier : ℕ) → Contains multipliers multiplier → Contains new (multiple_at sums (multiplier, number))

-- the pool has all multiples of the rows that may be used
pub record PutsFacts (multipliers : List ℕ) (sums : List Sum) (Usable : ℕ → Type 0) (multiples : List Multiple) (table : Table) : Type 0 where
  pub near : AreNear multiples
  pub has : HasSums multiples table
  pub there : HasMultiples multipliers Usable sums multiples

-- the multiple, alone or with another, can be completed, and one of them leads
abbrev pub Serves : List Multiple → Table → List Sum → List Bool → Multiple → Type 0
Serves multiples table wanted leads a =
    (IsMarked leads a.number × CompletesSome table wanted a.sum)
    ⊎ ((b : Multiple) × Contains multiples b × (IsMarked leads a.number ⊎ IsMarked leads b.number) × CompletesSome table wanted (plus a.sum b.sum))

-- the marks are marks too where some multiple of the row serves
pub record AreUseful (multiples : List Multiple) (table : Table) (marks : List Bool) (wanted : List Sum) (leads useful : List Bool) : Type 0 where
  pub count : length useful ≡ length marks
  pub facts : (number : ℕ) → IsMarked useful number → IsMarked marks number
  pub all : (a : Multiple) → Contains multiples a → IsMarked marks a.number → Serves multiples table wanted leads a → IsMarked useful a.number
