-- Tables of sums by their weight. Helpers of private functions.
use Rattle.std.specs.Prelude.{◌≡◌, List, Some, ℤ, ◌-ℤ◌, ◌≤ℤ◌, Contains}
use Rattle.std.specs.Ordering.{int_eq}
use Rattle.std.specs.HashMap.{get, HashMap}
use Rattle.std.specs.declared.hash.FoldHasher.{FoldHasher}
use Rattle.std.specs.declared.hash.BuildHasherDefault.{BuildHasherDefault}
use Rattle.lq_validity.specs.declared.sum.Sum.{Sum}

-- for each weight a number
abbrev pub Table : Type 0
Table = HashMap ℤ ℤ (BuildHasherDefault FoldHasher)

-- the table has a number for the weight, and it is at most this one
pub record HasAtMost (table : Table) (weight most : ℤ) : Type 0 where
  pub found : ℤ
  pub there : get int_eq table weight ≡ Some found
  pub low : found ≤ℤ most

-- new has the sum, and what old has, each as low or lower
pub record PutsSum (sum : Sum) (old new : Table) : Type 0 where
  pub lower : (weight most : ℤ) → HasAtMost old weight most → HasAtMost new weight most
  pub here : HasAtMost new sum.weight sum.most

-- the table has what added to the sum weighs as much as is wanted, and is at most as much
abbrev pub Completes : Table → Sum → Sum → Type 0
Completes table wanted sum = HasAtMost table (wanted.weight -ℤ sum.weight) (wanted.most -ℤ sum.most)

-- the same, for one of several sums that are wanted
abbrev pub CompletesSome : Table → List Sum → Sum → Type 0
CompletesSome table wanted sum = (one : Sum) × Contains wanted one × Completes table one sum
