-- Sums of multiples of rows, as far as weights tell. Helpers of private functions.
use Rattle.std.specs.Prelude.{ℕ, ◌-◌, List, [], ◌∷◌, pos, ◌+ℤ◌, ◌*ℤ◌, slice_index_or}
use Rattle.lq_linear.specs.Terms.{IsWithin}
use Rattle.lq_linear.specs.Row.{Inequality}
use Rattle.lq_linear.specs.Weight.{weight_of}
use Rattle.lq_linear.specs.Derivation.{Part}
use Rattle.lq_validity.specs.declared.sum.Sum.{Sum}

-- a row as a sum
abbrev pub sum_of : Inequality → Sum
sum_of row = record { weight = weight_of row; most = row.most }

-- the empty sum
abbrev pub no_sum : Sum
no_sum = record { weight = pos 0; most = pos 0 }

-- n times the sum
abbrev pub multiple : ℕ → Sum → Sum
multiple n sum = record { weight = pos n *ℤ sum.weight; most = pos n *ℤ sum.most }

-- both added up
abbrev pub plus : Sum → Sum → Sum
plus a b = record { weight = a.weight +ℤ b.weight; most = a.most +ℤ b.most }

-- the numbers of a sum are at most n, their signs put aside
pub record IsNear (n : ℕ) (sum : Sum) : Type 0 where
  pub weight_near : IsWithin n sum.weight
  pub most_near : IsWithin n sum.most

-- what a part stands for, where the rows are given as sums
abbrev pub part_sum : List Sum → Part → Sum
part_sum sums part = multiple part.0 (slice_index_or sums (part.1 - 1) no_sum)

-- the parts added up
abbrev pub parts_sum : List Sum → List Part → Sum
parts_sum sums [] = no_sum
parts_sum sums (part ∷ parts) = plus (part_sum sums part) (parts_sum sums parts)
