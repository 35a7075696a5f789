-- The input of the workloads (docs/COMMANDS.md, "Workloads").
use Rattle.std.specs.Prelude.{ℕ, zero, suc, ◌+◌, ◌*◌, ◌%◌, ◌^◌, ℤ, pos, List, map}
use Rattle.std.specs.List.{range_with_len}

-- the number behind another one
abbrev pub following : ℕ → ℕ
following x = (x * 1103515245 + 12345) % 2 ^ 31

-- the number so many places behind the first one
abbrev pub number_at : (first place : ℕ) → ℕ
number_at first zero = first
number_at first (suc place) = following (number_at first place)

-- the input of n numbers: those at the places 1 to n behind n
abbrev pub numbers : (n : ℕ) → List ℤ
numbers n = map (λ place. pos (number_at n place)) (range_with_len 1 n)
