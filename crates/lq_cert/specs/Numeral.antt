-- Natural numbers of any size as decimal digits.
use Rattle.std.specs.Prelude.{ℕ, zero, suc, ◌+◌, ◌/◌, ◌%◌, ◌<◌, nat_lt, if◌then◌else◌, List, [], ◌∷◌, ◌++◌, slice_index}
use Rattle.std.specs.Char.{IsAsciiDigit}
use Rattle.std.specs.List.{AllByRecursion}

-- the last digits of n: all, where it has no more than `most`
abbrev pub last_digits : ℕ → ℕ → List ℕ
last_digits zero n = []
last_digits (suc most) n = if nat_lt n 10 then (48 + n) ∷ [] else last_digits most (n / 10) ++ (48 + n % 10) ∷ []

-- the decimal digits of n, none of them needless; n has no more than n + 1 (docs/PROOF-FILE.md, "Lines")
unfoldable pub numeral : ℕ → List ℕ
numeral n = last_digits (n + 1) n

-- decimal digits, at least one, of which the first isn't 0
abbrev pub IsNatural : List ℕ → Type 0
IsNatural digits = AllByRecursion IsAsciiDigit digits × (48 < slice_index digits 0)
