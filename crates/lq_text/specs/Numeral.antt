-- The decimal text of a number.
use Rattle.std.specs.Prelude.{◌≡◌, ℕ, ◌+◌, ◌-◌, ◌*◌, ◌^◌, ◌<◌, List, [], ◌∷◌, length, ℤ, pos, neg_ℤ, FitsSigned, slice_index, ◌≢◌}
use Rattle.std.specs.Char.{IsAsciiDigit}
use Rattle.std.specs.Fmt.{signed_decimal}
use Rattle.std.specs.Int.{w64}
use Rattle.std.specs.List.{AllByRecursion}

-- a whole number from -2^63 to 2^63-1 (docs/LANGUAGE.md, "Words")
abbrev pub IsWord : ℤ → Type 0
IsWord z = FitsSigned w64 z

-- one digit `0` to `9` or more, and nothing else (docs/COMMANDS.md, "Files of numbers")
abbrev pub IsDigits : List ℕ → Type 0
IsDigits text = (0 < length text) × AllByRecursion IsAsciiDigit text

-- what digits stand for by their places: each counts ten to the number of those behind it
abbrev pub place_value : List ℕ → ℕ
place_value [] = 0
place_value (digit ∷ digits) = (digit - 48) * 10 ^ length digits + place_value digits

-- the text is an optional `-` and digits, and z, its value, is a word (docs/COMMANDS.md, "Files of numbers")
pub data IsNumeral : List ℕ → ℤ → Type 0 where
  plain : {text : List ℕ} {z : ℤ} → IsDigits text → z ≡ pos (place_value text) → IsWord z → IsNumeral text z
  minus : {digits : List ℕ} {z : ℤ} → IsDigits digits → z ≡ neg_ℤ (pos (place_value digits)) → IsWord z → IsNumeral (45 ∷ digits) z

-- the decimal text of z, as `{}` writes it: no needless zero, and `-` where z is negative
abbrev pub decimal_of : ℤ → List ℕ
decimal_of z = signed_decimal z

-- no needless zero: a `0` at the front stands alone, and none is behind `-` at the front
abbrev pub IsShort : List ℕ → Type 0
IsShort text = (slice_index text 0 ≡ 48 → length text ≡ 1) × (slice_index text 0 ≡ 45 → slice_index text 1 ≢ 48)
