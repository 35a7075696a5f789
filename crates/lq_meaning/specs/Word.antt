-- Words and pointer words (docs/LANGUAGE.md, "Words").
use Rattle.std.specs.Prelude.{ℕ, ◌+◌, ◌*◌, ◌/◌, ◌%◌, ◌^◌, Bool, ◌&&◌, ℤ, pos, neg_ℤ, negsuc, int_lt, int_le, FitsSigned}
use Rattle.std.specs.Int.{w64}

-- a word is a whole number from -2^63 to 2^63 - 1
abbrev pub IsWord : ℤ → Type 0
IsWord z = FitsSigned w64 z

-- whether a whole number is a word
abbrev pub is_word : ℤ → Bool
is_word z = int_le (neg_ℤ (pos (2 ^ 63))) z && int_lt z (pos (2 ^ 63))

-- null is the pointer word 0
abbrev pub null : ℤ
null = pos 0

-- the pointer word of an offset in a block
abbrev pub pointer : (block offset : ℕ) → ℤ
pointer block offset = pos (block * 2 ^ 32 + offset)

-- the block that a pointer word names; null names block 0, which is none
abbrev pub block_of : ℤ → ℕ
block_of (pos n) = n / 2 ^ 32
block_of (negsuc n) = 0

-- the offset that a pointer word names
abbrev pub offset_of : ℤ → ℕ
offset_of (pos n) = n % 2 ^ 32
offset_of (negsuc n) = 0
