-- The bytes of words. docs/LANGUAGE.md, "Tokens".
use Rattle.std.specs.Prelude.{ℕ, Bool, ◌||◌, ◌==◌}
use Rattle.std.specs.Char.{is_ascii_alphabetic, is_ascii_digit}

-- what a name begins with: a letter or `_`
abbrev pub is_letter : ℕ → Bool
is_letter byte = is_ascii_alphabetic byte || byte == 95

-- what a name goes on with: a letter, `_` or a digit
abbrev pub is_name_byte : ℕ → Bool
is_name_byte byte = is_letter byte || is_ascii_digit byte
