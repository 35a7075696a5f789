-- The bytes of a source. docs/LANGUAGE.md, "Tokens".
use Rattle.std.specs.Prelude.{ℕ, Bool, ◌||◌, ◌==◌}
use Rattle.std.specs.Char.{is_ascii_graphic}

-- tab, line feed, carriage return, blank
abbrev pub is_space : ℕ → Bool
is_space b = b == 9 || b == 10 || b == 13 || b == 32

-- what a source may hold: a space, or a byte from 33 to 126
abbrev pub is_source_byte : ℕ → Bool
is_source_byte b = is_space b || is_ascii_graphic b
