-- The lines that a run prints (docs/LANGUAGE.md, "Statements").
use Rattle.std.specs.Prelude.{ℕ, ℤ, List, [], ◌∷◌, ◌++◌}
use Rattle.std.specs.List.{flat_map}
use Rattle.lq_text.specs.Numeral.{decimal_of}

-- a printed number is a line: its decimal text and a line feed
abbrev pub number_line : ℤ → List ℕ
number_line number = decimal_of number ++ 10 ∷ []

-- the lines of these numbers
abbrev pub number_lines : List ℤ → List ℕ
number_lines numbers = flat_map number_line numbers
