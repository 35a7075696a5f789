-- Lines and columns of a text (docs/LANGUAGE.md, "Places").
use Rattle.std.specs.Prelude.{ℕ, ◌+◌, ◌==◌, Bool, not, List, ◌++◌, count_by, codes, decimal}
use Rattle.std.specs.List.{suffix_len}
use Rattle.lq_tree.specs.declared.place.Place.{Place}

-- a byte that ends a line: LF, which is 10
abbrev pub ends_line : ℕ → Bool
ends_line byte = byte == 10

-- the line of what follows this front of a text: one more than the line feeds in it
abbrev pub line_of : List ℕ → ℕ
line_of front = count_by ends_line front + 1

-- its column: one more than the bytes behind the last line feed, or behind the start
abbrev pub column_of : List ℕ → ℕ
column_of front = suffix_len (λ byte. not (ends_line byte)) front + 1

-- a place as a text: L:C
abbrev pub place_text : Place → List ℕ
place_text at = decimal at.line ++ codes ":" ++ decimal at.col
