-- How the scanner finds what a text begins with. Private: no public clause names it, and proofs show that it finds
-- just what Tokens.antt says.
use Rattle.std.specs.Prelude.{ℕ, ◌+◌, ◌^◌, Bool, not, ◌&&◌, ◌==◌, nat_lt, List, [], ◌∷◌, length, take, drop, codes, slice_index, Option, Some, None, if◌then◌else◌, nat_eq}
use Rattle.std.specs.List.{prefix_len, take_while, starts_with, list_all}
use Rattle.std.specs.Char.{is_ascii_digit}
use Rattle.lq_lexer.specs.declared.token.TokenKind.{TokenKind}
use Rattle.lq_lexer.specs.declared.token.TokenKind.TheVariants.{Name, Number, Sign, Keyword, Annotation, Unused}
use Rattle.lq_lexer.specs.declared.scan.Piece.{Piece}
use Rattle.lq_lexer.specs.declared.scan.Piece.TheVariants.{Blank, Spelled, Nothing}
use Rattle.lq_text.specs.Byte.{is_letter, is_name_byte}
use Rattle.lq_text.specs.Numeral.{place_value}
use Rattle.lq_text.specs.Word.{is_among, keywords, annotation_words, unused_words}
use Rattle.lq_lexer.specs.Bytes.{is_space}
use Rattle.lq_lexer.specs.Sign.{signs}

-- where the first `*/` ends, in a text that begins at this place
abbrev pub close_from : ℕ → List ℕ → Option ℕ
close_from at [] = None
close_from at (b ∷ more) = if starts_with nat_eq (b ∷ more) (codes "*/") then Some (at + 2) else close_from (at + 1) more

-- a comment that ends here, or none
abbrev pub blank_or_nothing : Option ℕ → Piece
blank_or_nothing (Some n) = Blank n
blank_or_nothing None = Nothing

-- the test of IsLiteral, for a run that is not empty
abbrev pub is_literal : List ℕ → Bool
is_literal digits =
    list_all is_ascii_digit digits && not (slice_index digits 0 == 48 && nat_lt 1 (length digits)) && nat_lt (place_value digits) (2 ^ 63)

-- the kind of an identifier: a word that is in none of the lists is a name
abbrev pub kind_of_word : List ℕ → TokenKind
kind_of_word word =
    if is_among keywords word then Keyword
    else (if is_among annotation_words word then Annotation
    else (if is_among unused_words word then Unused
    else Name))

-- the letters, digits and `_` at the front
abbrev pub run_of : List ℕ → List ℕ
run_of text = take_while is_name_byte text

-- a word, a number or nothing
abbrev pub run_piece : List ℕ → Piece
run_piece run =
    if is_letter (slice_index run 0) then Spelled (kind_of_word run) (length run)
    else (if is_literal run then Spelled Number (length run) else Nothing)

-- the longest sign at the front
abbrev pub sign_piece : List ℕ → Piece
sign_piece text =
    if is_among signs (take 2 text) then Spelled Sign (length (take 2 text))
    else (if is_among signs (take 1 text) then Spelled Sign 1 else Nothing)

-- what a text begins with
abbrev pub piece_of : List ℕ → Piece
piece_of text =
    if starts_with nat_eq text (codes "//") then Blank (prefix_len (λ b. not (b == 10)) text)
    else (if starts_with nat_eq text (codes "/*") then blank_or_nothing (close_from 2 (drop 2 text))
    else (if is_space (slice_index text 0) then Blank 1
    else (if is_name_byte (slice_index text 0) then run_piece (run_of text)
    else sign_piece text)))
