-- What is left of a table, of a number, of a text and of its tokens.
use Rattle.std.proofs.Common.{◌≡◌, ℕ, ◌+◌, ◌<◌, ◌≤◌, Bool, true, false, cond, Some, List, [], ◌∷◌, ◌++◌, length, map, take, drop, get_or, Bor, sym, ap, ◌∙◌, refl, arith, not, length-take}
use Rattle.std.specs.Map.{lookup}
use Rattle.std.proofs.lemmas.List.{at_drop_more, take_more, map-append, get_or_default}
use Rattle.std.proofs.lemmas.Bool.{false_from_ne_true, both_ways}
use Rattle.std.proofs.lemmas.List.Sums.{suffix_len-le-length}
use Rattle.std.proofs.lemmas.Slice.Eq.{bytes_eq-Decides}
use Rattle.std.specs.Str.{bytes_eq}
use Rattle.lq_tree.specs.Place.{ends_line, column_of}
use Rattle.std.specs.Prelude.{All}
use Rattle.std.specs.List.{AllPairs}
use Rattle.lq_lexer.specs.declared.token.Token.{Token}
use Rattle.lq_lexer.specs.Tokens.{text_of}
use Rattle.lq_parser.specs.Source.{symbol_of, place_at, lexeme_of, lexemes_of}
use Rattle.lq_parser.specs.declared.lexeme.Lexeme.{Lexeme}
use Rattle.lq_parser.specs.declared.lexeme.Symbol.{Symbol}
use Rattle.lq_tree.specs.declared.place.Place.{Place}

-- the entries of a table, each with its text
abbrev pub entries_of : {T : Type 0} → List (Bor (List ℕ) × T) → List (List ℕ × T)
entries_of table = map (λ entry. (entry.0.now, entry.1)) table

-- the next entry has the text or it hasn't
pub lookup_more : {T : Type 0} (test : List ℕ → Bool) (table : List (Bor (List ℕ) × T)) (i : ℕ) (d : Bor (List ℕ) × T) → i < length table
    → lookup test (entries_of (drop i table)) ≡ cond (test (get_or table i d).0.now) (Some (get_or table i d).1) (lookup test (entries_of (drop (i + 1) table)))
lookup_more test table i d h = at_drop_more (λ ls. lookup test (entries_of ls)) table i d h

-- two texts are equal in either order
pub bytes_eq_turned : (xs ys : List ℕ) (b : Bool) → b ≡ bytes_eq xs ys → bytes_eq ys xs ≡ b
bytes_eq_turned xs ys true h = (bytes_eq-Decides ys xs).1 (sym ((bytes_eq-Decides xs ys).0 (sym h)))
bytes_eq_turned xs ys false h = false_from_ne_true (bytes_eq ys xs) (λ e. both_ways (bytes_eq xs ys) (sym h) ((bytes_eq-Decides xs ys).1 (sym ((bytes_eq-Decides ys xs).0 e))))

-- a column is at most one more than the bytes before it
pub column_fits : (text : List ℕ) (at col : ℕ) → col ≡ column_of (take at text) → col ≤ at + 1
column_fits text at col h = omega (arith, h, suffix_len-le-length (λ byte. not (ends_line byte)) (take at text), length-take at text)

-- the lexeme of one token more
pub lexemes_more : (text : List ℕ) (tokens : List Token) (i : ℕ) (d : Token) → i < length tokens
    → lexemes_of text (take (i + 1) tokens) ≡ lexemes_of text (take i tokens) ++ (lexeme_of text (get_or tokens i d) ∷ [])
lexemes_more text tokens i d h = ap (map (lexeme_of text)) (take_more tokens i d h) ∙ map-append (lexeme_of text) (take i tokens) (get_or tokens i d ∷ [])

-- the lexemes so far, with the one of the next token
pub lexemes_so_far : (text : List ℕ) (tokens : List Token) (i : ℕ) (d : Token) (so_far all : List Lexeme) (word : List ℕ) (symbol : Symbol) (at : Place) → i < length tokens
    → so_far ≡ lexemes_of text (take i tokens) → word ≡ text_of text (get_or tokens i d) → symbol ≡ symbol_of (get_or tokens i d).kind word → at ≡ place_at text (get_or tokens i d).start
    → all ≡ so_far ++ (record { symbol = symbol; at = at } ∷ []) → all ≡ lexemes_of text (take (i + 1) tokens)
lexemes_so_far text tokens i d so_far all word symbol at lt s w y p a =
    rw (lexemes_more text tokens i d lt, a, s, y, w, p) refl

-- tokens in order: one begins before those behind it
pub begins_before : (tokens : List Token) (size i k : ℕ) (d e : Token) → All (λ token. (token.start < token.end) × (token.end ≤ size)) tokens → AllPairs (λ token next. token.end ≤ next.start) tokens
    → i < length tokens → i + 1 ≤ k → k < length tokens → (get_or tokens i d).start ≤ (get_or tokens k e).start
begins_before tokens size i k d e spans apart lt behind within =
    let here = spans i d lt in
    let same : (get_or tokens k d).start ≡ (get_or tokens k e).start = ap (λ (t : Token). t.start) (get_or_default tokens k d e within) in
    omega (arith, here.0, apart i k d (omega arith) within, same)
