-- Going over a text piece by piece.
use Rattle.std.proofs.Common.{◌≡◌, ℕ, ◌+◌, ◌-◌, ◌<◌, ◌≤◌, List, [], ◌∷◌, ◌++◌, length, take, drop, sym, ap, ◌∙◌, subst, arith, append_assoc}
use Rattle.std.proofs.lemmas.List.{length-append, drop_at, drop-drop, take_rest, drop_all, length-drop, append-nil}
use Rattle.lq_lexer.specs.declared.token.Token.{Token}
use Rattle.lq_lexer.specs.declared.token.TokenKind.{TokenKind}
use Rattle.lq_lexer.specs.declared.scan.Piece.{Piece}
use Rattle.lq_lexer.specs.declared.scan.Piece.TheVariants.{Blank, Spelled, Nothing}
use Rattle.lq_lexer.specs.Tokens.{IsBlank, BeginsWithToken, Reads}
use Rattle.lq_lexer.specs.Tokens.IsBlank.{space, line_comment, block_comment}
use Rattle.lq_lexer.specs.Tokens.Reads.{stop, after_blank, after_token}
use Rattle.lq_lexer.specs.Faults.{IsStuck}
use Rattle.lq_lexer.specs.Scan.{piece_of}
use Rattle.lq_lexer.proofs.Spelling.{spelling_some}
use Rattle.lq_lexer.proofs.Standing.{Stands, piece_stands}

pub blank_some : (blank rest : List ℕ) → IsBlank blank rest → 0 < length blank
blank_some blank rest (space h) = omega arith
blank_some blank rest (line_comment all ends) = omega arith
blank_some blank rest (block_comment h) = omega arith

pub begins_some : (text : List ℕ) (kind : TokenKind) (word rest : List ℕ) → BeginsWithToken text kind word rest → 0 < length word
begins_some text kind word rest h = spelling_some kind word h.is_token.spelled

-- ---- how long a piece is

front_fits : (text a b : List ℕ) (n : ℕ) → text ≡ a ++ b → n ≡ length a → n ≤ length text
front_fits text a b n split is = omega (arith, ap length split, length-append a b)

pub blank_fits : (text : List ℕ) (n : ℕ) → Stands text (Blank n) → (0 < n) × (n ≤ length text)
blank_fits text n (blank, rest, begins, is) = (omega (arith, blank_some blank rest begins.is_blank), front_fits text blank rest n begins.split is)

pub token_fits : (text : List ℕ) (kind : TokenKind) (n : ℕ) → Stands text (Spelled kind n) → (0 < n) × (n ≤ length text)
token_fits text kind n (word, rest, begins, is) = (omega (arith, begins_some text kind word rest begins), front_fits text word rest n begins.split is)

-- ---- one piece more

passed : (at : ℕ) (text a b : List ℕ) (n : ℕ) (ts : List Token) (rest : List ℕ) → text ≡ a ++ b → n ≡ length a → Reads (at + n) (drop n text) ts rest → Reads (at + length a) b ts rest
passed at text a b n ts rest split is r =
    subst (λ (k : ℕ). Reads (at + k) b ts rest) is (subst (λ (t : List ℕ). Reads (at + n) t ts rest) (ap (drop n) split ∙ drop_at a b n (sym is)) r)

pub pass_blank : (text : List ℕ) (at n : ℕ) → Stands text (Blank n) → (ts : List Token) (rest : List ℕ) → Reads (at + n) (drop n text) ts rest → Reads at text ts rest
pass_blank text at n (blank, more, begins, is) ts rest r = after_blank begins (passed at text blank more n ts rest begins.split is r)

pub pass_token : (text : List ℕ) (at n : ℕ) (kind : TokenKind) → Stands text (Spelled kind n) → (ts : List Token) (rest : List ℕ) → Reads (at + n) (drop n text) ts rest
    → Reads at text (record { start = at; end = at + n; kind = kind } ∷ ts) rest
pass_token text at n kind (word, more, begins, is) ts rest r =
    subst (λ (k : ℕ). Reads at text (record { start = at; end = at + k; kind = kind } ∷ ts) rest) (sym is) (after_token begins (passed at text word more n ts rest begins.split is r))

further : (text : List ℕ) (at n : ℕ) (ts : List Token) (rest : List ℕ) → Reads (at + n) (drop (at + n) text) ts rest → Reads (at + n) (drop n (drop at text)) ts rest
further text at n ts rest r = subst (λ (t : List ℕ). Reads (at + n) t ts rest) (sym (drop-drop n at text)) r

-- What reads the rest reads all, behind the tokens so far.
abbrev pub Continues : List ℕ → ℕ → List Token → Type 0
Continues text at tokens = (ts : List Token) (rest : List ℕ) → Reads at (drop at text) ts rest → Reads 0 text (tokens ++ ts) rest

-- what the code's slice from the byte at on begins with
stands_from : (text : List ℕ) (at : ℕ) (found : Piece) → at < length text → found ≡ piece_of (take (length text - at) (drop at text)) → Stands (drop at text) found
stands_from text at found lt is =
    subst (Stands (drop at text)) (sym (is ∙ ap piece_of (take_rest text at))) (piece_stands (drop at text) (omega (arith, length-drop at text)))

pub blank_more : (text : List ℕ) (at n : ℕ) (tokens : List Token) → at < length text → Blank n ≡ piece_of (take (length text - at) (drop at text)) → Continues text at tokens → (0 < n) × (at + n ≤ length text) × Continues text (at + n) tokens
blank_more text at n tokens lt is so_far =
    let here = stands_from text at (Blank n) lt is in
    let fits = blank_fits (drop at text) n here in
    (fits.0, omega (arith, length-drop at text, fits.1), λ ts rest r. so_far ts rest (pass_blank (drop at text) at n here ts rest (further text at n ts rest r)))

pub token_more : (text : List ℕ) (at n : ℕ) (kind : TokenKind) (tokens : List Token) → at < length text → Spelled kind n ≡ piece_of (take (length text - at) (drop at text)) → Continues text at tokens
    → (0 < n) × (at + n ≤ length text) × Continues text (at + n) (tokens ++ record { start = at; end = at + n; kind = kind } ∷ [])
token_more text at n kind tokens lt is so_far =
    let here = stands_from text at (Spelled kind n) lt is in
    let fits = token_fits (drop at text) kind n here in
    let token : Token = record { start = at; end = at + n; kind = kind } in (
      fits.0,
      omega (arith, length-drop at text, fits.1),
      λ ts rest r.
          subst (λ (all : List Token). Reads 0 text all rest) (sym (append_assoc tokens (token ∷ []) ts)) (so_far (token ∷ ts) rest (pass_token (drop at text) at n kind here ts rest (further text at n ts rest r))),
    )

pub read_so_far : (text : List ℕ) (at : ℕ) (tokens : List Token) → Continues text at tokens → Reads 0 text tokens (drop at text)
read_so_far text at tokens so_far = subst (λ (all : List Token). Reads 0 text all (drop at text)) (append-nil tokens) (so_far [] (drop at text) stop)

pub stuck_from : (text : List ℕ) (at : ℕ) → at < length text → Nothing ≡ piece_of (take (length text - at) (drop at text)) → IsStuck (drop at text)
stuck_from text at lt is = stands_from text at Nothing lt is

pub read_all : (text : List ℕ) (at : ℕ) (tokens : List Token) → length text ≤ at → Continues text at tokens → Reads 0 text tokens []
read_all text at tokens ends so_far = subst (Reads 0 text tokens) (drop_all at text ends) (read_so_far text at tokens so_far)
