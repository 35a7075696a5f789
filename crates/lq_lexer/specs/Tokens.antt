-- What the tokens of a text are. docs/LANGUAGE.md, "Tokens".
use Rattle.std.specs.Prelude.{◌≡◌, ℕ, ◌+◌, ◌≤◌, ◌⊎◌, true, false, not, ◌==◌, List, [], ◌∷◌, ◌++◌, length, codes, slice_range, ⊤}
use Rattle.std.specs.List.{AllPass}
use Rattle.lq_lexer.specs.declared.token.TokenKind.{TokenKind}
use Rattle.lq_lexer.specs.declared.token.TokenKind.TheVariants.{Name, Number, Sign, Keyword, Annotation, Unused}
use Rattle.lq_lexer.specs.declared.token.Token.{Token}
use Rattle.lq_text.specs.Byte.{is_name_byte}
use Rattle.lq_text.specs.Word.{is_among, keywords, annotation_words, unused_words}
use Rattle.lq_text.specs.Name.{IsName}
use Rattle.lq_text.specs.Literal.{IsLiteral}
use Rattle.lq_lexer.specs.Bytes.{is_space, is_source_byte}
use Rattle.lq_lexer.specs.Sign.{signs}

-- the text of a token of each kind
abbrev pub Spells : TokenKind → List ℕ → Type 0
Spells Name text = IsName text
Spells Number text = IsLiteral text
Spells Sign text = is_among signs text ≡ true
Spells Keyword text = is_among keywords text ≡ true
Spells Annotation text = is_among annotation_words text ≡ true
Spells Unused text = is_among unused_words text ≡ true

-- nothing, or a byte that is no letter, digit or `_`
abbrev pub EndsWord : List ℕ → Type 0
EndsWord [] = ⊤
EndsWord (b ∷ rest) = is_name_byte b ≡ false

-- the text is a token of this kind where this rest follows it: a number is not directly followed by a letter, digit or `_`
pub record IsToken (kind : TokenKind) (text rest : List ℕ) : Type 0 where
  pub spelled : Spells kind text
  pub apart : kind ≡ Number → EndsWord rest

-- nothing, or a line feed first
abbrev pub EndsLine : List ℕ → Type 0
EndsLine [] = ⊤
EndsLine (b ∷ rest) = b ≡ 10

-- the first `*/` of the text stands at its end
abbrev pub EndsAtFirstClose : List ℕ → Type 0
EndsAtFirstClose text =
    ((body : List ℕ) × (text ≡ body ++ codes "*/"))
    × ((front back : List ℕ) → text ≡ front ++ (codes "*/" ++ back) → back ≡ [])

-- what stands between tokens where this rest follows it: a space, a comment up to the next line feed or the end, a
-- comment up to the first `*/`
pub data IsBlank : List ℕ → List ℕ → Type 0 where
  space : {b : ℕ} {rest : List ℕ} → is_space b ≡ true → IsBlank (b ∷ []) rest
  line_comment : {line rest : List ℕ} → AllPass (λ b. not (b == 10)) line → EndsLine rest → IsBlank (codes "//" ++ line) rest
  block_comment : {inside rest : List ℕ} → EndsAtFirstClose inside → IsBlank (codes "/*" ++ inside) rest

-- the text is this blank and then this rest
pub record BeginsWithBlank (text blank rest : List ℕ) : Type 0 where
  pub split : text ≡ blank ++ rest
  pub is_blank : IsBlank blank rest

-- the text begins with `//` or `/*`
abbrev pub BeginsWithComment : List ℕ → Type 0
BeginsWithComment text = (rest : List ℕ) × ((text ≡ codes "//" ++ rest) ⊎ (text ≡ codes "/*" ++ rest))

-- the text is this token and then this rest: no comment begins there, and no longer token does
pub record BeginsWithToken (text : List ℕ) (kind : TokenKind) (word rest : List ℕ) : Type 0 where
  pub split : text ≡ word ++ rest
  pub is_token : IsToken kind word rest
  pub no_comment : ¬ BeginsWithComment text
  pub longest : (other : TokenKind) (longer less : List ℕ) → text ≡ longer ++ less → IsToken other longer less → length longer ≤ length word

-- From the byte at on, where text is left, blanks and these tokens lead to where rest is left.
pub data Reads : ℕ → List ℕ → List Token → List ℕ → Type 0 where
  stop : {at : ℕ} {text : List ℕ} → Reads at text [] text
  after_blank : {at : ℕ} {text blank more rest : List ℕ} {tokens : List Token}
      → BeginsWithBlank text blank more → Reads (at + length blank) more tokens rest → Reads at text tokens rest
  after_token : {at : ℕ} {text word more rest : List ℕ} {kind : TokenKind} {tokens : List Token}
      → BeginsWithToken text kind word more → Reads (at + length word) more tokens rest
      → Reads at text (record { start = at; end = at + length word; kind = kind } ∷ tokens) rest

-- the text has these tokens, and no byte that a source may not hold
pub record Tokens (text : List ℕ) (tokens : List Token) : Type 0 where
  pub source : AllPass is_source_byte text
  pub whole : Reads 0 text tokens []

-- the bytes of a token
abbrev pub text_of : List ℕ → Token → List ℕ
text_of text t = slice_range text t.start t.end
