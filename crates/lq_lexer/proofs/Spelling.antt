-- What a spelling tells of its bytes and its kind.
use Rattle.std.proofs.Common.{◌≡◌, ℕ, ◌<◌, ◌&&◌, ◌||◌, Bool, true, false, not, cond, nat_lt, List, [], ◌∷◌, length, refl, sym, ◌∙◌, arith, inl, inr}
use Rattle.std.specs.Prelude.{slice_index}
use Rattle.std.specs.List.{list_all, AllByRecursion}
use Rattle.std.specs.Char.{IsAsciiDigit, is_ascii_digit}
use Rattle.std.proofs.lemmas.Bool.{and_parts, and_from, or_parts, cases_Bool, false_from_ne_true, or_left, or_right, not-true, both_ways, cond-true, cond-false, ltb-true}
use Rattle.std.proofs.lemmas.Bool.Decides.{nat_tests}
use Rattle.std.proofs.lemmas.List.Sums.{list_all-from_AllPass, AllPass-from_list_all}
use Rattle.lq_text.specs.Byte.{is_letter, is_name_byte}
use Rattle.lq_text.specs.Word.{is_among, keywords, annotation_words, unused_words}
use Rattle.lq_text.specs.Name.{IsIdentifier}
use Rattle.lq_text.specs.Literal.{IsLiteral}
use Rattle.lq_text.proofs.WordLemmas.{among_passes}
use Rattle.lq_text.proofs.LiteralLemmas.{test_of_digit}
use Rattle.lq_lexer.specs.declared.token.TokenKind.{TokenKind}
use Rattle.lq_lexer.specs.declared.token.TokenKind.TheVariants.{Name, Number, Sign, Keyword, Annotation, Unused}
use Rattle.lq_lexer.specs.Bytes.{is_space}
use Rattle.lq_lexer.specs.Sign.{signs}
use Rattle.lq_lexer.specs.Scan.{kind_of_word}
use Rattle.lq_lexer.specs.Tokens.{Spells}

-- signs begin with no letter, digit, `_` or space, and have one byte or two
abbrev pub looks_like_sign : List ℕ → Bool
looks_like_sign sign =
    (not (is_name_byte (slice_index sign 0)) && not (is_space (slice_index sign 0))) && (nat_lt 0 (length sign) && nat_lt (length sign) 3)

pub record LooksLikeSign (sign : List ℕ) : Type 0 where
  pub no_name : is_name_byte (slice_index sign 0) ≡ false
  pub no_space : is_space (slice_index sign 0) ≡ false
  pub some : 0 < length sign
  pub short : length sign < 3

pub sign_looks : (text : List ℕ) → is_among signs text ≡ true → LooksLikeSign text
sign_looks text among =
    let all = and_parts (not (is_name_byte (slice_index text 0)) && not (is_space (slice_index text 0))) (nat_lt 0 (length text) && nat_lt (length text) 3) (among_passes looks_like_sign signs text refl among) in
    let first = and_parts (not (is_name_byte (slice_index text 0))) (not (is_space (slice_index text 0))) all.0 in
    let lengths = and_parts (nat_lt 0 (length text)) (nat_lt (length text) 3) all.1 in
    record {
      no_name = not-true (is_name_byte (slice_index text 0)) first.0;
      no_space = not-true (is_space (slice_index text 0)) first.1;
      some = ltb-true 0 (length text) lengths.0;
      short = ltb-true (length text) 3 lengths.1;
    }

-- ---- bytes

pub digit_no_letter : (c : ℕ) → is_ascii_digit c ≡ true → is_letter c ≡ false
digit_no_letter c h = grind (arith, nat_tests)

pub digit_name_byte : (c : ℕ) → is_ascii_digit c ≡ true → is_name_byte c ≡ true
digit_name_byte c h = or_right (is_letter c) (is_ascii_digit c) h

pub letter_name_byte : (c : ℕ) → is_letter c ≡ true → is_name_byte c ≡ true
letter_name_byte c h = or_left (is_letter c) (is_ascii_digit c) h

pub space_no_name_byte : (c : ℕ) → is_space c ≡ true → is_name_byte c ≡ false
space_no_name_byte c h = grind (arith, nat_tests)

-- ---- words and numbers

digits_name_bytes : (cs : List ℕ) → AllByRecursion IsAsciiDigit cs → list_all is_name_byte cs ≡ true
digits_name_bytes [] h = refl
digits_name_bytes (c ∷ cs) h = and_from (is_name_byte c) (list_all is_name_byte cs) (digit_name_byte c (test_of_digit c h.0)) (digits_name_bytes cs h.1)

literal_first : (cs : List ℕ) → IsLiteral cs → is_ascii_digit (slice_index cs 0) ≡ true
literal_first [] h = absurd (omega (arith, h.digits.0))
literal_first (c ∷ cs) h = test_of_digit c h.digits.1.0

word_first : (cs : List ℕ) → IsIdentifier cs → is_letter (slice_index cs 0) ≡ true
word_first [] h = absurd h
word_first (c ∷ cs) h = h.0

word_name_bytes : (cs : List ℕ) → IsIdentifier cs → list_all is_name_byte cs ≡ true
word_name_bytes [] h = absurd h
word_name_bytes (c ∷ cs) h = and_from (is_name_byte c) (list_all is_name_byte cs) (letter_name_byte c h.0) (list_all-from_AllPass is_name_byte cs h.1)

word_some : (cs : List ℕ) → IsIdentifier cs → 0 < length cs
word_some [] h = absurd h
word_some (c ∷ cs) h = omega arith

-- the test for an identifier
abbrev looks_like_word : List ℕ → Bool
looks_like_word text = is_letter (slice_index text 0) && list_all is_name_byte text

pub word_from_bytes : (text : List ℕ) → is_letter (slice_index text 0) ≡ true → list_all is_name_byte text ≡ true → IsIdentifier text
word_from_bytes [] first all = absurd cc
word_from_bytes (b ∷ more) first all = (first, AllPass-from_list_all is_name_byte more (and_parts (is_name_byte b) (list_all is_name_byte more) all).1)

-- a word of a list of words is an identifier
word_among : (words : List (List ℕ)) (text : List ℕ) → list_all looks_like_word words ≡ true → is_among words text ≡ true → IsIdentifier text
word_among words text all among =
    let parts = and_parts (is_letter (slice_index text 0)) (list_all is_name_byte text) (among_passes looks_like_word words text all among) in
    word_from_bytes text parts.0 parts.1

-- the kinds of words
abbrev pub IsWordKind : TokenKind → Type 0
IsWordKind Number = ⊥
IsWordKind Sign = ⊥
IsWordKind kind = Unit {0}

pub spelled_word : (kind : TokenKind) (text : List ℕ) → IsWordKind kind → Spells kind text → IsIdentifier text
spelled_word Name text is h = h.identifier
spelled_word Number text is h = absurd is
spelled_word Sign text is h = absurd is
spelled_word Keyword text is h = word_among keywords text refl h
spelled_word Annotation text is h = word_among annotation_words text refl h
spelled_word Unused text is h = word_among unused_words text refl h

-- a word of one list is in no other
in_no_other : (words others : List (List ℕ)) (text : List ℕ) → list_all (λ word. not (is_among others word)) words ≡ true → is_among words text ≡ true → is_among others text ≡ false
in_no_other words others text apart among = not-true (is_among others text) (among_passes (λ word. not (is_among others word)) words text apart among)

kind_by : (word : List ℕ) (a b c : Bool) → is_among keywords word ≡ a → is_among annotation_words word ≡ b → is_among unused_words word ≡ c → kind_of_word word ≡ cond a Keyword (cond b Annotation (cond c Unused Name))
kind_by word a b c ea eb ec = rw (ea, eb, ec) refl

spelled_kind : (kind : TokenKind) (text : List ℕ) → IsWordKind kind → Spells kind text → kind_of_word text ≡ kind
spelled_kind Name text is h =
    let parts = or_parts (is_among keywords text) (is_among annotation_words text || is_among unused_words text) h.free in
    let others = or_parts (is_among annotation_words text) (is_among unused_words text) parts.1 in
    kind_by text false false false parts.0 others.0 others.1
spelled_kind Number text is h = absurd is
spelled_kind Sign text is h = absurd is
spelled_kind Keyword text is h = kind_by text true (is_among annotation_words text) (is_among unused_words text) h refl refl
spelled_kind Annotation text is h = kind_by text false true (is_among unused_words text) (in_no_other annotation_words keywords text refl h) h refl
spelled_kind Unused text is h = kind_by text false false true (in_no_other unused_words keywords text refl h) (in_no_other unused_words annotation_words text refl h) h

spells_by : (word : List ℕ) (a b c : Bool) → IsIdentifier word → is_among keywords word ≡ a → is_among annotation_words word ≡ b → is_among unused_words word ≡ c → Spells (cond a Keyword (cond b Annotation (cond c Unused Name))) word
spells_by word true b c h ea eb ec = ea
spells_by word false true c h ea eb ec = eb
spells_by word false false true h ea eb ec = ec
spells_by word false false false h ea eb ec = record { identifier = h; free = rw (ea, eb, ec) refl }

-- an identifier is spelled as the kind that the lists tell
pub kind_spells : (word : List ℕ) → IsIdentifier word → Spells (kind_of_word word) word
kind_spells word h = spells_by word (is_among keywords word) (is_among annotation_words word) (is_among unused_words word) h refl refl refl

-- ---- all kinds

-- The kind of a spelling can be told from its bytes.
abbrev pub told_kind : List ℕ → TokenKind
told_kind text = cond (is_letter (slice_index text 0)) (kind_of_word text) (cond (is_ascii_digit (slice_index text 0)) Number Sign)

told_word : (kind : TokenKind) (text : List ℕ) → IsWordKind kind → Spells kind text → kind ≡ told_kind text
told_word kind text is h =
    sym (cond-true (is_letter (slice_index text 0)) (kind_of_word text) (cond (is_ascii_digit (slice_index text 0)) Number Sign) (word_first text (spelled_word kind text is h)) ∙ spelled_kind kind text is h)

no_name_parts : (c : ℕ) → is_name_byte c ≡ false → (is_letter c ≡ false) × (is_ascii_digit c ≡ false)
no_name_parts c h = or_parts (is_letter c) (is_ascii_digit c) h

told_sign : (text : List ℕ) → is_name_byte (slice_index text 0) ≡ false → Sign ≡ told_kind text
told_sign text h =
    let parts = no_name_parts (slice_index text 0) h in
    sym (cond-false (is_letter (slice_index text 0)) (kind_of_word text) (cond (is_ascii_digit (slice_index text 0)) Number Sign) parts.0 ∙ cond-false (is_ascii_digit (slice_index text 0)) Number Sign parts.1)

told_number : (text : List ℕ) → is_ascii_digit (slice_index text 0) ≡ true → Number ≡ told_kind text
told_number text h =
    sym (cond-false (is_letter (slice_index text 0)) (kind_of_word text) (cond (is_ascii_digit (slice_index text 0)) Number Sign) (digit_no_letter (slice_index text 0) h) ∙ cond-true (is_ascii_digit (slice_index text 0)) Number Sign h)

pub told : (kind : TokenKind) (text : List ℕ) → Spells kind text → kind ≡ told_kind text
told Name text h = told_word Name text tt h
told Number text h = told_number text (literal_first text h)
told Sign text h = told_sign text (sign_looks text h).no_name
told Keyword text h = told_word Keyword text tt h
told Annotation text h = told_word Annotation text tt h
told Unused text h = told_word Unused text tt h

pub one_kind : (kind other : TokenKind) (text : List ℕ) → Spells kind text → Spells other text → kind ≡ other
one_kind kind other text h k = told kind text h ∙ sym (told other text k)

pub spelling_some : (kind : TokenKind) (text : List ℕ) → Spells kind text → 0 < length text
spelling_some Name text h = word_some text (spelled_word Name text tt h)
spelling_some Number text h = h.digits.0
spelling_some Sign text h = (sign_looks text h).some
spelling_some Keyword text h = word_some text (spelled_word Keyword text tt h)
spelling_some Annotation text h = word_some text (spelled_word Annotation text tt h)
spelling_some Unused text h = word_some text (spelled_word Unused text tt h)

-- What begins with a letter, digit or `_` has no other byte.
pub spelling_name_bytes : (kind : TokenKind) (text : List ℕ) → is_name_byte (slice_index text 0) ≡ true → Spells kind text → list_all is_name_byte text ≡ true
spelling_name_bytes Name text first h = word_name_bytes text (spelled_word Name text tt h)
spelling_name_bytes Number text first h = digits_name_bytes text h.digits.1
spelling_name_bytes Sign text first h = absurd (both_ways (is_name_byte (slice_index text 0)) (sign_looks text h).no_name first)
spelling_name_bytes Keyword text first h = word_name_bytes text (spelled_word Keyword text tt h)
spelling_name_bytes Annotation text first h = word_name_bytes text (spelled_word Annotation text tt h)
spelling_name_bytes Unused text first h = word_name_bytes text (spelled_word Unused text tt h)

-- What begins otherwise is a sign.
word_again : (text : List ℕ) → IsIdentifier text → is_name_byte (slice_index text 0) ≡ true
word_again text h = letter_name_byte (slice_index text 0) (word_first text h)

pub spelling_sign : (kind : TokenKind) (text : List ℕ) → is_name_byte (slice_index text 0) ≡ false → Spells kind text → is_among signs text ≡ true
spelling_sign Name text first h = absurd (both_ways (is_name_byte (slice_index text 0)) first (word_again text (spelled_word Name text tt h)))
spelling_sign Number text first h = absurd (both_ways (is_name_byte (slice_index text 0)) first (digit_name_byte (slice_index text 0) (literal_first text h)))
spelling_sign Sign text first h = h
spelling_sign Keyword text first h = absurd (both_ways (is_name_byte (slice_index text 0)) first (word_again text (spelled_word Keyword text tt h)))
spelling_sign Annotation text first h = absurd (both_ways (is_name_byte (slice_index text 0)) first (word_again text (spelled_word Annotation text tt h)))
spelling_sign Unused text first h = absurd (both_ways (is_name_byte (slice_index text 0)) first (word_again text (spelled_word Unused text tt h)))

-- No spelling begins with a space.
pub spelling_no_space : (kind : TokenKind) (text : List ℕ) → Spells kind text → is_space (slice_index text 0) ≡ false
spelling_no_space kind text h =
    elim (cases_Bool (is_name_byte (slice_index text 0))) [
      | inl name ↦ false_from_ne_true (is_space (slice_index text 0)) (λ s. both_ways (is_name_byte (slice_index text 0)) (space_no_name_byte (slice_index text 0) s) name)
      | inr other ↦ (sign_looks text (spelling_sign kind text other h)).no_space
    ]

-- A spelling that begins with a digit is a literal.
pub spelling_literal : (kind : TokenKind) (text : List ℕ) → is_letter (slice_index text 0) ≡ false → is_name_byte (slice_index text 0) ≡ true → Spells kind text → IsLiteral text
spelling_literal Name text first name h = absurd (both_ways (is_letter (slice_index text 0)) first (word_first text (spelled_word Name text tt h)))
spelling_literal Number text first name h = h
spelling_literal Sign text first name h = absurd (both_ways (is_name_byte (slice_index text 0)) (sign_looks text h).no_name name)
spelling_literal Keyword text first name h = absurd (both_ways (is_letter (slice_index text 0)) first (word_first text (spelled_word Keyword text tt h)))
spelling_literal Annotation text first name h = absurd (both_ways (is_letter (slice_index text 0)) first (word_first text (spelled_word Annotation text tt h)))
spelling_literal Unused text first name h = absurd (both_ways (is_letter (slice_index text 0)) first (word_first text (spelled_word Unused text tt h)))
