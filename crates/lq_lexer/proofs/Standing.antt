-- What the scanner finds stands there by the rules, and nothing else does.
use Rattle.std.proofs.Common.{◌≡◌, ◌==◌, ℕ, ◌+◌, ◌<◌, ◌≤◌, ◌^◌, ◌&&◌, ◌⊎◌, true, false, not, cond, nat_eq, nat_lt, List, [], ◌∷◌, ◌++◌, codes, length, take, drop, Option, Some, None, ℤ, refl, sym, ap, ◌∙◌, subst, inl, inr, arith}
use Rattle.std.specs.Prelude.{slice_index, is_some}
use Rattle.std.specs.Option.{SomeIff}
use Rattle.std.specs.List.{list_all, prefix_len, take_while, starts_with}
use Rattle.std.specs.Char.{is_ascii_digit}
use Rattle.std.proofs.lemmas.Bool.{and_parts, and_from, cases_Bool, cond-true, cond-false, both_ways, not-true, not_from_false, false_from_ne_true, ltb-true, lt-ltb, eq-eqb, eqb-true}
use Rattle.std.proofs.lemmas.List.{length-append, take_at, take-append-drop, length-take, length-take-le}
use Rattle.std.proofs.lemmas.List.Sums.{take_while-cons, prefix_len-le-length, AllPass-from_list_all}
use Rattle.lq_text.specs.Byte.{is_letter, is_name_byte}
use Rattle.lq_text.specs.Numeral.{IsDigits, place_value}
use Rattle.lq_text.specs.Word.{is_among}
use Rattle.lq_text.specs.Literal.{IsLiteral}
use Rattle.lq_text.proofs.LiteralLemmas.{digits_of_test, test_of_digits, short_digits}
use Rattle.lq_lexer.specs.declared.token.TokenKind.{TokenKind}
use Rattle.lq_lexer.specs.declared.token.TokenKind.TheVariants.{Number, Sign}
use Rattle.lq_lexer.specs.declared.scan.Piece.{Piece}
use Rattle.lq_lexer.specs.declared.scan.Piece.TheVariants.{Blank, Spelled, Nothing}
use Rattle.lq_lexer.specs.Bytes.{is_space}
use Rattle.lq_lexer.specs.Sign.{signs}
use Rattle.lq_lexer.specs.Tokens.{Spells, IsToken, BeginsWithBlank, BeginsWithComment, BeginsWithToken}
use Rattle.lq_lexer.specs.Faults.{IsStuck}
use Rattle.lq_lexer.specs.Tokens.IsBlank.{line_comment, block_comment, space}
use Rattle.lq_lexer.specs.Scan.{close_from, blank_or_nothing, is_literal, kind_of_word, run_piece, sign_piece, piece_of}
use Rattle.lq_lexer.proofs.Spelling.{sign_looks, one_kind, spelling_some, spelling_name_bytes, spelling_sign, spelling_literal, word_from_bytes, kind_spells}
use Rattle.lq_lexer.proofs.Pieces.{cases_Option, first_of_append, prefix_len-append, list_all-take_while, prefix_len-ends, ends_run, comment_from, no_comment_from, close_some, line_ends, blank_is}

-- the piece stands at the front of the text
abbrev pub Stands : List ℕ → Piece → Type 0
Stands text (Blank n) = (blank rest : List ℕ) × BeginsWithBlank text blank rest × (n ≡ length blank)
Stands text (Spelled kind n) = (word rest : List ℕ) × BeginsWithToken text kind word rest × (n ≡ length word)
Stands text Nothing = IsStuck text

-- ---- runs of letters, digits and `_`

literal_decided : (text : List ℕ) → is_literal text ≡ true → 0 < length text → IsLiteral text
literal_decided text h some =
    let parts = and_parts (list_all is_ascii_digit text && not (slice_index text 0 == 48 && nat_lt 1 (length text))) (nat_lt (place_value text) (2 ^ 63)) h in
    let front = and_parts (list_all is_ascii_digit text) (not (slice_index text 0 == 48 && nat_lt 1 (length text))) parts.0 in
    let zeros : (slice_index text 0 == 48 && nat_lt 1 (length text)) ≡ false = not-true _ front.1 in
    let digits : IsDigits text = (some, digits_of_test text front.0) in
    record {
      digits = digits;
      short = short_digits text digits (λ first long. both_ways (slice_index text 0 == 48 && nat_lt 1 (length text)) zeros (and_from (slice_index text 0 == 48) (nat_lt 1 (length text)) (eq-eqb (slice_index text 0) 48 first) (lt-ltb 1 (length text) long)));
      small = ltb-true (place_value text) (2 ^ 63) parts.1;
    }

literal_decides : (text : List ℕ) → IsLiteral text → is_literal text ≡ true
literal_decides text h =
    and_from (list_all is_ascii_digit text && not (slice_index text 0 == 48 && nat_lt 1 (length text))) (nat_lt (place_value text) (2 ^ 63))
    (and_from (list_all is_ascii_digit text) (not (slice_index text 0 == 48 && nat_lt 1 (length text))) (test_of_digits text h.digits.1)
    (not_from_false (slice_index text 0 == 48 && nat_lt 1 (length text)) (false_from_ne_true (slice_index text 0 == 48 && nat_lt 1 (length text)) (λ both.
    let parts = and_parts (slice_index text 0 == 48) (nat_lt 1 (length text)) both in
    let one = h.short.0 (eqb-true (slice_index text 0) 48 parts.0) in
    absurd (omega (arith, ltb-true 1 (length text) parts.1, one))))))
    (lt-ltb (place_value text) (2 ^ 63) h.small)

-- what `read_literal` tells
pub literal_told : (text : List ℕ) (r : Option ℤ) (z : ℤ) → 0 < length text → SomeIff r (IsLiteral text) z → is_some r ≡ is_literal text
literal_told text None z some none = sym (false_from_ne_true (is_literal text) (λ is. none (literal_decided text is some)))
literal_told text (Some y) z some h = sym (literal_decides text h.0)

-- A token where a run begins is no longer than the run, and a number is the whole run.
token_in_run : (text : List ℕ) → is_name_byte (slice_index text 0) ≡ true → (kind : TokenKind) (word rest : List ℕ) → text ≡ word ++ rest → IsToken kind word rest
    → (is_name_byte (slice_index word 0) ≡ true) × (prefix_len is_name_byte text ≡ length word + prefix_len is_name_byte rest)
token_in_run text first kind word rest split token =
    let some = spelling_some kind word token.spelled in
    let first' : is_name_byte (slice_index word 0) ≡ true = ap is_name_byte (sym (ap (λ (t : List ℕ). slice_index t 0) split ∙ first_of_append word rest some)) ∙ first in
    (first', ap (prefix_len is_name_byte) split ∙ prefix_len-append is_name_byte word rest (spelling_name_bytes kind word first' token.spelled))

-- the run as a token of a kind, once it spells one
run_token : (text : List ℕ) → is_name_byte (slice_index text 0) ≡ true → (kind : TokenKind) → Spells kind (take_while is_name_byte text) → ¬ BeginsWithComment text
    → Stands text (Spelled kind (length (take_while is_name_byte text)))
run_token text first kind spelled no_comment =
    let n = prefix_len is_name_byte text in (
      take_while is_name_byte text,
      drop n text,
      record {
        split = sym (take-append-drop n text);
        is_token = record { spelled = spelled; apart = λ number. ends_run text };
        no_comment = no_comment;
        longest = λ other longer less split token. omega (arith, (token_in_run text first other longer less split token).1, length-take-le n text (prefix_len-le-length is_name_byte text));
      },
      refl,
    )

run_first : (text : List ℕ) → is_name_byte (slice_index text 0) ≡ true → (0 < length (take_while is_name_byte text)) × (slice_index (take_while is_name_byte text) 0 ≡ slice_index text 0)
run_first [] first = absurd cc
run_first (b ∷ more) first = rw (take_while-cons is_name_byte b more, first) (omega arith, refl)

-- Where the run spells nothing, no token begins.
run_stuck : (text : List ℕ) → is_name_byte (slice_index text 0) ≡ true → is_letter (slice_index text 0) ≡ false → is_literal (take_while is_name_byte text) ≡ false
    → (kind : TokenKind) (word rest : List ℕ) → ¬ BeginsWithToken text kind word rest
run_stuck text first no_letter no_number kind word rest h =
    let inside = token_in_run text first kind word rest h.split h.is_token in
    let same_first : slice_index text 0 ≡ slice_index word 0 = ap (λ (t : List ℕ). slice_index t 0) h.split ∙ first_of_append word rest (spelling_some kind word h.is_token.spelled) in
    let number : IsLiteral word = spelling_literal kind word (ap is_letter (sym same_first) ∙ no_letter) inside.0 h.is_token.spelled in
    let is : kind ≡ Number = one_kind kind Number word h.is_token.spelled number in
    let whole : prefix_len is_name_byte text ≡ length word = omega (arith, inside.1, prefix_len-ends rest (h.is_token.apart is)) in
    let same : take_while is_name_byte text ≡ word = ap (take (prefix_len is_name_byte text)) h.split ∙ take_at word rest (prefix_len is_name_byte text) (sym whole) in
    both_ways (is_literal (take_while is_name_byte text)) no_number (ap is_literal same ∙ literal_decides word number)

-- no blank, where the scanner finds none
no_blank_from : (text : List ℕ) (found : Piece) → piece_of text ≡ found → ((n : ℕ) → found ≡ Blank n → ⊥) → (blank rest : List ℕ) → ¬ BeginsWithBlank text blank rest
no_blank_from text found is other blank rest h = other (length blank) (sym is ∙ blank_is text blank rest h)

run_stands : (text : List ℕ) → is_name_byte (slice_index text 0) ≡ true → ¬ BeginsWithComment text → 0 < length text → piece_of text ≡ run_piece (take_while is_name_byte text) → Stands text (run_piece (take_while is_name_byte text))
run_stands text first no_comment some is =
    let run = take_while is_name_byte text in
    let at_first = run_first text first in
    elim (cases_Bool (is_letter (slice_index run 0))) [
      | inl letter ↦
          subst (Stands text) (sym (cond-true (is_letter (slice_index run 0)) (Spelled (kind_of_word run) (length run)) (cond (is_literal run) (Spelled Number (length run)) Nothing) letter))
          (run_token text first (kind_of_word run) (kind_spells run (word_from_bytes run letter (list_all-take_while is_name_byte text))) no_comment)
      | inr other ↦ elim (cases_Bool (is_literal run)) [
        | inl number ↦
            subst (Stands text) (sym (cond-false (is_letter (slice_index run 0)) (Spelled (kind_of_word run) (length run)) (cond (is_literal run) (Spelled Number (length run)) Nothing) other ∙ cond-true (is_literal run) (Spelled Number (length run)) Nothing number))
            (run_token text first Number (literal_decided run number at_first.0) no_comment)
        | inr no_number ↦
            let nothing : run_piece run ≡ Nothing = cond-false (is_letter (slice_index run 0)) (Spelled (kind_of_word run) (length run)) (cond (is_literal run) (Spelled Number (length run)) Nothing) other ∙ cond-false (is_literal run) (Spelled Number (length run)) Nothing no_number in
            subst (Stands text) (sym nothing) record {
              goes_on = some;
              no_blank = no_blank_from text Nothing (is ∙ nothing) (λ n e. cc);
              no_token = run_stuck text first (ap is_letter (sym at_first.1) ∙ other) no_number;
            }
      ]
    ]

-- ---- signs

-- A token where no letter, digit or `_` stands is a sign of one byte or two.
pub record IsShortSign (text word rest : List ℕ) : Type 0 where
  pub among : is_among signs word ≡ true
  pub is_front : word ≡ take (length word) text
  pub size : (length word ≡ 1) ⊎ (length word ≡ 2)

one_or_two : (n : ℕ) → 0 < n → n < 3 → (n ≡ 1) ⊎ (n ≡ 2)
one_or_two n low high = grind arith

token_is_sign : (text : List ℕ) → is_name_byte (slice_index text 0) ≡ false → (kind : TokenKind) (word rest : List ℕ) → text ≡ word ++ rest → IsToken kind word rest → IsShortSign text word rest
token_is_sign text first kind word rest split token =
    let same_first : slice_index text 0 ≡ slice_index word 0 = ap (λ (t : List ℕ). slice_index t 0) split ∙ first_of_append word rest (spelling_some kind word token.spelled) in
    let among = spelling_sign kind word (ap is_name_byte (sym same_first) ∙ first) token.spelled in
    let looks = sign_looks word among in
    record {
      among = among;
      is_front = sym (ap (take (length word)) split ∙ take_at word rest (length word) refl);
      size = one_or_two (length word) looks.some looks.short;
    }

sign_token : (text : List ℕ) (n : ℕ) → is_name_byte (slice_index text 0) ≡ false → ¬ BeginsWithComment text → is_among signs (take n text) ≡ true
    → ((kind : TokenKind) (word rest : List ℕ) → text ≡ word ++ rest → IsToken kind word rest → length word ≤ length (take n text))
    → Stands text (Spelled Sign (length (take n text)))
sign_token text n first no_comment among longest = (
  take n text,
  drop n text,
  record {
    split = sym (take-append-drop n text);
    is_token = record { spelled = among; apart = λ number. absurd cc };
    no_comment = no_comment;
    longest = longest;
  },
  refl,
)

sign_stands : (text : List ℕ) → is_name_byte (slice_index text 0) ≡ false → ¬ BeginsWithComment text → 0 < length text → piece_of text ≡ sign_piece text → Stands text (sign_piece text)
sign_stands text first no_comment some is =
    let two = is_among signs (take 2 text) in
    let one = is_among signs (take 1 text) in
    let one_long : length (take 1 text) ≡ 1 = length-take-le 1 text some in
    elim (cases_Bool two) [
      | inl is_two ↦
          subst (Stands text) (sym (cond-true two (Spelled Sign (length (take 2 text))) (cond one (Spelled Sign 1) Nothing) is_two))
          (sign_token text 2 first no_comment is_two (λ kind word rest split token.
          let sign = token_is_sign text first kind word rest split token in
          let whole : length text ≡ length word + length rest = ap length split ∙ length-append word rest in
          elim sign.size [ inl is ↦ omega (arith, length-take 2 text) | inr is ↦ omega (arith, length-take 2 text) ]))
      | inr no_two ↦
          let not_two : (kind : TokenKind) (word rest : List ℕ) → text ≡ word ++ rest → IsToken kind word rest → (is_among signs (take 1 text) ≡ true) × (length word ≡ 1) =
          λ kind word rest split token.
          let sign = token_is_sign text first kind word rest split token in
          elim sign.size [
            | inl is ↦ (ap (is_among signs) (sym (sign.is_front ∙ ap (λ (k : ℕ). take k text) is)) ∙ sign.among, is)
            | inr is ↦ absurd (both_ways two no_two (ap (is_among signs) (sym (sign.is_front ∙ ap (λ (k : ℕ). take k text) is)) ∙ sign.among))
          ] in
          elim (cases_Bool one) [
            | inl is_one ↦
                subst (Stands text) (sym (cond-false two (Spelled Sign (length (take 2 text))) (cond one (Spelled Sign 1) Nothing) no_two ∙ cond-true one (Spelled Sign 1) Nothing is_one ∙ ap (λ (k : ℕ). Spelled Sign k) (sym one_long)))
                (sign_token text 1 first no_comment is_one (λ kind word rest split token. omega (arith, (not_two kind word rest split token).1)))
            | inr no_one ↦
                let nothing : sign_piece text ≡ Nothing = cond-false two (Spelled Sign (length (take 2 text))) (cond one (Spelled Sign 1) Nothing) no_two ∙ cond-false one (Spelled Sign 1) Nothing no_one in
                subst (Stands text) (sym nothing) record {
                  goes_on = some;
                  no_blank = no_blank_from text Nothing (is ∙ nothing) (λ n e. cc);
                  no_token = λ kind word rest h. both_ways one no_one (not_two kind word rest h.split h.is_token).0;
                }
          ]
    ]

-- ---- all pieces

line_stands : (text rest : List ℕ) → text ≡ codes "//" ++ rest → Stands text (Blank (prefix_len (λ b. not (b == 10)) text))
line_stands text rest split =
    let n = prefix_len (λ b. not (b == 10)) rest in (
      codes "//" ++ take n rest,
      drop n rest,
      record {
        split = split ∙ ap (λ (t : List ℕ). codes "//" ++ t) (sym (take-append-drop n rest));
        is_blank = line_comment (AllPass-from_list_all (λ b. not (b == 10)) (take n rest) (list_all-take_while (λ b. not (b == 10)) rest)) (line_ends rest);
      },
      ap (prefix_len (λ b. not (b == 10))) split ∙ omega (arith, length-take-le n rest (prefix_len-le-length (λ b. not (b == 10)) rest)),
    )

block_stands : (text inside : List ℕ) → text ≡ codes "/*" ++ inside → piece_of text ≡ blank_or_nothing (close_from 2 inside) → Stands text (blank_or_nothing (close_from 2 inside))
block_stands text inside split is =
    elim (cases_Option (close_from 2 inside)) [
      | inl none ↦
          let nothing : blank_or_nothing (close_from 2 inside) ≡ Nothing = ap blank_or_nothing none in
          subst (Stands text) (sym nothing) record {
            goes_on = omega (arith, ap length split);
            no_blank = no_blank_from text Nothing (is ∙ nothing) (λ n e. cc);
            no_token = λ kind word rest h. h.no_comment (inside, inr split);
          }
      | inr some ↦
          let found = close_some 2 inside some.0 some.1 in
          subst (Stands text) (sym (ap blank_or_nothing some.1)) (
            codes "/*" ++ found.0,
            found.1,
            record {
              split = split ∙ ap (λ (t : List ℕ). codes "/*" ++ t) found.2;
              is_blank = block_comment found.3;
            },
            omega (arith, found.4),
          )
    ]

space_stands : (text : List ℕ) → is_space (slice_index text 0) ≡ true → Stands text (Blank 1)
space_stands [] h = absurd cc
space_stands (b ∷ rest) h = (b ∷ [], rest, record { split = refl; is_blank = space h }, refl)

-- What the scanner finds stands there.
pub piece_stands : (text : List ℕ) → 0 < length text → Stands text (piece_of text)
piece_stands text some =
    let line = starts_with nat_eq text (codes "//") in
    let block = starts_with nat_eq text (codes "/*") in
    let spaced = is_space (slice_index text 0) in
    let named = is_name_byte (slice_index text 0) in
    let line_found = Blank (prefix_len (λ b. not (b == 10)) text) in
    let block_found = blank_or_nothing (close_from 2 (drop 2 text)) in
    let run_found = run_piece (take_while is_name_byte text) in
    elim (cases_Bool line) [
      | inl is_line ↦
          let comment = comment_from text (codes "//") is_line in
          subst (Stands text) (sym (cond-true line line_found (cond block block_found (cond spaced (Blank 1) (cond named run_found (sign_piece text)))) is_line)) (line_stands text comment.0 comment.1)
      | inr no_line ↦
          let is_1 : piece_of text ≡ cond block block_found (cond spaced (Blank 1) (cond named run_found (sign_piece text))) = cond-false line line_found (cond block block_found (cond spaced (Blank 1) (cond named run_found (sign_piece text)))) no_line in
          elim (cases_Bool block) [
            | inl is_block ↦
                let is_2 : piece_of text ≡ block_found = is_1 ∙ cond-true block block_found (cond spaced (Blank 1) (cond named run_found (sign_piece text))) is_block in
                let comment = comment_from text (codes "/*") is_block in
                let inside : drop 2 text ≡ comment.0 = ap (drop 2) comment.1 in
                subst (Stands text) (sym (is_2 ∙ ap (λ (t : List ℕ). blank_or_nothing (close_from 2 t)) inside)) (block_stands text comment.0 comment.1 (is_2 ∙ ap (λ (t : List ℕ). blank_or_nothing (close_from 2 t)) inside))
            | inr no_block ↦
                let is_2 : piece_of text ≡ cond spaced (Blank 1) (cond named run_found (sign_piece text)) = is_1 ∙ cond-false block block_found (cond spaced (Blank 1) (cond named run_found (sign_piece text))) no_block in
                let no_comment = no_comment_from text no_line no_block in
                elim (cases_Bool spaced) [
                  | inl is_spaced ↦ subst (Stands text) (sym (is_2 ∙ cond-true spaced (Blank 1) (cond named run_found (sign_piece text)) is_spaced)) (space_stands text is_spaced)
                  | inr no_space ↦
                      let is_3 : piece_of text ≡ cond named run_found (sign_piece text) = is_2 ∙ cond-false spaced (Blank 1) (cond named run_found (sign_piece text)) no_space in
                      elim (cases_Bool named) [
                        | inl is_named ↦
                            let is_4 : piece_of text ≡ run_found = is_3 ∙ cond-true named run_found (sign_piece text) is_named in
                            subst (Stands text) (sym is_4) (run_stands text is_named no_comment some is_4)
                        | inr no_name ↦
                            let is_4 : piece_of text ≡ sign_piece text = is_3 ∙ cond-false named run_found (sign_piece text) no_name in
                            subst (Stands text) (sym is_4) (sign_stands text no_name no_comment some is_4)
                      ]
                ]
          ]
    ]
