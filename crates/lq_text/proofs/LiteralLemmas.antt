-- Literals and numerals.
use Rattle.std.proofs.Common.{◌≡◌, ℕ, ◌^◌, ◌<◌, true, false, List, [], ◌∷◌, length, get_or, Option, Some, None, ℤ, pos, refl, sym, ◌∙◌, arith}
use Rattle.std.specs.Prelude.{IfSome, IfNone}
use Rattle.std.specs.Char.{IsAsciiDigit, is_ascii_digit}
use Rattle.std.specs.List.{AllByRecursion, list_all}
use Rattle.std.specs.Option.{SomeIff}
use Rattle.std.proofs.lemmas.Bool.{and_parts, and_from, true≢false}
use Rattle.std.proofs.lemmas.Bool.Decides.{nat_tests}
use Rattle.lq_text.specs.Numeral.{IsDigits, place_value, IsNumeral, IsShort, IsWord, decimal_of}
use Rattle.lq_text.specs.Numeral.IsNumeral.{plain, minus}
use Rattle.lq_text.specs.Literal.{IsLiteral}
use Rattle.std.proofs.lemmas.Fmt.{digits_decimal, digits_value-decimal, decimal_nonempty}
use Rattle.lq_text.proofs.NumeralLemmas.{own, no_sign, decimal_short, short_is_decimal}

digit_of_test : (c : ℕ) → is_ascii_digit c ≡ true → IsAsciiDigit c
digit_of_test c h = grind (arith, nat_tests)

pub test_of_digit : (c : ℕ) → IsAsciiDigit c → is_ascii_digit c ≡ true
test_of_digit c h = grind (arith, nat_tests)

-- the test for digits alone
pub digits_of_test : (text : List ℕ) → list_all is_ascii_digit text ≡ true → AllByRecursion IsAsciiDigit text
digits_of_test [] h = tt
digits_of_test (c ∷ text) h =
    let parts = and_parts (is_ascii_digit c) (list_all is_ascii_digit text) h in
    (digit_of_test c parts.0, digits_of_test text parts.1)

pub test_of_digits : (text : List ℕ) → AllByRecursion IsAsciiDigit text → list_all is_ascii_digit text ≡ true
test_of_digits [] h = refl
test_of_digits (c ∷ text) h = and_from (is_ascii_digit c) (list_all is_ascii_digit text) (test_of_digit c h.0) (test_of_digits text h.1)

-- digits that a numeral is
numeral_digits : {text : List ℕ} {z : ℤ} → list_all is_ascii_digit text ≡ true → IsNumeral text z → IsDigits text × (z ≡ pos (place_value text)) × IsWord z
numeral_digits h (plain d e w) = (d, e, w)
numeral_digits h (minus {digits} d e w) = absurd (true≢false (sym (and_parts (is_ascii_digit 45) (list_all is_ascii_digit digits) h).0))

-- without a `0` that does not stand alone digits are short
pub short_digits : (text : List ℕ) → IsDigits text → (get_or text 0 0 ≡ 48 → 1 < length text → ⊥) → IsShort text
short_digits text d alone = (
  λ zero. let long : 1 < length text → ⊥ = alone zero in let some = d.0 in omega (arith, long),
  λ minus. absurd (no_sign text 45 d (omega arith) minus),
)

literal_word : (text : List ℕ) {z : ℤ} → z ≡ pos (place_value text) → IsWord z → place_value text < 2 ^ 63
literal_word text e w = (rw e at w).sfits

word_of_literal : (text : List ℕ) → place_value text < 2 ^ 63 → IsWord (pos (place_value text))
word_of_literal text small = record { sfits = omega arith }

-- what `read_number` reads of digits without a needless zero
pub literal_read : (text : List ℕ) (r : Option ℤ) → list_all is_ascii_digit text ≡ true → (get_or text 0 0 ≡ 48 → 1 < length text → ⊥) → IfSome r (λ z. IsNumeral text z) → IfNone r ((z : ℤ) → ¬ IsNumeral text z) → SomeIff r (IsLiteral text) (pos (place_value text))
literal_read text None all alone some none = λ h. none (pos (place_value text)) (plain h.digits refl (word_of_literal text h.small))
literal_read text (Some z) all alone some none =
    let parts = numeral_digits all some in
    (record { digits = parts.0; short = short_digits text parts.0 alone; small = literal_word text parts.1 parts.2 }, parts.1)

-- what is no literal
pub no_literal_zero : (text : List ℕ) → get_or text 0 0 ≡ 48 → 1 < length text → ¬ IsLiteral text
no_literal_zero text zero long h = let one = h.short.0 zero in omega arith

pub no_literal_byte : (text : List ℕ) → list_all is_ascii_digit text ≡ false → ¬ IsLiteral text
no_literal_byte text other h = true≢false (sym (test_of_digits text h.digits.1) ∙ other)

-- ---- decimal texts

pub literal_decimal : (n : ℕ) → n < 2 ^ 63 → IsLiteral (decimal_of (pos n))
literal_decimal n h =
    let small : n < 2 ^ 64 = omega arith in
    record {
      digits = (decimal_nonempty n small, digits_decimal own n small);
      short = decimal_short (pos n) (record { sfits = omega arith });
      small = omega (arith, h, digits_value-decimal own n small);
    }

pub literal_is_decimal : (text : List ℕ) → IsLiteral text → text ≡ decimal_of (pos (place_value text))
literal_is_decimal text h = short_is_decimal (plain h.digits refl (word_of_literal text h.small)) h.short
