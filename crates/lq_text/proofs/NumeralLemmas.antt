-- What `parse` and `{}` read and write, in the words of numerals.
use Rattle.std.proofs.Common.{◌≡◌, ℕ, suc, ◌^◌, ◌<◌, ◌≤◌, ◌≢◌, false, cond, eqb, List, [], ◌∷◌, length, get_or, drop, Some, None, Result, Ok, Err, ℤ, pos, negsuc, neg_ℤ, zero, refl, sym, ap, subst, ◌∙◌, arith, rules, w64, ◌⊎◌, inl, inr}
use Rattle.std.specs.Prelude.{MatchResult, OkIff, IfSome, IfNone}
use Rattle.std.specs.Result.{result_ok}
use Rattle.std.specs.Borrow.{Bor}
use Rattle.std.specs.declared.str.Utf8Error.{Utf8Error}
use Rattle.std.specs.Char.{IsAsciiDigit}
use Rattle.std.specs.List.{AllByRecursion, starts_with}
use Rattle.std.specs.Str.{IsAscii, IsUtf8, IsValidUpTo, valid_up_to}
use Rattle.std.specs.Str.Parse.{ParsesSigned}
use Rattle.std.specs.Fmt.{decimal}
use Rattle.std.proofs.lemmas.Bool.{cases_eq, cond-false, ne_eqb, true≢false}
use Rattle.std.proofs.lemmas.Str.{IsUtf8-from_ascii}
use Rattle.std.proofs.lemmas.Str.Parse.{IsNumeralModel, numerals_by_weight, not_in_digits, parse_signed_minus, parse_signed_plain}
use Rattle.std.proofs.lemmas.Fmt.{digits_decimal, digits_value-decimal, decimal_nonempty, decimal_digit, first_decimal, decimal-digits_value}
use Rattle.lq_text.specs.Numeral.{IsWord, IsDigits, place_value, IsNumeral, decimal_of, IsShort}
use Rattle.lq_text.specs.Numeral.IsNumeral.{plain, minus}
use Rattle.lq_text.proofs.Lists.{all_weaker}

-- our digits and their value are those of `parse`
pub own : IsNumeralModel (AllByRecursion IsAsciiDigit) place_value
own = numerals_by_weight _ (search rules) place_value (search rules)

-- a text of digits does not begin with `-` or `+`
pub no_sign : (text : List ℕ) (c : ℕ) → IsDigits text → c < 48 → get_or text 0 0 ≢ c
no_sign text c d small = not_in_digits own text c d.1 (λ r. omega arith) 0 d.0

-- the one value that the text can have
abbrev signed_value : List ℕ → ℤ
signed_value text = cond (eqb (get_or text 0 0) 45) (neg_ℤ (pos (place_value (drop 1 text)))) (pos (place_value text))

numeral_value : {text : List ℕ} {z : ℤ} → IsNumeral text z → z ≡ signed_value text
numeral_value {text} (plain d e w) = e ∙ sym (cond-false _ _ _ (ne_eqb _ 45 (no_sign text 45 d (omega arith))))
numeral_value (minus d e w) = e

-- a numeral has one value
pub one_value_of : (text : List ℕ) (y z : ℤ) → IsNumeral text y → IsNumeral text z → y ≡ z
one_value_of text y z m n = numeral_value m ∙ sym (numeral_value n)

-- ---- the bytes of a numeral

-- a digit or `-`
abbrev pub IsSignOrDigit : ℕ → Type 0
IsSignOrDigit c = (c ≡ 45) ⊎ IsAsciiDigit c

pub numeral_bytes : {text : List ℕ} {z : ℤ} → IsNumeral text z → AllByRecursion IsSignOrDigit text
numeral_bytes {text} (plain d e w) = all_weaker _ _ (λ c h. inr h) text d.1
numeral_bytes (minus {digits} d e w) = (inl refl, all_weaker _ _ (λ c h. inr h) digits d.1)

pub numeral_some : {text : List ℕ} {z : ℤ} → IsNumeral text z → 0 < length text
numeral_some (plain d e w) = d.0
numeral_some (minus d e w) = omega arith

pub numeral_word : {text : List ℕ} {z : ℤ} → IsNumeral text z → IsWord z
numeral_word (plain d e w) = w
numeral_word (minus d e w) = w

ascii_sign_or_digit : (c : ℕ) → IsSignOrDigit c → c < 128
ascii_sign_or_digit c (inl e) = omega arith
ascii_sign_or_digit c (inr d) = omega arith

ascii_bytes : (text : List ℕ) → AllByRecursion (λ c. c < 128) text → IsAscii text
ascii_bytes [] h i = omega arith
ascii_bytes (c ∷ cs) h zero = h.0
ascii_bytes (c ∷ cs) h (suc i) = ascii_bytes cs h.1 i

pub numeral_is_text : {text : List ℕ} {z : ℤ} → IsNumeral text z → IsUtf8 text
numeral_is_text {text} n = IsUtf8-from_ascii text (ascii_bytes text (all_weaker _ _ ascii_sign_or_digit text (numeral_bytes n)))

-- ---- what `parse` reads

word_of_minus : (n : ℕ) → n ≤ 2 ^ 63 → IsWord (neg_ℤ (pos n))
word_of_minus zero h = record { sfits = omega arith }
word_of_minus (suc n) h = record { sfits = omega arith }

minus_of_word : (n : ℕ) → IsWord (neg_ℤ (pos n)) → n ≤ 2 ^ 63
minus_of_word zero w = omega arith
minus_of_word (suc n) w = let h = w.sfits in omega arith

plain_parts : {text : List ℕ} {z : ℤ} → IsNumeral text z → get_or text 0 0 ≢ 45 → AllByRecursion IsAsciiDigit text × (0 < length text) × (place_value text < 2 ^ 63)
plain_parts (plain d e w) other = (d.1, d.0, (rw e at w).sfits)
plain_parts (minus d e w) other = absurd (other refl)

minus_parts : {text : List ℕ} {z : ℤ} → IsNumeral text z → get_or text 0 0 ≡ 45 → AllByRecursion IsAsciiDigit (drop 1 text) × (0 < length (drop 1 text)) × (place_value (drop 1 text) ≤ 2 ^ 63)
minus_parts {text} (plain d e w) is = absurd (no_sign text 45 d (omega arith) is)
minus_parts (minus d e w) is = (d.1, d.0, minus_of_word _ (rw e at w))

first_and_rest : (text : List ℕ) (c : ℕ) → 0 < c → get_or text 0 0 ≡ c → text ≡ c ∷ drop 1 text
first_and_rest [] c low e = absurd (omega arith)
first_and_rest (b ∷ bs) c low e = ap (λ x. x ∷ bs) e

abbrev Parsed : {E : Type 0} → List ℕ → Result ℤ E → Type 0
Parsed text r = MatchResult r (λ z. IsNumeral text z) (λ _. (z : ℤ) → ¬ IsNumeral text z)

parsed_plain : {E : Type 0} (text : List ℕ) (r : Result ℤ E) → get_or text 0 0 ≢ 45 → OkIff r (AllByRecursion IsAsciiDigit text × (0 < length text) × (place_value text < 2 ^ 63)) (pos (place_value text)) → Parsed text r
parsed_plain text (Ok x) other h = plain (h.0.1, h.0.0) h.1 (rw h.1 (record { sfits = h.0.2 }))
parsed_plain text (Err e) other h = λ z n. h (plain_parts n other)

parsed_minus : {E : Type 0} (text : List ℕ) (r : Result ℤ E) → get_or text 0 0 ≡ 45 → OkIff r (AllByRecursion IsAsciiDigit (drop 1 text) × (0 < length (drop 1 text)) × (place_value (drop 1 text) ≤ 2 ^ 63)) (neg_ℤ (pos (place_value (drop 1 text)))) → Parsed text r
parsed_minus text (Ok x) is h =
    let n : IsNumeral (45 ∷ drop 1 text) x = minus (h.0.1, h.0.0) h.1 (rw h.1 (word_of_minus _ h.0.2)) in
    subst (λ t. IsNumeral t x) (sym (first_and_rest text 45 (omega arith) is)) n
parsed_minus text (Err e) is h = λ z n. h (minus_parts n is)

-- where no `+` is first, `parse` gives the number of the text, or the text is no numeral
parsed : {E : Type 0} (text : List ℕ) (r : Result ℤ E) → ParsesSigned w64 10 text r → get_or text 0 0 ≢ 43 → Parsed text r
parsed text r h no_plus =
    elim (cases_eq (get_or text 0 0) 45) [
      | inl is ↦ parsed_minus text r is (parse_signed_minus own w64 text r h is)
      | inr other ↦ parsed_plain text r other (parse_signed_plain own w64 text r h no_plus other)
    ]

pub parsed_at : {E : Type 0} (text copy : List ℕ) (r : Result ℤ E) → copy ≡ text → ParsesSigned w64 10 copy r → get_or text 0 0 ≢ 43 → Parsed text r
parsed_at text copy r same h no_plus = parsed text r (subst (λ t. ParsesSigned w64 10 t r) same h) no_plus

pub parsed_some : {E : Type 0} (text : List ℕ) (r : Result ℤ E) → Parsed text r → IfSome (result_ok r) (λ z. IsNumeral text z)
parsed_some text (Ok x) h = h
parsed_some text (Err e) h = tt

pub parsed_none : {E : Type 0} (text : List ℕ) (r : Result ℤ E) → Parsed text r → IfNone (result_ok r) ((z : ℤ) → ¬ IsNumeral text z)
parsed_none text (Ok x) h = tt
parsed_none text (Err e) h = h

-- what `from_utf8` says
abbrev IsChecked : List ℕ → Result (Bor (List ℕ)) Utf8Error → Type 0
IsChecked text r = MatchResult r (λ s. (s.now ≡ text) × IsUtf8 text) (λ e. ¬ IsUtf8 text × IsValidUpTo text (valid_up_to e))

pub no_text : (text : List ℕ) (r : Result (Bor (List ℕ)) Utf8Error) → IsChecked text r → None ≡ result_ok r → (z : ℤ) → ¬ IsNumeral text z
no_text text (Ok s) h e = absurd cc
no_text text (Err x) h e = λ z n. h.0 (numeral_is_text n)

pub same_text : (text : List ℕ) (r : Result (Bor (List ℕ)) Utf8Error) (s : Bor (List ℕ)) → IsChecked text r → Some s ≡ result_ok r → s.now ≡ text
same_text text (Ok t) s h e = let same : s ≡ t = cc in ap (λ (b : Bor (List ℕ)). b.now) same ∙ h.0
same_text text (Err x) s h e = absurd cc

-- a text that does not start with `+`
pub no_plus_first : (text : List ℕ) → starts_with eqb text (43 ∷ []) ≡ false → get_or text 0 0 ≢ 43
no_plus_first [] e is = absurd (omega arith)
no_plus_first (c ∷ cs) e is =
    let t : starts_with eqb (43 ∷ cs) (43 ∷ []) ≡ false = subst (λ x. starts_with eqb (x ∷ cs) (43 ∷ []) ≡ false) is e in
    absurd (true≢false t)

-- ---- decimal texts

-- the decimal text of a word is a numeral of it
pub decimal_numeral : (z : ℤ) → IsWord z → IsNumeral (decimal_of z) z
decimal_numeral (pos n) w =
    let h = w.sfits in
    let small : n < 2 ^ 64 = omega arith in
    plain (decimal_nonempty n small, digits_decimal own n small) (ap pos (sym (digits_value-decimal own n small))) w
decimal_numeral (negsuc n) w =
    let h = w.sfits in
    let small : suc n < 2 ^ 64 = omega arith in
    minus (decimal_nonempty (suc n) small, digits_decimal own (suc n) small) (ap (λ m. neg_ℤ (pos m)) (sym (digits_value-decimal own (suc n) small))) w

decimal_first : (n : ℕ) → n < 2 ^ 64 → get_or (decimal n) 0 0 ≡ 48 → n ≡ 0
decimal_first zero small e = refl
decimal_first (suc n) small e = absurd (omega (arith, first_decimal (suc n) (omega arith) small))

-- it has no needless zero
pub decimal_short : (z : ℤ) → IsWord z → IsShort (decimal_of z)
decimal_short (pos n) w =
    let h = w.sfits in
    let small : n < 2 ^ 64 = omega arith in
    let d : IsDigits (decimal n) = (decimal_nonempty n small, digits_decimal own n small) in
    (λ e. ap (λ m. length (decimal m)) (decimal_first n small e) ∙ ap length (decimal_digit 0 (omega arith)), λ e. absurd (no_sign (decimal n) 45 d (omega arith) e))
decimal_short (negsuc n) w =
    let h = w.sfits in
    let small : suc n < 2 ^ 64 = omega arith in
    (λ e. absurd (omega arith), λ _ e. absurd (omega (arith, first_decimal (suc n) (omega arith) small)))

minus_is_decimal : (n : ℕ) (digits : List ℕ) (z : ℤ) → decimal n ≡ digits → get_or digits 0 0 ≢ 48 → z ≡ neg_ℤ (pos n) → 45 ∷ digits ≡ decimal_of z
minus_is_decimal zero digits z text first e = absurd (first (ap (λ t. get_or t 0 0) (sym text ∙ decimal_digit 0 (omega arith))))
minus_is_decimal (suc n) digits z text first e = rw e (ap (λ t. 45 ∷ t) (sym text))

-- no other numeral of the word has none
pub short_is_decimal : {text : List ℕ} {z : ℤ} → IsNumeral text z → IsShort text → text ≡ decimal_of z
short_is_decimal {text} (plain d e w) short =
    let v = (rw e at w).sfits in
    rw e (sym (decimal-digits_value own text d.1 d.0 short.0 (omega arith)))
short_is_decimal (minus {digits} d e w) short =
    let small = minus_of_word _ (rw e at w) in
    let first : get_or digits 0 0 ≢ 48 = short.1 refl in
    minus_is_decimal (place_value digits) digits _ (decimal-digits_value own digits d.1 d.0 (λ zero_first. absurd (first zero_first)) (omega arith)) first e
