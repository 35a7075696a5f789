-- Natural numbers and their digits.
use Rattle.std.proofs.Common.{◌≡◌, ℕ, zero, suc, ◌+◌, ◌*◌, ◌-◌, ◌/◌, ◌%◌, ◌^◌, ◌<◌, ◌≤◌, ltb, List, [], ◌∷◌, ◌++◌, length, get_or, ℤ, pos, refl, sym, ap, subst, ◌∙◌, arith, inl, inr, length-append}
use Rattle.std.specs.Char.{IsAsciiDigit}
use Rattle.std.specs.List.{AllByRecursion}
use Rattle.std.specs.Fmt.{decimal}
use Rattle.std.proofs.lemmas.Bool.{cases_lt, cond-true, cond-false, lt-ltb, le-ltb}
use Rattle.std.proofs.lemmas.Nat.{pow-add}
use Rattle.std.proofs.Math.Nat.{mul_assoc, mul-le-mul, one-le-pow}
use Rattle.std.proofs.lemmas.Fmt.{digits_decimal, digits_value-decimal, first_decimal, decimal_digit}
use Rattle.lq_text.specs.Numeral.{place_value, IsNumeral}
use Rattle.lq_text.specs.Numeral.IsNumeral.{plain, minus}
use Rattle.lq_text.proofs.Lists.{all_left, all_right, all_joined}
use Rattle.lq_text.proofs.NumeralLemmas.{own}
use Rattle.lq_cert.specs.Numeral.{last_digits, numeral, IsNatural}

-- one digit
last_one : (most n : ℕ) → n < 10 → last_digits (suc most) n ≡ (48 + n) ∷ []
last_one most n small = cond-true (ltb n 10) _ _ (lt-ltb n 10 small)

-- more than one
last_more : (most n : ℕ) → 10 ≤ n → last_digits (suc most) n ≡ last_digits most (n / 10) ++ (48 + n % 10) ∷ []
last_more most n large = cond-false (ltb n 10) _ _ (le-ltb n 10 large)

-- a digit more at the end
place_value-push : (digits : List ℕ) (digit : ℕ) → place_value (digits ++ digit ∷ []) ≡ place_value digits * 10 + (digit - 48)
place_value-push [] digit = omega arith
place_value-push (first ∷ digits) digit =
    let more = place_value-push digits digit in
    let long : length (digits ++ digit ∷ []) ≡ length digits + 1 = length-append digits (digit ∷ []) in
    let power : 10 ^ length (digits ++ digit ∷ []) ≡ 10 ^ length digits * 10 = ap (λ k. 10 ^ k) long ∙ pow-add 10 (length digits) 1 in
    let moved : (first - 48) * 10 ^ length (digits ++ digit ∷ []) ≡ (first - 48) * 10 ^ length digits * 10 = ap (λ k. (first - 48) * k) power ∙ sym (mul_assoc (first - 48) (10 ^ length digits) 10) in
    omega arith

-- the digits of a number below `most` are digits and write it, and begin with another one than 0 where it isn't 0
pub record AreDigitsOf (n : ℕ) (digits : List ℕ) : Type 0 where
  pub all : AllByRecursion IsAsciiDigit digits
  pub value : place_value digits ≡ n
  pub some : 0 < length digits
  pub first : 0 < n → 48 < get_or digits 0 0

first-append : (a b : List ℕ) → 0 < length a → get_or (a ++ b) 0 0 ≡ get_or a 0 0
first-append [] b some = absurd (omega arith)
first-append (x ∷ a) b some = refl

one_digit : (n : ℕ) → n < 10 → AreDigitsOf n ((48 + n) ∷ [])
one_digit n small = record {
  all = (omega arith, tt);
  value = omega arith;
  some = omega arith;
  first = λ h. omega arith;
}

digit_more : (n : ℕ) (digits : List ℕ) → 10 ≤ n → AreDigitsOf (n / 10) digits → AreDigitsOf n (digits ++ (48 + n % 10) ∷ [])
digit_more n digits large d = record {
  all = all_joined _ digits _ d.all (omega arith, tt);
  value = place_value-push digits (48 + n % 10) ∙ (let value = d.value in omega arith);
  some = omega (arith, length-append digits ((48 + n % 10) ∷ []));
  first = λ h. rw (first-append digits ((48 + n % 10) ∷ []) d.some) (d.first (omega arith));
}

last_digits_are : (most n : ℕ) → n < most → AreDigitsOf n (last_digits most n)
last_digits_are zero n h = absurd (omega arith)
last_digits_are (suc most) n h =
    elim (cases_lt n 10) [
      | inl small ↦ rw (last_one most n small) (one_digit n small)
      | inr large ↦ rw (last_more most n large) (digit_more n _ large (last_digits_are most (n / 10) (omega arith)))
    ]

pub numeral_digits : (n : ℕ) → AreDigitsOf n (numeral n)
unfolding numeral
numeral_digits n = last_digits_are (n + 1) n (omega arith)

-- ---- digits that are those of their number

-- a list that isn't empty has a last element
last_of : (first : ℕ) (rest : List ℕ) → (front : List ℕ) × (last : ℕ) × (first ∷ rest ≡ front ++ last ∷ [])
last_of first [] = ([], first, refl)
last_of first (next ∷ rest) =
    let r = last_of next rest in
    (first ∷ r.0, r.1, ap (λ xs. first ∷ xs) r.2)

value_positive : (digits : List ℕ) → IsNatural digits → 0 < place_value digits
value_positive [] h = absurd (omega arith)
value_positive (first ∷ digits) h =
    let power : 0 < 10 ^ length digits = one-le-pow (length digits) 10 (omega arith) in
    let digit : 1 ≤ first - 48 = omega (arith, h.1) in
    let product : 1 * 1 ≤ (first - 48) * 10 ^ length digits = mul-le-mul digit power in
    omega arith

-- one digit more behind digits of a natural number
natural_front : (front : List ℕ) (last : ℕ) → 0 < length front → IsNatural (front ++ last ∷ []) → IsNatural front
natural_front front last some h = (all_left _ front (last ∷ []) h.0, rw (first-append front (last ∷ []) some) at h.1)

-- one digit more, where the digits before are those of their number
one_more : (most : ℕ) (front : List ℕ) (last : ℕ) → ((digits : List ℕ) → IsNatural digits → place_value digits < most → last_digits most (place_value digits) ≡ digits) → IsNatural (front ++ last ∷ []) → place_value (front ++ last ∷ []) < suc most → last_digits (suc most) (place_value (front ++ last ∷ [])) ≡ front ++ last ∷ []
one_more most [] last before h low =
    let value : place_value (last ∷ []) ≡ last - 48 = omega arith in
    rw value (last_one most (last - 48) (omega (arith, h.0.0)) ∙ ap (λ d. d ∷ []) (omega (arith, h.1)))
one_more most (first ∷ rest) last before h low =
    let front : List ℕ = first ∷ rest in
    let natural : IsNatural front = natural_front front last (omega arith) h in
    let positive = value_positive front natural in
    let digit = all_right _ front (last ∷ []) h.0 in
    let value = place_value-push front last in
    let tens : place_value (front ++ last ∷ []) / 10 ≡ place_value front = omega (arith, digit.0) in
    let ones : 48 + place_value (front ++ last ∷ []) % 10 ≡ last = omega (arith, digit.0) in
    last_more most (place_value (front ++ last ∷ [])) (omega arith)
    ∙ ap (λ n. last_digits most n ++ (48 + place_value (front ++ last ∷ []) % 10) ∷ []) tens
    ∙ ap (λ d. last_digits most (place_value front) ++ d ∷ []) ones
    ∙ ap (λ ds. ds ++ last ∷ []) (before front natural (omega arith))

-- the last digits of what digits write, where there is room, are the digits
digits_of_value : (most : ℕ) (digits : List ℕ) → IsNatural digits → place_value digits < most → last_digits most (place_value digits) ≡ digits
digits_of_value zero digits h low = absurd (omega arith)
digits_of_value (suc most) [] h low = absurd (omega (arith, h.1))
digits_of_value (suc most) (first ∷ rest) h low =
    let r = last_of first rest in
    let h' : IsNatural (r.0 ++ r.1 ∷ []) = subst IsNatural r.2 h in
    let low' : place_value (r.0 ++ r.1 ∷ []) < suc most = subst (λ ds. place_value ds < suc most) r.2 low in
    subst (λ ds. last_digits (suc most) (place_value ds) ≡ ds) (sym r.2) (one_more most r.0 r.1 (λ ds n l. digits_of_value most ds n l) h' low')

pub numeral-place_value : (digits : List ℕ) → IsNatural digits → numeral (place_value digits) ≡ digits
unfolding numeral
numeral-place_value digits h = digits_of_value (place_value digits + 1) digits h (omega arith)

-- the digits of a number from 1 are those of a natural number
pub natural_numeral : (n : ℕ) → 0 < n → IsNatural (numeral n)
natural_numeral n positive = ((numeral_digits n).all, (numeral_digits n).first positive)

pub place_value-numeral : (n : ℕ) → place_value (numeral n) ≡ n
place_value-numeral n = (numeral_digits n).value

-- what digits of natural numbers read as
pub natural_read : (digits : List ℕ) → IsNatural digits → (1 ≤ place_value digits) × (numeral (place_value digits) ≡ digits)
natural_read digits h = (value_positive digits h, numeral-place_value digits h)

-- printed digits of a number from 1
pub natural_decimal : (digits : List ℕ) (n : ℕ) → digits ≡ decimal n → 0 < n → n < 2 ^ 64 → IsNatural digits × (place_value digits ≡ n)
natural_decimal digits n e positive small =
    rw e ((digits_decimal own n small, first_decimal n positive small), digits_value-decimal own n small)

one_of_value : (n : ℕ) → 0 < n → n < 2 ^ 64 → numeral n ≡ decimal n
one_of_value n positive small =
    let printed = natural_decimal (decimal n) n refl positive small in
    ap numeral (sym printed.1) ∙ numeral-place_value (decimal n) printed.0

numeral_zero : numeral 0 ≡ 48 ∷ []
unfolding numeral
numeral_zero = last_one 0 0 (omega arith)

-- below 2^64 the digits are those that are printed
pub numeral_decimal : (n : ℕ) → n < 2 ^ 64 → numeral n ≡ decimal n
numeral_decimal zero small = numeral_zero ∙ sym (decimal_digit 0 (omega arith))
numeral_decimal (suc n) small = one_of_value (suc n) (omega arith) small

-- ---- what reading a number gives

natural_some : (digits : List ℕ) → IsNatural digits → 0 < length digits
natural_some [] h = absurd (omega (arith, h.1))
natural_some (first ∷ rest) h = omega arith

pub natural_is_numeral : (digits : List ℕ) → IsNatural digits → place_value digits < 2 ^ 63 → IsNumeral digits (pos (place_value digits))
natural_is_numeral digits h small = plain (natural_some digits h, h.0) refl (record { sfits = omega arith })

pub numeral_of_natural : {digits : List ℕ} {z : ℤ} → IsNatural digits → IsNumeral digits z → (z ≡ pos (place_value digits)) × (place_value digits < 2 ^ 63)
numeral_of_natural h (plain d e w) = (e, (rw e at w).sfits)
numeral_of_natural h (minus d e w) = absurd (omega (arith, h.1))

-- what a number that was read says of digits of a natural number
pub natural_value : (digits : List ℕ) (z : ℤ) → IsNatural digits → IsNumeral digits z → z ≡ pos (place_value digits)
natural_value digits z h n = (numeral_of_natural h n).0

-- digits of a natural number that are no numeral write a large number
pub natural_large : (digits : List ℕ) → IsNatural digits → ((z : ℤ) → ¬ IsNumeral digits z) → 2 ^ 63 ≤ place_value digits
natural_large digits h none =
    elim (cases_lt (place_value digits) (2 ^ 63)) [
      | inl small ↦ absurd (none (pos (place_value digits)) (natural_is_numeral digits h small))
      | inr large ↦ large
    ]
