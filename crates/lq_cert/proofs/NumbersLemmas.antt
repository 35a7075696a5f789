-- Numbers that were read from words of lines.
use Rattle.std.proofs.Common.{◌≡◌, ℕ, ◌^◌, ◌<◌, ◌≤◌, List, Some, None, Result, Ok, Err, ℤ, pos, negsuc, nat_abs, w64, to_z, of_z, sym, ap, subst, ◌∙◌, arith, inl, inr}
use Rattle.std.specs.Int.{FitsUnsignedBits}
use Rattle.std.specs.Result.{OkIff, result_ok}
use Rattle.std.proofs.lemmas.Bool.{cases_lt}
use Rattle.std.proofs.lemmas.Int.{ints, to_z-of_z}
use Rattle.lq_linear.specs.Terms.{IsWithin, IsCoefficient}
use Rattle.lq_text.specs.Numeral.{IsWord, IsNumeral, IsShort, place_value, decimal_of}
use Rattle.lq_text.proofs.NumeralLemmas.{one_value_of, numeral_word, decimal_numeral, decimal_short, short_is_decimal}
use Rattle.lq_cert.specs.Numeral.{numeral, IsNatural}
use Rattle.lq_cert.specs.Right.{IsAllowed}
use Rattle.lq_cert.proofs.NumeralLemmas.{natural_numeral, natural_read, natural_value, natural_large, place_value-numeral}

-- ---- multipliers

-- a number from 1 and its digits
pub natural_of : {n : ℕ} {text : List ℕ} → 1 ≤ n → numeral n ≡ text → IsNatural text × (place_value text ≡ n)
natural_of {n} positive same = subst (λ t. IsNatural t × (place_value t ≡ n)) same (natural_numeral n positive, place_value-numeral n)

pub no_multiplier_below : {text : List ℕ} → IsNatural text → ((z : ℤ) → ¬ IsNumeral text z) → (n : ℕ) → IsAllowed n → numeral n ≡ text → ⊥
no_multiplier_below {text} natural none n allowed same =
    omega (arith, natural_large text natural none, (natural_of allowed.0 same).1)

-- what `try_from` gives at a number that was read from digits
number_of : {text : List ℕ} (z : ℤ) → IsNatural text → IsNumeral text z → to_z w64 (of_z w64 z) ≡ pos (place_value text)
number_of {text} z natural n = to_z-of_z w64 z (numeral_word n) ∙ natural_value text z natural n

-- what `try_from` makes of a number: the number itself, where it fits 32 bits
abbrev IsTried : {E : Type 0} → Result ℕ E → ℤ → Type 0
IsTried r z = OkIff r (FitsUnsignedBits 32 z) (nat_abs z)

tried_some : {E : Type 0} (r : Result ℕ E) (value m : ℕ) → IsTried r (pos value) → Some m ≡ result_ok r → m ≡ value
tried_some (Ok x) value m h e = let same : m ≡ x = cc in same ∙ h.1
tried_some (Err x) value m h e = absurd cc

tried_none : {E : Type 0} (r : Result ℕ E) (value : ℕ) → IsTried r (pos value) → None ≡ result_ok r → 2 ^ 32 ≤ value
tried_none (Ok x) value h e = absurd cc
tried_none (Err x) value h e = elim (cases_lt value (2 ^ 32)) [ inl lt ↦ absurd (h lt) | inr le ↦ le ]

pub multiplier_some : {E : Type 0} {text : List ℕ} (r : Result ℕ E) (z : ℤ) (m : ℕ) → IsNatural text → IsNumeral text z → IsTried r (to_z w64 (of_z w64 z)) → Some m ≡ result_ok r → m ≡ place_value text
multiplier_some {text = text} r z m natural n h e =
    tried_some r (place_value text) m (subst (IsTried r) (number_of z natural n) h) e

pub multiplier_none : {E : Type 0} {text : List ℕ} (r : Result ℕ E) (z : ℤ) → IsNatural text → IsNumeral text z → IsTried r (to_z w64 (of_z w64 z)) → None ≡ result_ok r → 2 ^ 32 ≤ place_value text
multiplier_none {text = text} r z natural n h e =
    tried_none r (place_value text) (subst (IsTried r) (number_of z natural n) h) e

pub allowed_read : {text : List ℕ} (m : ℕ) → IsNatural text → m ≡ place_value text → m ≤ 2 ^ 20 → IsAllowed m × (numeral m ≡ text)
allowed_read {text} m natural e small =
    let r = natural_read text natural in
    ((omega (arith, r.0), omega arith), ap numeral e ∙ r.1)

-- ---- signed numbers

pub word_of_within : (most : ℕ) (z : ℤ) → most < 2 ^ 63 → IsWithin most z → IsWord z
word_of_within most (pos n) small h = let low = h.low in let high = h.high in record { sfits = omega (arith, ints) }
word_of_within most (negsuc n) small h = let low = h.low in let high = h.high in record { sfits = omega (arith, ints) }

within_abs : (most : ℕ) (z : ℤ) → nat_abs z ≤ most → IsWithin most z
within_abs most (pos n) h = record { low = omega (arith, ints); high = omega (arith, ints) }
within_abs most (negsuc n) h = record { low = omega (arith, ints); high = omega (arith, ints) }

abs_within : (most : ℕ) (z : ℤ) → IsWithin most z → nat_abs z ≤ most
abs_within most (pos n) h = let low = h.low in let high = h.high in omega (arith, ints)
abs_within most (negsuc n) h = let low = h.low in let high = h.high in omega (arith, ints)

-- the text of a number within a bound is a short numeral
pub text_of_within : (most : ℕ) (z : ℤ) (text : List ℕ) → most < 2 ^ 63 → IsWithin most z → decimal_of z ≡ text → IsNumeral text z × IsShort text
text_of_within most z text small h same =
    let word = word_of_within most z small h in
    subst (λ t. IsNumeral t z × IsShort t) same (decimal_numeral z word, decimal_short z word)

-- a number that was read, within the bound or not
pub within_read : (most : ℕ) (z : ℤ) (text : List ℕ) (size : ℕ) → IsNumeral text z → IsShort text → size ≡ nat_abs (to_z w64 (of_z w64 z)) → size ≤ most → IsWithin most (to_z w64 (of_z w64 z)) × (decimal_of (to_z w64 (of_z w64 z)) ≡ text)
within_read most z text size n short e le =
    let same = to_z-of_z w64 z (numeral_word n) in
    (within_abs most _ (omega arith), ap decimal_of same ∙ sym (short_is_decimal n short))

pub not_within_read : (most : ℕ) (z : ℤ) (text : List ℕ) (size : ℕ) → most < 2 ^ 63 → IsNumeral text z → size ≡ nat_abs (to_z w64 (of_z w64 z)) → most < size → (other : ℤ) → IsWithin most other → decimal_of other ≡ text → ⊥
not_within_read most z text size small n e above other h same =
    let equal = one_value_of text other z (text_of_within most other text small h same).0 n in
    let abs : size ≡ nat_abs other = e ∙ ap nat_abs (to_z-of_z w64 z (numeral_word n)) ∙ ap nat_abs (sym equal) in
    omega (arith, abs_within most other h)

-- 0 is no coefficient
pub no_zero : (z : ℤ) (text : List ℕ) (most : ℕ) → most < 2 ^ 63 → IsWithin most z → decimal_of z ≡ text → of_z w64 z ≡ 0 → (other : ℤ) → IsCoefficient other → decimal_of other ≡ text → ⊥
no_zero z text most small h same zero_bits other c equal =
    let n = (text_of_within most z text small h same).0 in
    let m = (text_of_within (2 ^ 16) other text (omega arith) c.within equal).0 in
    let zero : z ≡ pos 0 = sym (to_z-of_z w64 z (numeral_word n)) ∙ ap (to_z w64) zero_bits in
    c.not_zero (one_value_of text other z m n ∙ zero)
