-- The loops over the terms of a form.
use Rattle.std.proofs.Common.{◌^◌, ◌≡◌, ℕ, ◌+◌, ◌<◌, ◌≤◌, ◌⊎◌, inl, inr, ℤ, pos, List, [], ◌∷◌, length, get_or, take, drop, ◌++◌, refl, sym, ap, ◌∙◌, arith, subst, add-one, drop-cons}
use Rattle.std.specs.List.{AllByRecursion}
use Rattle.std.proofs.lemmas.Int.{ints, to_z-of_z}
use Rattle.std.proofs.lemmas.Bool.{false≢true}
use Rattle.std.proofs.lemmas.List.{take_more}
use Rattle.std.proofs.Math.IntN.{*ℤ_comm}
use Rattle.std.proofs.lemmas.List.{map-append}
use Rattle.std.proofs.Common.{◌+ℤ◌, ◌*ℤ◌, to_z, of_z, w64, SFits}
use Rattle.lq_linear.specs.Terms.{IsWithin, Term, Ascends, IsCoefficient, AreTerms, AreAlike, IsCollected, coefficient, terms_value, times}
use Rattle.std.specs.Prelude.{Option, Some, None, IfSome, IfNone, IsSome, ◌↔◌}
use Rattle.lq_linear.specs.Form.{Linear, IsForm, IsFormOf, HasForm, value_of, sum_of, multiple_of}
use Rattle.lq_linear.proofs.TermsLemmas.{coefficient-times, value-alike, value-append, value-times}
use Rattle.lq_linear.proofs.Whole.{mul_add, zero_mul}
use Rattle.lq_linear.proofs.Collecting.{times_collected, coefficient_at, form_within, Later, all_map, one_collected, terms_collected}

-- terms of a form, with symbols from n on
abbrev pub Rising : ℕ → List Term → Type 0
Rising n [] = Unit {0}
Rising n (t ∷ terms) = (n ≤ t.0) × IsCoefficient t.1 × Rising (t.0 + 1) terms

-- the term at a place, and what is behind it
pub drop_at : (terms : List Term) (i : ℕ) (d : Term) → i < length terms → drop i terms ≡ get_or terms i d ∷ drop (i + 1) terms
drop_at terms i d h = rw (add-one, drop-cons terms i d) refl

rising_later : (n m : ℕ) (terms : List Term) → m < n → Rising n terms → Later m terms
rising_later n m [] h k = tt
rising_later n m (t ∷ terms) h k = (omega (arith, k.0), rising_later (t.0 + 1) m terms (omega (arith, k.0)) k.2)

pub rising_ascends : (n : ℕ) (terms : List Term) → Rising n terms → Ascends terms
rising_ascends n [] h = tt
rising_ascends n (t ∷ terms) h = (rising_later (t.0 + 1) t.0 terms (omega arith) h.2, rising_ascends (t.0 + 1) terms h.2)

pub rising_coefficients : (n : ℕ) (terms : List Term) → Rising n terms → AllByRecursion (λ t. IsCoefficient t.1) terms
rising_coefficients n [] h = tt
rising_coefficients n (t ∷ terms) h = (h.1, rising_coefficients (t.0 + 1) terms h.2)

pub rising_if : (n : ℕ) (terms : List Term) → AllByRecursion (λ t. n ≤ t.0) terms → Ascends terms → AllByRecursion (λ t. IsCoefficient t.1) terms → Rising n terms
rising_if n [] f a c = tt
rising_if n (t ∷ terms) f a c = (f.0, c.0, rising_if (t.0 + 1) terms (all_map (λ u. t.0 < u.0) (λ u. t.0 + 1 ≤ u.0) (λ u k. omega arith) terms a.0) a.1 c.1)

from_zero : (terms : List Term) → AllByRecursion (λ t. 0 ≤ t.0) terms
from_zero [] = tt
from_zero (t ∷ terms) = (omega arith, from_zero terms)

pub are_terms_rise : (terms : List Term) → AreTerms terms → Rising 0 terms
are_terms_rise terms h = rising_if 0 terms (from_zero terms) h.ascending h.coefficients

-- a coefficient is what the machine holds for it
pub coefficient_held : (z : ℤ) → IsCoefficient z → to_z w64 (of_z w64 z) ≡ z
coefficient_held z h =
    let low = h.within.low in
    let high = h.within.high in
    to_z-of_z w64 z (omega (arith, ints))

-- so is the sum of a small number and a coefficient
pub sum_held : (y z : ℤ) → IsWithin (2 ^ 40) y → IsCoefficient z → to_z w64 (of_z w64 (to_z w64 (of_z w64 y) +ℤ to_z w64 (of_z w64 z))) ≡ y +ℤ z
sum_held y z g h =
    let low = h.within.low in
    let high = h.within.high in
    omega (arith, ints, g.low, g.high)

pub within_more : (n m : ℕ) (z : ℤ) → n ≤ m → IsWithin n z → IsWithin m z
within_more n m z h k = record { low = omega (arith, ints, k.low); high = omega (arith, ints, k.high) }

-- what `of` answers for collected terms that are alike to a sum's
module _ (whole sum : Linear) (alike : AreAlike whole.terms sum.terms) (same : whole.constant ≡ sum.constant) where
  pub of_form : (r : Option Linear) → IfSome r (λ f. f ≡ whole) → (IsSome r ↔ IsForm whole) → IfSome r (IsFormOf sum)
  of_form None e b = tt
  of_form (Some f) e b = record {
    is_form = subst IsForm (sym e) (b.0 refl);
    alike = λ s. ap (λ g. coefficient g.terms s) e ∙ alike s;
    same = ap (λ g. g.constant) e ∙ same;
  }

  pub of_none : (r : Option Linear) → IsCollected whole.terms → (IsSome r ↔ IsForm whole) → IfNone r (HasForm sum → ⊥)
  of_none None c b = λ h.
      let f = h.1 in
      let terms : (h.0).terms ≡ whole.terms = one_collected (h.0).terms whole.terms (terms_collected (h.0).terms f.is_form.are_terms) c (λ s. f.alike s ∙ sym (alike s)) in
      let is_form : IsForm whole = record {
        are_terms = subst AreTerms terms f.is_form.are_terms;
        within = subst (IsWithin (2 ^ 40)) (f.same ∙ sym same) f.is_form.within;
      } in
      false≢true (b.1 is_form)
  of_none (Some f) c b = tt

  pub of_value : (r : Option Linear) → IfSome r (λ f. f ≡ whole) → IfSome r (λ f. (v : ℕ → ℤ) → value_of v f ≡ value_of v sum)
  of_value None e = tt
  of_value (Some f) e = λ v. ap (value_of v) e ∙ ap (λ z. z +ℤ whole.constant) (value-alike v whole.terms sum.terms alike) ∙ ap (λ z. terms_value v sum.terms +ℤ z) same

pub value_sum : (v : ℕ → ℤ) (a b : Linear) → value_of v (sum_of a b) ≡ value_of v a +ℤ value_of v b
value_sum v a b = omega (arith, ints, value-append v a.terms b.terms)

pub value_multiple : (v : ℕ → ℤ) (z : ℤ) (a : Linear) → value_of v (multiple_of z a) ≡ z *ℤ value_of v a
value_multiple v z a = ap (λ y. y +ℤ (z *ℤ a.constant)) (value-times v z a.terms) ∙ sym (mul_add z (terms_value v a.terms) a.constant)

pub if_some : {X : Type 0} (P Q : X → Type 0) → ((x : X) → P x → Q x) → (r : Option X) → IfSome r P → IfSome r Q
if_some P Q f None h = tt
if_some P Q f (Some x) h = f x h

-- a multiple that has a form has its terms and its constant within the bounds
pub form_terms_within : (z : ℤ) (a : Linear) (i : ℕ) → Ascends a.terms → i < length a.terms → HasForm (multiple_of z a) → IsWithin (2 ^ 16) (z *ℤ (get_or a.terms i (0, pos 0)).1)
form_terms_within z a i up l h =
    let s = (get_or a.terms i (0, pos 0)).0 in
    subst (IsWithin (2 ^ 16)) (h.1.alike s ∙ coefficient-times z a.terms s ∙ ap (λ c. z *ℤ c) (coefficient_at a.terms i (0, pos 0) l up)) (form_within (h.0).terms s h.1.is_form.are_terms)

pub form_constant_within : (z : ℤ) (a : Linear) → HasForm (multiple_of z a) → IsWithin (2 ^ 40) (z *ℤ a.constant)
form_constant_within z a h = subst (IsWithin (2 ^ 40)) h.1.same h.1.is_form.within

times_zero : (z : ℤ) (terms : List Term) → z ≡ pos 0 → AreAlike [] (times z terms)
times_zero z terms e s = sym (coefficient-times z terms s ∙ ap (λ y. y *ℤ coefficient terms s) e ∙ zero_mul (coefficient terms s))

-- what the loop of a multiple leaves
pub scaled : (z : ℤ) (a terms : List Term) → ((z ≡ pos 0 → ⊥) × (terms ≡ times z a)) ⊎ ((z ≡ pos 0) × (terms ≡ [])) → IsCollected a → AreAlike terms (times z a) × IsCollected terms
scaled z a terms (inl h) k = (λ s. ap (λ l. coefficient l s) h.1, subst IsCollected (sym h.1) (times_collected z a h.0 k))
scaled z a terms (inr h) k = (λ s. ap (λ l. coefficient l s) h.1 ∙ times_zero z a h.0 s, subst IsCollected (sym h.1) (record { ascending = tt; no_zero = tt }))

pub times_more : (z : ℤ) (terms : List Term) (i : ℕ) → i < length terms → times z (take (i + 1) terms) ≡ times z (take i terms) ++ ((get_or terms i (0, pos 0)).0, z *ℤ (get_or terms i (0, pos 0)).1) ∷ []
times_more z terms i h = ap (times z) (take_more terms i (0, pos 0) h) ∙ map-append (λ t. (t.0, z *ℤ t.1)) (take i terms) (get_or terms i (0, pos 0) ∷ [])

pub within_fits : (z : ℤ) → IsWithin (2 ^ 40) z → SFits w64 z
within_fits z h = omega (arith, ints, h.low, h.high)

pub product_held : (y z : ℤ) → IsWithin (2 ^ 40) y → SFits w64 z → to_z w64 (of_z w64 y) *ℤ to_z w64 (of_z w64 z) ≡ z *ℤ y
product_held y z h k = ap (λ x. x *ℤ to_z w64 (of_z w64 z)) (to_z-of_z w64 y (within_fits y h)) ∙ ap (λ x. y *ℤ x) (to_z-of_z w64 z k) ∙ *ℤ_comm y z

-- a product that doesn't fit a word has no form
pub unfit : (y z : ℤ) (n : ℕ) → n ≤ 2 ^ 40 → IsWithin (2 ^ 40) y → SFits w64 z → (SFits w64 (to_z w64 (of_z w64 y) *ℤ to_z w64 (of_z w64 z)) → ⊥) → IsWithin n (z *ℤ y) → ⊥
unfit y z n l h k q w = q (subst (SFits w64) (sym (product_held y z h k)) (within_fits (z *ℤ y) (within_more n 1099511627776 (z *ℤ y) l w)))
