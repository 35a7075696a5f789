-- The test of a row tells whether it is within the bounds of rows, and collected.
use Rattle.std.proofs.Common.{◌≡◌, subst, ℕ, suc, ◌<◌, ◌^◌, ℤ, pos, negsuc, Bool, true, false, Option, None, Some, not, ltb, leb, ◌&&◌, List, [], ◌∷◌, length, refl, sym, ap, ◌∙◌, inl, inr, arith}
use Rattle.std.specs.List.{AllByRecursion, list_all}
use Rattle.std.specs.Prelude.{◌↔◌, IsSome, IfSome}
use Rattle.std.specs.Ordering.{int_eq}
use Rattle.std.proofs.lemmas.Int.{ints}
use Rattle.std.proofs.lemmas.Bool.{cases_Bool, false≢true, and_parts, and_from, ltb-true, lt-ltb, leb-true, le-leb}
use Rattle.std.proofs.lemmas.Bool.Decides.{Decides-int_eq}
use Rattle.lq_linear.specs.Terms.{Term, Ascends, IsCoefficient, IsWithin, AreTerms}
use Rattle.lq_linear.specs.Form.{Linear, IsForm}
use Rattle.lq_linear.specs.Row.{Inequality}
use Rattle.lq_linear.specs.Collect.{is_within}
use Rattle.lq_instances.specs.Instances.{is_ascending, is_multiple, is_row}
use Rattle.lq_instances.specs.Cuts.{IsKept}

within_if : (n : ℕ) (z : ℤ) → is_within n z ≡ true → IsWithin n z
within_if n (pos k) e = let most = leb-true k n e in record { low = omega (arith, ints, most); high = omega (arith, ints, most) }
within_if n (negsuc k) e = let most = leb-true (suc k) n e in record { low = omega (arith, ints, most); high = omega (arith, ints, most) }

if_within : (n : ℕ) (z : ℤ) → IsWithin n z → is_within n z ≡ true
if_within n (pos k) w = let high = w.high in le-leb k n (omega (arith, ints, high))
if_within n (negsuc k) w = let low = w.low in le-leb (suc k) n (omega (arith, ints, low))

later_if : (n : ℕ) (terms : List Term) → list_all (λ (later : Term). ltb n later.0) terms ≡ true → AllByRecursion (λ (later : Term). n < later.0) terms
later_if n [] e = tt
later_if n (t ∷ terms) e = let parts = and_parts (ltb n t.0) (list_all (λ (later : Term). ltb n later.0) terms) e in (ltb-true n t.0 parts.0, later_if n terms parts.1)

if_later : (n : ℕ) (terms : List Term) → AllByRecursion (λ (later : Term). n < later.0) terms → list_all (λ (later : Term). ltb n later.0) terms ≡ true
if_later n [] h = refl
if_later n (t ∷ terms) h = and_from (ltb n t.0) (list_all (λ (later : Term). ltb n later.0) terms) (lt-ltb n t.0 h.0) (if_later n terms h.1)

ascends_if : (terms : List Term) → is_ascending terms ≡ true → Ascends terms
ascends_if [] e = tt
ascends_if (t ∷ terms) e = let parts = and_parts (list_all (λ (later : Term). ltb t.0 later.0) terms) (is_ascending terms) e in (later_if t.0 terms parts.0, ascends_if terms parts.1)

if_ascends : (terms : List Term) → Ascends terms → is_ascending terms ≡ true
if_ascends [] h = refl
if_ascends (t ∷ terms) h = and_from (list_all (λ (later : Term). ltb t.0 later.0) terms) (is_ascending terms) (if_later t.0 terms h.0) (if_ascends terms h.1)

clash : {b : Bool} → b ≡ true → b ≡ false → ⊥
clash is isnt = cc

not_is : (b : Bool) → not b ≡ true → b ≡ false
not_is true h = absurd cc
not_is false h = refl

multiple_if : (z : ℤ) → is_multiple z ≡ true → IsCoefficient z
multiple_if z e =
    let parts = and_parts (not (int_eq z (pos 0))) (is_within (2 ^ 16) z) e in
    record { not_zero = λ zero. clash ((Decides-int_eq z (pos 0)).1 zero) (not_is (int_eq z (pos 0)) parts.0); within = within_if (2 ^ 16) z parts.1 }

not_zero_test : (b : Bool) → (b ≡ true → ⊥) → not b ≡ true
not_zero_test true h = absurd (h refl)
not_zero_test false h = refl

if_multiple : (z : ℤ) → IsCoefficient z → is_multiple z ≡ true
if_multiple z h = and_from (not (int_eq z (pos 0))) (is_within (2 ^ 16) z) (not_zero_test (int_eq z (pos 0)) (λ e. h.not_zero ((Decides-int_eq z (pos 0)).0 e))) (if_within (2 ^ 16) z h.within)

multiples_if : (terms : List Term) → list_all (λ (t : Term). is_multiple t.1) terms ≡ true → AllByRecursion (λ (t : Term). IsCoefficient t.1) terms
multiples_if [] e = tt
multiples_if (t ∷ terms) e = let parts = and_parts (is_multiple t.1) (list_all (λ (t : Term). is_multiple t.1) terms) e in (multiple_if t.1 parts.0, multiples_if terms parts.1)

if_multiples : (terms : List Term) → AllByRecursion (λ (t : Term). IsCoefficient t.1) terms → list_all (λ (t : Term). is_multiple t.1) terms ≡ true
if_multiples [] h = refl
if_multiples (t ∷ terms) h = and_from (is_multiple t.1) (list_all (λ (t : Term). is_multiple t.1) terms) (if_multiple t.1 h.0) (if_multiples terms h.1)

-- a row that passes the test is a row
pub row_if : (row : Inequality) → is_row row ≡ true → AreTerms row.terms × IsWithin (2 ^ 40) row.most
row_if row e =
    let all = list_all (λ (t : Term). is_multiple t.1) row.terms in
    let outer = and_parts (is_ascending row.terms && all) (leb (length row.terms) 16 && is_within (2 ^ 40) row.most) e in
    let left = and_parts (is_ascending row.terms) all outer.0 in
    let right = and_parts (leb (length row.terms) 16) (is_within (2 ^ 40) row.most) outer.1 in
    (record { ascending = ascends_if row.terms left.0; coefficients = multiples_if row.terms left.1; few = leb-true (length row.terms) 16 right.0 }, within_if (2 ^ 40) row.most right.1)

-- and a row passes it
pub if_row : (row : Inequality) → AreTerms row.terms → IsWithin (2 ^ 40) row.most → is_row row ≡ true
if_row row terms within =
    let all = list_all (λ (t : Term). is_multiple t.1) row.terms in
    and_from (is_ascending row.terms && all) (leb (length row.terms) 16 && is_within (2 ^ 40) row.most)
    (and_from (is_ascending row.terms) all (if_ascends row.terms terms.ascending) (if_multiples row.terms terms.coefficients))
    (and_from (leb (length row.terms) 16) (is_within (2 ^ 40) row.most) (le-leb (length row.terms) 16 terms.few) (if_within (2 ^ 40) row.most within))

-- where it is none it doesn't
pub no_row : (row : Inequality) → (AreTerms row.terms → IsWithin (2 ^ 40) row.most → ⊥) → is_row row ≡ false
no_row row none = elim (cases_Bool (is_row row)) [
  | inl is ↦ let bounds = row_if row is in absurd (none bounds.0 bounds.1)
  | inr isnt ↦ isnt
]

-- ---- what is made of terms

pub made_none : (terms : List Term) (most : ℤ) → (IsSome {T = Linear} None ↔ IsForm (record { terms = terms; constant = pos 0 })) → is_row (record { terms = terms; most = most }) ≡ false
made_none terms most bounds =
    no_row (record { terms = terms; most = most }) (λ are within. false≢true (bounds.1 (record { are_terms = are; within = within_if (2 ^ 40) (pos 0) refl })))

pub made_some : (terms : List Term) (most sent : ℤ) (form : Linear) (made : Option Inequality) → sent ≡ most → form ≡ record { terms = terms; constant = pos 0 } → (IsSome {T = Linear} (Some form) ↔ IsForm (record { terms = terms; constant = pos 0 }))
    → IfSome made (λ row. row ≡ record { terms = form.terms; most = sent }) → (IsSome made ↔ ((form.constant ≡ pos 0) × IsWithin (2 ^ 40) sent)) → IsKept (record { terms = terms; most = most }) made
made_some terms most sent form None same is_form bounds is_row_of row_bounds =
    no_row (record { terms = terms; most = most }) (λ are within. false≢true (row_bounds.1 (ap (λ (f : Linear). f.constant) is_form, subst (IsWithin (2 ^ 40)) (sym same) within)))
made_some terms most sent form (Some row) same is_form bounds is_row_of row_bounds =
    (whole, ap is_row whole ∙ if_row (record { terms = terms; most = most }) (bounds.0 refl).are_terms (subst (IsWithin (2 ^ 40)) same (row_bounds.0 refl).1)) where
      whole : row ≡ record { terms = terms; most = most }
      whole = is_row_of ∙ (ap (λ (f : Linear). record { terms = f.terms; most = sent }) is_form ∙ ap (λ (z : ℤ). record { terms = terms; most = z }) same)

pub kept_as : (terms others : List Term) (most other : ℤ) (made : Option Inequality) → terms ≡ others → most ≡ other → IsKept (record { terms = terms; most = most }) made → IsKept (record { terms = others; most = other }) made
kept_as terms others most other made same_terms same_most kept =
    subst (λ (ts : List Term). IsKept (record { terms = ts; most = other }) made) same_terms (subst (λ (z : ℤ). IsKept (record { terms = terms; most = z }) made) same_most kept)
