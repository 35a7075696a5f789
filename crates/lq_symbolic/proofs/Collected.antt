-- Sums that are collected: they are alike, and within the bounds exactly where some form or row is.
use Rattle.std.proofs.Common.{◌≡◌, ℕ, suc, ◌<◌, ◌≤◌, ◌^◌, ℤ, pos, negsuc, ◌+ℤ◌, Bool, true, false, cond, eqb, ltb, leb, List, [], ◌∷◌, length, Option, None, Some, refl, sym, ap, ◌∙◌, arith, subst}
use Rattle.std.specs.Prelude.{◌&&◌}
use Rattle.std.specs.List.{AllByRecursion, list_all}
use Rattle.std.specs.Ordering.{int_eq}
use Rattle.std.specs.Cmp.{signed_Decides}
use Rattle.std.specs.Cmp.Derive.{both_true}
use Rattle.std.proofs.lemmas.Int.{ints}
use Rattle.std.proofs.lemmas.Bool.{and_parts, eqb-true, eqb-false, ltb-true, ltb-false, leb-true, le-leb, cond_both, false≢true}
use Rattle.lq_linear.specs.Terms.{Term, coefficient, AreAlike, Ascends, IsCoefficient, IsWithin, AreTerms, IsCollected}
use Rattle.lq_linear.specs.Form.{Linear, IsFormOf}
use Rattle.lq_linear.specs.Row.{Inequality, IsBounded}
use Rattle.lq_linear.specs.Collect.{with_first, with_term, collected, is_within, are_bounded, as_form, as_row}
use Rattle.lq_linear.proofs.Collecting.{Later, later_from, one_collected, terms_collected}

-- ---- a term in its place

NoZero : List Term → Type 0
NoZero terms = AllByRecursion (λ t. t.1 ≡ pos 0 → ⊥) terms

first_coefficient : (t : Term) (rest : List Term) (x : ℕ) → coefficient (with_first t rest) x ≡ cond (eqb t.0 x) t.1 (pos 0) +ℤ coefficient rest x
first_coefficient t rest x =
    cond_both (int_eq t.1 (pos 0)) rest (t ∷ rest) (λ l. coefficient l x ≡ cond (eqb t.0 x) t.1 (pos 0) +ℤ coefficient rest x)
    (λ e. let nothing : cond (eqb t.0 x) t.1 (pos 0) ≡ pos 0 = ap (λ y. cond (eqb t.0 x) y (pos 0)) ((signed_Decides t.1 (pos 0)).0 e) ∙ both_zero (eqb t.0 x) in omega (arith, ints))
    (λ e. refl) where
      both_zero : (b : Bool) → cond b (pos 0) (pos 0) ≡ pos 0
      both_zero true = refl
      both_zero false = refl

term_alike : (t : Term) (terms : List Term) → AreAlike (with_term t terms) (t ∷ terms)
term_alike t [] x = first_coefficient t [] x
term_alike t (f ∷ terms) x =
    let whole : ℤ = cond (eqb t.0 x) t.1 (pos 0) +ℤ (cond (eqb f.0 x) f.1 (pos 0) +ℤ coefficient terms x) in
    cond_both (ltb t.0 f.0) (with_first t (f ∷ terms)) (cond (eqb t.0 f.0) (with_first (t.0, t.1 +ℤ f.1) terms) (f ∷ with_term t terms)) (λ l. coefficient l x ≡ whole)
    (λ e. first_coefficient t (f ∷ terms) x)
    (λ e. cond_both (eqb t.0 f.0) (with_first (t.0, t.1 +ℤ f.1) terms) (f ∷ with_term t terms) (λ l. coefficient l x ≡ whole)
    (λ k. let at : cond (eqb t.0 x) f.1 (pos 0) ≡ cond (eqb f.0 x) f.1 (pos 0) = ap (λ y. cond (eqb y x) f.1 (pos 0)) (eqb-true t.0 f.0 k) in
    omega (arith, ints, first_coefficient (t.0, t.1 +ℤ f.1) terms x, summed (eqb t.0 x) t.1 f.1, at))
    (λ k. omega (arith, ints, term_alike t terms x))) where
      summed : (b : Bool) (y z : ℤ) → cond b (y +ℤ z) (pos 0) ≡ cond b y (pos 0) +ℤ cond b z (pos 0)
      summed true y z = refl
      summed false y z = refl

first_later : (r : ℕ) (t : Term) (rest : List Term) → r < t.0 → Later r rest → Later r (with_first t rest)
first_later r t rest l h = cond_both (int_eq t.1 (pos 0)) rest (t ∷ rest) (Later r) (λ e. h) (λ e. (l, h))

first_ascends : (t : Term) (rest : List Term) → Later t.0 rest → Ascends rest → Ascends (with_first t rest)
first_ascends t rest l h = cond_both (int_eq t.1 (pos 0)) rest (t ∷ rest) Ascends (λ e. h) (λ e. (l, h))

first_no_zero : (t : Term) (rest : List Term) → NoZero rest → NoZero (with_first t rest)
unfolding NoZero
first_no_zero t rest h =
    cond_both (int_eq t.1 (pos 0)) rest (t ∷ rest) (AllByRecursion (λ t. t.1 ≡ pos 0 → ⊥)) (λ e. h)
    (λ e. ((λ zero. false≢true (sym e ∙ (signed_Decides t.1 (pos 0)).1 zero)), h))

term_later : (r : ℕ) (t : Term) (terms : List Term) → r < t.0 → Later r terms → Later r (with_term t terms)
term_later r t [] l h = first_later r t [] l tt
term_later r t (f ∷ terms) l h =
    cond_both (ltb t.0 f.0) (with_first t (f ∷ terms)) (cond (eqb t.0 f.0) (with_first (t.0, t.1 +ℤ f.1) terms) (f ∷ with_term t terms)) (Later r)
    (λ e. first_later r t (f ∷ terms) l h)
    (λ e. cond_both (eqb t.0 f.0) (with_first (t.0, t.1 +ℤ f.1) terms) (f ∷ with_term t terms) (Later r)
    (λ k. first_later r (t.0, t.1 +ℤ f.1) terms l h.1)
    (λ k. (h.0, term_later r t terms l h.1)))

term_ascends : (t : Term) (terms : List Term) → Ascends terms → Ascends (with_term t terms)
term_ascends t [] h = first_ascends t [] tt tt
term_ascends t (f ∷ terms) h =
    cond_both (ltb t.0 f.0) (with_first t (f ∷ terms)) (cond (eqb t.0 f.0) (with_first (t.0, t.1 +ℤ f.1) terms) (f ∷ with_term t terms)) Ascends
    (λ e. let less = ltb-true t.0 f.0 e in first_ascends t (f ∷ terms) (less, later_from f.0 t.0 terms (omega (arith, less)) h.0) h)
    (λ e. cond_both (eqb t.0 f.0) (with_first (t.0, t.1 +ℤ f.1) terms) (f ∷ with_term t terms) Ascends
    (λ k. let same = eqb-true t.0 f.0 k in first_ascends (t.0, t.1 +ℤ f.1) terms (later_from f.0 t.0 terms (omega (arith, same)) h.0) h.1)
    (λ k. (term_later f.0 t terms (above f.0 t.0 (ltb-false t.0 f.0 e) (eqb-false t.0 f.0 k)) h.0, term_ascends t terms h.1))) where
      above : (a b : ℕ) → a ≤ b → (b ≡ a → ⊥) → a < b
      above a b h k = omega arith

term_no_zero : (t : Term) (terms : List Term) → NoZero terms → NoZero (with_term t terms)
unfolding NoZero
term_no_zero t [] h = first_no_zero t [] tt
term_no_zero t (f ∷ terms) h =
    cond_both (ltb t.0 f.0) (with_first t (f ∷ terms)) (cond (eqb t.0 f.0) (with_first (t.0, t.1 +ℤ f.1) terms) (f ∷ with_term t terms)) (AllByRecursion (λ t. t.1 ≡ pos 0 → ⊥))
    (λ e. first_no_zero t (f ∷ terms) h)
    (λ e. cond_both (eqb t.0 f.0) (with_first (t.0, t.1 +ℤ f.1) terms) (f ∷ with_term t terms) (AllByRecursion (λ t. t.1 ≡ pos 0 → ⊥))
    (λ k. first_no_zero (t.0, t.1 +ℤ f.1) terms h.1)
    (λ k. (h.0, term_no_zero t terms h.1)))

-- ---- all terms

pub collected_alike : (terms : List Term) → AreAlike (collected terms) terms
collected_alike [] x = refl
collected_alike (t ∷ terms) x =
    term_alike t (collected terms) x ∙ ap (λ c. cond (eqb t.0 x) t.1 (pos 0) +ℤ c) (collected_alike terms x)

collected_ascends : (terms : List Term) → Ascends (collected terms)
collected_ascends [] = tt
collected_ascends (t ∷ terms) = term_ascends t (collected terms) (collected_ascends terms)

collected_no_zero : (terms : List Term) → NoZero (collected terms)
unfolding NoZero
collected_no_zero [] = tt
collected_no_zero (t ∷ terms) = term_no_zero t (collected terms) (collected_no_zero terms)

pub are_collected : (terms : List Term) → IsCollected (collected terms)
unfolding NoZero
are_collected terms = record { ascending = collected_ascends terms; no_zero = collected_no_zero terms }

-- ---- the bounds

pub within_if : (n : ℕ) (z : ℤ) → is_within n z ≡ true → IsWithin n z
within_if n (pos k) e = let most = leb-true k n e in record { low = omega (arith, ints, most); high = omega (arith, ints, most) }
within_if n (negsuc k) e = let most = leb-true (suc k) n e in record { low = omega (arith, ints, most); high = omega (arith, ints, most) }

pub if_within : (n : ℕ) (z : ℤ) → IsWithin n z → is_within n z ≡ true
if_within n (pos k) w = let high = w.high in le-leb k n (omega (arith, ints, high))
if_within n (negsuc k) w = let low = w.low in le-leb (suc k) n (omega (arith, ints, low))

coefficients_if : (terms : List Term) → AllByRecursion (λ t. t.1 ≡ pos 0 → ⊥) terms → list_all (λ (t : Term). is_within (2 ^ 16) t.1) terms ≡ true → AllByRecursion (λ t. IsCoefficient t.1) terms
coefficients_if [] h e = tt
coefficients_if (t ∷ terms) h e =
    let both = and_parts (is_within (2 ^ 16) t.1) (list_all (λ (t : Term). is_within (2 ^ 16) t.1) terms) e in
    (record { not_zero = h.0; within = within_if (2 ^ 16) t.1 both.0 }, coefficients_if terms h.1 both.1)

if_coefficients : (terms : List Term) → AllByRecursion (λ t. IsCoefficient t.1) terms → list_all (λ (t : Term). is_within (2 ^ 16) t.1) terms ≡ true
if_coefficients [] h = refl
if_coefficients (t ∷ terms) h = both_true (if_within (2 ^ 16) t.1 h.0.within) (if_coefficients terms h.1)

bounded_if : (terms : List Term) (z : ℤ) → IsCollected terms → are_bounded terms z ≡ true → AreTerms terms × IsWithin (2 ^ 40) z
bounded_if terms z h e =
    let all = list_all (λ (t : Term). is_within (2 ^ 16) t.1) terms in
    let outer = and_parts (leb (length terms) 16 && all) (is_within (2 ^ 40) z) e in
    let inner = and_parts (leb (length terms) 16) all outer.0 in
    (record { ascending = h.ascending; coefficients = coefficients_if terms h.no_zero inner.1; few = leb-true (length terms) 16 inner.0 }, within_if (2 ^ 40) z outer.1)

if_bounded : (terms : List Term) (z : ℤ) → AreTerms terms → IsWithin (2 ^ 40) z → are_bounded terms z ≡ true
if_bounded terms z h w = both_true (both_true (le-leb (length terms) 16 h.few) (if_coefficients terms h.coefficients)) (if_within (2 ^ 40) z w)

-- ---- forms

pub some_if : {X : Type 0} (test : Bool) (x y : X) → ◌≡◌ {A = Option X} (cond test (Some x) None) (Some y) → (test ≡ true) × (x ≡ y)
some_if true x y e = (refl, cc)
some_if false x y e = absurd cc

-- what a sum is collected to is its form
pub form_if : (sum form : Linear) → as_form sum ≡ Some form → IsFormOf sum form
form_if sum form e =
    let made = some_if (are_bounded (collected sum.terms) sum.constant) (record { terms = collected sum.terms; constant = sum.constant }) form e in
    let bounds = bounded_if (collected sum.terms) sum.constant (are_collected sum.terms) made.0 in
    subst (IsFormOf sum) made.1 (record { is_form = record { are_terms = bounds.0; within = bounds.1 }; alike = collected_alike sum.terms; same = refl })

-- and a form of a sum is what it is collected to
pub if_form : (sum form : Linear) → IsFormOf sum form → as_form sum ≡ Some form
if_form sum form h =
    let same : form.terms ≡ collected sum.terms = one_collected form.terms (collected sum.terms) (terms_collected form.terms h.is_form.are_terms) (are_collected sum.terms)
    (λ x. h.alike x ∙ sym (collected_alike sum.terms x)) in
    let bounded : are_bounded (collected sum.terms) sum.constant ≡ true =
    subst (λ z. are_bounded (collected sum.terms) z ≡ true) h.same (subst (λ terms. are_bounded terms form.constant ≡ true) same (if_bounded form.terms form.constant h.is_form.are_terms h.is_form.within)) in
    let whole : ◌≡◌ {A = Linear} (record { terms = collected sum.terms; constant = sum.constant }) form =
    ap (λ (terms : List Term). record { terms = terms; constant = sum.constant }) (sym same) ∙ ap (λ (z : ℤ). record { terms = form.terms; constant = z }) (sym h.same) in
    ap (λ test. cond test (Some (record { terms = collected sum.terms; constant = sum.constant })) None) bounded ∙ ap (λ (f : Linear). Some f) whole

-- ---- rows

-- a row that is some row once it is collected is bounded
pub row_if : (row made : Inequality) → as_row row ≡ Some made → IsBounded row
row_if row made e =
    let found = some_if (are_bounded (collected row.terms) row.most) (record { terms = collected row.terms; most = row.most }) made e in
    let bounds = bounded_if (collected row.terms) row.most (are_collected row.terms) found.0 in
    record { collected = collected row.terms; are_terms = bounds.0; alike = collected_alike row.terms; within = bounds.1 }

-- and a bounded one is what it is collected to
pub if_row : (row : Inequality) → IsBounded row → as_row row ≡ Some (record { terms = collected row.terms; most = row.most })
if_row row h =
    let same : h.collected ≡ collected row.terms = one_collected h.collected (collected row.terms) (terms_collected h.collected h.are_terms) (are_collected row.terms)
    (λ x. h.alike x ∙ sym (collected_alike row.terms x)) in
    let bounded : are_bounded (collected row.terms) row.most ≡ true =
    subst (λ terms. are_bounded terms row.most ≡ true) same (if_bounded h.collected row.most h.are_terms h.within) in
    ap (λ test. cond test (Some (record { terms = collected row.terms; most = row.most })) None) bounded
