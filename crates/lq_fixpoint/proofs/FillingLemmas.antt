-- Terms collected one after another, in a list that is kept in its place.
use Rattle.std.proofs.Common.{◌≡◌, ℕ, zero, suc, ◌<◌, ◌≤◌, ◌^◌, inl, inr, ℤ, pos, ◌+ℤ◌, ◌-ℤ◌, true, ltb, List, [], ◌∷◌, ◌++◌, length, get_or, take, drop, set, drop-cons, Option, None, Some, IfSome, IfNone, cond, eqb, refl, sym, ap, ◌∙◌, arith, subst}
use Rattle.std.specs.Prelude.{IsSome, ◌↔◌}
use Rattle.std.specs.Option.{SomeIff}
use Rattle.std.specs.Ordering.{int_eq}
use Rattle.std.specs.Cmp.{signed_Decides}
use Rattle.std.proofs.lemmas.Bool.{ltb-true, le-ltb, lt-ltb, ne_eqb, eq-eqb, cases_Bool, cases_lt, false≢true}
use Rattle.std.proofs.lemmas.List.{drop_all, get_or_read}
use Rattle.lq_linear.specs.Terms.{Term, times, AreTerms, IsCollected, IsPlaceOf, IsWithin}
use Rattle.lq_linear.specs.Form.{Linear, IsForm}
use Rattle.lq_linear.specs.Row.{Inequality, IsBounded}
use Rattle.lq_linear.specs.Collect.{with_first, with_term, collected, are_bounded, as_row, constant}
use Rattle.lq_linear.proofs.Collecting.{one_collected, terms_collected}
use Rattle.lq_symbolic.proofs.Collected.{are_collected, collected_alike, row_if, if_row}
use Rattle.lq_templates.specs.Conditions.{filled, filled_terms, filled_constant}
use Rattle.lq_fixpoint.specs.Filling.{with_terms}

-- ---- all terms

-- terms in front of others are put among them once those are collected
pub collected-append : (a b : List Term) → collected (a ++ b) ≡ with_terms a (collected b)
collected-append [] b = refl
collected-append (t ∷ a) b = ap (λ l. with_term t l) (collected-append a b)

-- ---- one term

first_gone : (t : Term) (rest : List Term) → t.1 ≡ pos 0 → with_first t rest ≡ rest
first_gone t rest e = ap (λ b. cond b rest (t ∷ rest)) ((signed_Decides t.1 (pos 0)).1 e)

first_there : (t : Term) (rest : List Term) → (t.1 ≡ pos 0 → ⊥) → with_first t rest ≡ t ∷ rest
first_there t rest n = elim (cases_Bool (int_eq t.1 (pos 0))) [
  | inl e ↦ absurd (n ((signed_Decides t.1 (pos 0)).0 e))
  | inr e ↦ ap (λ b. cond b rest (t ∷ rest)) e
]

-- the term goes behind those with lesser symbols
term_at : (t : Term) (terms : List Term) (i : ℕ) → i ≤ length terms → ((k : ℕ) → k < i → (get_or terms k (0, pos 0)).0 < t.0)
    → with_term t terms ≡ take i terms ++ with_term t (drop i terms)
term_at t terms zero l h = refl
term_at t [] (suc i) l h = absurd (omega arith)
term_at t (f ∷ terms) (suc i) l h =
    let before : f.0 < t.0 = h 0 (omega arith) in
    ap (λ b. cond b (with_first t (f ∷ terms)) (cond (eqb t.0 f.0) (with_first (t.0, t.1 +ℤ f.1) terms) (f ∷ with_term t terms))) (le-ltb t.0 f.0 (omega arith))
    ∙ ap (λ b. cond b (with_first (t.0, t.1 +ℤ f.1) terms) (f ∷ with_term t terms)) (ne_eqb t.0 f.0 (λ q. omega arith))
    ∙ ap (λ x. f ∷ x) (term_at t terms i (omega arith) (λ k q. h (suc k) (omega arith)))

term_first : (t f : Term) (terms : List Term) → t.0 < f.0 → with_term t (f ∷ terms) ≡ with_first t (f ∷ terms)
term_first t f terms h =
    ap (λ b. cond b (with_first t (f ∷ terms)) (cond (eqb t.0 f.0) (with_first (t.0, t.1 +ℤ f.1) terms) (f ∷ with_term t terms))) (lt-ltb t.0 f.0 h)

term_onto : (t f : Term) (terms : List Term) → t.0 ≡ f.0 → with_term t (f ∷ terms) ≡ with_first (t.0, t.1 +ℤ f.1) terms
term_onto t f terms h =
    ap (λ b. cond b (with_first t (f ∷ terms)) (cond (eqb t.0 f.0) (with_first (t.0, t.1 +ℤ f.1) terms) (f ∷ with_term t terms))) (le-ltb t.0 f.0 (omega arith))
    ∙ ap (λ b. cond b (with_first (t.0, t.1 +ℤ f.1) terms) (f ∷ with_term t terms)) (eq-eqb t.0 f.0 h)

set_parts : (old : List Term) (i : ℕ) (t : Term) → i < length old → set old i t ≡ take i old ++ t ∷ drop (suc i) old
set_parts [] i t h = absurd (omega arith)
set_parts (u ∷ old) zero t h = refl
set_parts (u ∷ old) (suc i) t h = ap (λ l. u ∷ l) (set_parts old i t (omega arith))

halves : (old : List Term) (i : ℕ) → take i old ++ drop i old ≡ old
halves old zero = refl
halves [] (suc i) = refl
halves (u ∷ old) (suc i) = ap (λ l. u ∷ l) (halves old i)

-- what the list is once the term is at its place
module _ (s : ℕ) (c : ℤ) (old : List Term) (i : ℕ) (p : IsPlaceOf s old i) where
  at_place : with_term (s, c) old ≡ take i old ++ with_term (s, c) (drop i old)
  at_place = term_at (s, c) old i p.inside p.before

  onto : i < length old → (get_or old i (0, pos 0)).0 ≡ s → with_term (s, c) old ≡ take i old ++ with_first (s, c +ℤ (get_or old i (0, pos 0)).1) (drop (suc i) old)
  onto h e =
      at_place
      ∙ ap (λ l. take i old ++ with_term (s, c) l) (drop-cons old i (0, pos 0) h)
      ∙ ap (λ l. take i old ++ l) (term_onto (s, c) (get_or old i (0, pos 0)) (drop (suc i) old) (sym e))

  pub term_gone : i < length old → (get_or old i (0, pos 0)).0 ≡ s → c +ℤ (get_or old i (0, pos 0)).1 ≡ pos 0 → take i old ++ drop (suc i) old ≡ with_term (s, c) old
  term_gone h e z = sym (onto h e ∙ ap (λ l. take i old ++ l) (first_gone (s, c +ℤ (get_or old i (0, pos 0)).1) (drop (suc i) old) z))

  pub term_set : (z : ℤ) → i < length old → (get_or old i (0, pos 0)).0 ≡ s → z ≡ c +ℤ (get_or old i (0, pos 0)).1 → (z ≡ pos 0 → ⊥) → set old i (s, z) ≡ with_term (s, c) old
  term_set z h e q n =
      set_parts old i (s, z) h
      ∙ sym (onto h e ∙ ap (λ y. take i old ++ with_first (s, y) (drop (suc i) old)) (sym q) ∙ ap (λ l. take i old ++ l) (first_there (s, z) (drop (suc i) old) n))

  beside : (i < length old → (get_or old i (0, pos 0)).0 ≡ s → ⊥) → with_term (s, c) old ≡ take i old ++ with_first (s, c) (drop i old)
  beside h = at_place ∙ elim (cases_lt i (length old)) [
    | inl l ↦
        ap (λ x. take i old ++ with_term (s, c) x) (drop-cons old i (0, pos 0) l)
        ∙ ap (λ x. take i old ++ x) (term_first (s, c) (get_or old i (0, pos 0)) (drop (suc i) old) (less s (get_or old i (0, pos 0)).0 (p.there l) (λ q. h l q)))
        ∙ ap (λ x. take i old ++ with_first (s, c) x) (sym (drop-cons old i (0, pos 0) l))
    | inr l ↦
        ap (λ x. take i old ++ with_term (s, c) x) (drop_all i old l) ∙ ap (λ x. take i old ++ with_first (s, c) x) (sym (drop_all i old l))
  ] where
    less : (a b : ℕ) → a ≤ b → (b ≡ a → ⊥) → a < b
    less a b l n = omega arith

  pub term_new : (i < length old → (get_or old i (0, pos 0)).0 ≡ s → ⊥) → (c ≡ pos 0 → ⊥) → take i old ++ (s, c) ∷ drop i old ≡ with_term (s, c) old
  term_new h n = sym (beside h ∙ ap (λ l. take i old ++ l) (first_there (s, c) (drop i old) n))

  pub term_none : (i < length old → (get_or old i (0, pos 0)).0 ≡ s → ⊥) → c ≡ pos 0 → old ≡ with_term (s, c) old
  term_none h z = sym (beside h ∙ ap (λ l. take i old ++ l) (first_gone (s, c) (drop i old) z) ∙ halves old i)

-- ---- the row of collected terms

-- collected terms stay as they are
pub collected_again : (terms : List Term) → IsCollected terms → collected terms ≡ terms
collected_again terms h = one_collected (collected terms) terms (are_collected terms) h (collected_alike terms)

module _ (terms : List Term) (most : ℤ) (is : IsCollected terms) where
  abbrev whole : Inequality
  whole = record { terms = terms; most = most }

  some_row : AreTerms terms → IsWithin (2 ^ 40) most → as_row whole ≡ Some whole
  some_row a w =
      if_row whole (record { collected = terms; are_terms = a; alike = λ s. refl; within = w })
      ∙ ap (λ (l : List Term). Some (record { terms = l; most = most })) (collected_again terms is)

  no_row : (found : Option Inequality) → as_row whole ≡ found → (AreTerms terms → IsWithin (2 ^ 40) most → ⊥) → None ≡ found
  no_row None e h = refl
  no_row (Some made) e h =
      let bounded : IsBounded whole = row_if whole made e in
      let same : bounded.collected ≡ terms = one_collected bounded.collected terms (terms_collected bounded.collected bounded.are_terms) is bounded.alike in
      absurd (h (subst AreTerms same bounded.are_terms) bounded.within)

  -- what is made of them is the row that they are collected to
  pub row_made : (found : Option Inequality) → IfSome found (λ row. (row ≡ whole) × AreTerms terms × IsWithin (2 ^ 40) most)
      → IfNone found (AreTerms terms → IsWithin (2 ^ 40) most → ⊥) → found ≡ as_row whole
  row_made None some none = no_row (as_row whole) refl none
  row_made (Some row) some none = ap (λ (r : Inequality). Some r) some.0 ∙ sym (some_row some.1 some.2)

-- the row that is made of a form of the terms
pub found_row : (terms : List Term) (most : ℤ) → IsCollected terms → (form : Linear) (found : Option Inequality) → form ≡ record { terms = terms; constant = pos 0 }
    → IsForm (record { terms = terms; constant = pos 0 }) → IfSome found (λ row. row ≡ record { terms = form.terms; most = most })
    → (IsSome found ↔ ((form.constant ≡ pos 0) × IsWithin (2 ^ 40) most)) → found ≡ as_row (record { terms = terms; most = most })
found_row terms most is form None e f some bounds =
    row_made terms most is None tt (λ a w. false≢true (bounds.1 (ap (λ (l : Linear). l.constant) e, w)))
found_row terms most is form (Some row) e f some bounds =
    row_made terms most is (Some row) (some ∙ ap (λ (l : Linear). record { terms = l.terms; most = most }) e, f.are_terms, (bounds.0 refl).1) tt

-- ---- sums that are checked

pub some_is : {X : Type 0} (o : Option X) (P : Type 0) (v z : X) → SomeIff o P v → o ≡ Some z → z ≡ v
some_is None P v z h e = absurd cc
some_is (Some x) P v z h e = sym (some_same x z e) ∙ h.1 where
  some_same : {X : Type 0} (x z : X) → ◌≡◌ {A = Option X} (Some x) (Some z) → x ≡ z
  some_same x z e = cc

pub some_fits : {X : Type 0} (o : Option X) (P : Type 0) (v z : X) → SomeIff o P v → o ≡ Some z → P
some_fits None P v z h e = absurd cc
some_fits (Some x) P v z h e = h.0

-- ---- rows

-- the row of terms that were collected before
pub again_row : (terms : List Term) (most : ℤ) → as_row (record { terms = collected terms; most = most }) ≡ as_row (record { terms = terms; most = most })
again_row terms most =
    ap (λ ts. cond (are_bounded ts most) (Some (record { terms = ts; most = most })) None) (collected_again (collected terms) (are_collected terms))

-- one more term with the form in the place of its name
pub sum_step : (values : List Linear) (t : Term) (rest terms : List Term) (form : Linear) (base : List Term) → terms ≡ t ∷ rest → true ≡ ltb t.0 (length values) → form ≡ get_or values t.0 form
    → base ≡ collected (filled_terms values rest) → with_terms (times t.1 form.terms) base ≡ collected (filled_terms values terms)
sum_step values t rest terms form base whole inside there e =
    let form_there : form ≡ get_or values t.0 (constant (pos 0)) = get_or_read values t.0 form (ltb-true t.0 (length values) (sym inside)) there (constant (pos 0)) in
    ap (λ l. with_terms (times t.1 form.terms) l) e
    ∙ sym (collected-append (times t.1 form.terms) (filled_terms values rest))
    ∙ ap (λ (f : Linear). collected (times t.1 f.terms ++ filled_terms values rest)) form_there
    ∙ ap (λ l. collected (filled_terms values l)) (sym whole)

-- the row of a sum
pub filled_made : (values : List Linear) (row : Inequality) (names terms : List Term) (sum most : ℤ) (found : Option Inequality) → names ≡ row.terms
    → terms ≡ collected (filled_terms values names) → sum ≡ filled_constant values names → most ≡ row.most -ℤ sum → found ≡ as_row (record { terms = terms; most = most })
    → found ≡ as_row (filled values row)
filled_made values row names terms sum most found n t s m f =
    f ∙ ap (λ (ts : List Term). as_row (record { terms = ts; most = most })) (t ∙ ap (λ l. collected (filled_terms values l)) n)
    ∙ again_row (filled_terms values row.terms) most
    ∙ ap (λ (z : ℤ). as_row (record { terms = filled_terms values row.terms; most = z })) (m ∙ ap (λ z. row.most -ℤ z) (s ∙ ap (filled_constant values) n))
