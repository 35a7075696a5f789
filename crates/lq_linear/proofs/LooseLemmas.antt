-- Rows as items give them: what collecting one term more does to the bounds.
use Rattle.std.proofs.Common.{◌≡◌, ℕ, suc, ◌+◌, ◌<◌, ◌≤◌, ◌^◌, inl, inr, ◌↔◌, ℤ, pos, negsuc, ◌+ℤ◌, ◌*ℤ◌, List, [], ◌∷◌, length, Bool, true, false, cond, eqb, ltb, refl, sym, ap, ◌∙◌, arith, subst}
use Rattle.std.proofs.lemmas.Int.{ints}
use Rattle.std.proofs.lemmas.Bool.{ltb-true, le-ltb, lt-ltb, ne_eqb, eq-eqb, cases_order}
use Rattle.std.specs.List.{AllByRecursion}
use Rattle.std.specs.Prelude.{Option, Some, None, IfSome, IsTrue}
use Rattle.std.proofs.Common.{to_z, of_z, w64}
use Rattle.std.proofs.lemmas.Int.{to_z-of_z}
use Rattle.std.proofs.Math.IntN.{+ℤ_idl}
use Rattle.lq_linear.proofs.FormLemmas.{within_more, within_fits}
use Rattle.lq_linear.specs.Terms.{Term, coefficient, times, Ascends, IsCoefficient, IsWithin, AreTerms, IsCollected}
use Rattle.lq_linear.specs.Row.{Inequality, IsBounded, IsLoose, loose_terms, signed}
use Rattle.lq_linear.proofs.Whole.{single_here, single_elsewhere}
use Rattle.lq_linear.proofs.TermsLemmas.{coefficient-times}
use Rattle.lq_linear.proofs.Collecting.{put, put_first, put_onto, put-alike, put_collected, kept, is_zero, zero_unless, later_from, coefficient_before, coefficient_first, coefficient_rest, one_collected, terms_collected, times_collected, form_within}

put_behind : (s : ℕ) (c : ℤ) (t : Term) (terms : List Term) → t.0 < s → put s c (t ∷ terms) ≡ t ∷ put s c terms
unfolding put
put_behind s c t terms h = ap (λ b. cond b ((s, c) ∷ t ∷ terms) (cond (eqb s t.0) (kept s (t.1 +ℤ c) terms) (t ∷ put s c terms))) (le-ltb s t.0 (omega arith))
    ∙ ap (λ b. cond b (kept s (t.1 +ℤ c) terms) (t ∷ put s c terms)) (ne_eqb s t.0 (λ e. omega arith))

abbrev Coefficients : List Term → Type 0
Coefficients terms = AllByRecursion (λ t. IsCoefficient t.1) terms

-- a symbol that isn't there
put_absent : (s : ℕ) (c : ℤ) (terms : List Term) → IsCoefficient c → Ascends terms → Coefficients terms → coefficient terms s ≡ pos 0 → (length (put s c terms) ≡ suc (length terms)) × Coefficients (put s c terms)
unfolding put
put_absent s c [] k a h e = (refl, (k, tt))
put_absent s c (t ∷ terms) k a h e = elim (cases_order t.0 s) [
  | inl q ↦ absurd (h.0.not_zero (sym (coefficient_first t terms a.0) ∙ ap (coefficient (t ∷ terms)) q ∙ e))
  | inr (inl l) ↦
      let r = put_absent s c terms k a.1 h.1 (sym (coefficient_rest t terms s (λ q. omega arith)) ∙ e) in
      let p : put s c (t ∷ terms) ≡ t ∷ put s c terms = put_behind s c t terms l in
      (ap length p ∙ ap suc r.0, subst Coefficients (sym p) (h.0, r.1))
  | inr (inr l) ↦ (ap length (put_first s c t terms l), subst Coefficients (sym (put_first s c t terms l)) (k, h))
]

kept_few : (s : ℕ) (z : ℤ) (terms : List Term) → IsWithin (2 ^ 16) z → Coefficients terms → (length (kept s z terms) ≤ suc (length terms)) × Coefficients (kept s z terms)
unfolding kept
kept_few s z terms w h = go (is_zero z) refl where
  go : (b : Bool) → is_zero z ≡ b → (length (cond b terms ((s, z) ∷ terms)) ≤ suc (length terms)) × Coefficients (cond b terms ((s, z) ∷ terms))
  go true e = (omega arith, h)
  go false e = (omega arith, (record { not_zero = zero_unless z e; within = w }, h))

-- a symbol that is there
put_present : (s : ℕ) (c : ℤ) (terms : List Term) → Ascends terms → Coefficients terms → (coefficient terms s ≡ pos 0 → ⊥) → IsWithin (2 ^ 16) (coefficient terms s +ℤ c) → (length (put s c terms) ≤ length terms) × Coefficients (put s c terms)
unfolding put
put_present s c [] a h n w = absurd (n refl)
put_present s c (t ∷ terms) a h n w = elim (cases_order t.0 s) [
  | inl q ↦
      let first : coefficient (t ∷ terms) s ≡ t.1 = ap (coefficient (t ∷ terms)) (sym q) ∙ coefficient_first t terms a.0 in
      let r = kept_few s (t.1 +ℤ c) terms (subst (λ z. IsWithin 65536 (z +ℤ c)) first w) h.1 in
      let p : put s c (t ∷ terms) ≡ kept s (t.1 +ℤ c) terms = put_onto s c t terms (sym q) in
      (subst (λ l. length l ≤ suc (length terms)) (sym p) r.0, subst Coefficients (sym p) r.1)
  | inr (inl l) ↦
      let rest : coefficient (t ∷ terms) s ≡ coefficient terms s = coefficient_rest t terms s (λ q. omega arith) in
      let r = put_present s c terms a.1 h.1 (λ e. n (rest ∙ e)) (subst (λ z. IsWithin 65536 (z +ℤ c)) rest w) in
      let p : put s c (t ∷ terms) ≡ t ∷ put s c terms = put_behind s c t terms l in
      (subst (λ l. length l ≤ suc (length terms)) (sym p) (omega (arith, r.0)), subst Coefficients (sym p) (h.0, r.1))
  | inr (inr l) ↦ absurd (n (coefficient_before s (t ∷ terms) (l, later_from t.0 s terms (omega arith) a.0)))
]

opposite_coefficients : (terms : List Term) → Coefficients terms → Coefficients (times (negsuc 0) terms)
opposite_coefficients [] h = tt
opposite_coefficients (t ∷ terms) h = (opposite t.1 h.0, opposite_coefficients terms h.1) where
  opposite : (z : ℤ) → IsCoefficient z → IsCoefficient (negsuc 0 *ℤ z)
  opposite z k =
      let low = k.within.low in
      let high = k.within.high in
      record { not_zero = λ e. k.not_zero (omega (arith, ints, e)); within = record { low = omega (arith, ints); high = omega (arith, ints) } }

length-times : (z : ℤ) (terms : List Term) → length (times z terms) ≡ length terms
length-times z [] = refl
length-times z (t ∷ terms) = ap suc (length-times z terms)

minus_one : negsuc 0 ≡ pos 0 → ⊥
minus_one e = cc

pub signed_terms : (negated : Bool) (rest : List Term) → AreTerms rest → AreTerms (signed negated rest)
signed_terms true rest h = record {
  ascending = (times_collected (negsuc 0) rest minus_one (terms_collected rest h)).ascending;
  coefficients = opposite_coefficients rest h.coefficients;
  few = subst (λ n. n ≤ 16) (sym (length-times (negsuc 0) rest)) h.few;
}
signed_terms false rest h = h

pub signed_length : (negated : Bool) (rest : List Term) → length (signed negated rest) ≡ length rest
signed_length true rest = length-times (negsuc 0) rest
signed_length false rest = refl

pub signed_coefficient : (negated : Bool) (rest : List Term) (s : ℕ) → coefficient (signed negated rest) s ≡ cond negated (negsuc 0 *ℤ coefficient rest s) (coefficient rest s)
signed_coefficient true rest s = coefficient-times (negsuc 0) rest s
signed_coefficient false rest s = refl

pub signed_absent : (negated : Bool) (rest : List Term) (s : ℕ) → coefficient rest s ≡ pos 0 → coefficient (signed negated rest) s ≡ pos 0
signed_absent true rest s e = coefficient-times (negsuc 0) rest s ∙ ap (λ z. negsuc 0 *ℤ z) e
signed_absent false rest s e = e

pub signed_present : (negated : Bool) (rest : List Term) (s : ℕ) → (coefficient rest s ≡ pos 0 → ⊥) → coefficient (signed negated rest) s ≡ pos 0 → ⊥
signed_present true rest s n e = n (back (coefficient rest s) (sym (coefficient-times (negsuc 0) rest s) ∙ e)) where
  back : (z : ℤ) → negsuc 0 *ℤ z ≡ pos 0 → z ≡ pos 0
  back z q = omega (arith, ints, q)
signed_present false rest s n e = n e

-- the bounds of a row with no first term
pub bounded_alone : (negated : Bool) (rest : List Term) (most : ℤ) → AreTerms rest → IsWithin (2 ^ 40) most → IsBounded (record { terms = loose_terms None negated rest; most = most })
bounded_alone negated rest most h w = record { collected = signed negated rest; are_terms = signed_terms negated rest h; alike = λ s. refl; within = w }

-- the bounds of a row with a first term
module _ (s : ℕ) (c : ℤ) (negated : Bool) (rest : List Term) (most : ℤ) (k : IsCoefficient c) (h : AreTerms rest) where
  whole : Inequality
  whole = record { terms = loose_terms (Some (s, c)) negated rest; most = most }

  made : List Term
  made = put s c (signed negated rest)

  made_collected : IsCollected made
  unfolding made
  made_collected = put_collected s c (signed negated rest) k.not_zero (terms_collected (signed negated rest) (signed_terms negated rest h))

  must_be : IsBounded whole → AreTerms made
  unfolding whole made
  must_be b = subst AreTerms (one_collected b.collected made (terms_collected b.collected b.are_terms) made_collected (λ x. b.alike x ∙ sym (put-alike s c (signed negated rest) x))) b.are_terms

  then_bounded : AreTerms made → IsWithin (2 ^ 40) most → IsBounded whole
  unfolding whole made
  then_bounded m w = record { collected = made; are_terms = m; alike = put-alike s c (signed negated rest); within = w }

  pub bounded_absent : IsWithin (2 ^ 40) most → coefficient rest s ≡ pos 0 → (length rest < 16) ↔ IsBounded (record { terms = loose_terms (Some (s, c)) negated rest; most = most })
  unfolding whole made
  bounded_absent w e =
      let terms = signed_terms negated rest h in
      let r = put_absent s c (signed negated rest) k terms.ascending terms.coefficients (signed_absent negated rest s e) in
      let count : length made ≡ suc (length rest) = r.0 ∙ ap suc (signed_length negated rest) in (
        λ l. then_bounded (record { ascending = made_collected.ascending; coefficients = r.1; few = omega (arith, count) }) w,
        λ b. let m = must_be b in omega (arith, count, m.few),
      )

  pub bounded_present : IsWithin (2 ^ 40) most → (coefficient rest s ≡ pos 0 → ⊥) → IsWithin (2 ^ 16) (coefficient (loose_terms (Some (s, c)) negated rest) s) ↔ IsBounded (record { terms = loose_terms (Some (s, c)) negated rest; most = most })
  unfolding whole made
  bounded_present w n =
      let terms = signed_terms negated rest h in
      let sum : coefficient (loose_terms (Some (s, c)) negated rest) s ≡ coefficient (signed negated rest) s +ℤ c = sum_here (coefficient (signed negated rest) s) in (
        λ l.
            let r = put_present s c (signed negated rest) terms.ascending terms.coefficients (signed_present negated rest s n) (subst (IsWithin 65536) sum l) in
            then_bounded (record { ascending = made_collected.ascending; coefficients = r.1; few = omega (arith, r.0, signed_length negated rest, h.few) }) w,
        λ b. subst (IsWithin 65536) (b.alike s) (form_within b.collected s b.are_terms),
      ) where
        sum_here : (z : ℤ) → cond (eqb s s) c (pos 0) +ℤ z ≡ z +ℤ c
        sum_here z = ap (λ b. cond b c (pos 0) +ℤ z) (eq-eqb s s refl) ∙ omega (arith, ints)

  pub bounded_most : IsBounded (record { terms = loose_terms (Some (s, c)) negated rest; most = most }) → IsWithin (2 ^ 40) most
  bounded_most b = b.within

-- the coefficient of a symbol in a row with and without a first term
module _ (lead : Option Term) (negated : Bool) (rest : List Term) (s : ℕ) where
  pub lead_here : (first : ℕ) (number : ℤ) → lead ≡ Some (first, number) → first ≡ s → coefficient (loose_terms lead negated rest) s ≡ number +ℤ coefficient (signed negated rest) s
  lead_here first number e q = ap (λ o. coefficient (loose_terms o negated rest) s) e ∙ ap (λ z. z +ℤ coefficient (signed negated rest) s) (single_here first s number q)

  pub lead_elsewhere : (first : ℕ) (number : ℤ) → lead ≡ Some (first, number) → (first ≡ s → ⊥) → coefficient (loose_terms lead negated rest) s ≡ coefficient (signed negated rest) s
  lead_elsewhere first number e q = ap (λ o. coefficient (loose_terms o negated rest) s) e ∙ ap (λ z. z +ℤ coefficient (signed negated rest) s) (single_elsewhere first s number q) ∙ +ℤ_idl (coefficient (signed negated rest) s)

  pub lead_none : lead ≡ None → coefficient (loose_terms lead negated rest) s ≡ coefficient (signed negated rest) s
  lead_none e = ap (λ o. coefficient (loose_terms o negated rest) s) e

pub within_held : (n : ℕ) (z : ℤ) → n ≤ 2 ^ 40 → IsWithin n z → to_z w64 (of_z w64 z) ≡ z
within_held n z l h = to_z-of_z w64 z (within_fits z (within_more n 1099511627776 z l h))

pub sum_within : (n m : ℕ) (y z : ℤ) → IsWithin n y → IsWithin m z → IsWithin (n + m) (y +ℤ z)
sum_within n m y z h k = record { low = omega (arith, ints, h.low, k.low); high = omega (arith, ints, h.high, k.high) }

-- what `is_bounded` answers
module _ (lead : Option Term) (negated : Bool) (rest : List Term) (most : ℤ) (h : IsLoose lead rest most) (w : IsWithin (2 ^ 40) (to_z w64 (of_z w64 most))) where
  most_within : IsWithin (2 ^ 40) most
  most_within = subst (IsWithin 1099511627776) (held most h.most_small) w where
    held : (z : ℤ) → IsWithin (2 ^ 41) z → to_z w64 (of_z w64 z) ≡ z
    held z k = omega (arith, ints, k.low, k.high)

  pub answer_alone : lead ≡ None → IsBounded (record { terms = loose_terms lead negated rest; most = most })
  answer_alone e = subst (λ o. IsBounded (record { terms = loose_terms o negated rest; most = most })) (sym e) (bounded_alone negated rest most h.rest_terms most_within)

  pub answer_absent : (s : ℕ) (c : ℤ) → lead ≡ Some (s, c) → coefficient rest s ≡ pos 0 → IsTrue (ltb (length rest) 16) ↔ IsBounded (record { terms = loose_terms lead negated rest; most = most })
  answer_absent s c e q =
      let k : IsCoefficient c = subst (λ o. IfSome o (λ t. IsCoefficient t.1)) e h.lead_small in
      let both = bounded_absent s c negated rest most k h.rest_terms most_within q in (
        λ t. subst (λ o. IsBounded (record { terms = loose_terms o negated rest; most = most })) (sym e) (both.0 (ltb-true (length rest) 16 t)),
        λ b. lt-ltb (length rest) 16 (both.1 (subst (λ o. IsBounded (record { terms = loose_terms o negated rest; most = most })) e b)),
      )

  pub answer_present : (s : ℕ) (c : ℤ) → lead ≡ Some (s, c) → (coefficient rest s ≡ pos 0 → ⊥) → IsWithin (2 ^ 16) (coefficient (loose_terms lead negated rest) s) ↔ IsBounded (record { terms = loose_terms lead negated rest; most = most })
  answer_present s c e q =
      let k : IsCoefficient c = subst (λ o. IfSome o (λ t. IsCoefficient t.1)) e h.lead_small in
      let both = bounded_present s c negated rest most k h.rest_terms most_within q in (
        λ t. subst (λ o. IsBounded (record { terms = loose_terms o negated rest; most = most })) (sym e) (both.0 (subst (λ o. IsWithin 65536 (coefficient (loose_terms o negated rest) s)) e t)),
        λ b. subst (λ o. IsWithin 65536 (coefficient (loose_terms o negated rest) s)) (sym e) (both.1 (subst (λ o. IsBounded (record { terms = loose_terms o negated rest; most = most })) e b)),
      )
