-- Sums of multiples of rows.
use Rattle.std.proofs.Common.{◌≡◌, ℕ, suc, ◌+◌, ◌<◌, ◌⊎◌, inl, inr, ℤ, pos, ◌+ℤ◌, ◌*ℤ◌, List, [], ◌∷◌, length, get_or, drop, refl, sym, ap, ◌∙◌, arith, subst, add-one, drop-cons}
use Rattle.std.proofs.lemmas.Int.{ints}
use Rattle.std.proofs.lemmas.Bool.{cases_eq}
use Rattle.std.specs.List.{AllByRecursion}
use Rattle.lq_linear.specs.Terms.{Term, coefficient, AreAlike, times}
use Rattle.lq_linear.specs.Row.{Inequality, loose_terms, signed}
use Rattle.lq_linear.specs.Item.{row_numbered}
use Rattle.lq_linear.specs.Derivation.{Part, combined, Agree}
use Rattle.lq_linear.proofs.TermsLemmas.{coefficient-append, coefficient-times}
use Rattle.lq_linear.proofs.Collecting.{coefficient_rest, all_map}
use Rattle.std.specs.Prelude.{Option, Some, None, Bool, true, false, negsuc}

pub combined_coefficient : (all : List Inequality) (part : Part) (parts : List Part) (s : ℕ) → coefficient (combined all (part ∷ parts)).terms s ≡ (pos part.0 *ℤ coefficient (row_numbered all part.1).terms s) +ℤ coefficient (combined all parts).terms s
combined_coefficient all part parts s =
    coefficient-append (times (pos part.0) (row_numbered all part.1).terms) (combined all parts).terms s
    ∙ ap (λ z. z +ℤ coefficient (combined all parts).terms s) (coefficient-times (pos part.0) (row_numbered all part.1).terms s)

pub drop_part : (parts : List Part) (i : ℕ) → i < length parts → drop i parts ≡ get_or parts i (0, 0) ∷ drop (i + 1) parts
drop_part parts i h = rw (add-one, drop-cons parts i (0, 0)) refl

pub step_coefficient : (all : List Inequality) (parts : List Part) (i s : ℕ) (total new whole : ℤ) → i < length parts → total +ℤ coefficient (combined all (drop i parts)).terms s ≡ whole
    → new ≡ pos (get_or parts i (0, 0)).0 *ℤ coefficient (row_numbered all (get_or parts i (0, 0)).1).terms s
    → (total +ℤ new) +ℤ coefficient (combined all (drop (i + 1) parts)).terms s ≡ whole
step_coefficient all parts i s total new whole l h e =
    let part = get_or parts i (0, 0) in
    let next : coefficient (combined all (drop i parts)).terms s ≡ (pos part.0 *ℤ coefficient (row_numbered all part.1).terms s) +ℤ coefficient (combined all (drop (i + 1) parts)).terms s
    = ap (λ p. coefficient (combined all p).terms s) (drop_part parts i l) ∙ combined_coefficient all part (drop (i + 1) parts) s in
    move total new (pos part.0 *ℤ coefficient (row_numbered all part.1).terms s) _ _ whole h next e where
      move : (a b c d r w : ℤ) → a +ℤ d ≡ w → d ≡ c +ℤ r → b ≡ c → (a +ℤ b) +ℤ r ≡ w
      move a b c d r w p q e = omega (arith, ints, p, q, e)

pub step_most : (all : List Inequality) (parts : List Part) (i : ℕ) (total new whole : ℤ) → i < length parts → total +ℤ (combined all (drop i parts)).most ≡ whole
    → new ≡ pos (get_or parts i (0, 0)).0 *ℤ (row_numbered all (get_or parts i (0, 0)).1).most
    → (total +ℤ new) +ℤ (combined all (drop (i + 1) parts)).most ≡ whole
step_most all parts i total new whole l h e =
    let part = get_or parts i (0, 0) in
    move total new (pos part.0 *ℤ (row_numbered all part.1).most) _ _ whole h (ap (λ p. (combined all p).most) (drop_part parts i l)) e where
      move : (a b c d r w : ℤ) → a +ℤ d ≡ w → d ≡ c +ℤ r → b ≡ c → (a +ℤ b) +ℤ r ≡ w
      move a b c d r w p q e = omega (arith, ints, p, q, e)

-- what holds of each symbol of a sum holds of a symbol, or the symbol isn't in the sum
module _ (P : ℕ → Type 0) (x : ℕ) where
  pub settled : (terms : List Term) → AllByRecursion (λ t. P t.0) terms → P x ⊎ (coefficient terms x ≡ pos 0)
  settled [] h = inr refl
  settled (t ∷ terms) h = elim (cases_eq t.0 x) [
    | inl e ↦ inl (subst P e h.0)
    | inr n ↦ elim (settled terms h.1) [ inl p ↦ inl p | inr z ↦ inr (coefficient_rest t terms x n ∙ z) ]
  ]

  pub settled_rows : (all : List Inequality) (parts : List Part) → AllByRecursion (λ part. AllByRecursion (λ t. P t.0) (row_numbered all part.1).terms) parts → P x ⊎ (coefficient (combined all parts).terms x ≡ pos 0)
  settled_rows all [] h = inr refl
  settled_rows all (part ∷ parts) h = elim (settled (row_numbered all part.1).terms h.0) [
    | inl p ↦ inl p
    | inr z ↦ elim (settled_rows all parts h.1) [
      | inl p ↦ inl p
      | inr y ↦ inr (combined_coefficient all part parts x ∙ ap (λ k. (pos part.0 *ℤ k) +ℤ coefficient (combined all parts).terms x) z ∙ ap (λ k. (pos part.0 *ℤ pos 0) +ℤ k) y ∙ zeros (pos part.0))
    ]
  ] where
    zeros : (z : ℤ) → (z *ℤ pos 0) +ℤ pos 0 ≡ pos 0
    zeros z = omega (arith, ints)

-- sums that agree on every symbol of either are alike
pub alike_from : (all : List Inequality) (parts : List Part) (d : ℕ) (goal : List Term)
    → AllByRecursion (λ part. AllByRecursion (λ t. coefficient (combined all parts).terms t.0 ≡ coefficient (times (pos d) goal) t.0) (row_numbered all part.1).terms) parts
    → AllByRecursion (λ t. coefficient (combined all parts).terms t.0 ≡ coefficient (times (pos d) goal) t.0) goal
    → AreAlike (combined all parts).terms (times (pos d) goal)
alike_from all parts d goal h k x =
    let P : ℕ → Type 0 = λ s. coefficient (combined all parts).terms s ≡ coefficient (times (pos d) goal) s in
    elim (settled P x goal k) [
      | inl p ↦ p
      | inr z ↦ elim (settled_rows P x all parts h) [ inl p ↦ p | inr y ↦ y ∙ sym (coefficient-times (pos d) goal x ∙ ap (λ w. pos d *ℤ w) z ∙ zero (pos d)) ]
    ] where
      zero : (z : ℤ) → z *ℤ pos 0 ≡ pos 0
      zero z = omega (arith, ints)

-- what holds at each place holds of each
pub each_from : {X : Type 0} (P : X → Type 0) (d : X) (xs : List X) → ((k : ℕ) → k < length xs → P (get_or xs k d)) → AllByRecursion P xs
each_from P d [] h = tt
each_from P d (x ∷ xs) h = (h 0 (omega arith), each_from P d xs (λ k l. h (suc k) (omega arith)))

pub each_of : {X : Type 0} (P : X → Type 0) → ((x : X) → P x) → (xs : List X) → AllByRecursion P xs
each_of P f [] = tt
each_of P f (x ∷ xs) = (f x, each_of P f xs)

-- what holds of each symbol of a row, by its parts
module _ (P : ℕ → Type 0) where
  all_times : (z : ℤ) (terms : List Term) → AllByRecursion (λ t. P t.0) terms → AllByRecursion (λ t. P t.0) (times z terms)
  all_times z [] h = tt
  all_times z (t ∷ terms) h = (h.0, all_times z terms h.1)

  all_untimes : (z : ℤ) (terms : List Term) → AllByRecursion (λ t. P t.0) (times z terms) → AllByRecursion (λ t. P t.0) terms
  all_untimes z [] h = tt
  all_untimes z (t ∷ terms) h = (h.0, all_untimes z terms h.1)

  all_signed : (negated : Bool) (rest : List Term) → AllByRecursion (λ t. P t.0) rest → AllByRecursion (λ t. P t.0) (signed negated rest)
  all_signed true rest h = all_times (negsuc 0) rest h
  all_signed false rest h = h

  all_unsigned : (negated : Bool) (rest : List Term) → AllByRecursion (λ t. P t.0) (signed negated rest) → AllByRecursion (λ t. P t.0) rest
  all_unsigned true rest h = all_untimes (negsuc 0) rest h
  all_unsigned false rest h = h

  pub loose_rest : (lead : Option Term) (negated : Bool) (rest : List Term) → AllByRecursion (λ t. P t.0) (loose_terms lead negated rest) → AllByRecursion (λ t. P t.0) rest
  loose_rest None negated rest h = all_unsigned negated rest h
  loose_rest (Some t) negated rest h = all_unsigned negated rest h.1

  pub loose_lead : (lead : Option Term) (negated : Bool) (rest : List Term) (s : ℕ) (c : ℤ) → lead ≡ Some (s, c) → AllByRecursion (λ t. P t.0) (loose_terms lead negated rest) → P s
  loose_lead lead negated rest s c e h = (subst (λ o. AllByRecursion (λ t. P t.0) (loose_terms o negated rest)) e h).0

  pub loose_all_alone : (lead : Option Term) (negated : Bool) (rest : List Term) → lead ≡ None → AllByRecursion (λ t. P t.0) rest → AllByRecursion (λ t. P t.0) (loose_terms lead negated rest)
  loose_all_alone lead negated rest e h = subst (λ o. AllByRecursion (λ t. P t.0) (loose_terms o negated rest)) (sym e) (all_signed negated rest h)

  pub loose_all : (lead : Option Term) (negated : Bool) (rest : List Term) (s : ℕ) (c : ℤ) → lead ≡ Some (s, c) → P s → AllByRecursion (λ t. P t.0) rest → AllByRecursion (λ t. P t.0) (loose_terms lead negated rest)
  loose_all lead negated rest s c e p h = subst (λ o. AllByRecursion (λ t. P t.0) (loose_terms o negated rest)) (sym e) (p, all_signed negated rest h)

-- alike sums agree on every symbol, and the other way round
pub agree_from : (all : List Inequality) (parts : List Part) (d : ℕ) (goal : Inequality) → AreAlike (combined all parts).terms (times (pos d) goal.terms) → (s : ℕ) → Agree all parts d goal s
agree_from all parts d goal h s = h s ∙ coefficient-times (pos d) goal.terms s

pub alike_if : (all : List Inequality) (parts : List Part) (d : ℕ) (goal : Inequality)
    → AllByRecursion (λ part. AllByRecursion (λ t. Agree all parts d goal t.0) (row_numbered all part.1).terms) parts
    → AllByRecursion (λ t. Agree all parts d goal t.0) goal.terms
    → AreAlike (combined all parts).terms (times (pos d) goal.terms)
alike_if all parts d goal h k =
    let back : (t : Term) → Agree all parts d goal t.0 → coefficient (combined all parts).terms t.0 ≡ coefficient (times (pos d) goal.terms) t.0 = λ t e. e ∙ sym (coefficient-times (pos d) goal.terms t.0) in
    alike_from all parts d goal.terms
    (all_map (λ part. AllByRecursion (λ t. Agree all parts d goal t.0) (row_numbered all part.1).terms) (λ part. AllByRecursion (λ t. coefficient (combined all parts).terms t.0 ≡ coefficient (times (pos d) goal.terms) t.0) (row_numbered all part.1).terms)
    (λ part q. all_map (λ t. Agree all parts d goal t.0) (λ t. coefficient (combined all parts).terms t.0 ≡ coefficient (times (pos d) goal.terms) t.0) back (row_numbered all part.1).terms q) parts h)
    (all_map (λ t. Agree all parts d goal t.0) (λ t. coefficient (combined all parts).terms t.0 ≡ coefficient (times (pos d) goal.terms) t.0) back goal.terms k)
