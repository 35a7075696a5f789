-- What sums and multiples of forms are collected to, and rows.
use Rattle.std.proofs.Common.{◌≡◌, ◌^◌, ℤ, pos, ◌+ℤ◌, ◌≤ℤ◌, Bool, true, false, cond, List, ◌++◌, length, Option, None, Some, Result, Ok, Err, IfOk, IfSome, IfNone, IsSome, ◌↔◌, refl, sym, ap, ◌∙◌, subst}
use Rattle.std.specs.Prelude.{◌&&◌, nat_le, T}
use Rattle.std.specs.List.{list_all}
use Rattle.std.specs.Int.Signed.{le_z, le_z_yes}
use Rattle.std.proofs.lemmas.Bool.{false≢true}
use Rattle.std.proofs.Math.Dec.{T_prop}
use Rattle.lq_linear.specs.Terms.{Term, coefficient, AreAlike, IsWithin}
use Rattle.lq_linear.specs.Form.{Linear, IsFormOf, HasForm, sum_of}
use Rattle.lq_linear.specs.Row.{Inequality}
use Rattle.lq_linear.specs.Collect.{collected, is_within, are_bounded, as_form, as_row}
use Rattle.lq_linear.specs.declared.divisor.Divisor.{Divisor}
use Rattle.lq_linear.proofs.Collecting.{one_collected}
use Rattle.lq_linear.proofs.TermsLemmas.{coefficient-append}
use Rattle.lq_symbolic.specs.Value.{where_passed, divisor_of}
use Rattle.lq_symbolic.proofs.Collected.{form_if, if_form, are_collected, collected_alike, some_if, within_if, if_within}

-- ---- forms

-- a sum without a form is collected to none
none_of : (sum : Linear) (found : Option Linear) → as_form sum ≡ found → (HasForm sum → ⊥) → None ≡ found
none_of sum None e h = refl
none_of sum (Some form) e h = absurd (h (form, form_if sum form e))

-- the form of a sum, and none where it has none, is what the sum is collected to
pub as_form_of : (sum : Linear) (found : Option Linear) → IfSome found (IsFormOf sum) → IfNone found (HasForm sum → ⊥) → found ≡ as_form sum
as_form_of sum None some none = none_of sum (as_form sum) refl none
as_form_of sum (Some form) some none = sym (if_form sum form some)

-- the same, where there may be no memory
pub result_as_form : {E : Type 0} → (r : Result (Option Linear) E) (sum : Linear) →
    IfOk r (λ found. IfSome found (IsFormOf sum)) → IfOk r (λ found. IfNone found (HasForm sum → ⊥)) → IfOk r (λ found. found ≡ as_form sum)
result_as_form (Ok found) sum some none = as_form_of sum found some none
result_as_form (Err e) sum some none = tt

-- sums that are alike are collected to one
collected_same : (a b : List Term) → AreAlike a b → collected a ≡ collected b
collected_same a b h = one_collected (collected a) (collected b) (are_collected a) (are_collected b) (λ x. collected_alike a x ∙ h x ∙ sym (collected_alike b x))

-- what collected terms and a constant make, where they are within the bounds
made : List Term → ℤ → Option Linear
made terms z = cond (are_bounded terms z) (Some (record { terms = terms; constant = z })) None

-- a form may stand for the sum that it was collected from
pub sum_of-form : (a b form : Linear) → as_form b ≡ Some form → as_form (sum_of a form) ≡ as_form (sum_of a b)
unfolding made
sum_of-form a b form e =
    let h = form_if b form e in
    let terms : collected (a.terms ++ form.terms) ≡ collected (a.terms ++ b.terms) =
    collected_same (a.terms ++ form.terms) (a.terms ++ b.terms) (λ x. coefficient-append a.terms form.terms x ∙ ap (λ z. coefficient a.terms x +ℤ z) (h.alike x) ∙ sym (coefficient-append a.terms b.terms x)) in
    ap (λ ts. made ts (a.constant +ℤ form.constant)) terms ∙ ap (λ z. made (collected (a.terms ++ b.terms)) (a.constant +ℤ z)) h.same

-- ---- rows

-- terms are within the bounds beside 0 exactly where they are beside a number within the bounds
beside : (front : Bool) (n : ℤ) → (front && is_within (2 ^ 40) (pos 0)) ≡ true → (front && is_within (2 ^ 40) n) ≡ is_within (2 ^ 40) n
beside true n e = refl
beside false n e = absurd cc

none_beside : (front : Bool) (n : ℤ) → (front && is_within (2 ^ 40) (pos 0)) ≡ false → (front && is_within (2 ^ 40) n) ≡ false
none_beside true n e = absurd cc
none_beside false n e = refl

none_if : {X : Type 0} (test : Bool) (x : X) → ◌≡◌ {A = Option X} (cond test (Some x) None) None → test ≡ false
none_if true x e = absurd cc
none_if false x e = refl

-- a number of which this is said
row_found : (test : Bool) (terms : List Term) (most : ℤ) (found : Option Inequality) → test ≡ is_within (2 ^ 40) most →
    IfSome found (λ row. row ≡ record { terms = terms; most = most }) → (IsSome found → IsWithin (2 ^ 40) most) → (IsWithin (2 ^ 40) most → IsSome found) →
    found ≡ cond test (Some (record { terms = terms; most = most })) None
row_found true terms most None e some within there = absurd (false≢true (there (within_if (2 ^ 40) most (sym e))))
row_found true terms most (Some row) e some within there = ap (λ r. Some r) some
row_found false terms most None e some within there = refl
row_found false terms most (Some row) e some within there = absurd (false≢true (e ∙ if_within (2 ^ 40) most (within refl)))

-- the row of the terms of a form without a constant
pub row_of-form : (terms : List Term) (most : ℤ) (form : Linear) (found : Option Inequality) → as_form (record { terms = terms; constant = pos 0 }) ≡ Some form →
    IfSome found (λ row. row ≡ record { terms = form.terms; most = most }) → (IsSome found ↔ ((form.constant ≡ pos 0) × IsWithin (2 ^ 40) most)) →
    found ≡ as_row (record { terms = terms; most = most })
row_of-form terms most form found e some bounds =
    let front : Bool = nat_le (length (collected terms)) 16 && list_all (λ (term : Term). is_within (2 ^ 16) term.1) (collected terms) in
    let parts = some_if (front && is_within (2 ^ 40) (pos 0)) (record { terms = collected terms; constant = pos 0 }) form e in
    let same : collected terms ≡ form.terms = ap (λ (f : Linear). f.terms) parts.1 in
    let zero : form.constant ≡ pos 0 = ap (λ (f : Linear). f.constant) (sym parts.1) in
    row_found (front && is_within (2 ^ 40) most) (collected terms) most found (beside front most parts.0)
    (subst (λ ts. IfSome found (λ row. row ≡ record { terms = ts; most = most })) (sym same) some)
    (λ there. (bounds.0 there).1) (λ within. bounds.1 (zero, within))

-- terms that no form has are those of no row
pub no_row : (terms : List Term) (most : ℤ) → None ≡ as_form (record { terms = terms; constant = pos 0 }) → None ≡ as_row (record { terms = terms; most = most })
no_row terms most e =
    let front : Bool = nat_le (length (collected terms)) 16 && list_all (λ (term : Term). is_within (2 ^ 16) term.1) (collected terms) in
    let not : (front && is_within (2 ^ 40) (pos 0)) ≡ false = none_if (front && is_within (2 ^ 40) (pos 0)) (record { terms = collected terms; constant = pos 0 }) (sym e) in
    ap (λ test. cond test (Some (record { terms = collected terms; most = most })) None) (sym (none_beside front most not))

-- ---- divisors

passed : {A : Type 0} (test : Bool) (next : T test → A) (otherwise : A) (h : T test) → where_passed test next otherwise ≡ next h
passed true next otherwise h = refl
passed false next otherwise h = absurd h

same_order : {a b : ℤ} (p q : a ≤ℤ b) → p ≡ q
same_order {a = a} {b = b} p q = ap (λ (l : T (le_z a b)). record { le = l }) (T_prop (le_z a b) p.le q.le)

-- a divisor is told by its value
one_divisor : (z : ℤ) (d : Divisor) → d.value ≡ z → (low : pos 1 ≤ℤ z) (high : z ≤ℤ pos 65536) → d ≡ record { value = z; at_least = low; at_most = high }
one_divisor z d h =
    subst (λ (w : ℤ). (low : pos 1 ≤ℤ w) (high : w ≤ℤ pos 65536) → ◌≡◌ {A = Divisor} d (record { value = w; at_least = low; at_most = high })) h
    (λ low high. ap (λ (l : pos 1 ≤ℤ d.value). record { value = d.value; at_least = l; at_most = d.at_most }) (same_order d.at_least low)
    ∙ ap (λ (l : d.value ≤ℤ pos 65536). record { value = d.value; at_least = low; at_most = l }) (same_order d.at_most high))

-- where one of two tests fails
not_passed : {A : Type 0} (first second : Bool) (next : T first → T second → A) → (T first → T second → ⊥) →
    None ≡ where_passed first (λ low. where_passed second (λ high. Some (next low high)) None) None
not_passed true true next h = absurd (h tt tt)
not_passed true false next h = refl
not_passed false second next h = refl

-- the divisor that is found where a number is one
pub divisor_is : (z : ℤ) (found : Option Divisor) → IfSome found (λ d. d.value ≡ z) → (IsSome found ↔ ((pos 1 ≤ℤ z) × (z ≤ℤ pos 65536))) → found ≡ divisor_of (Some z)
divisor_is z None some bounds =
    not_passed (le_z (pos 1) z) (le_z z (pos 65536)) (λ low high. record { value = z; at_least = le_z_yes low; at_most = le_z_yes high })
    (λ low high. absurd (false≢true (bounds.1 (le_z_yes low, le_z_yes high))))
divisor_is z (Some d) some bounds =
    let within = bounds.0 refl in
    let low : T (le_z (pos 1) z) = within.0.le in
    let high : T (le_z z (pos 65536)) = within.1.le in
    let at_low : divisor_of (Some z) ≡ where_passed (le_z z (pos 65536)) (λ high. Some (record { value = z; at_least = le_z_yes low; at_most = le_z_yes high })) None =
    passed (le_z (pos 1) z) (λ low. where_passed (le_z z (pos 65536)) (λ high. Some (record { value = z; at_least = le_z_yes low; at_most = le_z_yes high })) None) None low in
    let at_high = passed {A = Option Divisor} (le_z z (pos 65536)) (λ high. Some (record { value = z; at_least = le_z_yes low; at_most = le_z_yes high })) None high in
    ap (λ (e : Divisor). Some e) (one_divisor z d some (le_z_yes low) (le_z_yes high)) ∙ sym (at_low ∙ at_high)
