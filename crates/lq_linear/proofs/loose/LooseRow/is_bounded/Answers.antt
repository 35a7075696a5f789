use Rattle.std.proofs.Common.{◌≡◌, ℤ, ◌^◌, pos, refl, sym, ap, ◌∙◌, subst, arith, to_z, of_z, w64}
use Rattle.std.proofs.lemmas.Int.{ints}
use Rattle.std.specs.Prelude.{◌↔◌}
use Rattle.lq_linear.specs.Terms.{IsWithin, coefficient}
use Rattle.lq_linear.specs.Row.{Inequality, IsBounded, loose_terms}
use Rattle.lq_linear.proofs.LooseLemmas.{answer_alone, answer_absent, answer_present, within_held}
use Rattle.lq_linear.proofs.loose.LooseRow.is_bounded.Goals as goal

-- z is held as 0 where it is 0
held_zero : (z : ℤ) → IsWithin (2 ^ 16) z → of_z w64 z ≡ 0 → z ≡ pos 0
held_zero z h e = omega (arith, ints, h.low, h.high)

through : {P : Type 0} (r s : Inequality) → r ≡ s → P ↔ IsBounded r → P ↔ IsBounded s
through {P} r s e h = subst (λ x. P ↔ IsBounded x) e h

pub returns-in_default : goal.returns-in_default
returns-in_default c =
    let i = c.self.inside in
    (λ _. subst IsBounded c.self.view_is (answer_alone i.lead i.negated i.rest.now i.most c.self.invariant (c.is_within.ensures.0 c.if-not-is_within.false) c.in_default.is), λ _. refl)

pub returns-then-coefficient_in-eq0 : goal.returns-then-coefficient_in-eq0
returns-then-coefficient_in-eq0 c =
    let i = c.self.inside in
    let none : coefficient i.rest.now c.in-Some.symbol ≡ pos 0 = sym c.coefficient_in.ensures.value ∙ held_zero c.coefficient_in.result c.coefficient_in.ensures.within c.if-coefficient_in-eq0.true in
    through _ _ c.self.view_is (answer_absent i.lead i.negated i.rest.now i.most c.self.invariant (c.is_within.ensures.0 c.if-not-is_within.false) c.in-Some.symbol c.in-Some.field-0-1 c.in-Some.is none)

pub returns-else-coefficient_in-eq0 : goal.returns-else-coefficient_in-eq0
returns-else-coefficient_in-eq0 c =
    let i = c.self.inside in
    let some : coefficient i.rest.now c.in-Some.symbol ≡ pos 0 → ⊥ = λ e. c.if-coefficient_in-eq0.false (ap (of_z w64) (c.coefficient_in.ensures.value ∙ e)) in
    let answer = through {P = IsWithin 65536 (coefficient (loose_terms i.lead i.negated i.rest.now) c.in-Some.symbol)} _ _ c.self.view_is (answer_present i.lead i.negated i.rest.now i.most c.self.invariant (c.is_within.ensures.0 c.if-not-is_within.false) c.in-Some.symbol c.in-Some.field-0-1 c.in-Some.is some) in
    let whole : to_z w64 (of_z w64 c.coefficient.result) ≡ coefficient (loose_terms i.lead i.negated i.rest.now) c.in-Some.symbol
    = within_held 131072 c.coefficient.result (omega arith) c.coefficient.ensures.within ∙ c.coefficient.ensures.value ∙ sym (ap (λ r. coefficient r.terms c.in-Some.symbol) c.self.view_is) in (
      λ t. answer.0 (subst (IsWithin 65536) whole (c.is_within-else-coefficient_in-eq0.ensures.0 t)),
      λ b. c.is_within-else-coefficient_in-eq0.ensures.1 (subst (IsWithin 65536) (sym whole) (answer.1 b)),
    )
