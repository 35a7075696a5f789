use Rattle.std.proofs.Common.{◌≡◌, ◌+ℤ◌, ◌*ℤ◌, negsuc, cond, sym, ap, ◌∙◌, subst, arith, to_z, of_z, w64}
use Rattle.std.proofs.lemmas.Int.{ints}
use Rattle.std.specs.Prelude.{IfSome}
use Rattle.lq_linear.specs.Terms.{IsCoefficient, IsWithin, coefficient}
use Rattle.lq_linear.proofs.FormLemmas.{within_more}
use Rattle.lq_linear.specs.Row.{signed}
use Rattle.lq_linear.proofs.LooseLemmas.{signed_coefficient, lead_here, lead_elsewhere, lead_none, within_held, sum_within}
use Rattle.lq_linear.proofs.loose.LooseRow.coefficient.Goals as goal
use Rattle.lq_linear.proofs.loose.LooseRow.coefficient.Goals.{After-opposite_if-signed}

-- what the rest multiplies the symbol by
signed_is : (c : After-opposite_if-signed) → c.opposite_if-signed.result ≡ coefficient (signed c.self.inside.negated c.self.inside.rest.now) c.args.symbol
signed_is c = c.opposite_if-signed.ensures.value ∙ ap (λ z. cond c.self.inside.negated (negsuc 0 *ℤ z) z) (within_held 65536 c.coefficient_in.result (omega arith) c.coefficient_in.ensures.within ∙ c.coefficient_in.ensures.value) ∙ sym (signed_coefficient c.self.inside.negated c.self.inside.rest.now c.args.symbol)

pub returns-in-Some : goal.returns-in-Some
returns-in-Some c =
    let inside = c.self.inside in
    let lead : IsCoefficient c.in-Some.number = subst (λ o. IfSome o (λ t. IsCoefficient t.1)) c.in-Some.is c.self.invariant.lead_small in
    let small = sum_within 65536 65536 c.in-Some.number c.opposite_if-signed.result lead.within c.opposite_if-signed.ensures.within in
    let held : to_z w64 (of_z w64 (to_z w64 (of_z w64 c.in-Some.number) +ℤ to_z w64 (of_z w64 c.opposite_if-signed.result))) ≡ c.in-Some.number +ℤ c.opposite_if-signed.result
    = omega (arith, ints, lead.within.low, lead.within.high, c.opposite_if-signed.ensures.within.low, c.opposite_if-signed.ensures.within.high) in
    record {
      value = held ∙ ap (λ z. c.in-Some.number +ℤ z) (signed_is ((goal.at.returns-in-Some c).After-opposite_if-signed))
          ∙ sym (lead_here inside.lead inside.negated inside.rest.now c.args.symbol c.in-Some.first c.in-Some.number c.in-Some.is c.if-first-symbol.true) ∙ ap (λ r. coefficient r.terms c.args.symbol) c.self.view_is;
      within = subst (IsWithin 131072) (sym held) small;
    }

pub returns-in_default : goal.returns-in_default
returns-in_default c =
    let inside = c.self.inside in
    let held = within_held 65536 c.opposite_if-signed.result (omega arith) c.opposite_if-signed.ensures.within in
    record {
      value = held ∙ signed_is ((goal.at.returns-in_default c).After-opposite_if-signed)
          ∙ sym (lead_elsewhere inside.lead inside.negated inside.rest.now c.args.symbol c.in-Some.first c.in-Some.number c.in-Some.is c.if-first-symbol.false) ∙ ap (λ r. coefficient r.terms c.args.symbol) c.self.view_is;
      within = subst (IsWithin 131072) (sym held) (within_more 65536 131072 c.opposite_if-signed.result (omega arith) c.opposite_if-signed.ensures.within);
    }

pub returns-in_default-2 : goal.returns-in_default-2
returns-in_default-2 c =
    let inside = c.self.inside in
    let held = within_held 65536 c.opposite_if-signed.result (omega arith) c.opposite_if-signed.ensures.within in
    record {
      value = held ∙ signed_is ((goal.at.returns-in_default-2 c).After-opposite_if-signed)
          ∙ sym (lead_none inside.lead inside.negated inside.rest.now c.args.symbol c.in_default.is) ∙ ap (λ r. coefficient r.terms c.args.symbol) c.self.view_is;
      within = subst (IsWithin 131072) (sym held) (within_more 65536 131072 c.opposite_if-signed.result (omega arith) c.opposite_if-signed.ensures.within);
    }
