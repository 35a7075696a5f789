use Rattle.std.proofs.Common.{◌≡◌, ◌+ℤ◌, to_z, of_z, sym, ap, ◌∙◌, arith}
use mir.Syntax.{w128}
use Rattle.std.proofs.lemmas.Int.{ints}
use Rattle.std.specs.Option.{option_to_list}
use Rattle.lq_linear.specs.Row.{signed}
use Rattle.lq_linear.specs.Terms.{terms_value}
use Rattle.lq_linear.specs.Weight.{symbol_weight, weight_of}
use Rattle.lq_linear.proofs.TermsLemmas.{value-append}
use Rattle.lq_linear.proofs.loose.LooseRow.weight.Goals as goal

pub returns-clause-value : goal.returns-clause-value
returns-clause-value c =
    let i = c.self.inside in
    let lead = c.weight_of_lead.ensures in
    let rest = c.weight_of_signed.ensures in
    let held : to_z w128 (of_z w128 (to_z w128 (of_z w128 c.weight_of_lead.result) +ℤ to_z w128 (of_z w128 c.weight_of_signed.result))) ≡ terms_value symbol_weight (option_to_list i.lead) +ℤ terms_value symbol_weight (signed i.negated i.rest.now)
    = omega (arith, ints, lead.value, rest.value, lead.within.low, lead.within.high, rest.within.low, rest.within.high) in
    held ∙ sym (value-append symbol_weight (option_to_list i.lead) (signed i.negated i.rest.now)) ∙ ap weight_of c.self.view_is
