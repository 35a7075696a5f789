use Rattle.std.proofs.Common.{◌∙◌, arith}
use Rattle.lq_cert.proofs.NumeralLemmas.{natural_decimal}
use Rattle.lq_cert.proofs.numeral.Numeral.of.Goals as goal

pub invariant_of-result : goal.invariant_of-result
invariant_of-result c =
    (natural_decimal _ c.args.number (c.in_ok-digits.ensures.items ∙ c.as_bytes.ensures.value ∙ c.in_ok-text.ensures.ok) (omega arith) (omega arith)).0

pub returns : goal.returns
returns c =
    (natural_decimal _ c.args.number (c.in_ok-digits.ensures.items ∙ c.as_bytes.ensures.value ∙ c.in_ok-text.ensures.ok) (omega arith) (omega arith)).1
