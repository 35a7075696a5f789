use Rattle.std.proofs.Common.{◌≡◌, sym, ◌∙◌, ap, arith}
use Rattle.lq_text.specs.Numeral.{place_value}
use Rattle.lq_cert.specs.Numeral.{numeral}
use Rattle.lq_cert.proofs.NumeralLemmas.{natural_read}
use Rattle.lq_cert.proofs.numeral.Numeral.as_bytes.Goals as goal

pub returns-clause-digits : goal.returns-clause-digits
returns-clause-digits c =
    c.as_slice.ensures.value ∙ sym (natural_read _ c.self.invariant).1 ∙ ap numeral c.self.view_is

pub returns-clause-positive : goal.returns-clause-positive
returns-clause-positive c =
    let value : place_value c.self.inside.digits.items ≡ c.args.self.now = c.self.view_is in
    omega (arith, (natural_read _ c.self.invariant).0)
