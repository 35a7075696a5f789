use Rattle.std.proofs.Common.{◌≡◌, ◌^◌, ◌≤◌, arith}
use Rattle.lq_text.specs.Numeral.{place_value}
use Rattle.lq_cert.proofs.NumeralLemmas.{natural_large}
use Rattle.lq_cert.proofs.numeral.Numeral.to_u32.Goals as goal

pub returns-in_err-number : goal.returns-in_err-number
returns-in_err-number c =
    let value : place_value c.self.inside.digits.items ≡ c.args.self.now = c.self.view_is in
    let none = rw c.as_slice.ensures.value at c.in_err-number.ensures.none in
    let large : 2 ^ 63 ≤ place_value c.self.inside.digits.items = natural_large _ c.self.invariant none in
    rw c.from_residual.ensures (λ small. omega arith)
