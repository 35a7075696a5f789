use Rattle.std.proofs.Common.{◌≡◌, arith, to_z, of_z, w64}
use Rattle.std.proofs.lemmas.Int.{ints}
use Rattle.lq_symbolic.proofs.Sums.{divisor_is}
use Rattle.lq_symbolic.proofs.forms.divisor_of.Goals as goal

pub returns-in-Some : goal.returns-in-Some
returns-in-Some c =
    let number : to_z w64 (of_z w64 c.in-Some.number) ≡ c.in-Some.number = omega (arith, ints) in
    rw c.in-Some.is
    (divisor_is c.in-Some.number c.of.result (rw number at c.of.ensures.value) (rw number at c.of.ensures.bounds))
