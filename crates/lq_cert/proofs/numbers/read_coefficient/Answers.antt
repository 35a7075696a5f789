use Rattle.std.proofs.Common.{arith}
use Rattle.lq_cert.proofs.NumbersLemmas.{no_zero}
use Rattle.lq_cert.proofs.numbers.read_coefficient.Goals as goal

pub returns-then-number-eq0 : goal.returns-then-number-eq0
returns-then-number-eq0 c z coefficient same =
    no_zero c.in_ok-number.number _ 65536 (omega arith) c.in_ok-number.ensures.0 c.in_ok-number.ensures.1 c.if-number-eq0.true z coefficient same
