-- The first numbers of copies, as text.
use Rattle.std.proofs.Common.{◌≡◌, arith}
use Rattle.std.specs.Prelude.{codes, decimal}
use Rattle.std.proofs.lemmas.Fmt.{decimal_digit}

pub one : decimal 1 ≡ codes "1"
one = decimal_digit 1 (omega arith)

pub two : decimal 2 ≡ codes "2"
two = decimal_digit 2 (omega arith)

pub three : decimal 3 ≡ codes "3"
three = decimal_digit 3 (omega arith)
