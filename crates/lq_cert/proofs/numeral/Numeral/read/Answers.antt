use Rattle.std.proofs.Common.{subst}
use Rattle.std.proofs.lemmas.Bool.{iff_false}
use Rattle.lq_cert.specs.Numeral.{IsNatural}
use Rattle.lq_cert.proofs.NumeralLemmas.{natural_numeral, natural_read}
use Rattle.lq_cert.proofs.numeral.Numeral.read.Goals as goal

pub returns-then-not-is_natural : goal.returns-then-not-is_natural
returns-then-not-is_natural c n positive same =
    iff_false c.is_natural.ensures c.if-not-is_natural.true (subst IsNatural same (natural_numeral n positive))

pub returns : goal.returns
returns c =
    rw c.in_ok-digits.ensures.items (natural_read c.args.text.now (c.is_natural.ensures.0 c.if-not-is_natural.false))
