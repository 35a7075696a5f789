use Rattle.std.proofs.Common.{arith}
use Rattle.std.proofs.lemmas.Bool.{iff_false}
use Rattle.lq_cert.proofs.NumbersLemmas.{natural_of, no_multiplier_below, multiplier_some, multiplier_none, allowed_read}
use Rattle.lq_cert.proofs.numbers.read_multiplier.Goals as goal

pub returns-then-not-is_natural : goal.returns-then-not-is_natural
returns-then-not-is_natural c n allowed same =
    iff_false c.is_natural.ensures c.if-not-is_natural.true (natural_of allowed.0 same).0

pub returns-in_err-read_number : goal.returns-in_err-read_number
returns-in_err-read_number c =
    rw c.from_residual.ensures (no_multiplier_below (c.is_natural.ensures.0 c.if-not-is_natural.false) c.in_err-read_number.ensures.none)

pub returns-in_err-number : goal.returns-in_err-number
returns-in_err-number c =
    let natural = c.is_natural.ensures.0 c.if-not-is_natural.false in
    let large = multiplier_none _ _ natural c.in_ok-read_number.ensures.some c.try_from.ensures c.in_err-number.ensures.value in
    rw c.from_residual-in_err-number.ensures (λ n allowed same. omega (arith, (natural_of allowed.0 same).1, allowed.1))

pub returns-then-number-le-MOST_MULTIPLIER : goal.returns-then-number-le-MOST_MULTIPLIER
returns-then-number-le-MOST_MULTIPLIER c =
    let natural = c.is_natural.ensures.0 c.if-not-is_natural.false in
    let value = multiplier_some _ _ _ natural c.in_ok-read_number.ensures.some c.try_from.ensures c.in_ok-number.ensures.value in
    allowed_read c.in_ok-number.number natural value c.if-number-le-MOST_MULTIPLIER.true

pub returns-else-number-le-MOST_MULTIPLIER : goal.returns-else-number-le-MOST_MULTIPLIER
returns-else-number-le-MOST_MULTIPLIER c n allowed same =
    let natural = c.is_natural.ensures.0 c.if-not-is_natural.false in
    let value = multiplier_some _ _ _ natural c.in_ok-read_number.ensures.some c.try_from.ensures c.in_ok-number.ensures.value in
    omega (arith, (natural_of allowed.0 same).1, allowed.1)
