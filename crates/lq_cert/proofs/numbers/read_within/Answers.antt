use Rattle.std.proofs.lemmas.Bool.{iff_false}
use Rattle.lq_cert.proofs.NumbersLemmas.{text_of_within, within_read, not_within_read}
use Rattle.lq_cert.proofs.numbers.read_within.Goals as goal

pub returns-then-not-is_short : goal.returns-then-not-is_short
returns-then-not-is_short c z within same =
    iff_false c.is_short.ensures c.if-not-is_short.true (text_of_within c.args.most z _ c.requires within same).1

pub returns-in_err-number : goal.returns-in_err-number
returns-in_err-number c =
    rw c.from_residual.ensures
    (λ z within same. c.in_err-number.ensures.none z (text_of_within c.args.most z _ c.requires within same).0)

pub returns-then-unsigned_abs-most : goal.returns-then-unsigned_abs-most
returns-then-unsigned_abs-most c =
    within_read c.args.most c.in_ok-number.number c.args.text.now _ c.in_ok-number.ensures.some (c.is_short.ensures.0 c.if-not-is_short.false) c.unsigned_abs.ensures.value c.if-unsigned_abs-most.true

pub returns-else-unsigned_abs-most : goal.returns-else-unsigned_abs-most
returns-else-unsigned_abs-most c z within same =
    not_within_read c.args.most c.in_ok-number.number c.args.text.now _ c.requires c.in_ok-number.ensures.some c.unsigned_abs.ensures.value c.if-unsigned_abs-most.false z within same
