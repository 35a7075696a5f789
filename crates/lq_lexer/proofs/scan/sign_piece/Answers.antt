use Rattle.std.proofs.Common.{◌∙◌, sym, arith}
use Rattle.lq_lexer.proofs.Signs.{one_byte_sign, no_sign}
use Rattle.lq_lexer.proofs.scan.sign_piece.Goals as goal

pub returns-then-is_sign-2 : goal.returns-then-is_sign-2
returns-then-is_sign-2 c =
    one_byte_sign c.args.text.now c.min-two.result (omega arith) (sym c.is_sign.ensures ∙ c.if-is_sign.false) (sym c.is_sign-else-is_sign.ensures ∙ c.if-is_sign-2.true)

pub returns-else-is_sign-2 : goal.returns-else-is_sign-2
returns-else-is_sign-2 c =
    no_sign c.args.text.now c.min-two.result (omega arith) (sym c.is_sign.ensures ∙ c.if-is_sign.false) (sym c.is_sign-else-is_sign.ensures ∙ c.if-is_sign-2.false)
