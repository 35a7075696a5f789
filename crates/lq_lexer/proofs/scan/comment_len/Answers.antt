use Rattle.std.proofs.Common.{◌∙◌, sym, arith}
use Rattle.lq_lexer.proofs.Close.{close_from_more}
use Rattle.lq_lexer.proofs.scan.comment_len.Goals as goal

pub loop-at-preserved : goal.loop-at-preserved
loop-at-preserved c =
    sym (close_from_more c.args.text.now c.loop-at.at (omega arith) (sym c.starts_with.ensures.value ∙ c.if-starts_with.false)) ∙ c.loop-at.invariant
