use Rattle.std.proofs.Common.{◌≡◌, drop}
use Rattle.lq_lexer.specs.Scan.{close_from}
use Rattle.lq_lexer.proofs.scan.comment_len.Given as goal

abbrev pub invariant-loop-at : goal.invariant-loop-at
invariant-loop-at l = close_from l.at (drop l.at l.text) ≡ close_from 2 (drop 2 l.text)
