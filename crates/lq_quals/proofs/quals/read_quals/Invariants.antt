use Rattle.lq_text.proofs.NumbersLemmas.{lines_at}
use Rattle.lq_quals.proofs.QualsLemmas.{ReadSoFar}
use Rattle.lq_quals.proofs.quals.read_quals.Given as goal

abbrev pub invariant-loop-bytes : goal.invariant-loop-bytes
invariant-loop-bytes l = ReadSoFar (lines_at l.yielded) l.quals l.line
