use Rattle.lq_text.proofs.NumbersLemmas.{ReadSoFar, lines_at}
use Rattle.lq_text.proofs.numbers.read_numbers_from.Given as goal

abbrev pub invariant-loop-bytes : goal.invariant-loop-bytes
invariant-loop-bytes l = ReadSoFar l.least (lines_at l.yielded) l.numbers.items l.line
