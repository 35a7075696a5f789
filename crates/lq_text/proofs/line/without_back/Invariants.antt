use Rattle.std.proofs.Common.{length}
use Rattle.lq_text.proofs.LineLemmas.{DroppedBack}
use Rattle.lq_text.proofs.line.without_back.Given as goal

abbrev pub invariant-loop-last : goal.invariant-loop-last
invariant-loop-last l = DroppedBack l.line l.rest l.has_return

abbrev pub decreases-loop-last : goal.decreases-loop-last
decreases-loop-last l = length l.rest
