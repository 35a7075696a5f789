use Rattle.std.proofs.Common.{length}
use Rattle.lq_text.proofs.LineLemmas.{DroppedFront}
use Rattle.lq_text.proofs.line.without_front.Given as goal

abbrev pub invariant-loop-first : goal.invariant-loop-first
invariant-loop-first l = DroppedFront l.line l.rest l.has_return

abbrev pub decreases-loop-first : goal.decreases-loop-first
decreases-loop-first l = length l.rest
