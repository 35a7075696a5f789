use Rattle.std.proofs.Common.{◌≡◌, length}
use Rattle.lq_fixpoint.specs.Work.{marked}
use Rattle.lq_fixpoint.proofs.work.mark.Given as goal

abbrev pub invariant-loop-number : goal.invariant-loop-number
invariant-loop-number l = marked l.rest l.due ≡ marked l.numbers l.fn.due

abbrev pub decreases-loop-number : goal.decreases-loop-number
decreases-loop-number l = length l.rest
