use Rattle.std.proofs.Common.{length}
use Rattle.lq_fixpoint.proofs.filling.+filled_sum.Given as goal

abbrev pub decreases-filled_sum : goal.decreases-filled_sum
decreases-filled_sum l = length l.terms.now
