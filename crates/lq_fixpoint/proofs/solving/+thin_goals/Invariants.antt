use Rattle.std.proofs.Common.{length}
use Rattle.lq_fixpoint.proofs.solving.+thin_goals.Given as goal

abbrev pub decreases-thin_goals : goal.decreases-thin_goals
decreases-thin_goals l = length l.goals.now
