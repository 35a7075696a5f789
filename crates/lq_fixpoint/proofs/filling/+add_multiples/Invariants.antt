use Rattle.std.proofs.Common.{length}
use Rattle.lq_fixpoint.proofs.filling.+add_multiples.Given as goal

abbrev pub decreases-add_multiples : goal.decreases-add_multiples
decreases-add_multiples l = length l.more.now
