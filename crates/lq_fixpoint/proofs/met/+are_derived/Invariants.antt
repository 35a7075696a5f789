use Rattle.std.proofs.Common.{length}
use Rattle.lq_fixpoint.proofs.met.+are_derived.Given as goal

abbrev pub decreases-are_derived : goal.decreases-are_derived
decreases-are_derived l = length l.goals.now
