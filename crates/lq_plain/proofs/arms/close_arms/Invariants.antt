use Rattle.std.proofs.Common.{◌≡◌, length}
use Rattle.lq_plain.specs.SeenArms.{closed}
use Rattle.lq_plain.specs.SeenMade.{made_of}
use Rattle.lq_plain.proofs.arms.close_arms.Given as goal

abbrev pub decreases-arms : goal.decreases-arms
decreases-arms l = length l.opens

abbrev pub invariant-arms : goal.invariant-arms
invariant-arms l = closed l.at l.opens (made_of l.made) ≡ closed l.at l.fn.opens (made_of l.fn.made)
