use Rattle.std.proofs.Common.{◌≡◌, ◌++◌, length}
use Rattle.std.specs.List.{flat_map}
use Rattle.lq_fixpoint.specs.Goals.{bounded_of}
use Rattle.lq_fixpoint.proofs.sifting.bounded_goals.Given as goal

abbrev pub invariant-loop-given : goal.invariant-loop-given
invariant-loop-given l = l.rows ++ flat_map (bounded_of l.assign) l.rest ≡ flat_map (bounded_of l.assign) l.goals

abbrev pub decreases-loop-given : goal.decreases-loop-given
decreases-loop-given l = length l.rest
