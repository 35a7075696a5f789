use Rattle.std.proofs.Common.{◌≡◌, ◌++◌, length}
use Rattle.lq_instances.specs.Cuts.{narrowed}
use Rattle.lq_instances.proofs.table.narrowed.Given as goal

abbrev pub invariant-loop-is_alike : goal.invariant-loop-is_alike
invariant-loop-is_alike l = l.narrow ++ narrowed l.marks l.gone l.here l.rows ≡ narrowed l.alike l.gone l.here l.table

abbrev pub decreases-loop-is_alike : goal.decreases-loop-is_alike
decreases-loop-is_alike l = length l.marks
