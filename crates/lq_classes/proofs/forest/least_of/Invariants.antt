use Rattle.std.proofs.Common.{◌<◌, ◌≤◌, length}
use Rattle.lq_classes.specs.Forest.{Leads, Shortened}
use Rattle.lq_classes.proofs.forest.least_of.Given as goal

abbrev pub invariant-way : goal.invariant-way
invariant-way l = record { shortened : Shortened l.fn.parents.items l.parents.items; leads : Leads l.fn.parents.items l.number l.at; within : l.at ≤ l.number; inside : l.number < length l.parents.items }

abbrev pub decreases-way : goal.decreases-way
decreases-way l = l.at
