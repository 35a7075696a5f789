-- On the way to the leaf with this number.
use Rattle.std.proofs.Common.{ℕ, ◌<◌}
use Rattle.lq_machine.specs.Forest.{Tree, IsTree, counts_of}
use Rattle.lq_machine.specs.Around.{IsOnWay}
use Rattle.lq_machine.proofs.machine.forest.Forest.find.Given as goal

abbrev pub invariant-loop : goal.invariant-loop
invariant-loop l = (most : ℕ) (tree : Tree) → IsTree l.self.nodes.items most tree → l.pick < (counts_of tree).runnable
    → IsOnWay l.self.nodes.items most tree l.pick l.node l.rest l.way.items
