-- The tasks are the same up to here.
use Rattle.std.proofs.Common.{◌≡◌, ℕ, List, length}
use Rattle.lq_machine.specs.Forest.{Tree}
use Rattle.lq_machine.specs.Around.{Crumb, way_of, HasAround}
use Rattle.lq_machine.proofs.Rising.{Risen}
use Rattle.lq_machine.proofs.machine.forest.Forest.rise.Given as goal

abbrev pub invariant-loop-node : goal.invariant-loop-node
invariant-loop-node l = (most : ℕ) (crumbs : List Crumb) (below : Tree) → l.fn.way.items ≡ way_of crumbs → HasAround l.fn.self.nodes.items most crumbs below
    → Risen l.p most l.self.nodes.items l.way.items crumbs below

abbrev pub decreases-loop-node : goal.decreases-loop-node
decreases-loop-node l = length l.way.items
