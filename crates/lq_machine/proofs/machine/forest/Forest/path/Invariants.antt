-- What is left of the way leads on from the path so far.
use Rattle.std.proofs.Common.{◌≡◌, [], drop}
use Rattle.lq_machine.specs.Paths.{through_all}
use Rattle.lq_machine.proofs.machine.forest.Forest.path.Given as goal

abbrev pub invariant-loop-node : goal.invariant-loop-node
invariant-loop-node l = through_all l.self.nodes.items l.path.items (drop l.node-index l.way) ≡ through_all l.self.nodes.items [] l.way
