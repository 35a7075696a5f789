-- The leaf that was found is taken out.
use Rattle.std.proofs.Common.{refl, sym, ◌∙◌}
use Rattle.lq_machine.proofs.Plucked.{plucks}
use Rattle.lq_machine.proofs.machine.forest.Forest.pluck.Goals as goal

pub returns-in-Leaf-clause-line : goal.returns-in-Leaf-clause-line
returns-in-Leaf-clause-line c most tree is runs =
    let took = c.in_ok-seat.ensures in
    let found = c.in_ok-leaf.ensures most tree is runs in
    rw (took.4)
    (plucks c.args.self.now.nodes.items most c.args.pick c.in_ok-leaf.leaf tree took.0 _ c.in-Leaf.line c.in_ok-seat.seat c.find.new.way.items is took.1 (sym c.in-Leaf.is ∙ took.3) took.2 found.0 found.1 found.1.below refl found.2)
