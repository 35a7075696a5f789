-- The way begins at the root, and goes on by one node.
use Rattle.std.proofs.Common.{List, ℕ, sym, subst}
use Rattle.lq_machine.specs.Around.{IsOnWay}
use Rattle.lq_machine.proofs.Down.{way_begins, way_goes}
use Rattle.lq_machine.proofs.machine.forest.Forest.find.Goals as goal

pub loop-init : goal.loop-init
loop-init c most tree is runs =
    subst (λ (way : List ℕ). IsOnWay c.args.self.now.nodes.items most tree c.args.pick 0 c.args.pick way) (sym c.clear.ensures.items)
    (way_begins c.args.self.now.nodes.items most c.args.pick tree is runs)

pub loop-preserved : goal.loop-preserved
loop-preserved c most tree is runs =
    let on = c.loop.invariant most tree is runs in
    subst (λ (way : List ℕ). IsOnWay c.args.self.now.nodes.items most tree c.args.pick c.in-Some.child c.in-Some.less way) (sym c.in_ok-push.ensures.items)
    (way_goes _ most _ _ _ _ _ tree _ on (c.in-Some.ensures most on.below on.fits on.here on.runs))

pub returns-in_default : goal.returns-in_default
returns-in_default c most tree is runs =
    let on = c.loop.invariant most tree is runs in
    (c.loop.rest, on, c.in_default.ensures most on.below on.fits on.here on.runs)
