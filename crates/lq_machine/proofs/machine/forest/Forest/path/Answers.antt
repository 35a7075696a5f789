-- One node of the way more, and then the line.
use Rattle.std.proofs.Common.{◌≡◌, ℕ, ap, ◌∙◌, sym, Global}
use Rattle.std.specs.Prelude.{Vec}
use Rattle.lq_machine.specs.Paths.{through}
use Rattle.lq_machine.proofs.Trails.{trail_goes, trail_ends}
use Rattle.lq_machine.proofs.machine.forest.Forest.path.Goals as goal
use Rattle.lq_machine.proofs.machine.forest.Forest.path.Goals.{in-Some+in_ok-go_down, in_default}

pub loop-node-preserved : goal.loop-node-preserved
loop-node-preserved c =
    let next : c.match-fork_at.path.items ≡ through c.loop-node.path.items c.fork_at.result = elim c.match-fork_at.branch [
      | in-Some+in_ok-go_down w ↦ ap (λ (p : Vec ℕ Global). p.items) w.path-is ∙ w.in_ok-go_down.ensures ∙ ap (through c.loop-node.path.items) (sym w.in-Some.is)
      | in_default w ↦ ap (λ (p : Vec ℕ Global). p.items) w.path-is ∙ ap (through c.loop-node.path.items) (sym w.in_default.is)
    ] in
    trail_goes c.args.self.now.nodes.items c.args.way.now c.loop-node.path.items c.match-fork_at.path.items _ c.loop-node.node-index c.fork_at.result c.loop-node-test.true next c.fork_at.ensures c.loop-node.invariant

pub returns : goal.returns
returns c most crumbs fits way =
    trail_ends c.args.self.now.nodes.items most crumbs c.args.way.now c.loop-node.path.items c.go_down-2.new.path.items c.loop-node.node-index c.args.seat c.loop-node-test.false c.loop-node.invariant way fits c.in_ok-go_down-2.ensures
