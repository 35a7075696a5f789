-- The line is settled, and what is around it is made anew.
use Rattle.std.proofs.Common.{◌≡◌, ℕ, List}
use Rattle.lq_machine.specs.Forest.{Tree}
use Rattle.lq_machine.specs.Around.{Crumb, way_of, HasAround, Rises}
use Rattle.lq_machine.proofs.Growth.{if_ok}
use Rattle.lq_machine.proofs.Plucked.{vacant_filled, returns_risen}
use Rattle.lq_machine.proofs.machine.forest.Forest.put_back.Goals as goal

pub returns : goal.returns
returns c =
    if_ok c.rise.result _ _
    (λ (x : Unit {0}) (rises : (most : ℕ) (crumbs : List Crumb) (below : Tree) → c.args.way.now.items ≡ way_of crumbs → HasAround c.settle.new.self.nodes.items most crumbs below → Rises c.args.p.now most c.rise.new.self.nodes.items crumbs below)
    most crumbs way vacant few.
    let settled = c.in_ok-settle.ensures.settles most few in
    returns_risen c.args.p.now most c.args.self.now.nodes.items c.settle.new.self.nodes.items c.rise.new.self.nodes.items crumbs c.args.seat c.args.line settled
    (rises most crumbs settled.tree way (vacant_filled c.args.p.now most c.args.self.now.nodes.items c.settle.new.self.nodes.items crumbs c.args.seat c.args.line vacant c.in_ok-settle.ensures.changes settled)))
    c.rise.ensures
