-- The line is settled at the root.
use Rattle.std.proofs.Common.{refl, None}
use Rattle.lq_machine.proofs.Starting.{stands_alone}
use Rattle.lq_machine.proofs.machine.machine_of.Goals as goal

pub returns : goal.returns
returns c few = record {
  same_heap = refl;
  no_cost = refl;
  no_log = c.new-2.ensures.items;
  no_stray = refl;
  begun = stands_alone c.args.p.now (record { alloc = c.args.alloc; forest = c.settle.new.self; heap = c.args.heap; cost = 0; log = c.new-2.result; stray = None; way = c.new-3.result })
      c.in_ok-forest.forest.nodes.items c.args.line refl (c.in_ok-settle.ensures.settles 1 few);
}
