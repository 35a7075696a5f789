use Rattle.std.proofs.Common.{arith}
use Rattle.lq_ground.proofs.ListLemmas.{first_more}
use Rattle.lq_ground.proofs.position.first_slots.Goals as goal

pub loop-slot-preserved : goal.loop-slot-preserved
loop-slot-preserved c = first_more c.loop-slot.slot c.args.count c.loop-slot.slots c.push.new.self _ (omega arith) c.loop-slot.invariant c.in_ok-push.ensures.ok
