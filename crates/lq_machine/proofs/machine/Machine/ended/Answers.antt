-- The counts of the root are those of the task.
use Rattle.lq_machine.proofs.Replaying.{ended_told}
use Rattle.lq_machine.proofs.machine.Machine.ended.Goals as goal

pub returns-then-counts : goal.returns-then-counts
returns-then-counts c p turns task stands = ended_told c.args.self.now p turns task c.counts-counts.result c.counts-counts.ensures c.if-counts.true stands
