-- The counts of the root are those of the task.
use Rattle.std.proofs.Common.{◌∙◌}
use Rattle.lq_machine.proofs.Machines.{runnable_told}
use Rattle.lq_machine.proofs.machine.Machine.runnable.Goals as goal

pub returns-clause-task : goal.returns-clause-task
returns-clause-task c p turns task stands = c.runnable.ensures ∙ runnable_told c.args.self.now p turns task stands
