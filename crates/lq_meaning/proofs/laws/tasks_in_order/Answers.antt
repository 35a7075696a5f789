use Rattle.std.proofs.Common.{suc, arith}
use Rattle.lq_meaning.proofs.TaskOrder.{bounded_in_order}
use Rattle.lq_meaning.proofs.laws.tasks_in_order.Goals as goal

pub returns-clause-whole : goal.returns-clause-whole
returns-clause-whole c fuel words p input = bounded_in_order fuel (suc fuel) (omega arith) p words input

pub returns-clause-any_bound : goal.returns-clause-any_bound
returns-clause-any_bound c fuel turns words p input below = bounded_in_order fuel turns below p words input
