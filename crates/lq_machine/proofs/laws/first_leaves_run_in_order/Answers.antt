use Rattle.std.proofs.Common.{suc, ◌∙◌, arith}
use Rattle.lq_meaning.specs.Behaviour.{beginning}
use Rattle.lq_meaning.proofs.TaskUnderWay.{bounded_under_way, bounded_opens}
use Rattle.lq_machine.proofs.FirstLeaves.{first_leaves}
use Rattle.lq_machine.proofs.laws.first_leaves_run_in_order.Goals as goal

pub returns : goal.returns
returns c p formed fuel words input picks zeros =
    first_leaves fuel (suc fuel) (omega arith) (beginning fuel words p input).task
    (c.formed_programs_have_regular_tasks.ensures p formed (suc fuel) words input) (bounded_under_way (suc fuel) p words input) picks zeros
    (beginning fuel words p input).world (bounded_opens (suc fuel) p words input)
    ∙ c.tasks_in_order.ensures.whole fuel words p input
