use Rattle.std.proofs.Common.{suc, false}
use Rattle.lq_meaning.specs.Behaviour.{beginning}
use Rattle.lq_machine.proofs.RuledRuns.{runs_have_rules}
use Rattle.lq_machine.proofs.laws.replays_have_rules.Goals as goal

pub returns : goal.returns
returns c p formed fuel words input picks =
    runs_have_rules fuel picks false (beginning fuel words p input).task (beginning fuel words p input).world
    (c.formed_programs_have_regular_tasks.ensures p formed (suc fuel) words input)
