use Rattle.lq_meaning.proofs.TaskFormed.{bounded_regular}
use Rattle.lq_meaning.proofs.laws.formed_programs_have_regular_tasks.Goals as goal

pub returns : goal.returns
returns c p formed turns words input = bounded_regular p formed turns words input
