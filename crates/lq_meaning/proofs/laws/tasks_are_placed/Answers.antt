use Rattle.lq_meaning.proofs.TaskPlaced.{bounded_placed}
use Rattle.lq_meaning.proofs.laws.tasks_are_placed.Goals as goal

pub returns : goal.returns
returns c p turns words input = bounded_placed turns p words input
