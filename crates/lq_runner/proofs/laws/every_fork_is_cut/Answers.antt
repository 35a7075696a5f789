use Rattle.lq_runner.proofs.Cutting.{chunks_there}
use Rattle.lq_runner.proofs.laws.every_fork_is_cut.Goals as goal

pub returns : goal.returns
returns c = chunks_there
