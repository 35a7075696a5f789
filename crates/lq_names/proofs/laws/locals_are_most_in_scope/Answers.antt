use Rattle.lq_names.proofs.ScopeCounts.{program_count}
use Rattle.lq_names.proofs.laws.locals_are_most_in_scope.Goals as goal

pub returns : goal.returns
returns c = program_count
