use Rattle.std.proofs.Common.{refl}
use Rattle.lq_meaning.specs.Line.{task_of}
use Rattle.lq_meaning.proofs.line.Line.nowhere.Goals as goal

pub returns-clause-task : goal.returns-clause-task
unfolding task_of
returns-clause-task c p turns branch passed = rw c.restart.ensures refl
