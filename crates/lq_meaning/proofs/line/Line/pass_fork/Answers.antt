use Rattle.std.proofs.Common.{suc}
use Rattle.std.proofs.lemmas.Result.{on_ok_weaker}
use Rattle.lq_meaning.specs.declared.line.Stop.TheVariants.{Unruled}
use Rattle.lq_meaning.specs.Line.{behind_of}
use Rattle.lq_meaning.proofs.LineResumes.{below-stop}
use Rattle.lq_meaning.proofs.line.Line.pass_fork.Goals as goal

pub returns-clause-task : goal.returns-clause-task
unfolding behind_of
returns-clause-task c = on_ok_weaker c.settle.result (λ task turns branch passed fork below. task turns branch (suc passed) (below-stop turns c.args.self.now Unruled tt below)) c.settle.ensures.task

pub returns-clause-below : goal.returns-clause-below
returns-clause-below c = on_ok_weaker c.settle.result (λ below turns few. below turns (below-stop turns c.args.self.now Unruled tt few)) c.settle.ensures.below
