use Rattle.std.proofs.Common.{◌≡◌, Some, refl, sym, subst}
use Rattle.lq_meaning.specs.declared.line.Line.{Line}
use Rattle.lq_meaning.specs.Ending.{Done}
use Rattle.lq_meaning.specs.Task.{Ended}
use Rattle.lq_meaning.specs.Behaviour.{in_function}
use Rattle.lq_meaning.specs.Line.{IsBelow, context_from, task_of}
use Rattle.lq_meaning.proofs.run.begin.Goals as goal

pub returns : goal.returns
returns c =
    let same = sym c.new.ensures.top in record {
      same_heap = refl;
      no_cost = refl;
      no_forks = c.new.ensures.forks;
      task = λ turns branch passed some.
          subst (λ (line : Line). task_of c.args.p.now turns branch passed line ≡ in_function (context_from c.args.p.now turns branch 1023) (Some c.args.main.now) c.args.arguments.now (λ word passed. Ended Done) passed) same
          (c.in_ok-begin.ensures.task turns branch passed some);
      below = λ turns some. subst (λ (line : Line). IsBelow turns line) same (c.in_ok-begin.ensures.below turns some);
    }
