-- `main` is in the line alone.
use Rattle.std.proofs.Common.{ℕ, [], subst, arith}
use Rattle.lq_meaning.specs.Line.{IsBelow, task_of}
use Rattle.lq_machine.specs.declared.machine.Machine.{Machine}
use Rattle.lq_machine.specs.Machine.{Begins, Stands}
use Rattle.lq_machine.proofs.Growth.{if_ok}
use Rattle.lq_machine.proofs.machine.begin.Goals as goal

pub returns : goal.returns
returns c =
    if_ok c.machine_of.result _ _
    (λ (m : Machine) (begins : IsBelow 1 c.begin.new.self → Begins c.args.p.now m c.args.heap (λ (turns : ℕ). task_of c.args.p.now turns [] 0 c.begin.new.self)).
    let is = begins (c.in_ok-begin.ensures.below 1 (omega arith)) in
    record {
      same_heap = is.same_heap;
      no_cost = is.no_cost;
      no_log = is.no_log;
      no_stray = is.no_stray;
      begun = λ turns some. subst (Stands c.args.p.now turns m) (c.in_ok-begin.ensures.task turns [] 0 some) (is.begun turns some);
    })
    c.machine_of.ensures
