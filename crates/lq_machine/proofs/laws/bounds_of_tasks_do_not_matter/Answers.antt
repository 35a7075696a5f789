use Rattle.std.proofs.Common.{◌≡◌, ℕ, suc, ◌<◌, ℤ, List, ap, ◌∙◌, arith}
use Rattle.lq_tree.specs.declared.plain.PProgram.{PProgram}
use Rattle.lq_meaning.specs.Behaviour.{bounded}
use Rattle.lq_meaning.proofs.TaskBounds.{bounded_same}
use Rattle.lq_machine.specs.Run.{Ran, ran}
use Rattle.lq_machine.proofs.SameRuns.{ran_same}
use Rattle.lq_machine.proofs.laws.bounds_of_tasks_do_not_matter.Goals as goal

-- the run with its log
both_ran : (p : PProgram) (fuel turns words : ℕ) (input : List ℤ) (picks : List ℕ) → fuel < turns
    → ran fuel picks (bounded turns words p input).task (bounded turns words p input).world ≡ ran fuel picks (bounded (suc fuel) words p input).task (bounded (suc fuel) words p input).world
both_ran p fuel turns words input picks below =
    let same = bounded_same (suc fuel) turns (suc fuel) (omega arith) (omega arith) p words input in
    ran_same fuel picks (bounded turns words p input).task (bounded (suc fuel) words p input).task same.tasks (bounded turns words p input).world
    ∙ ap (ran fuel picks (bounded (suc fuel) words p input).task) same.worlds

pub returns-clause-outcomes : goal.returns-clause-outcomes
returns-clause-outcomes c p fuel turns words input picks below = ap (λ (r : Ran). r.outcome) (both_ran p fuel turns words input picks below)

pub returns-clause-logs : goal.returns-clause-logs
returns-clause-logs c p fuel turns words input picks below = ap (λ (r : Ran). r.log) (both_ran p fuel turns words input picks below)
