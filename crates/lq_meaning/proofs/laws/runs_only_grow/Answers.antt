use Rattle.std.proofs.Common.{◌≤◌, arith}
use Rattle.lq_meaning.proofs.Growing.{growing, ended_within}
use Rattle.lq_meaning.proofs.RunKept.{exec_kept, called_kept, sequential_kept}
use Rattle.lq_meaning.proofs.laws.runs_only_grow.Goals as goal

pub returns-clause-statement : goal.returns-clause-statement
returns-clause-statement c context calls =
    exec_kept (growing context.fuel) context.program context.call context.call calls (omega arith)

pub returns-clause-call : goal.returns-clause-call
returns-clause-call c p fuel = called_kept (growing fuel) p (omega arith)

pub returns-clause-run : goal.returns-clause-run
returns-clause-run c fuel words p input =
    sequential_kept (growing fuel) p (omega arith) (λ o other. o.world.cost ≤ fuel) (λ run run' w opens grows. ended_within fuel w (run w) opens (grows w)) words input
