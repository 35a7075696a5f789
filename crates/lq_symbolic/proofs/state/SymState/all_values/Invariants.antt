use Rattle.std.proofs.Common.{◌≡◌, length}
use Rattle.lq_symbolic.specs.Value.{all_values}
use Rattle.lq_symbolic.proofs.Given.{behind}
use Rattle.lq_symbolic.proofs.state.SymState.all_values.Given as goal

abbrev pub invariant-loop-e : goal.invariant-loop-e
invariant-loop-e l = all_values l.list l.initial.self ≡ behind l.values (all_values l.rest l.self)

abbrev pub decreases-loop-e : goal.decreases-loop-e
decreases-loop-e l = length l.rest
