use Rattle.std.proofs.Common.{◌≡◌, length}
use Rattle.lq_symbolic.specs.State.{new_values}
use Rattle.lq_symbolic.proofs.Given.{behind}
use Rattle.lq_symbolic.proofs.state.SymState.new_values.Given as goal

abbrev pub invariant-loop-field : goal.invariant-loop-field
invariant-loop-field l = new_values l.fields l.initial.self ≡ behind l.values (new_values l.rest l.self)

abbrev pub decreases-loop-field : goal.decreases-loop-field
decreases-loop-field l = length l.rest
