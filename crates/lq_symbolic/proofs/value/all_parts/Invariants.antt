use Rattle.std.proofs.Common.{◌≡◌, ◌++◌, length}
use Rattle.lq_symbolic.specs.State.{all_parts}
use Rattle.lq_symbolic.proofs.value.all_parts.Given as goal

abbrev pub invariant-loop-value : goal.invariant-loop-value
invariant-loop-value l = all_parts l.values ≡ l.parts ++ all_parts l.rest

abbrev pub decreases-loop-value : goal.decreases-loop-value
decreases-loop-value l = length l.rest
