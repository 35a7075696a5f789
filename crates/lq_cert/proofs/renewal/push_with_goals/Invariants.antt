use Rattle.std.proofs.Common.{◌≡◌, ◌++◌, length}
use Rattle.lq_cert.specs.Renewal.{with_goals}
use Rattle.lq_cert.proofs.renewal.push_with_goals.Given as goal

abbrev pub invariant-loop-line : goal.invariant-loop-line
invariant-loop-line l = l.out ++ with_goals l.rest ≡ l.fn.out ++ with_goals l.fn.lines

abbrev pub decreases-loop-line : goal.decreases-loop-line
decreases-loop-line l = length l.rest
