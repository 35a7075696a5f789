-- The measures of the branches that begin, and the line that goes on in a loop.
use Rattle.std.proofs.Common.{◌≡◌, ℕ, ◌+◌, ◌*◌, ◌^◌, ◌≤◌, List}
use Rattle.lq_meaning.specs.Line.{task_of, IsBelow}
use Rattle.lq_machine.specs.Around.{Changes}
use Rattle.lq_machine.proofs.machine.forest.Forest.+settle.Given as goal

abbrev pub decreases-settle : goal.decreases-settle
decreases-settle l = l.depth * 2 ^ 66 + 1

abbrev pub decreases-open : goal.decreases-open
decreases-open l = l.depth * 2 ^ 66

abbrev pub decreases-sprout : goal.decreases-sprout
decreases-sprout l = l.depth * 2 ^ 66 + 2

abbrev pub decreases-grow : goal.decreases-grow
decreases-grow l = l.depth * 2 ^ 66 + 2 + l.count

abbrev pub invariant-settle-loop : goal.invariant-settle-loop
invariant-settle-loop l =
    Changes l.fn.self.nodes.items l.self.nodes.items l.seat.node
    × ((most : ℕ) → IsBelow most l.fn.line → IsBelow most l.line
    × ((turns : ℕ) (branch : List ℕ) → most ≤ turns → task_of l.p turns branch l.passed l.line ≡ task_of l.p turns branch l.seat.passed l.fn.line))
