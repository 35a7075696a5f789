use Rattle.std.proofs.Common.{◌≤◌}
use Rattle.lq_validity.specs.Marks.{IsMarked}
use Rattle.lq_validity.specs.Pool.{PutsFacts}
use Rattle.lq_validity.proofs.pool.Pool.put_facts.Given as goal

abbrev pub invariant-loop-place : goal.invariant-loop-place
invariant-loop-place l = PutsFacts l.multipliers l.sums (λ n. IsMarked l.marks n × (n ≤ l.place)) l.self.multiples.items l.self.table
