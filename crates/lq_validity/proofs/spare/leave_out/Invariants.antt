use Rattle.lq_validity.specs.Spare.{Leaves}
use Rattle.lq_validity.proofs.spare.leave_out.Given as goal

abbrev pub invariant-loop : goal.invariant-loop
invariant-loop l = Leaves l.rows l.goals l.left.items
