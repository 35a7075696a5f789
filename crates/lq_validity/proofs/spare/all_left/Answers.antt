use Rattle.std.proofs.Common.{◌-◌, arith}
use Rattle.lq_validity.proofs.SpareLemmas.{all_leave}
use Rattle.lq_validity.proofs.spare.all_left.Goals as goal

pub returns : goal.returns
returns c = all_leave c.args.rows.now c.loop.left.items (λ n p l. (p, c.loop.invariant.marked (n - 1) (omega (arith, p, l, c.loop-test.false))))
