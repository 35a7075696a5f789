use Rattle.std.proofs.Common.{arith, rules}
use Rattle.lq_chain.proofs.Joined.{drop-none, drop-some}
use Rattle.lq_chain.proofs.walk.WalkIterator.next.Goals as goal

pub returns-in_err-element-clause-steps : goal.returns-in_err-element-clause-steps
returns-in_err-element-clause-steps g c =
    let none = drop-none c.args.self.now.chain.now c.args.self.now.at c.in_err-element.ensures.value in
    rw c.from_residual.ensures (search rules)

pub overflow_add-self : goal.overflow_add-self
overflow_add-self g c = omega (arith, c.in_ok-element.ensures.within, c.in_ok-element.ensures.few)

pub returns-clause-steps : goal.returns-clause-steps
returns-clause-steps g c = drop-some c.args.self.now.chain.now c.args.self.now.at c.in_ok-element.element.now c.in_ok-element.ensures.value
