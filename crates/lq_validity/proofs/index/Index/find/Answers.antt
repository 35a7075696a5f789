use Rattle.std.proofs.Common.{reverse, subst}
use Rattle.std.specs.Prelude.{IfOk, IfNone, IfSome}
use Rattle.lq_linear.specs.Derivation.{Derives}
use Rattle.lq_validity.specs.Order.{IsFirst}
use Rattle.lq_validity.specs.Derives.{Gives}
use Rattle.lq_validity.specs.Index.{Indexed}
use Rattle.lq_validity.proofs.index.Index.find.Goals as goal

pub find-requires-clause-serving : goal.find-requires-clause-serving
find-requires-clause-serving c = c.self.invariant.1 c.args.goal.now

pub returns-clause-none : goal.returns-clause-none
returns-clause-none c = subst (λ (i : Indexed). IfOk c.find.result (λ r. IfNone r (Derives i.multipliers (reverse i.items) c.args.goal.now → ⊥))) c.self.view_is c.find.ensures.none

pub returns-clause-goal : goal.returns-clause-goal
returns-clause-goal c = subst (λ (i : Indexed). IfOk c.find.result (λ r. IfSome r (λ cert. IsFirst (Gives i.multipliers (reverse i.items) c.args.goal.now) cert.goal))) c.self.view_is c.find.ensures.goal
