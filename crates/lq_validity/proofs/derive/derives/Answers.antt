use Rattle.std.proofs.Common.{reverse, subst, sym, refl, arith}
use Rattle.std.specs.Prelude.{IfOk, IfNone, IfSome, Contains}
use Rattle.lq_linear.specs.Derivation.{Derives}
use Rattle.lq_validity.specs.Order.{IsFirst}
use Rattle.lq_validity.specs.Derives.{Gives}
use Rattle.lq_validity.specs.Index.{GoalIndexed}
use Rattle.lq_validity.proofs.derive.derives.Goals as goal

pub returns-clause-none : goal.returns-clause-none
returns-clause-none c = subst (λ (i : GoalIndexed). IfOk c.find-2.result (λ r. IfNone r (Derives i.multipliers (reverse i.items) c.args.goal.now → ⊥))) c.in_ok-of.ensures c.find-2.ensures.none

pub returns-clause-goal : goal.returns-clause-goal
returns-clause-goal c = subst (λ (i : GoalIndexed). IfOk c.find-2.result (λ r. IfSome r (λ cert. IsFirst (Gives i.multipliers (reverse i.items) c.args.goal.now) cert.goal))) c.in_ok-of.ensures c.find-2.ensures.goal

pub find-requires : goal.find-requires
find-requires c = subst (λ (i : GoalIndexed). Contains i.goals c.args.goal.now) (sym c.in_ok-of.ensures) (subst (λ l. Contains l c.args.goal.now) (sym c.from_ref.ensures.value) (0, omega arith, refl))
