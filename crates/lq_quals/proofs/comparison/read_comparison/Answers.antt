use Rattle.std.proofs.Common.{List, not, subst}
use Rattle.lq_quals.specs.Side.{IsSide}
use Rattle.lq_quals.specs.declared.term.Addend.{Addend}
use Rattle.lq_quals.proofs.SideReading.{no_relation, no_left, no_right}
use Rattle.lq_quals.proofs.comparison.read_comparison.Goals as goal

pub returns-in_default : goal.returns-in_default
returns-in_default c = no_relation c.args.text.now c.before_relation.result.0.now c.before_relation.result.1.now c.before_relation.ensures c.in_default.ensures

pub returns-in_default-2 : goal.returns-in_default-2
returns-in_default-2 c =
    no_left c.args.text.now c.before_relation.result.0.now c.before_relation.result.1.now c.in-Some.relation c.in-Some.right.now c.before_relation.ensures c.in-Some.ensures
    (subst (λ b. (xs : List Addend) → ¬ IsSide b c.before_relation.result.0.now xs) c.is_reversed-is_reversed.ensures (rw c.in_default-2.is at c.in_ok-addends.ensures))

pub returns-in_default-3 : goal.returns-in_default-3
returns-in_default-3 c =
    no_right c.args.text.now c.before_relation.result.0.now c.before_relation.result.1.now c.in-Some.relation c.in-Some.right.now c.before_relation.ensures c.in-Some.ensures
    (subst (λ b. (xs : List Addend) → ¬ IsSide (not b) c.in-Some.right.now xs) c.is_reversed-is_reversed.ensures (rw c.in_default-3.is at c.in_ok-later.ensures))
