use Rattle.std.proofs.Common.{arith, sym, subst, reverse, false, [], ◌∷◌}
use Rattle.lq_templates.specs.Conditions.{is_rows}
use Rattle.lq_fixpoint.specs.Thinning.{AreDerived}
use Rattle.lq_fixpoint.specs.Work.{Drops}
use Rattle.lq_fixpoint.proofs.BoundedLemmas.{later_true, first_bounded, rest_bounded}
use Rattle.lq_fixpoint.proofs.GoalLemmas.{none_left}
use Rattle.lq_fixpoint.proofs.ThinLemmas.{or_first, or_later}
use Rattle.lq_fixpoint.proofs.WorkLemmas.{drops_none, goals_thinned}
use Rattle.lq_fixpoint.proofs.solving.+thin_goals.Goals as goal

pub thin_goal-requires-clause-bounded : goal.thin_goal-requires-clause-bounded
thin_goal-requires-clause-bounded t c =
    first_bounded c.args.index.now.goals c.args.goals.now c.in-Some.rest.now c.in-Some.goal.now c.args.work.now.assign c.in-Some.ensures.cases.0 c.requires.bounded

pub thin_goals-requires : goal.thin_goals-requires
thin_goals-requires t c = (
  omega (arith, c.in-Some.ensures.cases.1),
  (
    later_true is_rows c.args.goals.now c.in-Some.rest.now c.in-Some.goal.now c.in-Some.ensures.cases.0 c.requires.rows,
    rest_bounded c.args.index.now.goals c.args.goals.now c.in-Some.rest.now c.in-Some.goal.now c.args.work.now.assign c.in-Some.ensures.cases.0 c.requires.bounded
        c.thin_goal.new.work.assign c.in_ok-first.ensures.within,
  ),
)

pub returns-in_default : goal.returns-in_default
returns-in_default t c =
    let M = c.args.index.now.multipliers in
    let facts = reverse c.args.index.now.items in
    let users = c.args.users.now in
    let old = c.args.work.now in
    subst (λ l. Drops (AreDerived M facts l) users false old old) (sym (none_left c.args.goals.now c.in_default.ensures.cases)) (drops_none (AreDerived M facts []) users old tt)

pub returns-then-first : goal.returns-then-first
returns-then-first t c =
    let M = c.args.index.now.multipliers in
    let facts = reverse c.args.index.now.items in
    let users = c.args.users.now in
    let old = c.args.work.now in
    let d = c.in_ok-first.first in
    let e = c.in_ok-later.later in
    subst (λ l. Drops (AreDerived M facts l) users d old c.thin_goals.new.work) (sym c.in-Some.ensures.cases.0)
    (subst (λ b. Drops (AreDerived M facts (c.in-Some.goal.now ∷ c.in-Some.rest.now)) users b old c.thin_goals.new.work) (or_first d e c.if-first.true)
    (goals_thinned M facts users d e c.in-Some.goal.now c.in-Some.rest.now old c.thin_goal.new.work c.thin_goals.new.work c.in_ok-first.ensures c.in_ok-later.ensures))

pub returns-else-first : goal.returns-else-first
returns-else-first t c =
    let M = c.args.index.now.multipliers in
    let facts = reverse c.args.index.now.items in
    let users = c.args.users.now in
    let old = c.args.work.now in
    let d = c.in_ok-first.first in
    let e = c.in_ok-later.later in
    subst (λ l. Drops (AreDerived M facts l) users e old c.thin_goals.new.work) (sym c.in-Some.ensures.cases.0)
    (subst (λ b. Drops (AreDerived M facts (c.in-Some.goal.now ∷ c.in-Some.rest.now)) users b old c.thin_goals.new.work) (or_later d e c.if-first.false)
    (goals_thinned M facts users d e c.in-Some.goal.now c.in-Some.rest.now old c.thin_goal.new.work c.thin_goals.new.work c.in_ok-first.ensures c.in_ok-later.ensures))
