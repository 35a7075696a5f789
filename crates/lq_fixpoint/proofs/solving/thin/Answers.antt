use Rattle.std.proofs.Common.{◌≡◌, ◌∙◌, sym, ap, subst, reverse, List, Bool}
use Rattle.std.specs.Prelude.{Contains}
use Rattle.std.specs.List.{flat_map}
use Rattle.std.proofs.lemmas.Bool.{false≢true}
use Rattle.std.proofs.lemmas.Result.{IfOk-weaker}
use Rattle.lq_templates.specs.declared.condition.Given.{Given}
use Rattle.lq_templates.specs.Conditions.{facts_of}
use Rattle.lq_validity.specs.Index.{GoalIndexed}
use Rattle.lq_fixpoint.specs.Goals.{bounded_of}
use Rattle.lq_fixpoint.specs.Thinning.{AreDerived, IsServedBy}
use Rattle.lq_fixpoint.specs.Work.{Drops}
use Rattle.lq_fixpoint.proofs.WorkLemmas.{drops_none, drops_as}
use Rattle.lq_fixpoint.proofs.solving.thin.Goals as goal

pub returns-then-not-asks_rows : goal.returns-then-not-asks_rows
returns-then-not-asks_rows c =
    drops_none (IsServedBy c.args.mults.now (facts_of c.args.work.now.assign c.args.c.now) c.args.c.now) c.args.users.now c.args.work.now
    (λ asks. absurd (false≢true (c.if-not-asks_rows.ensures ∙ asks)))

pub thin_goals-requires-clause-bounded : goal.thin_goals-requires-clause-bounded
thin_goals-requires-clause-bounded c row h =
    let assign = c.args.work.now.assign in
    let same : c.in_ok-index.index.goals ≡ flat_map (bounded_of assign) c.as_slice-goals.result.now =
    ap (λ (index : GoalIndexed). index.goals) c.in_ok-index.ensures ∙ c.as_slice.ensures ∙ c.in_ok-rows.ensures in
    subst (λ l. Contains l row) (sym same) h

pub returns : goal.returns
returns c =
    let M = c.args.mults.now in
    let users = c.args.users.now in
    let old = c.args.work.now in
    let new = c.thin_goals.new.work in
    let condition = c.args.c.now in
    let slice = c.as_slice-goals.result.now in
    let facts = facts_of old.assign condition in
    let index = c.in_ok-index.index in
    IfOk-weaker c.thin_goals.result (λ (d : Bool). Drops (AreDerived index.multipliers (reverse index.items) slice) users d old new)
    (λ (d : Bool). Drops (IsServedBy M facts condition) users d old new)
    (λ d h. drops_as (AreDerived M facts condition.goals) (IsServedBy M facts condition) users d old new (λ a w served. served (sym c.if-not-asks_rows.ensures)) (λ derived asks. derived)
    (subst (λ (l : List Given). Drops (AreDerived M facts l) users d old new) c.as_slice-goals.ensures
    (subst (λ f. Drops (AreDerived M f slice) users d old new) c.in_ok-facts.ensures.facts
    (subst (λ (i : GoalIndexed). Drops (AreDerived i.multipliers (reverse i.items) slice) users d old new) c.in_ok-index.ensures h))))
    c.thin_goals.ensures
