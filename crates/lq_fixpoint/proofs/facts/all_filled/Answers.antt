use Rattle.std.proofs.Common.{sym, ◌∙◌, subst, map}
use Rattle.std.specs.List.{AllByRecursion}
use Rattle.lq_linear.specs.Row.{IsBounded}
use Rattle.lq_templates.specs.Conditions.{filled}
use Rattle.lq_fixpoint.proofs.GoalLemmas.{no_bounded}
use Rattle.lq_fixpoint.proofs.facts.all_filled.Goals as goal

pub returns-in_default-2 : goal.returns-in_default-2
returns-in_default-2 c all =
    let bounded = subst (λ l. AllByRecursion IsBounded (map (filled c.args.values.now) l)) c.in-Some.ensures.cases.0 (c.loop-row.invariant.bounded all) in
    no_bounded (filled c.args.values.now c.in-Some.row.now) (sym c.in_ok-goal.ensures ∙ c.in_default-2.is) bounded.0
