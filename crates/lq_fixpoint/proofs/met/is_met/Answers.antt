use Rattle.std.proofs.Common.{subst, List, reverse, Some, Bool}
use Rattle.std.specs.Prelude.{IsTrue, ◌↔◌}
use Rattle.std.specs.List.{AllByRecursion}
use Rattle.std.proofs.lemmas.Result.{IfOk-weaker}
use Rattle.lq_linear.specs.Row.{Inequality}
use Rattle.lq_linear.specs.Derivation.{Derives}
use Rattle.lq_validity.specs.Index.{GoalIndexed}
use Rattle.lq_templates.specs.Conditions.{facts_of, goals_of, IsMet}
use Rattle.lq_fixpoint.specs.Goals.{AreRowsOf}
use Rattle.lq_fixpoint.proofs.GoalLemmas.{both_derived}
use Rattle.lq_fixpoint.proofs.met.is_met.Goals as goal

pub returns : goal.returns
returns c =
    let M = c.args.mults.now in
    let assign = c.args.assign.now in
    let condition = c.args.c.now in
    let slice = c.as_slice-2.result.now in
    let made : AreRowsOf (goals_of assign condition) (Some c.in-Some.goals) = subst (AreRowsOf (goals_of assign condition)) c.in-Some.is c.in_ok-goals.ensures in
    IfOk-weaker c.are_derived.result
    (λ (met : Bool). IsTrue met ↔ AllByRecursion (Derives c.in_ok-index.index.multipliers (reverse c.in_ok-index.index.items)) slice)
    (λ (met : Bool). IsTrue met ↔ IsMet M assign condition)
    (λ met h. both_derived M (facts_of assign condition) (goals_of assign condition) c.in-Some.goals met made
    (subst (λ (rows : List Inequality). IsTrue met ↔ AllByRecursion (Derives M (facts_of assign condition)) rows) c.as_slice-2.ensures
    (subst (λ facts. IsTrue met ↔ AllByRecursion (Derives M facts) slice) c.in_ok-facts.ensures.facts
    (subst (λ (index : GoalIndexed). IsTrue met ↔ AllByRecursion (Derives index.multipliers (reverse index.items)) slice) c.in_ok-index.ensures h))))
    c.are_derived.ensures
