use Rattle.std.proofs.Common.{◌≡◌, ◌++◌, ap, sym, ◌∙◌, subst, map, Some}
use Rattle.std.specs.List.{AllByRecursion, flat_map}
use Rattle.lq_linear.specs.Row.{IsBounded}
use Rattle.lq_linear.specs.Collect.{as_row}
use Rattle.lq_templates.specs.Conditions.{rows_of}
use Rattle.lq_fixpoint.specs.Goals.{AreRowsOf}
use Rattle.lq_fixpoint.proofs.GoalLemmas.{rows_step, all_back}
use Rattle.lq_fixpoint.proofs.facts.goals_under.Goals as goal

pub loop-given-preserved : goal.loop-given-preserved
loop-given-preserved c =
    let assign = c.args.assign.now in
    let all = map as_row (flat_map (rows_of assign) c.args.c.now.goals) in
    let here = rows_of assign c.in-Some.given.now in
    let later = flat_map (rows_of assign) c.in-Some.later.now in
    let goals = c.loop-given.goals in
    let more = c.in-Some-2.more in
    let made : AreRowsOf here (Some more) = subst (AreRowsOf here) c.in-Some-2.is c.in_ok-more.ensures in
    let before : all ≡ map (λ row. Some row) goals ++ map as_row (here ++ later) =
    c.loop-given.invariant.rows ∙ ap (λ l. map (λ row. Some row) goals ++ map as_row (flat_map (rows_of assign) l)) c.in-Some.ensures.cases.0 in
    record {
      rows = rows_step all goals more here later before made ∙ ap (λ l. map (λ row. Some row) l ++ map as_row later) (sym c.in_ok-append.ensures);
      bounded = λ bounded. all_back IsBounded here later (subst (λ l. AllByRecursion IsBounded (flat_map (rows_of assign) l)) c.in-Some.ensures.cases.0 (c.loop-given.invariant.bounded bounded));
    }
