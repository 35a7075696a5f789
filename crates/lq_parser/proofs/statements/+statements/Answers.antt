use Rattle.std.proofs.Common.{[], ap, arith, length, rules, w64, ◌++◌, ◌∷◌}
use Rattle.std.specs.Int.RustNames.{FitsSigned}
use Rattle.std.proofs.lemmas.Int.{to_z-of_z}
use Rattle.std.proofs.lemmas.Result.{err_from_is_err_and}
use Rattle.lq_parser.proofs.Leads.{complete_makes, complete_name, complete_then, done_nothing, done_one, fails_makes, fails_then, leads_makes, leads_name, leads_on, leads_one, leads_then, stuck_name, stuck_one}
use Rattle.lq_parser.proofs.Cuts.{done_under, fails_before, fails_under, leads_before, leads_cut}
use Rattle.lq_parser.proofs.Exits.{missing, missing_name, passes}
use Rattle.lq_parser.proofs.StatementRules.{complete_behind, complete_block_rest, complete_body, complete_branch, done_placed, fails_placed, guarded_follows, leads_block, leads_block_body, leads_braced, leads_branch, leads_closed, leads_flat, leads_flat_body, leads_guarded, leads_more, leads_the_for, leads_the_foreach, leads_the_while, made_block_never, statement_follows, statement_never}
use Rattle.lq_parser.specs.Statements.{IsStatement}
use Rattle.lq_parser.proofs.Onward.{goes_on, goes_under, not_there, stops_on, stops_under, there}
use Rattle.lq_parser.proofs.FlatRules.{flat_some}
use Rattle.lq_parser.proofs.Firsts.{complete_expression}
use Rattle.lq_parser.proofs.IfRules.{complete_branches, complete_elses, complete_second, leads_arm, leads_closed_branches, leads_else, leads_last, leads_one_branch, leads_over, leads_the_cobegin, leads_the_if}
use Rattle.lq_parser.proofs.LoopRules.{bounds_follow, complete_behind_bounds, complete_behind_condition, complete_behind_first, complete_behind_index, complete_behind_low, complete_behind_step, complete_closed, low_follows, step_follows}
use Rattle.lq_parser.proofs.statements.+statements.Goals as goal

-- ---- block

pub block-returns-in_err-rest-clause-stops : goal.block-returns-in_err-rest-clause-stops
block-returns-in_err-rest-clause-stops t c =
    let p = err_from_is_err_and c.from_residual.result c.from_residual.ensures.1 in
    rw (p.1, p.2) (missing c.in_err-rest.field-0.0 c.in_err-rest.ensures.missing
    (λ lacks. leads_braced.fails _ (stuck_one (complete_block_rest []) lacks)))

pub block-loop-after-init : goal.block-loop-after-init
block-loop-after-init t c = record {
  whole = rw c.new-statements.ensures (leads_on leads_braced (leads_one c.in_ok-rest.ensures.found));
  shorter = omega (arith, ap length c.in_ok-rest.ensures.found.1);
}

pub block-returns-in-Some-clause-done : goal.block-returns-in-Some-clause-done
block-returns-in-Some-clause-done t c = c.loop-after.invariant.whole.done _ _ ((leads_closed c.loop-after.statements c.in-Some.ensures.some).done _ _ (leads_makes (done_one c.in-Some.ensures.some)))

pub block-returns-in-Some-clause-shorter : goal.block-returns-in-Some-clause-shorter
block-returns-in-Some-clause-shorter t c = omega (arith, ap length c.in-Some.ensures.some.1, c.loop-after.invariant.shorter)

pub block-returns-in_err-statement-clause-stops : goal.block-returns-in_err-statement-clause-stops
block-returns-in_err-statement-clause-stops t c =
    let p = err_from_is_err_and c.from_residual-in_err-statement.result c.from_residual-in_err-statement.ensures.1 in
    rw (p.1, p.2) (passes c.in_err-statement.field-0.0 c.in_err-statement.ensures.stops
    (λ end f. c.loop-after.invariant.whole.fails _ ((leads_more c.loop-after.statements c.in_default.ensures.none).fails _
    (fails_before (statement_follows c.loop-after.statements) (λ a. complete_block_rest (c.loop-after.statements ++ (a ∷ []))) f))))

pub block-loop-after-preserved : goal.block-loop-after-preserved
block-loop-after-preserved t c = record {
  whole = rw c.in_ok-push.ensures.ok (leads_on c.loop-after.invariant.whole (leads_on (leads_more c.loop-after.statements c.in_default.ensures.none)
      (leads_before (statement_follows c.loop-after.statements) c.in_ok-statement.ensures.done)));
  shorter = omega (arith, c.in_ok-statement.ensures.shorter, c.loop-after.invariant.shorter);
}

-- ---- statement

pub statement-returns-in_err-kind-clause-stops : goal.statement-returns-in_err-kind-clause-stops
statement-returns-in_err-kind-clause-stops t c =
    let p = err_from_is_err_and c.from_residual.result c.from_residual.ensures.1 in
    rw (p.1, p.2) (passes c.in_err-kind.field-0.0 c.in_err-kind.ensures.stops (λ end f. fails_placed statement_never f))

pub statement-returns-clause-done : goal.statement-returns-clause-done
statement-returns-clause-done t c = rw c.place_of_first-at.ensures (done_placed statement_never c.in_ok-kind.ensures.done)

-- ---- kind

pub kind-returns-in_err-statements-clause-stops : goal.kind-returns-in_err-statements-clause-stops
kind-returns-in_err-statements-clause-stops t c =
    let p = err_from_is_err_and c.from_residual.result c.from_residual.ensures.1 in
    rw (p.1, p.2) (passes c.in_err-statements.field-0.0 c.in_err-statements.ensures.stops
    (λ end f. (leads_block (there c.eat_sign.result c.if-is_some.ensures c.eat_sign.ensures.some).1).fails _ (fails_makes (fails_under (λ next s. tt) f))))

pub kind-returns-then-is_some-clause-done : goal.kind-returns-then-is_some-clause-done
kind-returns-then-is_some-clause-done t c = (leads_block (there c.eat_sign.result c.if-is_some.ensures c.eat_sign.ensures.some).1).done _ _ (leads_makes (done_under (λ next s. tt) c.in_ok-statements.ensures.done))

pub kind-returns-in-Some-clause-done : goal.kind-returns-in-Some-clause-done
kind-returns-in-Some-clause-done t c = let b = c.in-Some.ensures.some in goes_on (leads_cut {X = IsStatement} statement_never b.1) c.conditional.result (c.conditional.ensures.done b.0)

pub kind-returns-in-Some-clause-stops : goal.kind-returns-in-Some-clause-stops
kind-returns-in-Some-clause-stops t c = let b = c.in-Some.ensures.some in stops_on (leads_cut {X = IsStatement} statement_never b.1) c.conditional.result (c.conditional.ensures.stops b.0)

pub kind-returns-in_err-cond-clause-stops : goal.kind-returns-in_err-cond-clause-stops
kind-returns-in_err-cond-clause-stops t c =
    let b = c.in-Some-eat_word.ensures.some in
    let p = err_from_is_err_and c.from_residual-in_err-cond.result c.from_residual-in_err-cond.ensures.1 in
    rw (p.1, p.2) (passes c.in_err-cond.field-0.0 c.in_err-cond.ensures.stops
    (λ end f. (leads_cut {X = IsStatement} statement_never b.1).fails _ (leads_the_while.fails _ (fails_makes (fails_under (λ next s. tt) f)))))

pub kind-returns-in-Some-eat_word-clause-done : goal.kind-returns-in-Some-eat_word-clause-done
kind-returns-in-Some-eat_word-clause-done t c =
    let b = c.in-Some-eat_word.ensures.some in
    (leads_cut {X = IsStatement} statement_never b.1).done _ _ (leads_the_while.done _ _ (leads_makes (done_under (λ next s. tt) c.in_ok-cond.ensures.done)))

pub kind-returns-in-Some-eat_word-2-clause-done : goal.kind-returns-in-Some-eat_word-2-clause-done
kind-returns-in-Some-eat_word-2-clause-done t c = let b = c.in-Some-eat_word-2.ensures.some in goes_on (leads_cut {X = IsStatement} statement_never b.1) c.for_loop.result (c.for_loop.ensures.done b.0)

pub kind-returns-in-Some-eat_word-2-clause-stops : goal.kind-returns-in-Some-eat_word-2-clause-stops
kind-returns-in-Some-eat_word-2-clause-stops t c = let b = c.in-Some-eat_word-2.ensures.some in stops_on (leads_cut {X = IsStatement} statement_never b.1) c.for_loop.result (c.for_loop.ensures.stops b.0)

pub kind-returns-in-Some-eat_word-3-clause-done : goal.kind-returns-in-Some-eat_word-3-clause-done
kind-returns-in-Some-eat_word-3-clause-done t c = let b = c.in-Some-eat_word-3.ensures.some in goes_on (leads_cut {X = IsStatement} statement_never b.1) c.cobegin.result (c.cobegin.ensures.done b.0)

pub kind-returns-in-Some-eat_word-3-clause-stops : goal.kind-returns-in-Some-eat_word-3-clause-stops
kind-returns-in-Some-eat_word-3-clause-stops t c = let b = c.in-Some-eat_word-3.ensures.some in stops_on (leads_cut {X = IsStatement} statement_never b.1) c.cobegin.result (c.cobegin.ensures.stops b.0)

pub kind-returns-in-Some-eat_word-4-clause-done : goal.kind-returns-in-Some-eat_word-4-clause-done
kind-returns-in-Some-eat_word-4-clause-done t c = let b = c.in-Some-eat_word-4.ensures.some in goes_on (leads_cut {X = IsStatement} statement_never b.1) c.foreach.result (c.foreach.ensures.done b.0)

pub kind-returns-in-Some-eat_word-4-clause-stops : goal.kind-returns-in-Some-eat_word-4-clause-stops
kind-returns-in-Some-eat_word-4-clause-stops t c = let b = c.in-Some-eat_word-4.ensures.some in stops_on (leads_cut {X = IsStatement} statement_never b.1) c.foreach.result (c.foreach.ensures.stops b.0)

pub kind-returns-clause-done : goal.kind-returns-clause-done
kind-returns-clause-done t c =
    goes_under (leads_flat (not_there c.eat_sign.result c.if-is_some.ensures c.eat_sign.ensures.none) c.in_default.ensures.none c.in_default-eat_word.ensures.none c.in_default-eat_word-2.ensures.none
    c.in_default-eat_word-3.ensures.none c.in_default-eat_word-4.ensures.none) (λ next s. tt) c.flat.result c.flat.ensures.done

pub kind-returns-clause-stops : goal.kind-returns-clause-stops
kind-returns-clause-stops t c =
    stops_under (leads_flat (not_there c.eat_sign.result c.if-is_some.ensures c.eat_sign.ensures.none) c.in_default.ensures.none c.in_default-eat_word.ensures.none c.in_default-eat_word-2.ensures.none
    c.in_default-eat_word-3.ensures.none c.in_default-eat_word-4.ensures.none) (λ next s. tt) c.flat.result c.flat.ensures.stops

-- ---- body

pub body-returns-then-is_some-clause-done : goal.body-returns-then-is_some-clause-done
body-returns-then-is_some-clause-done t c = goes_on (leads_block_body (there c.eat_sign.result c.if-is_some.ensures c.eat_sign.ensures.some).1) c.branch-alloc.result c.branch-alloc.ensures.done

pub body-returns-then-is_some-clause-stops : goal.body-returns-then-is_some-clause-stops
body-returns-then-is_some-clause-stops t c = stops_on (leads_block_body (there c.eat_sign.result c.if-is_some.ensures c.eat_sign.ensures.some).1) c.branch-alloc.result c.branch-alloc.ensures.stops

pub body-returns-in_err-kind-clause-stops : goal.body-returns-in_err-kind-clause-stops
body-returns-in_err-kind-clause-stops t c =
    let p = err_from_is_err_and c.from_residual.result c.from_residual.ensures.1 in
    rw (p.1, p.2) (passes c.in_err-kind.field-0.0 c.in_err-kind.ensures.stops
    (λ end f. (leads_flat_body (not_there c.eat_sign.result c.if-is_some.ensures c.eat_sign.ensures.none)).fails _ (fails_placed flat_some f)))

pub body-returns-clause-done : goal.body-returns-clause-done
body-returns-clause-done t c = rw c.place_of_first-at.ensures
    ((leads_flat_body (not_there c.eat_sign.result c.if-is_some.ensures c.eat_sign.ensures.none)).done _ _ (done_placed flat_some c.in_ok-kind.ensures.done))

-- ---- body_of

pub body_of-returns-in_err-body-clause-stops : goal.body_of-returns-in_err-body-clause-stops
body_of-returns-in_err-body-clause-stops t c =
    let p = err_from_is_err_and c.from_residual.result c.from_residual.ensures.1 in
    rw (p.1, p.2) (passes c.in_err-body.field-0.0 c.in_err-body.ensures.stops (λ end f. f))

pub body_of-returns-clause-done : goal.body_of-returns-clause-done
body_of-returns-clause-done t c = rw c.in_ok-new.ensures c.in_ok-body.ensures.done

-- ---- guarded

pub guarded-returns-in_err-rest-clause-stops : goal.guarded-returns-in_err-rest-clause-stops
guarded-returns-in_err-rest-clause-stops t c =
    let p = err_from_is_err_and c.from_residual.result c.from_residual.ensures.1 in
    rw (p.1, p.2) (missing c.in_err-rest.field-0.0 c.in_err-rest.ensures.missing
    (λ lacks. leads_guarded.fails _ (stuck_one (complete_then complete_expression complete_behind) lacks)))

pub guarded-returns-in_err-cond-clause-stops : goal.guarded-returns-in_err-cond-clause-stops
guarded-returns-in_err-cond-clause-stops t c =
    let p = err_from_is_err_and c.from_residual-in_err-cond.result c.from_residual-in_err-cond.ensures.1 in
    rw (p.1, p.2) (passes c.in_err-cond.field-0.0 c.in_err-cond.ensures.stops
    (λ end f. leads_guarded.fails _ ((leads_one c.in_ok-rest.ensures.found).fails _ (fails_before guarded_follows complete_behind f))))

pub guarded-returns-in_err-rest-2-clause-stops : goal.guarded-returns-in_err-rest-2-clause-stops
guarded-returns-in_err-rest-2-clause-stops t c =
    let p = err_from_is_err_and c.from_residual-in_err-rest-2.result c.from_residual-in_err-rest-2.ensures.1 in
    rw (p.1, p.2) (missing c.in_err-rest-2.field-0.0 c.in_err-rest-2.ensures.missing
    (λ lacks. leads_guarded.fails _ ((leads_one c.in_ok-rest.ensures.found).fails _ ((leads_before guarded_follows c.in_ok-cond.ensures.done).fails _ (stuck_one (complete_makes complete_body) lacks)))))

pub guarded-returns-in_err-body-clause-stops : goal.guarded-returns-in_err-body-clause-stops
guarded-returns-in_err-body-clause-stops t c =
    let p = err_from_is_err_and c.from_residual-in_err-body.result c.from_residual-in_err-body.ensures.1 in
    rw (p.1, p.2) (passes c.in_err-body.field-0.0 c.in_err-body.ensures.stops
    (λ end f. leads_guarded.fails _ ((leads_one c.in_ok-rest.ensures.found).fails _ ((leads_before guarded_follows c.in_ok-cond.ensures.done).fails _ ((leads_one c.in_ok-rest-2.ensures.found).fails _ (fails_makes f))))))

pub guarded-returns-clause-done : goal.guarded-returns-clause-done
guarded-returns-clause-done t c = rw c.in_ok-new.ensures (leads_guarded.done _ _ ((leads_one c.in_ok-rest.ensures.found).done _ _ ((leads_before guarded_follows c.in_ok-cond.ensures.done).done _ _
    ((leads_one c.in_ok-rest-2.ensures.found).done _ _ (leads_makes c.in_ok-body.ensures.done)))))

-- ---- conditional

pub conditional-returns-in_err-cond-clause-stops : goal.conditional-returns-in_err-cond-clause-stops
conditional-returns-in_err-cond-clause-stops t c = λ at.
    let p = err_from_is_err_and c.from_residual.result c.from_residual.ensures.1 in
    rw (p.1, p.2) (passes c.in_err-cond.field-0.0 c.in_err-cond.ensures.stops
    (λ end f. leads_the_if.fails _ (fails_then (λ a b g r x s. tt) (λ a. complete_elses _) f)))

pub conditional-loop-after-init : goal.conditional-loop-after-init
conditional-loop-after-init t c = record {
  whole = λ at. rw (c.in_ok-push.ensures.ok, c.new-arms.ensures) (leads_on leads_the_if (leads_then (λ a b g r x s. tt) c.in_ok-cond.ensures.done));
  shorter = c.in_ok-cond.ensures.shorter;
}

pub conditional-returns-in_err-last-clause-stops : goal.conditional-returns-in_err-last-clause-stops
conditional-returns-in_err-last-clause-stops t c = λ at.
    let p = err_from_is_err_and c.from_residual-in_err-last.result c.from_residual-in_err-last.ensures.1 in
    rw (p.1, p.2) (passes c.in_err-last.field-0.0 c.in_err-last.ensures.stops
    (λ end f. (c.loop-after.invariant.whole at).fails _ ((leads_else c.loop-after.arms c.in-Some.ensures.some).fails _ ((leads_one c.in-Some.ensures.some).fails _
    ((leads_last c.loop-after.arms c.in_default-eat_word.ensures.none).fails _ (fails_makes (fails_under (λ next s. tt) f)))))))

pub conditional-returns-in_default-eat_word-clause-done : goal.conditional-returns-in_default-eat_word-clause-done
conditional-returns-in_default-eat_word-clause-done t c = λ at.
    (c.loop-after.invariant.whole at).done _ _ ((leads_else c.loop-after.arms c.in-Some.ensures.some).done _ _ ((leads_one c.in-Some.ensures.some).done _ _
    ((leads_last c.loop-after.arms c.in_default-eat_word.ensures.none).done _ _ (leads_makes (done_under (λ next s. tt) c.in_ok-last.ensures.done)))))

pub conditional-returns-in_err-cond-2-clause-stops : goal.conditional-returns-in_err-cond-2-clause-stops
conditional-returns-in_err-cond-2-clause-stops t c = λ at.
    let p = err_from_is_err_and c.from_residual-in_err-cond-2.result c.from_residual-in_err-cond-2.ensures.1 in
    rw (p.1, p.2) (passes c.in_err-cond-2.field-0.0 c.in_err-cond-2.ensures.stops
    (λ end f. (c.loop-after.invariant.whole at).fails _ ((leads_else c.loop-after.arms c.in-Some.ensures.some).fails _ ((leads_one c.in-Some.ensures.some).fails _
    ((leads_arm c.loop-after.arms c.in-Some-eat_word.ensures.some).fails _ ((leads_one c.in-Some-eat_word.ensures.some).fails _ (fails_then (λ a b g r x s. tt) (λ a. complete_elses _) f)))))))

pub conditional-loop-after-preserved : goal.conditional-loop-after-preserved
conditional-loop-after-preserved t c = record {
  whole = λ at. rw c.in_ok-push-2.ensures.ok (leads_on (c.loop-after.invariant.whole at) (leads_on (leads_else c.loop-after.arms c.in-Some.ensures.some) (leads_on (leads_one c.in-Some.ensures.some)
      (leads_on (leads_arm c.loop-after.arms c.in-Some-eat_word.ensures.some) (leads_on (leads_one c.in-Some-eat_word.ensures.some) (leads_then (λ a b g r x s. tt) c.in_ok-cond-2.ensures.done))))));
  shorter = omega (arith, c.in_ok-cond-2.ensures.shorter, ap length c.in-Some.ensures.some.1, ap length c.in-Some-eat_word.ensures.some.1, c.loop-after.invariant.shorter);
}

pub conditional-returns-clause-done : goal.conditional-returns-clause-done
conditional-returns-clause-done t c = λ at. (c.loop-after.invariant.whole at).done _ _ ((leads_over c.loop-after.arms c.in_default.ensures.none).done _ _ done_nothing)

-- ---- for_loop

pub for_loop-returns-in_err-rest-clause-stops : goal.for_loop-returns-in_err-rest-clause-stops
for_loop-returns-in_err-rest-clause-stops t c at =
    let p = err_from_is_err_and c.from_residual.result c.from_residual.ensures.1 in
    rw (p.1, p.2) (missing c.in_err-rest.field-0.0 c.in_err-rest.ensures.missing
    (λ lacks. leads_the_for.fails _ (stuck_one (complete_then complete_closed complete_behind_first) lacks)))

pub for_loop-returns-in_err-first-clause-stops : goal.for_loop-returns-in_err-first-clause-stops
for_loop-returns-in_err-first-clause-stops t c at =
    let p = err_from_is_err_and c.from_residual-in_err-first.result c.from_residual-in_err-first.ensures.1 in
    rw (p.1, p.2) (passes c.in_err-first.field-0.0 c.in_err-first.ensures.stops
    (λ end f. leads_the_for.fails _ ((leads_one c.in_ok-rest.ensures.found).fails _ (fails_then (λ a b g r x s. tt) complete_behind_first f))))

pub for_loop-returns-clause-done : goal.for_loop-returns-clause-done
for_loop-returns-clause-done t c at = goes_on (leads_on leads_the_for (leads_on (leads_one c.in_ok-rest.ensures.found) (leads_then (λ a b g r x s. tt) c.in_ok-first.ensures.done)))
    c.for_behind_first.result c.for_behind_first.ensures.done

pub for_loop-returns-clause-stops : goal.for_loop-returns-clause-stops
for_loop-returns-clause-stops t c at = stops_on (leads_on leads_the_for (leads_on (leads_one c.in_ok-rest.ensures.found) (leads_then (λ a b g r x s. tt) c.in_ok-first.ensures.done)))
    c.for_behind_first.result c.for_behind_first.ensures.stops

-- ---- for_behind_first

pub for_behind_first-returns-in-Ok-clause-done : goal.for_behind_first-returns-in-Ok-clause-done
for_behind_first-returns-in-Ok-clause-done t c = goes_on (leads_then (λ a b g r x s. tt) c.in-Ok.ensures.done) c.for_behind_condition.result c.for_behind_condition.ensures.done

pub for_behind_first-returns-in-Ok-clause-stops : goal.for_behind_first-returns-in-Ok-clause-stops
for_behind_first-returns-in-Ok-clause-stops t c = stops_on (leads_then (λ a b g r x s. tt) c.in-Ok.ensures.done) c.for_behind_condition.result c.for_behind_condition.ensures.stops

pub for_behind_first-returns-in-Err-clause-stops : goal.for_behind_first-returns-in-Err-clause-stops
for_behind_first-returns-in-Err-clause-stops t c = passes c.in-Err.stop c.in-Err.ensures.stops (λ end f. fails_then (λ a b g r x s. tt) (complete_behind_condition _) f)

-- ---- for_behind_condition

pub for_behind_condition-returns-in-Ok-clause-done : goal.for_behind_condition-returns-in-Ok-clause-done
for_behind_condition-returns-in-Ok-clause-done t c = goes_on (leads_then (λ a b g r x s. tt) c.in-Ok.ensures.done) c.for_behind_head.result c.for_behind_head.ensures.done

pub for_behind_condition-returns-in-Ok-clause-stops : goal.for_behind_condition-returns-in-Ok-clause-stops
for_behind_condition-returns-in-Ok-clause-stops t c = stops_on (leads_then (λ a b g r x s. tt) c.in-Ok.ensures.done) c.for_behind_head.result c.for_behind_head.ensures.stops

pub for_behind_condition-returns-in-Err-clause-stops : goal.for_behind_condition-returns-in-Err-clause-stops
for_behind_condition-returns-in-Err-clause-stops t c = passes c.in-Err.stop c.in-Err.ensures.stops (λ end f. fails_then (λ a b g r x s. tt) (λ step. complete_makes complete_body) f)

-- ---- for_behind_head

pub for_behind_head-returns-in-Ok-clause-done : goal.for_behind_head-returns-in-Ok-clause-done
for_behind_head-returns-in-Ok-clause-done t c = leads_makes (done_under (λ next s. tt) c.in-Ok.ensures.done)

pub for_behind_head-returns-in-Err-clause-stops : goal.for_behind_head-returns-in-Err-clause-stops
for_behind_head-returns-in-Err-clause-stops t c = passes c.in-Err.stop c.in-Err.ensures.stops (λ end f. fails_makes (fails_under (λ next s. tt) f))

-- ---- branch

pub branch-returns-in_err-statements-clause-stops : goal.branch-returns-in_err-statements-clause-stops
branch-returns-in_err-statements-clause-stops t c =
    let p = err_from_is_err_and c.from_residual.result c.from_residual.ensures.1 in
    rw (p.1, p.2) (passes c.in_err-statements.field-0.0 c.in_err-statements.ensures.stops (λ end f. leads_branch.fails _ (fails_placed made_block_never (fails_makes f))))

pub branch-returns-clause-done : goal.branch-returns-clause-done
branch-returns-clause-done t c = rw c.place_of_first-at.ensures (leads_branch.done _ _ (done_placed made_block_never (leads_makes c.in_ok-statements.ensures.done)))

-- ---- cobegin

pub cobegin-returns-in_err-rest-clause-stops : goal.cobegin-returns-in_err-rest-clause-stops
cobegin-returns-in_err-rest-clause-stops t c = λ at.
    let p = err_from_is_err_and c.from_residual.result c.from_residual.ensures.1 in
    rw (p.1, p.2) (missing c.in_err-rest.field-0.0 c.in_err-rest.ensures.missing
    (λ lacks. leads_the_cobegin.fails _ (stuck_one (complete_then complete_branch complete_second) lacks)))

pub cobegin-returns-in_err-first-clause-stops : goal.cobegin-returns-in_err-first-clause-stops
cobegin-returns-in_err-first-clause-stops t c = λ at.
    let p = err_from_is_err_and c.from_residual-in_err-first.result c.from_residual-in_err-first.ensures.1 in
    rw (p.1, p.2) (passes c.in_err-first.field-0.0 c.in_err-first.ensures.stops
    (λ end f. leads_the_cobegin.fails _ ((leads_one c.in_ok-rest.ensures.found).fails _ (fails_then (λ a b g r x s. tt) complete_second f))))

pub cobegin-returns-in_err-second-clause-stops : goal.cobegin-returns-in_err-second-clause-stops
cobegin-returns-in_err-second-clause-stops t c = λ at.
    let p = err_from_is_err_and c.from_residual-in_err-second.result c.from_residual-in_err-second.ensures.1 in
    rw (p.1, p.2) (passes c.in_err-second.field-0.0 c.in_err-second.ensures.stops
    (λ end f. leads_the_cobegin.fails _ ((leads_one c.in_ok-rest.ensures.found).fails _ ((leads_then (λ a b g r x s. tt) c.in_ok-first.ensures.done).fails _
    (fails_then (λ a b g r x s. tt) (λ b. complete_branches (c.in_ok-first.first ∷ b ∷ [])) f)))))

pub cobegin-loop-after-init : goal.cobegin-loop-after-init
cobegin-loop-after-init t c = record {
  whole = λ at. rw (c.in_ok-push-2.ensures.ok, c.in_ok-push.ensures.ok, c.new-branches.ensures) (leads_on leads_the_cobegin (leads_on (leads_one c.in_ok-rest.ensures.found)
      (leads_on (leads_then (λ a b g r x s. tt) c.in_ok-first.ensures.done) (leads_then (λ a b g r x s. tt) c.in_ok-second.ensures.done))));
  shorter = omega (arith, c.in_ok-second.ensures.shorter, c.in_ok-first.ensures.shorter, ap length c.in_ok-rest.ensures.found.1);
}

pub cobegin-returns-in-Some-clause-done : goal.cobegin-returns-in-Some-clause-done
cobegin-returns-in-Some-clause-done t c = λ at.
    (c.loop-after.invariant.whole at).done _ _ ((leads_closed_branches c.loop-after.branches c.in-Some.ensures.some).done _ _ (leads_makes (done_under (λ next s. tt) (done_one c.in-Some.ensures.some))))

pub cobegin-returns-in_err-next-clause-stops : goal.cobegin-returns-in_err-next-clause-stops
cobegin-returns-in_err-next-clause-stops t c = λ at.
    let p = err_from_is_err_and c.from_residual-in_err-next.result c.from_residual-in_err-next.ensures.1 in
    rw (p.1, p.2) (passes c.in_err-next.field-0.0 c.in_err-next.ensures.stops
    (λ end f. (c.loop-after.invariant.whole at).fails _ ((leads_one_branch c.loop-after.branches c.in_default.ensures.none).fails _
    (fails_then (λ a b g r x s. tt) (λ b. complete_branches _) f))))

pub cobegin-loop-after-preserved : goal.cobegin-loop-after-preserved
cobegin-loop-after-preserved t c = record {
  whole = λ at. rw c.in_ok-push-3.ensures.ok (leads_on (c.loop-after.invariant.whole at) (leads_on (leads_one_branch c.loop-after.branches c.in_default.ensures.none) (leads_then (λ a b g r x s. tt) c.in_ok-next.ensures.done)));
  shorter = omega (arith, c.in_ok-next.ensures.shorter, c.loop-after.invariant.shorter);
}

-- ---- foreach

pub foreach-returns-in_err-rest-clause-stops : goal.foreach-returns-in_err-rest-clause-stops
foreach-returns-in_err-rest-clause-stops t c at =
    let p = err_from_is_err_and c.from_residual.result c.from_residual.ensures.1 in
    rw (p.1, p.2) (missing c.in_err-rest.field-0.0 c.in_err-rest.ensures.missing
    (λ lacks. leads_the_foreach.fails _ (stuck_one (complete_then complete_name complete_behind_index) lacks)))

pub foreach-returns-in_err-index-clause-stops : goal.foreach-returns-in_err-index-clause-stops
foreach-returns-in_err-index-clause-stops t c at =
    let p = err_from_is_err_and c.from_residual-in_err-index.result c.from_residual-in_err-index.ensures.1 in
    rw (p.1, p.2) (missing_name c.in_err-index.field-0.0 c.in_err-index.ensures.missing
    (λ lacks. leads_the_foreach.fails _ ((leads_one c.in_ok-rest.ensures.found).fails _ (stuck_name complete_behind_index lacks))))

pub foreach-returns-clause-done : goal.foreach-returns-clause-done
foreach-returns-clause-done t c at = goes_on (leads_on leads_the_foreach (leads_on (leads_one c.in_ok-rest.ensures.found) (leads_name c.in_ok-index.ensures.found))) c.foreach_behind_index.result c.foreach_behind_index.ensures.done

pub foreach-returns-clause-stops : goal.foreach-returns-clause-stops
foreach-returns-clause-stops t c at = stops_on (leads_on leads_the_foreach (leads_on (leads_one c.in_ok-rest.ensures.found) (leads_name c.in_ok-index.ensures.found))) c.foreach_behind_index.result c.foreach_behind_index.ensures.stops

-- ---- foreach_behind_index

pub foreach_behind_index-returns-in_err-rest-clause-stops : goal.foreach_behind_index-returns-in_err-rest-clause-stops
foreach_behind_index-returns-in_err-rest-clause-stops t c =
    let p = err_from_is_err_and c.from_residual.result c.from_residual.ensures.1 in
    rw (p.1, p.2) (missing c.in_err-rest.field-0.0 c.in_err-rest.ensures.missing
    (λ lacks. stuck_one (complete_then complete_expression (complete_behind_low _)) lacks))

pub foreach_behind_index-returns-in_err-low-clause-stops : goal.foreach_behind_index-returns-in_err-low-clause-stops
foreach_behind_index-returns-in_err-low-clause-stops t c =
    let p = err_from_is_err_and c.from_residual-in_err-low.result c.from_residual-in_err-low.ensures.1 in
    rw (p.1, p.2) (passes c.in_err-low.field-0.0 c.in_err-low.ensures.stops
    (λ end f. (leads_one c.in_ok-rest.ensures.found).fails _ (fails_before (low_follows _) (complete_behind_low _) f)))

pub foreach_behind_index-returns-in_err-rest-2-clause-stops : goal.foreach_behind_index-returns-in_err-rest-2-clause-stops
foreach_behind_index-returns-in_err-rest-2-clause-stops t c =
    let p = err_from_is_err_and c.from_residual-in_err-rest-2.result c.from_residual-in_err-rest-2.ensures.1 in
    rw (p.1, p.2) (missing c.in_err-rest-2.field-0.0 c.in_err-rest-2.ensures.missing
    (λ lacks. (leads_one c.in_ok-rest.ensures.found).fails _ ((leads_before (low_follows _) c.in_ok-low.ensures.done).fails _ (stuck_one (complete_then complete_expression (complete_behind_bounds _ _)) lacks))))

pub foreach_behind_index-returns-in_err-high-clause-stops : goal.foreach_behind_index-returns-in_err-high-clause-stops
foreach_behind_index-returns-in_err-high-clause-stops t c =
    let p = err_from_is_err_and c.from_residual-in_err-high.result c.from_residual-in_err-high.ensures.1 in
    rw (p.1, p.2) (passes c.in_err-high.field-0.0 c.in_err-high.ensures.stops
    (λ end f. (leads_one c.in_ok-rest.ensures.found).fails _ ((leads_before (low_follows _) c.in_ok-low.ensures.done).fails _ ((leads_one c.in_ok-rest-2.ensures.found).fails _ (fails_before (bounds_follow _ _) (complete_behind_bounds _ _) f)))))

pub foreach_behind_index-returns-clause-done : goal.foreach_behind_index-returns-clause-done
foreach_behind_index-returns-clause-done t c = goes_on (leads_on (leads_one c.in_ok-rest.ensures.found) (leads_on (leads_before (low_follows _) c.in_ok-low.ensures.done) (leads_on (leads_one c.in_ok-rest-2.ensures.found) (leads_before (bounds_follow _ _) c.in_ok-high.ensures.done)))) c.foreach_behind_bounds.result c.foreach_behind_bounds.ensures.done

pub foreach_behind_index-returns-clause-stops : goal.foreach_behind_index-returns-clause-stops
foreach_behind_index-returns-clause-stops t c = stops_on (leads_on (leads_one c.in_ok-rest.ensures.found) (leads_on (leads_before (low_follows _) c.in_ok-low.ensures.done) (leads_on (leads_one c.in_ok-rest-2.ensures.found) (leads_before (bounds_follow _ _) c.in_ok-high.ensures.done)))) c.foreach_behind_bounds.result c.foreach_behind_bounds.ensures.stops

-- ---- foreach_behind_bounds

pub foreach_behind_bounds-returns-in_err-step-clause-stops : goal.foreach_behind_bounds-returns-in_err-step-clause-stops
foreach_behind_bounds-returns-in_err-step-clause-stops t c =
    let p = err_from_is_err_and c.from_residual.result c.from_residual.ensures.1 in
    rw (p.1, p.2) (passes c.in_err-step.field-0.0 c.in_err-step.ensures.stops
    (λ end f. fails_before (step_follows _ _ _) (complete_behind_step _ _ _) f))

pub foreach_behind_bounds-returns-in_err-rest-clause-stops : goal.foreach_behind_bounds-returns-in_err-rest-clause-stops
foreach_behind_bounds-returns-in_err-rest-clause-stops t c =
    let p = err_from_is_err_and c.from_residual-in_err-rest.result c.from_residual-in_err-rest.ensures.1 in
    rw (p.1, p.2) (missing c.in_err-rest.field-0.0 c.in_err-rest.ensures.missing
    (λ lacks. (leads_before (step_follows _ _ _) c.in_ok-step.ensures.done).fails _ (stuck_one (complete_makes complete_branch) lacks)))

pub foreach_behind_bounds-returns-in_err-body-clause-stops : goal.foreach_behind_bounds-returns-in_err-body-clause-stops
foreach_behind_bounds-returns-in_err-body-clause-stops t c =
    let p = err_from_is_err_and c.from_residual-in_err-body.result c.from_residual-in_err-body.ensures.1 in
    rw (p.1, p.2) (passes c.in_err-body.field-0.0 c.in_err-body.ensures.stops
    (λ end f. (leads_before (step_follows _ _ _) c.in_ok-step.ensures.done).fails _ ((leads_one c.in_ok-rest.ensures.found).fails _ (fails_makes (fails_under (λ next s. tt) f)))))

pub foreach_behind_bounds-returns-clause-done : goal.foreach_behind_bounds-returns-clause-done
foreach_behind_bounds-returns-clause-done t c =
    let fits : FitsSigned w64 c.in_ok-step.step = search rules in
    rw (c.in_ok-parallel.ensures, c.in_ok-body-2.ensures, to_z-of_z w64 c.in_ok-step.step fits)
    ((leads_before (step_follows _ _ _) c.in_ok-step.ensures.done).done _ _ ((leads_one c.in_ok-rest.ensures.found).done _ _ (leads_makes (done_under (λ next s. tt) c.in_ok-body.ensures.done))))
