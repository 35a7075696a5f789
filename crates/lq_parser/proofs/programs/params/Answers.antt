use Rattle.std.proofs.Common.{arith, ap, length, ◌∷◌, []}
use Rattle.std.proofs.lemmas.Result.{err_from_is_err_and}
use Rattle.lq_parser.proofs.Leads.{leads_on, leads_then, done_one, leads_makes, fails_then, fails_makes, fails_one}
use Rattle.lq_parser.proofs.Exits.{missing, passes}
use Rattle.lq_parser.proofs.ProgramRules.{leads_no_params, leads_void_params, leads_some_params, complete_more, complete_next, leads_next, leads_end}
use Rattle.lq_parser.proofs.programs.params.Goals as goal

pub returns-in-Some-clause-done : goal.returns-in-Some-clause-done
returns-in-Some-clause-done c = rw c.new-params.ensures ((leads_no_params c.in-Some.ensures.some).done _ _ (leads_makes (done_one c.in-Some.ensures.some)))

pub returns-in_err-rest-clause-stops : goal.returns-in_err-rest-clause-stops
returns-in_err-rest-clause-stops c =
    let p = err_from_is_err_and c.from_residual.result c.from_residual.ensures.1 in
    rw (p.1, p.2) (missing c.in_err-rest.field-0.0 c.in_err-rest.ensures.missing
    (λ lacks. (leads_void_params c.in-Some-eat_word.ensures.some).fails _ (fails_makes (fails_one lacks))))

pub returns-in-Some-eat_word-clause-done : goal.returns-in-Some-eat_word-clause-done
returns-in-Some-eat_word-clause-done c = rw c.new-params.ensures ((leads_void_params c.in-Some-eat_word.ensures.some).done _ _ (leads_makes (done_one c.in_ok-rest.ensures.found)))

pub returns-in_err-first-clause-stops : goal.returns-in_err-first-clause-stops
returns-in_err-first-clause-stops c =
    let p = err_from_is_err_and c.from_residual-in_err-first.result c.from_residual-in_err-first.ensures.1 in
    rw (p.1, p.2) (passes c.in_err-first.field-0.0 c.in_err-first.ensures.stops
    (λ end f. (leads_some_params c.in_default.ensures.none c.in_default-eat_word.ensures.none).fails _ (fails_then (λ a b g r x s. tt) (λ a. complete_more (a ∷ [])) f)))

pub loop-after-init : goal.loop-after-init
loop-after-init c = record {
  whole = rw (c.in_ok-push.ensures.ok, c.new-params.ensures) (leads_on (leads_some_params c.in_default.ensures.none c.in_default-eat_word.ensures.none) (leads_then (λ a b g r x s. tt) c.in_ok-first.ensures.done));
  shorter = c.in_ok-first.ensures.shorter;
}

pub returns-in_err-next-clause-stops : goal.returns-in_err-next-clause-stops
returns-in_err-next-clause-stops c =
    let p = err_from_is_err_and c.from_residual-in_err-next.result c.from_residual-in_err-next.ensures.1 in
    rw (p.1, p.2) (passes c.in_err-next.field-0.0 c.in_err-next.ensures.stops
    (λ end f. c.loop-after.invariant.whole.fails _ ((leads_next c.loop-after.params c.in-Some-eat_sign.ensures.some).fails _ (fails_then (λ a b g r x s. tt) (complete_next c.loop-after.params) f))))

pub loop-after-preserved : goal.loop-after-preserved
loop-after-preserved c = record {
  whole = rw c.in_ok-push-2.ensures.ok (leads_on c.loop-after.invariant.whole (leads_on (leads_next c.loop-after.params c.in-Some-eat_sign.ensures.some) (leads_then (λ a b g r x s. tt) c.in_ok-next.ensures.done)));
  shorter = omega (arith, c.in_ok-next.ensures.shorter, ap length c.in-Some-eat_sign.ensures.some.1, c.loop-after.invariant.shorter);
}

pub returns-in_err-rest-2-clause-stops : goal.returns-in_err-rest-2-clause-stops
returns-in_err-rest-2-clause-stops c =
    let p = err_from_is_err_and c.from_residual-in_err-rest-2.result c.from_residual-in_err-rest-2.ensures.1 in
    rw (p.1, p.2) (missing c.in_err-rest-2.field-0.0 c.in_err-rest-2.ensures.missing
    (λ lacks. c.loop-after.invariant.whole.fails _ ((leads_end c.loop-after.params c.in_default-eat_sign.ensures.none).fails _ (fails_makes (fails_one lacks)))))

pub returns-clause-done : goal.returns-clause-done
returns-clause-done c = c.loop-after.invariant.whole.done _ _ ((leads_end c.loop-after.params c.in_default-eat_sign.ensures.none).done _ _ (leads_makes (done_one c.in_ok-rest-2.ensures.found)))
