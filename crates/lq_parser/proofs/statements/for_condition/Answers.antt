use Rattle.std.proofs.Common.{refl}
use Rattle.std.proofs.lemmas.Result.{err_from_is_err_and}
use Rattle.lq_parser.proofs.Exits.{missing, passes}
use Rattle.lq_parser.proofs.Leads.{leads_makes, done_one, fails_one, fails_makes}
use Rattle.lq_parser.proofs.Cuts.{leads_before, fails_before}
use Rattle.lq_parser.proofs.FlatRules.{expression_avoids, semicolon_follows, complete_sign}
use Rattle.lq_parser.proofs.LoopRules.{leads_no_part, leads_a_part}
use Rattle.lq_parser.proofs.statements.for_condition.Goals as goal

pub returns-in-Some-clause-done : goal.returns-in-Some-clause-done
returns-in-Some-clause-done c = (leads_no_part (expression_avoids refl) c.in-Some.ensures.some).done _ _ (leads_makes (done_one c.in-Some.ensures.some))

pub returns-in_err-cond-clause-stops : goal.returns-in_err-cond-clause-stops
returns-in_err-cond-clause-stops c =
    let p = err_from_is_err_and c.from_residual.result c.from_residual.ensures.1 in
    rw (p.1, p.2) (passes c.in_err-cond.field-0.0 c.in_err-cond.ensures.stops
    (λ end f. (leads_a_part c.in_default.ensures.none).fails _ (fails_before (semicolon_follows _) (λ value. complete_sign) f)))

pub returns-in_err-rest-clause-stops : goal.returns-in_err-rest-clause-stops
returns-in_err-rest-clause-stops c =
    let p = err_from_is_err_and c.from_residual-in_err-rest.result c.from_residual-in_err-rest.ensures.1 in
    rw (p.1, p.2) (missing c.in_err-rest.field-0.0 c.in_err-rest.ensures.missing
    (λ lacks. (leads_a_part c.in_default.ensures.none).fails _ ((leads_before (semicolon_follows _) c.in_ok-cond.ensures.done).fails _ (fails_makes (fails_one lacks)))))

pub returns-clause-done : goal.returns-clause-done
returns-clause-done c = (leads_a_part c.in_default.ensures.none).done _ _ ((leads_before (semicolon_follows _) c.in_ok-cond.ensures.done).done _ _ (leads_makes (done_one c.in_ok-rest.ensures.found)))
