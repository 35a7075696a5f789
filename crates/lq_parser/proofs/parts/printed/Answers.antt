use Rattle.std.proofs.lemmas.Result.{err_from_is_err_and}
use Rattle.lq_parser.proofs.Exits.{missing, passes}
use Rattle.lq_parser.proofs.Leads.{leads_one, leads_makes, done_one, fails_one, fails_makes, stuck_one, complete_then}
use Rattle.lq_parser.proofs.Cuts.{leads_before, fails_before}
use Rattle.lq_parser.proofs.Firsts.{complete_expression}
use Rattle.lq_parser.proofs.FlatRules.{leads_printed, printed_follows, complete_printed, complete_sign}
use Rattle.lq_parser.proofs.parts.printed.Goals as goal

pub returns-in_err-rest-clause-stops : goal.returns-in_err-rest-clause-stops
returns-in_err-rest-clause-stops c at =
    let p = err_from_is_err_and c.from_residual.result c.from_residual.ensures.1 in
    rw (p.1, p.2) (missing c.in_err-rest.field-0.0 c.in_err-rest.ensures.missing
    (λ lacks. leads_printed.fails _ (stuck_one (complete_then complete_expression complete_printed) lacks)))

pub returns-in_err-value-clause-stops : goal.returns-in_err-value-clause-stops
returns-in_err-value-clause-stops c at =
    let p = err_from_is_err_and c.from_residual-in_err-value.result c.from_residual-in_err-value.ensures.1 in
    rw (p.1, p.2) (passes c.in_err-value.field-0.0 c.in_err-value.ensures.stops
    (λ end f. leads_printed.fails _ ((leads_one c.in_ok-rest.ensures.found).fails _ (fails_before printed_follows complete_printed f))))

pub returns-in_err-rest-2-clause-stops : goal.returns-in_err-rest-2-clause-stops
returns-in_err-rest-2-clause-stops c at =
    let p = err_from_is_err_and c.from_residual-in_err-rest-2.result c.from_residual-in_err-rest-2.ensures.1 in
    rw (p.1, p.2) (missing c.in_err-rest-2.field-0.0 c.in_err-rest-2.ensures.missing
    (λ lacks. leads_printed.fails _ ((leads_one c.in_ok-rest.ensures.found).fails _ ((leads_before printed_follows c.in_ok-value.ensures.done).fails _ (stuck_one complete_sign lacks)))))

pub returns-in_err-rest-3-clause-stops : goal.returns-in_err-rest-3-clause-stops
returns-in_err-rest-3-clause-stops c at =
    let p = err_from_is_err_and c.from_residual-in_err-rest-3.result c.from_residual-in_err-rest-3.ensures.1 in
    rw (p.1, p.2) (missing c.in_err-rest-3.field-0.0 c.in_err-rest-3.ensures.missing
    (λ lacks. leads_printed.fails _ ((leads_one c.in_ok-rest.ensures.found).fails _ ((leads_before printed_follows c.in_ok-value.ensures.done).fails _
    ((leads_one c.in_ok-rest-2.ensures.found).fails _ (fails_makes (fails_one lacks)))))))

pub returns-clause-done : goal.returns-clause-done
returns-clause-done c at = leads_printed.done _ _ ((leads_one c.in_ok-rest.ensures.found).done _ _ ((leads_before printed_follows c.in_ok-value.ensures.done).done _ _
    ((leads_one c.in_ok-rest-2.ensures.found).done _ _ (leads_makes (done_one c.in_ok-rest-3.ensures.found)))))
