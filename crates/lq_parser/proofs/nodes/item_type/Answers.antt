use Rattle.std.proofs.lemmas.Result.{err_from_is_err_and}
use Rattle.lq_parser.proofs.Leads.{leads_one, done_one, leads_makes, stuck_one, complete_one, complete_makes, fails_makes, fails_one}
use Rattle.lq_parser.proofs.Exits.{missing, passes}
use Rattle.lq_parser.proofs.ExpressionRules.{leads_type, fails_type, complete_sized, complete_bracketed, complete_typed}
use Rattle.lq_parser.proofs.nodes.item_type.Goals as goal

pub returns-in_err-rest-clause-stops : goal.returns-in_err-rest-clause-stops
returns-in_err-rest-clause-stops c =
    let p = err_from_is_err_and c.from_residual.result c.from_residual.ensures.1 in
    rw (p.1, p.2) (missing c.in_err-rest.field-0.0 c.in_err-rest.ensures.missing (λ lacks. stuck_one complete_sized lacks))

pub returns-in_err-rest-2-clause-stops : goal.returns-in_err-rest-2-clause-stops
returns-in_err-rest-2-clause-stops c =
    let p = err_from_is_err_and c.from_residual-in_err-rest-2.result c.from_residual-in_err-rest-2.ensures.1 in
    rw (p.1, p.2) (missing c.in_err-rest-2.field-0.0 c.in_err-rest-2.ensures.missing (λ lacks. (leads_one c.in_ok-rest.ensures.found).fails _ (stuck_one complete_bracketed lacks)))

pub returns-in_err-rest-3-clause-stops : goal.returns-in_err-rest-3-clause-stops
returns-in_err-rest-3-clause-stops c =
    let p = err_from_is_err_and c.from_residual-in_err-rest-3.result c.from_residual-in_err-rest-3.ensures.1 in
    rw (p.1, p.2) (missing c.in_err-rest-3.field-0.0 c.in_err-rest-3.ensures.missing (λ lacks. (leads_one c.in_ok-rest.ensures.found).fails _ ((leads_one c.in_ok-rest-2.ensures.found).fails _ (stuck_one complete_typed lacks))))

pub returns-in_err-ctype-clause-stops : goal.returns-in_err-ctype-clause-stops
returns-in_err-ctype-clause-stops c =
    let p = err_from_is_err_and c.from_residual-in_err-ctype.result c.from_residual-in_err-ctype.ensures.1 in
    rw (p.1, p.2) (passes c.in_err-ctype.field-0.0 c.in_err-ctype.ensures.stops (λ end f. (leads_one c.in_ok-rest.ensures.found).fails _ ((leads_one c.in_ok-rest-2.ensures.found).fails _ ((leads_one c.in_ok-rest-3.ensures.found).fails _ (fails_type f)))))

pub returns-in_err-rest-4-clause-stops : goal.returns-in_err-rest-4-clause-stops
returns-in_err-rest-4-clause-stops c =
    let p = err_from_is_err_and c.from_residual-in_err-rest-4.result c.from_residual-in_err-rest-4.ensures.1 in
    rw (p.1, p.2) (missing c.in_err-rest-4.field-0.0 c.in_err-rest-4.ensures.missing (λ lacks. (leads_one c.in_ok-rest.ensures.found).fails _ ((leads_one c.in_ok-rest-2.ensures.found).fails _ ((leads_one c.in_ok-rest-3.ensures.found).fails _ ((leads_type c.in_ok-ctype.ensures.done).fails _ (stuck_one (complete_makes complete_one) lacks))))))

pub returns-in_err-rest-5-clause-stops : goal.returns-in_err-rest-5-clause-stops
returns-in_err-rest-5-clause-stops c =
    let p = err_from_is_err_and c.from_residual-in_err-rest-5.result c.from_residual-in_err-rest-5.ensures.1 in
    rw (p.1, p.2) (missing c.in_err-rest-5.field-0.0 c.in_err-rest-5.ensures.missing (λ lacks. (leads_one c.in_ok-rest.ensures.found).fails _ ((leads_one c.in_ok-rest-2.ensures.found).fails _ ((leads_one c.in_ok-rest-3.ensures.found).fails _ ((leads_type c.in_ok-ctype.ensures.done).fails _ ((leads_one c.in_ok-rest-4.ensures.found).fails _ (fails_makes (fails_one lacks))))))))

pub returns-clause-done : goal.returns-clause-done
returns-clause-done c =
    (leads_one c.in_ok-rest.ensures.found).done _ _ ((leads_one c.in_ok-rest-2.ensures.found).done _ _ ((leads_one c.in_ok-rest-3.ensures.found).done _ _
    ((leads_type c.in_ok-ctype.ensures.done).done _ _ ((leads_one c.in_ok-rest-4.ensures.found).done _ _ (leads_makes (done_one c.in_ok-rest-5.ensures.found))))))
