use Rattle.std.proofs.lemmas.Result.{err_from_is_err_and}
use Rattle.lq_parser.proofs.Leads.{leads_one, done_one, done_name, leads_makes, stuck_one, complete_makes, complete_name, fails_makes, fails_name}
use Rattle.lq_parser.proofs.Exits.{missing, missing_name}
use Rattle.lq_parser.proofs.TypeRules.{leads_int, leads_struct}
use Rattle.lq_parser.proofs.types.base.Goals as goal

pub returns-in-Some-clause-done : goal.returns-in-Some-clause-done
returns-in-Some-clause-done c = (leads_int c.in-Some.ensures.some).done _ _ (leads_makes (done_one c.in-Some.ensures.some))

pub returns-in_err-rest-clause-stops : goal.returns-in_err-rest-clause-stops
returns-in_err-rest-clause-stops c =
    let p = err_from_is_err_and c.from_residual.result c.from_residual.ensures.1 in
    rw (p.1, p.2) (missing c.in_err-rest.field-0.0 c.in_err-rest.ensures.missing
    (λ lacks. (leads_struct c.in_default.ensures.none).fails _ (stuck_one (complete_makes complete_name) lacks)))

pub returns-in_err-name-clause-stops : goal.returns-in_err-name-clause-stops
returns-in_err-name-clause-stops c =
    let p = err_from_is_err_and c.from_residual-in_err-name.result c.from_residual-in_err-name.ensures.1 in
    rw (p.1, p.2) (missing_name c.in_err-name.field-0.0 c.in_err-name.ensures.missing
    (λ lacks. (leads_struct c.in_default.ensures.none).fails _ ((leads_one c.in_ok-rest.ensures.found).fails _ (fails_makes (fails_name lacks)))))

pub returns-clause-done : goal.returns-clause-done
returns-clause-done c = rw (c.in_ok-name-2.ensures, c.as_bytes.ensures) ((leads_struct c.in_default.ensures.none).done _ _ ((leads_one c.in_ok-rest.ensures.found).done _ _ (leads_makes (done_name c.in_ok-name.ensures.found))))
