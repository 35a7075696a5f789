use Rattle.std.proofs.lemmas.Result.{err_from_is_err_and}
use Rattle.lq_parser.proofs.Leads.{leads_then, leads_one, leads_name, leads_makes, stuck_one, stuck_name, fails_then, fails_makes}
use Rattle.lq_parser.proofs.Exits.{missing, missing_name, passes}
use Rattle.lq_parser.proofs.ProgramRules.{leads_func, name_follows_then, complete_func_body, complete_func_params, complete_func_rest, complete_func_name}
use Rattle.lq_parser.proofs.programs.function.Goals as goal

pub returns-in_err-result-clause-stops : goal.returns-in_err-result-clause-stops
returns-in_err-result-clause-stops c =
    let p = err_from_is_err_and c.from_residual.result c.from_residual.ensures.1 in
    rw (p.1, p.2) (passes c.in_err-result.field-0.0 c.in_err-result.ensures.stops
    (λ end f. leads_func.fails _ (fails_then (λ a b g r x s. name_follows_then g r x) complete_func_name f)))

pub returns-in_err-name-clause-stops : goal.returns-in_err-name-clause-stops
returns-in_err-name-clause-stops c =
    let p = err_from_is_err_and c.from_residual-in_err-name.result c.from_residual-in_err-name.ensures.1 in
    rw (p.1, p.2) (missing_name c.in_err-name.field-0.0 c.in_err-name.ensures.missing
    (λ lacks. leads_func.fails _ ((leads_then (λ a b g r x s. name_follows_then g r x) c.in_ok-result.ensures.done).fails _ (stuck_name complete_func_rest lacks))))

pub returns-in_err-rest-clause-stops : goal.returns-in_err-rest-clause-stops
returns-in_err-rest-clause-stops c =
    let p = err_from_is_err_and c.from_residual-in_err-rest.result c.from_residual-in_err-rest.ensures.1 in
    rw (p.1, p.2) (missing c.in_err-rest.field-0.0 c.in_err-rest.ensures.missing
    (λ lacks. leads_func.fails _ ((leads_then (λ a b g r x s. name_follows_then g r x) c.in_ok-result.ensures.done).fails _ ((leads_name c.in_ok-name.ensures.found).fails _ (stuck_one complete_func_params lacks)))))

pub returns-in_err-params-clause-stops : goal.returns-in_err-params-clause-stops
returns-in_err-params-clause-stops c =
    let p = err_from_is_err_and c.from_residual-in_err-params.result c.from_residual-in_err-params.ensures.1 in
    rw (p.1, p.2) (passes c.in_err-params.field-0.0 c.in_err-params.ensures.stops
    (λ end f. leads_func.fails _ ((leads_then (λ a b g r x s. name_follows_then g r x) c.in_ok-result.ensures.done).fails _ ((leads_name c.in_ok-name.ensures.found).fails _
    ((leads_one c.in_ok-rest.ensures.found).fails _ (fails_then (λ a b g r x s. tt) complete_func_body f))))))

pub returns-in_err-body-clause-stops : goal.returns-in_err-body-clause-stops
returns-in_err-body-clause-stops c =
    let p = err_from_is_err_and c.from_residual-in_err-body.result c.from_residual-in_err-body.ensures.1 in
    rw (p.1, p.2) (passes c.in_err-body.field-0.0 c.in_err-body.ensures.stops
    (λ end f. leads_func.fails _ ((leads_then (λ a b g r x s. name_follows_then g r x) c.in_ok-result.ensures.done).fails _ ((leads_name c.in_ok-name.ensures.found).fails _
    ((leads_one c.in_ok-rest.ensures.found).fails _ ((leads_then (λ a b g r x s. tt) c.in_ok-params.ensures.done).fails _ (fails_makes f)))))))

pub returns-clause-done : goal.returns-clause-done
returns-clause-done c = rw (c.place_of_first-at.ensures, c.in_ok-name-2.ensures, c.as_bytes.ensures)
    (leads_func.done _ _ ((leads_then (λ a b g r x s. name_follows_then g r x) c.in_ok-result.ensures.done).done _ _ ((leads_name c.in_ok-name.ensures.found).done _ _
    ((leads_one c.in_ok-rest.ensures.found).done _ _ ((leads_then (λ a b g r x s. tt) c.in_ok-params.ensures.done).done _ _ (leads_makes c.in_ok-body.ensures.done))))))
