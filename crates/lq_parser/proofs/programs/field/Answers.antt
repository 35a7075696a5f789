use Rattle.std.proofs.lemmas.Result.{err_from_is_err_and}
use Rattle.lq_parser.proofs.Leads.{leads_then, done_one, leads_makes, complete_makes, complete_one, fails_then, fails_makes, fails_one}
use Rattle.lq_parser.proofs.Exits.{missing, passes}
use Rattle.lq_parser.proofs.programs.field.Goals as goal

pub returns-in_err-field-clause-stops : goal.returns-in_err-field-clause-stops
returns-in_err-field-clause-stops c =
    let p = err_from_is_err_and c.from_residual.result c.from_residual.ensures.1 in
    rw (p.1, p.2) (passes c.in_err-field.field-0.0 c.in_err-field.ensures.stops
    (λ end f. fails_then (λ a b g r x s. tt) (λ a. complete_makes complete_one) f))

pub returns-in_err-rest-clause-stops : goal.returns-in_err-rest-clause-stops
returns-in_err-rest-clause-stops c =
    let p = err_from_is_err_and c.from_residual-in_err-rest.result c.from_residual-in_err-rest.ensures.1 in
    rw (p.1, p.2) (missing c.in_err-rest.field-0.0 c.in_err-rest.ensures.missing
    (λ lacks. (leads_then (λ a b g r x s. tt) c.in_ok-field.ensures.done).fails _ (fails_makes (fails_one lacks))))

pub returns-clause-done : goal.returns-clause-done
returns-clause-done c = (leads_then (λ a b g r x s. tt) c.in_ok-field.ensures.done).done _ _ (leads_makes (done_one c.in_ok-rest.ensures.found))
