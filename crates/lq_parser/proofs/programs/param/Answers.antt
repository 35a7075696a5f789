use Rattle.std.proofs.lemmas.Result.{err_from_is_err_and}
use Rattle.lq_parser.proofs.Leads.{leads_then, done_name, leads_makes, complete_makes, complete_name, fails_then, fails_makes, fails_name}
use Rattle.lq_parser.proofs.Exits.{missing_name, passes}
use Rattle.lq_parser.proofs.ProgramRules.{leads_param, name_follows}
use Rattle.lq_parser.proofs.programs.param.Goals as goal

pub returns-in_err-ctype-clause-stops : goal.returns-in_err-ctype-clause-stops
returns-in_err-ctype-clause-stops c =
    let p = err_from_is_err_and c.from_residual.result c.from_residual.ensures.1 in
    rw (p.1, p.2) (passes c.in_err-ctype.field-0.0 c.in_err-ctype.ensures.stops
    (λ end f. leads_param.fails _ (fails_then (λ a b g r x s. name_follows g r x) (λ a. complete_makes complete_name) f)))

pub returns-in_err-name-clause-stops : goal.returns-in_err-name-clause-stops
returns-in_err-name-clause-stops c =
    let p = err_from_is_err_and c.from_residual-in_err-name.result c.from_residual-in_err-name.ensures.1 in
    rw (p.1, p.2) (missing_name c.in_err-name.field-0.0 c.in_err-name.ensures.missing
    (λ lacks. leads_param.fails _ ((leads_then (λ a b g r x s. name_follows g r x) c.in_ok-ctype.ensures.done).fails _ (fails_makes (fails_name lacks)))))

pub returns-clause-done : goal.returns-clause-done
returns-clause-done c = rw (c.in_ok-name-2.ensures, c.as_bytes.ensures) (leads_param.done _ _ ((leads_then (λ a b g r x s. name_follows g r x) c.in_ok-ctype.ensures.done).done _ _ (leads_makes (done_name c.in_ok-name.ensures.found))))
