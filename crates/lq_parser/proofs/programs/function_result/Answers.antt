use Rattle.std.proofs.lemmas.Result.{err_from_is_err_and}
use Rattle.lq_parser.proofs.Leads.{done_one, leads_makes, fails_makes}
use Rattle.lq_parser.proofs.Exits.{passes}
use Rattle.lq_parser.proofs.Cuts.{done_under}
use Rattle.lq_parser.proofs.ProgramRules.{leads_void_result, leads_type_result}
use Rattle.lq_parser.proofs.programs.function_result.Goals as goal

pub returns-in-Some-clause-done : goal.returns-in-Some-clause-done
returns-in-Some-clause-done c = (leads_void_result c.in-Some.ensures.some).done _ _ (leads_makes (done_under (λ next s. tt) (done_one c.in-Some.ensures.some)))

pub returns-in_err-ctype-clause-stops : goal.returns-in_err-ctype-clause-stops
returns-in_err-ctype-clause-stops c =
    let p = err_from_is_err_and c.from_residual.result c.from_residual.ensures.1 in
    rw (p.1, p.2) (passes c.in_err-ctype.field-0.0 c.in_err-ctype.ensures.stops
    (λ end f. (leads_type_result c.in_default.ensures.none).fails _ (fails_makes f)))

pub returns-clause-done : goal.returns-clause-done
returns-clause-done c = (leads_type_result c.in_default.ensures.none).done _ _ (leads_makes c.in_ok-ctype.ensures.done)
