use Rattle.std.proofs.lemmas.Result.{err_from_is_err_and}
use Rattle.lq_parser.proofs.Exits.{missing, passes}
use Rattle.lq_parser.proofs.Leads.{leads_one, leads_makes, stuck_one, complete_makes, fails_makes}
use Rattle.lq_parser.proofs.Firsts.{complete_expression}
use Rattle.lq_parser.proofs.Cuts.{done_under, fails_under}
use Rattle.lq_parser.proofs.Followers.{part_ends}
use Rattle.lq_parser.proofs.parts.store.Goals as goal

pub returns-clause-done : goal.returns-clause-done
returns-clause-done c = (leads_one c.in_ok-rest.ensures.found).done _ _ (leads_makes (done_under part_ends c.in_ok-value.ensures.done))

pub returns-in_err-rest-clause-stops : goal.returns-in_err-rest-clause-stops
returns-in_err-rest-clause-stops c =
    let p = err_from_is_err_and c.from_residual.result c.from_residual.ensures.1 in
    rw (p.1, p.2) (missing c.in_err-rest.field-0.0 c.in_err-rest.ensures.missing (λ lacks. stuck_one (complete_makes complete_expression) lacks))

pub returns-in_err-value-clause-stops : goal.returns-in_err-value-clause-stops
returns-in_err-value-clause-stops c =
    let p = err_from_is_err_and c.from_residual-in_err-value.result c.from_residual-in_err-value.ensures.1 in
    rw (p.1, p.2) (passes c.in_err-value.field-0.0 c.in_err-value.ensures.stops
    (λ end f. (leads_one c.in_ok-rest.ensures.found).fails _ (fails_makes (fails_under part_ends f))))
