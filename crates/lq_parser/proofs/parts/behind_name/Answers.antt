use Rattle.std.proofs.lemmas.Result.{err_from_is_err_and}
use Rattle.lq_parser.proofs.Exits.{passes}
use Rattle.lq_parser.proofs.Leads.{leads_one, leads_makes, fails_makes}
use Rattle.lq_parser.proofs.Cuts.{leads_as, done_as, done_under, fails_under}
use Rattle.lq_parser.proofs.Followers.{part_ends}
use Rattle.lq_parser.proofs.PartRules.{leads_set, leads_update, leads_step}
use Rattle.lq_parser.proofs.parts.behind_name.Goals as goal

pub returns-in_err-value-clause-stops : goal.returns-in_err-value-clause-stops
returns-in_err-value-clause-stops c at =
    let p = err_from_is_err_and c.from_residual.result c.from_residual.ensures.1 in
    rw (p.1, p.2) (passes c.in_err-value.field-0.0 c.in_err-value.ensures.stops
    (λ end f. (leads_set c.in-Some.ensures.some).fails _ ((leads_one c.in-Some.ensures.some).fails _ (fails_makes (fails_under part_ends f)))))

pub returns-in-Some-clause-done : goal.returns-in-Some-clause-done
returns-in-Some-clause-done c at = rw c.in_ok-copy.ensures
    ((leads_set c.in-Some.ensures.some).done _ _ ((leads_one c.in-Some.ensures.some).done _ _ (leads_makes (done_under part_ends c.in_ok-value.ensures.done))))

pub returns-in_err-value-2-clause-stops : goal.returns-in_err-value-2-clause-stops
returns-in_err-value-2-clause-stops c at =
    let p = err_from_is_err_and c.from_residual-in_err-value-2.result c.from_residual-in_err-value-2.ensures.1 in
    rw (p.1, p.2) (passes c.in_err-value-2.field-0.0 c.in_err-value-2.ensures.stops
    (λ end f. (leads_update c.in_default.ensures.none c.in-Some-eat_update.ensures.some).fails _ ((leads_as c.in-Some-eat_update.ensures.some).fails _ (fails_makes (fails_under part_ends f)))))

pub returns-in-Some-eat_update-clause-done : goal.returns-in-Some-eat_update-clause-done
returns-in-Some-eat_update-clause-done c at = rw c.in_ok-updated.ensures
    ((leads_update c.in_default.ensures.none c.in-Some-eat_update.ensures.some).done _ _
    ((leads_as c.in-Some-eat_update.ensures.some).done _ _ (leads_makes (done_under part_ends c.in_ok-value-2.ensures.done))))

pub returns-in-Some-eat_step-clause-done : goal.returns-in-Some-eat_step-clause-done
returns-in-Some-eat_step-clause-done c at = rw c.in_ok-updated-2.ensures
    ((leads_step c.in_default.ensures.none c.in-Some-eat_step.ensures.some).done _ _ (leads_makes (done_under (λ next s. tt) (done_as c.in-Some-eat_step.ensures.some))))
