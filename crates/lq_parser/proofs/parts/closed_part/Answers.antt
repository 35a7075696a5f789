use Rattle.std.proofs.lemmas.Result.{err_from_is_err_and}
use Rattle.lq_parser.proofs.Exits.{missing, passes}
use Rattle.lq_parser.proofs.Onward.{ok_by, err_by}
use Rattle.lq_parser.proofs.Leads.{leads_makes, done_one, fails_one, fails_makes}
use Rattle.lq_parser.proofs.Cuts.{leads_before, fails_before}
use Rattle.lq_parser.proofs.FlatRules.{semicolon_after, complete_sign}
use Rattle.lq_parser.proofs.parts.closed_part.Goals as goal

pub returns-in_err-kind-clause-stops : goal.returns-in_err-kind-clause-stops
returns-in_err-kind-clause-stops c =
    let p = err_from_is_err_and c.from_residual.result c.from_residual.ensures.1 in
    rw (p.1, p.2) (passes c.in_err-kind.field-0.0 c.in_err-kind.ensures.stops (λ end f. fails_before semicolon_after (λ kind. complete_sign) f))

pub returns-clause-done : goal.returns-clause-done
returns-clause-done c =
    ok_by (λ p found. rw found.0 ((leads_before semicolon_after c.in_ok-kind.ensures.done).done _ _ (leads_makes (done_one found.1)))) c.closed_by.result c.closed_by.ensures.found

pub returns-clause-stops : goal.returns-clause-stops
returns-clause-stops c =
    err_by (λ stop s. missing stop s (λ lacks. (leads_before semicolon_after c.in_ok-kind.ensures.done).fails _ (fails_makes (fails_one lacks)))) c.closed_by.result c.closed_by.ensures.missing
