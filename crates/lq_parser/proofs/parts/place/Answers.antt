use Rattle.std.proofs.Common.{sym}
use Rattle.std.proofs.lemmas.Result.{err_from_is_err_and}
use Rattle.lq_parser.proofs.Exits.{passes}
use Rattle.lq_parser.proofs.Leads.{leads_one, leads_makes, fails_makes}
use Rattle.lq_parser.proofs.Cuts.{done_under, fails_under}
use Rattle.lq_parser.proofs.Followers.{equal_ends}
use Rattle.lq_parser.proofs.PartRules.{leads_deref, leads_postfix, leads_whole, done_place, fails_postfix, refused_place}
use Rattle.lq_parser.proofs.parts.place.Goals as goal

pub returns-in_err-operand-clause-stops : goal.returns-in_err-operand-clause-stops
returns-in_err-operand-clause-stops c =
    let p = err_from_is_err_and c.from_residual.result c.from_residual.ensures.1 in
    rw (p.1, p.2) (passes c.in_err-operand.field-0.0 c.in_err-operand.ensures.stops
    (λ end f. (leads_deref c.in-Some.ensures.some).fails _ ((leads_one c.in-Some.ensures.some).fails _ (fails_makes (fails_under equal_ends f)))))

pub returns-in-Some-clause-done : goal.returns-in-Some-clause-done
returns-in-Some-clause-done c = rw c.in_ok-new.ensures
    ((leads_deref c.in-Some.ensures.some).done _ _ ((leads_one c.in-Some.ensures.some).done _ _ (leads_makes (done_under equal_ends c.in_ok-operand.ensures.done))))

pub returns-in_err-whole-clause-stops : goal.returns-in_err-whole-clause-stops
returns-in_err-whole-clause-stops c =
    let p = err_from_is_err_and c.from_residual-in_err-whole.result c.from_residual-in_err-whole.ensures.1 in
    rw (p.1, p.2) (passes c.in_err-whole.field-0.0 c.in_err-whole.ensures.stops
    (λ end f. (leads_postfix c.in_default.ensures.none).fails _ (fails_postfix f)))

pub returns-then-is_place-clause-done : goal.returns-then-is_place-clause-done
returns-then-is_place-clause-done c = (leads_postfix c.in_default.ensures.none).done _ _ ((leads_whole c.in_ok-whole.ensures.done).done _ _ (done_place (sym c.if-is_place.ensures)))

pub returns-clause-stops : goal.returns-clause-stops
returns-clause-stops c = (leads_postfix c.in_default.ensures.none).fails _ (refused_place (sym c.if-is_place.ensures) c.in_ok-whole.ensures.done)
