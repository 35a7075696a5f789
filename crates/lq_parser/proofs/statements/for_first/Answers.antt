use Rattle.std.proofs.Common.{refl}
use Rattle.std.proofs.lemmas.Result.{err_from_is_err_and}
use Rattle.lq_parser.proofs.Exits.{missing, passes}
use Rattle.lq_parser.proofs.Leads.{leads_makes, done_one, fails_one, fails_makes}
use Rattle.lq_parser.proofs.Cuts.{leads_before, fails_before}
use Rattle.lq_parser.proofs.FlatRules.{part_avoids, complete_sign}
use Rattle.lq_parser.proofs.StatementRules.{done_placed, fails_placed}
use Rattle.lq_parser.proofs.LoopRules.{leads_no_part, leads_a_part, placed_avoids, part_never, semicolon_behind}
use Rattle.lq_parser.proofs.statements.for_first.Goals as goal

pub returns-in-Some-clause-done : goal.returns-in-Some-clause-done
returns-in-Some-clause-done c = (leads_no_part (placed_avoids (part_avoids refl)) c.in-Some.ensures.some).done _ _ (leads_makes (done_one c.in-Some.ensures.some))

pub returns-in_err-kind-clause-stops : goal.returns-in_err-kind-clause-stops
returns-in_err-kind-clause-stops c =
    let p = err_from_is_err_and c.from_residual.result c.from_residual.ensures.1 in
    rw (p.1, p.2) (passes c.in_err-kind.field-0.0 c.in_err-kind.ensures.stops
    (λ end f. (leads_a_part c.in_default.ensures.none).fails _ (fails_before (semicolon_behind _) (λ value. complete_sign) (fails_placed part_never f))))

pub returns-in_err-closed-clause-stops : goal.returns-in_err-closed-clause-stops
returns-in_err-closed-clause-stops c =
    let p = err_from_is_err_and c.from_residual-in_err-closed.result c.from_residual-in_err-closed.ensures.1 in
    rw (p.1, p.2) (missing c.in_err-closed.field-0.0 c.in_err-closed.ensures.missing
    (λ lacks. (leads_a_part c.in_default.ensures.none).fails _ ((leads_before (semicolon_behind _) (done_placed part_never c.in_ok-kind.ensures.done)).fails _ (fails_makes (fails_one lacks)))))

pub returns-clause-done : goal.returns-clause-done
returns-clause-done c = rw (c.in_ok-boxed_at.ensures, c.in_ok-closed.ensures.found.0, c.place_of_first-at.ensures)
    ((leads_a_part c.in_default.ensures.none).done _ _ ((leads_before (semicolon_behind _) (done_placed part_never c.in_ok-kind.ensures.done)).done _ _ (leads_makes (done_one c.in_ok-closed.ensures.found.1))))
