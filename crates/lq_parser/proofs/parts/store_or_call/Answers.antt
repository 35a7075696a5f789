use Rattle.std.proofs.Common.{sym}
use Rattle.std.proofs.lemmas.Result.{err_from_is_err_and}
use Rattle.lq_parser.proofs.Exits.{passes}
use Rattle.lq_parser.proofs.Onward.{goes_on, stops_on}
use Rattle.lq_parser.proofs.Leads.{leads_on, fails_then}
use Rattle.lq_parser.proofs.PartRules.{leads_rest, leads_start, leads_tail, leads_stored, start_follows, complete_whole, fails_tail, done_called, refused_whole}
use Rattle.lq_parser.proofs.parts.store_or_call.Goals as goal

pub returns-in_err-start-clause-stops : goal.returns-in_err-start-clause-stops
returns-in_err-start-clause-stops c at =
    let p = err_from_is_err_and c.from_residual.result c.from_residual.ensures.1 in
    rw (p.1, p.2) (passes c.in_err-start.field-0.0 (c.in_err-start.ensures.stops at)
    (λ end f. (leads_rest c.requires.set c.requires.update c.requires.step).fails _ (fails_then start_follows complete_whole f)))

pub returns-in_err-whole-clause-stops : goal.returns-in_err-whole-clause-stops
returns-in_err-whole-clause-stops c at =
    let p = err_from_is_err_and c.from_residual-in_err-whole.result c.from_residual-in_err-whole.ensures.1 in
    rw (p.1, p.2) (passes c.in_err-whole.field-0.0 c.in_err-whole.ensures.stops
    (λ end f. (leads_rest c.requires.set c.requires.update c.requires.step).fails _ ((leads_start (c.in_ok-start.ensures.done at)).fails _ (fails_tail f))))

pub returns-then-is_place-clause-done : goal.returns-then-is_place-clause-done
returns-then-is_place-clause-done c at =
    goes_on (leads_on (leads_rest c.requires.set c.requires.update c.requires.step)
    (leads_on (leads_start (c.in_ok-start.ensures.done at)) (leads_on (leads_tail c.in_ok-whole.ensures.done) (leads_stored (sym c.if-is_place.ensures)))))
    c.store.result c.store.ensures.done

pub returns-then-is_place-clause-stops : goal.returns-then-is_place-clause-stops
returns-then-is_place-clause-stops c at =
    stops_on (leads_on (leads_rest c.requires.set c.requires.update c.requires.step)
    (leads_on (leads_start (c.in_ok-start.ensures.done at)) (leads_on (leads_tail c.in_ok-whole.ensures.done) (leads_stored (sym c.if-is_place.ensures)))))
    c.store.result c.store.ensures.stops

pub returns-in-Some-clause-done : goal.returns-in-Some-clause-done
returns-in-Some-clause-done c at =
    let k = c.in-Some.ensures.some in
    (leads_rest c.requires.set c.requires.update c.requires.step).done _ _
    ((leads_start (c.in_ok-start.ensures.done at)).done _ _ ((leads_tail c.in_ok-whole.ensures.done).done _ _ (done_called k.0 k.1 k.2 k.3)))

pub returns-in-None-clause-stops : goal.returns-in-None-clause-stops
returns-in-None-clause-stops c at =
    (leads_rest c.requires.set c.requires.update c.requires.step).fails _
    ((leads_start (c.in_ok-start.ensures.done at)).fails _ (refused_whole (sym c.if-is_place.ensures) c.in-None.ensures.none c.in_ok-whole.ensures.done))
