use Rattle.std.proofs.lemmas.Result.{err_from_is_err_and}
use Rattle.lq_parser.specs.Statements.{IsSimple}
use Rattle.lq_parser.proofs.Exits.{passes}
use Rattle.lq_parser.proofs.Onward.{goes_on, stops_on}
use Rattle.lq_parser.proofs.Leads.{leads_on, leads_then, fails_then}
use Rattle.lq_parser.proofs.Cuts.{leads_cut}
use Rattle.lq_parser.proofs.PartRules.{simple_some, leads_place, stored_follows, complete_stored}
use Rattle.lq_parser.proofs.parts.simple.Goals as goal

pub returns-in-Some-clause-done : goal.returns-in-Some-clause-done
returns-in-Some-clause-done c = let b = c.in-Some.ensures.some in goes_on (leads_cut {X = IsSimple} simple_some b.1) c.behind_name.result (c.behind_name.ensures.done b.0)

pub returns-in-Some-clause-stops : goal.returns-in-Some-clause-stops
returns-in-Some-clause-stops c = let b = c.in-Some.ensures.some in stops_on (leads_cut {X = IsSimple} simple_some b.1) c.behind_name.result (c.behind_name.ensures.stops b.0)

pub returns-in_err-place-clause-stops : goal.returns-in_err-place-clause-stops
returns-in_err-place-clause-stops c =
    let p = err_from_is_err_and c.from_residual.result c.from_residual.ensures.1 in
    rw (p.1, p.2) (passes c.in_err-place.field-0.0 c.in_err-place.ensures.stops
    (λ end f. (leads_place c.in_default.ensures.none).fails _ (fails_then stored_follows (λ place. complete_stored) f)))

pub returns-clause-done : goal.returns-clause-done
returns-clause-done c = goes_on (leads_on (leads_place c.in_default.ensures.none) (leads_then stored_follows c.in_ok-place.ensures.done)) c.store.result c.store.ensures.done

pub returns-clause-stops : goal.returns-clause-stops
returns-clause-stops c = stops_on (leads_on (leads_place c.in_default.ensures.none) (leads_then stored_follows c.in_ok-place.ensures.done)) c.store.result c.store.ensures.stops
