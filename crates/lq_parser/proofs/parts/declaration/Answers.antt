use Rattle.std.proofs.lemmas.Result.{err_from_is_err_and}
use Rattle.lq_parser.proofs.Exits.{missing_name, passes}
use Rattle.lq_parser.proofs.Leads.{leads_one, leads_name, leads_makes, done_nothing, fails_makes, stuck_name, complete_makes}
use Rattle.lq_parser.proofs.Cuts.{leads_before, fails_before, done_under, fails_under}
use Rattle.lq_parser.proofs.Followers.{part_ends}
use Rattle.lq_parser.proofs.FlatRules.{leads_declared, type_follows, complete_declared, complete_initial, leads_initial, leads_no_initial}
use Rattle.lq_parser.proofs.parts.declaration.Goals as goal

pub returns-in_err-ctype-clause-stops : goal.returns-in_err-ctype-clause-stops
returns-in_err-ctype-clause-stops c =
    let p = err_from_is_err_and c.from_residual.result c.from_residual.ensures.1 in
    rw (p.1, p.2) (passes c.in_err-ctype.field-0.0 c.in_err-ctype.ensures.stops
    (λ end f. leads_declared.fails _ (fails_before type_follows complete_declared f)))

pub returns-in_err-name-clause-stops : goal.returns-in_err-name-clause-stops
returns-in_err-name-clause-stops c =
    let p = err_from_is_err_and c.from_residual-in_err-name.result c.from_residual-in_err-name.ensures.1 in
    rw (p.1, p.2) (missing_name c.in_err-name.field-0.0 c.in_err-name.ensures.missing
    (λ lacks. leads_declared.fails _ ((leads_before type_follows c.in_ok-ctype.ensures.done).fails _ (stuck_name (λ text. complete_makes complete_initial) lacks))))

pub returns-in_default-clause-done : goal.returns-in_default-clause-done
returns-in_default-clause-done c = rw c.in_ok-name-2.ensures (leads_declared.done _ _ ((leads_before type_follows c.in_ok-ctype.ensures.done).done _ _ ((leads_name c.in_ok-name.ensures.found).done _ _
    (leads_makes ((leads_no_initial c.in_default.ensures.none).done _ _ done_nothing)))))

pub returns-in_err-value-clause-stops : goal.returns-in_err-value-clause-stops
returns-in_err-value-clause-stops c =
    let p = err_from_is_err_and c.from_residual-in_err-value.result c.from_residual-in_err-value.ensures.1 in
    rw (p.1, p.2) (passes c.in_err-value.field-0.0 c.in_err-value.ensures.stops
    (λ end f. leads_declared.fails _ ((leads_before type_follows c.in_ok-ctype.ensures.done).fails _ ((leads_name c.in_ok-name.ensures.found).fails _
    (fails_makes ((leads_initial c.in-Some.ensures.some).fails _ ((leads_one c.in-Some.ensures.some).fails _ (fails_makes (fails_under part_ends f)))))))))

pub returns-clause-done : goal.returns-clause-done
returns-clause-done c = rw c.in_ok-name-2.ensures (leads_declared.done _ _ ((leads_before type_follows c.in_ok-ctype.ensures.done).done _ _ ((leads_name c.in_ok-name.ensures.found).done _ _
    (leads_makes ((leads_initial c.in-Some.ensures.some).done _ _ ((leads_one c.in-Some.ensures.some).done _ _ (leads_makes (done_under part_ends c.in_ok-value.ensures.done))))))))
