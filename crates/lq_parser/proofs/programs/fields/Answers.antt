use Rattle.std.proofs.Common.{arith, ap, length, ◌∷◌, [], ◌++◌}
use Rattle.std.proofs.lemmas.Result.{err_from_is_err_and}
use Rattle.lq_parser.proofs.Leads.{leads_on, leads_then, done_one, leads_makes, fails_then, fails_makes, fails_one}
use Rattle.lq_parser.proofs.Exits.{missing, passes}
use Rattle.lq_parser.proofs.ProgramRules.{complete_fields, leads_fields_end, leads_next_field}
use Rattle.lq_parser.proofs.programs.fields.Goals as goal

pub returns-in_err-first-clause-stops : goal.returns-in_err-first-clause-stops
returns-in_err-first-clause-stops c =
    let p = err_from_is_err_and c.from_residual.result c.from_residual.ensures.1 in
    rw (p.1, p.2) (passes c.in_err-first.field-0.0 c.in_err-first.ensures.stops
    (λ end f. fails_then (λ a b g r x s. tt) (λ a. complete_fields (a ∷ [])) f))

pub loop-after-init : goal.loop-after-init
loop-after-init c = record {
  whole = rw (c.in_ok-push.ensures.ok, c.new-fields.ensures) (leads_then (λ a b g r x s. tt) c.in_ok-first.ensures.done);
  shorter = c.in_ok-first.ensures.shorter;
}

pub returns-in_err-after-clause-stops : goal.returns-in_err-after-clause-stops
returns-in_err-after-clause-stops c =
    let p = err_from_is_err_and c.from_residual-in_err-after.result c.from_residual-in_err-after.ensures.1 in
    rw (p.1, p.2) (missing c.in_err-after.field-0.0 c.in_err-after.ensures.missing
    (λ lacks. c.loop-after.invariant.whole.fails _ ((leads_fields_end c.loop-after.fields c.in-Some.ensures.some).fails _ (fails_makes (fails_one lacks)))))

pub returns-in-Some-clause-done : goal.returns-in-Some-clause-done
returns-in-Some-clause-done c = c.loop-after.invariant.whole.done _ _ ((leads_fields_end c.loop-after.fields c.in-Some.ensures.some).done _ _ (leads_makes (done_one c.in_ok-after.ensures.found)))

pub returns-in-Some-clause-shorter : goal.returns-in-Some-clause-shorter
returns-in-Some-clause-shorter c = omega (arith, ap length c.in-Some.ensures.some.1, ap length c.in_ok-after.ensures.found.1, c.loop-after.invariant.shorter)

pub returns-in_err-next-clause-stops : goal.returns-in_err-next-clause-stops
returns-in_err-next-clause-stops c =
    let p = err_from_is_err_and c.from_residual-in_err-next.result c.from_residual-in_err-next.ensures.1 in
    rw (p.1, p.2) (passes c.in_err-next.field-0.0 c.in_err-next.ensures.stops
    (λ end f. c.loop-after.invariant.whole.fails _ ((leads_next_field c.loop-after.fields c.in_default.ensures.none).fails _ (fails_then (λ a b g r x s. tt) (λ a. complete_fields (c.loop-after.fields ++ (a ∷ []))) f))))

pub loop-after-preserved : goal.loop-after-preserved
loop-after-preserved c = record {
  whole = rw c.in_ok-push-2.ensures.ok (leads_on c.loop-after.invariant.whole (leads_on (leads_next_field c.loop-after.fields c.in_default.ensures.none) (leads_then (λ a b g r x s. tt) c.in_ok-next.ensures.done)));
  shorter = omega (arith, c.in_ok-next.ensures.shorter, c.loop-after.invariant.shorter);
}
