use Rattle.std.proofs.Common.{refl}
use Rattle.std.proofs.lemmas.Result.{err_from_is_err_and}
use Rattle.lq_parser.proofs.Leads.{leads_on, leads_then, fails_then}
use Rattle.lq_parser.proofs.Exits.{passes}
use Rattle.lq_parser.proofs.ItemRules.{leads_adding, leads_struct_rest, leads_struct, complete_program, leads_function, ends_here, some_left, none_left}
use Rattle.lq_parser.proofs.programs.program.Goals as goal

pub loop-rest-init : goal.loop-rest-init
loop-rest-init c = rw (c.new-structs.ensures, c.new-funcs.ensures) leads_adding

pub returns-in_err-fields-clause-stops : goal.returns-in_err-fields-clause-stops
returns-in_err-fields-clause-stops c =
    let p = err_from_is_err_and c.from_residual-in_err-fields.result c.from_residual-in_err-fields.ensures.1 in
    rw (p.1, p.2) (passes c.in_err-fields.field-0.0 c.in_err-fields.ensures.stops
    (λ end f. c.loop-rest.invariant.fails _ ((leads_struct_rest c.loop-rest.structs c.loop-rest.funcs c.in-Some.ensures.some).fails _ (fails_then (λ a b g r x s. tt) (λ a. complete_program _ _) f))))

pub loop-rest-preserved-in-Some : goal.loop-rest-preserved-in-Some
loop-rest-preserved-in-Some c =
    leads_on c.loop-rest.invariant (leads_struct c.loop-rest.structs c.loop-rest.funcs c.push.new.self c.place_of_first-at.result c.in_ok-name.name c.in_ok-fields.fields c.in-Some.ensures.some
    c.place_of_first-at.ensures (rw (c.in_ok-name.ensures, c.as_bytes.ensures) refl) c.in_ok-push.ensures.ok c.in_ok-fields.ensures.done)

pub returns-in_err-function-clause-stops : goal.returns-in_err-function-clause-stops
returns-in_err-function-clause-stops c =
    let p = err_from_is_err_and c.from_residual-in_err-function.result c.from_residual-in_err-function.ensures.1 in
    rw (p.1, p.2) (passes c.in_err-function.field-0.0 c.in_err-function.ensures.stops
    (λ end f. c.loop-rest.invariant.fails _ ((leads_function c.loop-rest.structs c.loop-rest.funcs (some_left c.loop-rest.rest.now c.loop-rest-test.ensures) c.in_default.ensures.none).fails _ (fails_then (λ a b g r x s. tt) (λ a. complete_program _ _) f))))

pub loop-rest-preserved : goal.loop-rest-preserved
loop-rest-preserved c =
    rw c.in_ok-push-2.ensures.ok (leads_on c.loop-rest.invariant (leads_on (leads_function c.loop-rest.structs c.loop-rest.funcs (some_left c.loop-rest.rest.now c.loop-rest-test.ensures) c.in_default.ensures.none) (leads_then (λ a b g r x s. tt) c.in_ok-function.ensures.done)))

pub returns-clause-done : goal.returns-clause-done
returns-clause-done c = ends_here (none_left c.loop-rest.rest.now c.loop-rest-test.ensures) c.loop-rest.invariant
