use Rattle.std.proofs.Common.{rules, w64}
use Rattle.std.specs.Int.RustNames.{FitsSigned}
use Rattle.std.proofs.lemmas.Int.{to_z-of_z}
use Rattle.lq_parser.proofs.Leads.{leads_one, done_nothing, done_number, fails_number}
use Rattle.lq_parser.proofs.Cuts.{done_under, fails_under}
use Rattle.lq_parser.proofs.LoopRules.{leads_a_step, leads_no_step}
use Rattle.lq_parser.proofs.statements.foreach_step.Goals as goal

pub returns-in_default-clause-done : goal.returns-in_default-clause-done
returns-in_default-clause-done c = (leads_no_step c.in_default.ensures.none).done _ _ done_nothing

pub returns-in_default-eat_number-clause-stops : goal.returns-in_default-eat_number-clause-stops
returns-in_default-eat_number-clause-stops c =
    (leads_a_step c.in-Some.ensures.some).fails _ ((leads_one c.in-Some.ensures.some).fails _ (fails_under (λ next s. tt) (fails_number c.in_default-eat_number.ensures.none)))

pub returns-clause-done : goal.returns-clause-done
returns-clause-done c =
    let fits : FitsSigned w64 c.in-Some-eat_number.step = search rules in
    rw (to_z-of_z w64 c.in-Some-eat_number.step fits)
    ((leads_a_step c.in-Some.ensures.some).done _ _ ((leads_one c.in-Some.ensures.some).done _ _ (done_under (λ next s. tt) (done_number c.in-Some-eat_number.ensures.some))))
