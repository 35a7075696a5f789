use Rattle.std.proofs.lemmas.Result.{err_from_is_err_and}
use Rattle.lq_parser.proofs.Leads.{leads_makes, done_name, fails_makes, fails_name}
use Rattle.lq_parser.proofs.Exits.{missing_name}
use Rattle.lq_parser.proofs.nodes.member.Goals as goal

pub returns-in_err-field-clause-stops : goal.returns-in_err-field-clause-stops
returns-in_err-field-clause-stops c =
    let p = err_from_is_err_and c.from_residual.result c.from_residual.ensures.1 in
    rw (p.1, p.2) (missing_name c.in_err-field.field-0.0 c.in_err-field.ensures.missing (λ lacks. fails_makes (fails_name lacks)))

pub returns-clause-done : goal.returns-clause-done
returns-clause-done c = rw (c.in_ok-new.ensures, c.in_ok-field-2.ensures, c.as_bytes.ensures) (leads_makes (done_name c.in_ok-field.ensures.found))
