use Rattle.std.proofs.lemmas.Result.{err_from_is_err_and}
use Rattle.lq_full.proofs.LimitLemmas.{rows_told}
use Rattle.lq_full.proofs.assignment.all_instances.Goals as goal

pub returns-in_err-instances-clause-fault : goal.returns-in_err-instances-clause-fault
returns-in_err-instances-clause-fault c list =
    let p = err_from_is_err_and c.from_residual.result c.from_residual.ensures.1 in
    rw (p.1, p.2)
    (rows_told c.args.quals.now c.args.templates.now c.loop-template.template-index c.template-item.result list c.loop-template-test.true c.template-item.is
    c.in_err-instances.field-0.0 c.in_err-instances.ensures.fault)
