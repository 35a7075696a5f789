use Rattle.std.proofs.lemmas.Result.{err_from_is_err_and}
use Rattle.lq_cli.proofs.TextStops.{count_told}
use Rattle.lq_cli.proofs.text.test_counts.Goals as goal

pub returns-in_err-check_counts-clause-told : goal.returns-in_err-check_counts-clause-told
returns-in_err-check_counts-clause-told c =
    let p = err_from_is_err_and c.from_residual.result c.from_residual.ensures.1 in
    rw (p.1, p.2)
    (count_told c.args.text.now c.args.tree.now c.check_counts.result c.in_err-check_counts.field-0.0 c.requires c.check_counts.ensures c.in_err-check_counts.was)
