use Rattle.std.proofs.lemmas.Result.{err_from_is_err_and}
use Rattle.lq_cli.proofs.TextStops.{shape_passed}
use Rattle.lq_cli.proofs.text.test_shape.Goals as goal

pub returns-in_err-check_shape-clause-told : goal.returns-in_err-check_shape-clause-told
returns-in_err-check_shape-clause-told c =
    let p = err_from_is_err_and c.from_residual.result c.from_residual.ensures.1 in
    rw (p.1, p.2)
    (shape_passed c.args.text.now c.args.tokens.now c.check_shape.result c.in_err-check_shape.field-0.0 c.requires
    c.check_shape.ensures.ok.1 c.check_shape.ensures.brackets c.check_shape.ensures.stretch c.in_err-check_shape.was)
