use Rattle.std.proofs.Common.{length, sym, ap, ◌∙◌}
use Rattle.std.proofs.lemmas.Result.{err_from_is_err_and}
use Rattle.lq_tree.specs.declared.limit.Quantity.{Quantity}
use Rattle.lq_tree.specs.Limit.{checked}
use Rattle.lq_cli.proofs.NumbersStops.{too_many}
use Rattle.lq_cli.proofs.numbers.test_count.Goals as goal

pub returns-in_err-check-clause-told : goal.returns-in_err-check-clause-told
returns-in_err-check-clause-told c =
    let p = err_from_is_err_and c.from_residual.result c.from_residual.ensures.1 in
    rw (p.1, p.2)
    (too_many c.args.kind c.args.text.now c.args.numbers.now c.in_err-check.field-0.0 c.requires
    (ap (λ (q : Quantity). checked q (length c.args.numbers.now)) (sym c.count.ensures) ∙ sym c.check.ensures ∙ c.in_err-check.was))
