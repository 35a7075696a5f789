use Rattle.std.proofs.Common.{subst}
use Rattle.std.proofs.lemmas.Result.{err_from_is_err_and}
use Rattle.lq_tree.specs.declared.limit.Quantity.{Quantity}
use Rattle.lq_cli.specs.Files.{FileAnswers}
use Rattle.lq_cli.specs.Numbers.{size_of, NumbersAnswers, file}
use Rattle.lq_cli.specs.Seen.{shelf_state}
use Rattle.lq_cli.specs.Stop.{Stopped}
use Rattle.lq_cli.proofs.Readings.{stopped_more}
use Rattle.lq_cli.proofs.numbers.fetch_numbers.Goals as goal

pub returns-in_err-text : goal.returns-in_err-text
returns-in_err-text g c =
    let shelf = (shelf_state g.H.Shelf.holding g.H.Shelf.faults g.H.Shelf.failed_name c.args.shelf.now) in
    let left = (shelf_state g.H.Shelf.holding g.H.Shelf.faults g.H.Shelf.failed_name c.fetch.new.shelf) in
    let stopped = subst (λ (q : Quantity). Stopped (FileAnswers q c.args.name.now) shelf left c.in_err-text.field-0.0) c.size.ensures c.in_err-text.ensures in
    let p = err_from_is_err_and c.from_residual.result c.from_residual.ensures.1 in
    rw (p.1, p.2)
    (stopped_more {A = FileAnswers (size_of c.args.kind) c.args.name.now} {B = NumbersAnswers c.args.kind c.args.name.now} shelf left c.in_err-text.field-0.0 (λ status bytes a. file a) stopped)
