use Rattle.std.proofs.lemmas.Result.{err_from_is_err_and}
use Rattle.lq_tree.specs.declared.limit.Quantity.TheVariants.{SourceBytes}
use Rattle.lq_cli.specs.Files.{FileAnswers}
use Rattle.lq_cli.specs.Seen.{shelf_state}
use Rattle.lq_cli.specs.Text.{SourceAnswers, file}
use Rattle.lq_cli.proofs.Readings.{stopped_more}
use Rattle.lq_cli.proofs.text.fetch_source.Goals as goal

pub returns-in_err-text : goal.returns-in_err-text
returns-in_err-text g c =
    let p = err_from_is_err_and c.from_residual.result c.from_residual.ensures.1 in
    rw (p.1, p.2)
    (stopped_more {A = FileAnswers SourceBytes c.args.name.now} {B = SourceAnswers c.args.name.now}
    (shelf_state g.H.Shelf.holding g.H.Shelf.faults g.H.Shelf.failed_name c.args.shelf.now) (shelf_state g.H.Shelf.holding g.H.Shelf.faults g.H.Shelf.failed_name c.fetch.new.shelf)
    c.in_err-text.field-0.0 (λ status bytes a. file a) c.in_err-text.ensures)
