use Rattle.std.proofs.lemmas.Result.{err_from_is_err_and}
use Rattle.lq_cli.specs.declared.numbers.NumbersFile.TheVariants.{Input}
use Rattle.lq_cli.specs.Numbers.{NumbersAnswers}
use Rattle.lq_cli.specs.Seen.{shelf_state}
use Rattle.lq_cli.specs.Text.{SourceAnswers}
use Rattle.lq_cli.specs.commands.Seq.{SeqAnswers, source, input, command_of}
use Rattle.lq_cli.proofs.Readings.{stopped_more, stopped_behind}
use Rattle.lq_cli.proofs.SeqRuns.{source_of}
use Rattle.lq_cli.proofs.commands.seq.fetch_files.Goals as goal

pub returns-in_err-source : goal.returns-in_err-source
returns-in_err-source g c =
    let p = err_from_is_err_and c.from_residual.result c.from_residual.ensures.1 in
    rw (p.1, p.2)
    (stopped_more {A = SourceAnswers c.args.words.now.source.now} {B = SeqAnswers (command_of c.args.words.now)}
    (shelf_state g.H.Shelf.holding g.H.Shelf.faults g.H.Shelf.failed_name c.args.shelf.now) (shelf_state g.H.Shelf.holding g.H.Shelf.faults g.H.Shelf.failed_name c.fetch_source.new.shelf)
    c.in_err-source.field-0.0 (λ status bytes a. source a) c.in_err-source.ensures)

pub returns-in_err-input : goal.returns-in_err-input
returns-in_err-input g c =
    let shelf = (shelf_state g.H.Shelf.holding g.H.Shelf.faults g.H.Shelf.failed_name c.args.shelf.now) in
    let middle = (shelf_state g.H.Shelf.holding g.H.Shelf.faults g.H.Shelf.failed_name c.fetch_source.new.shelf) in
    let p = err_from_is_err_and c.from_residual-in_err-input.result c.from_residual-in_err-input.ensures.1 in
    rw (p.1, p.2)
    (stopped_behind shelf middle c.in_ok-source.ensures {A = NumbersAnswers Input c.args.words.now.input.now} {B = SeqAnswers (command_of c.args.words.now)}
    (shelf_state g.H.Shelf.holding g.H.Shelf.faults g.H.Shelf.failed_name c.fetch_numbers.new.shelf) c.in_err-input.field-0.0
    (λ status bytes a. input c.in_ok-source.source.tree (source_of shelf.held c.args.words.now.source.now c.in_ok-source.source c.in_ok-source.ensures.fact) a) c.in_err-input.ensures)
