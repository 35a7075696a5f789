use Rattle.std.proofs.Common.{ℤ, List, subst}
use Rattle.lq_meaning.specs.Meaning.{sequential}
use Rattle.lq_cli.specs.Ends.{Ends}
use Rattle.lq_cli.specs.Readers.{AreFiles}
use Rattle.lq_cli.specs.Seen.{shelf_state, sink_state, seen}
use Rattle.lq_cli.specs.commands.Seq.{SeqAnswers, command_of}
use Rattle.lq_cli.proofs.SeqRuns.{files_answer}
use Rattle.lq_cli.proofs.Told.{answered_had}
use Rattle.lq_cli.proofs.commands.seq.seq.Goals as goal

pub returns-in-Ok : goal.returns-in-Ok
returns-in-Ok g c =
    let w = c.args.words.now in
    let shelf = (shelf_state g.H.Shelf.holding g.H.Shelf.faults g.H.Shelf.failed_name c.args.shelf.now) in
    let left = (shelf_state g.H.Shelf.holding g.H.Shelf.faults g.H.Shelf.failed_name c.fetch_files.new.shelf) in
    answered_had {F = AreFiles shelf.held (command_of w) c.in-Ok.files} {A = SeqAnswers (command_of w)} {E = Ends (sequential w.fuel w.words c.in-Ok.files.source.tree c.deref.result.now)} shelf left
    (sink_state g.K.Sink.written g.K.Sink.faults c.args.out.now) (sink_state g.K.Sink.written g.K.Sink.faults c.run.new.out) c.run.result c.in-Ok.ensures
    (λ f status bytes ends. files_answer (command_of w) (seen shelf left) c.in-Ok.files f status bytes
    (subst (λ (numbers : List ℤ). Ends (sequential w.fuel w.words c.in-Ok.files.source.tree numbers) status bytes) c.deref.ensures.value ends))
    c.run.ensures
