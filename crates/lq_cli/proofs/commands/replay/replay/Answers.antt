use Rattle.lq_cli.specs.Readers.{IsReady}
use Rattle.lq_cli.specs.Seen.{shelf_state, sink_state, seen}
use Rattle.lq_cli.specs.commands.Replay.{ReplayEnds, ReplayAnswers, command_of, outcome_of, log_of}
use Rattle.lq_cli.proofs.ReplayEnding.{ready_answers}
use Rattle.lq_cli.proofs.Told.{answered_had}
use Rattle.lq_cli.proofs.commands.replay.replay.Goals as goal

pub returns-in-Ok : goal.returns-in-Ok
returns-in-Ok g c =
    let w = command_of c.args.words.now in
    let r = c.in-Ok.ready in
    let shelf = (shelf_state g.H.Shelf.holding g.H.Shelf.faults g.H.Shelf.failed_name c.args.shelf.now) in
    let left = (shelf_state g.H.Shelf.holding g.H.Shelf.faults g.H.Shelf.failed_name c.fetch_ready.new.shelf) in
    answered_had {F = IsReady shelf.held w r} {A = ReplayAnswers w}
    {E = ReplayEnds (outcome_of w r.source.tree r.input.items r.picks.items) (log_of w r.source.tree r.input.items r.picks.items)} shelf left
    (sink_state g.K.Sink.written g.K.Sink.faults c.args.out.now) (sink_state g.K.Sink.written g.K.Sink.faults c.run.new.out) c.run.result c.in-Ok.ensures
    (ready_answers w (seen shelf left) r) c.run.ensures
