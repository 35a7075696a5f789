use Rattle.std.proofs.Common.{map, string_bytes}
use Rattle.lq_cli.specs.Seen.{shelf_state, sink_state}
use Rattle.lq_cli.proofs.CleanRuns.{tells_clean}
use Rattle.lq_cli.proofs.entry.liquid.Goals as goal

pub returns-clause-clean : goal.returns-clause-clean
returns-clause-clean g c =
    tells_clean (map string_bytes c.args.words.now)
    (shelf_state g.H.Shelf.holding g.H.Shelf.faults g.H.Shelf.failed_name c.args.shelf.now) (shelf_state g.H.Shelf.holding g.H.Shelf.faults g.H.Shelf.failed_name c.answer.new.shelf)
    (sink_state g.K.Sink.written g.K.Sink.faults c.args.out.now) (sink_state g.K.Sink.written g.K.Sink.faults c.answer.new.out) c.answer.result
    c.clean_replays_run_in_order.ensures.no_race c.clean_replays_run_in_order.ensures.in_order c.answer.ensures
