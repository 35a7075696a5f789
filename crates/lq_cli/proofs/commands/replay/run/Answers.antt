use Rattle.std.proofs.Common.{Err, ap, ◌∙◌}
use Rattle.lq_plain.specs.Plain.{plain_program}
use Rattle.lq_machine.specs.Replay.{replay, replay_log}
use Rattle.lq_cli.specs.Seen.{sink_state}
use Rattle.lq_cli.proofs.ReplayEnding.{ok_told, fault_told, lost_told, same_told}
use Rattle.lq_cli.proofs.SeqRuns.{is_formed}
use Rattle.lq_cli.proofs.commands.replay.run.Goals as goal

pub returns-in-Ok-replay : goal.returns-in-Ok-replay
returns-in-Ok-replay g c =
    let last = (sink_state g.K.Sink.written g.K.Sink.faults c.tell_replayed.new.out) in
    let r = c.args.ready.now in
    let given = c.deref.result.now in
    let picked = c.deref-2.result.now in
    let o = replay c.args.fuel c.args.words c.in-Ok.p given picked in
    let log = replay_log c.args.fuel c.args.words c.in-Ok.p given picked in
    let old = (sink_state g.K.Sink.written g.K.Sink.faults c.args.out.now) in
    let middle = (sink_state g.K.Sink.written g.K.Sink.faults c.replay.new.out) in
    let ruled = c.replays_have_rules.ensures c.in-Ok.p (is_formed c.plain_is_formed.ensures r.source.tree c.requires.tree c.in-Ok.p c.in-Ok.ensures) c.args.fuel c.args.words given picked in
    same_told c.args.fuel c.args.words c.in-Ok.p (plain_program r.source.tree) given r.input.items picked r.picks.items old last c.tell_replayed.result c.in-Ok.ensures c.deref.ensures.value c.deref-2.ensures.value
    (ok_told o log ruled old middle c.replay.result c.replay.ensures.prefix c.replay.ensures.failed c.replay.ensures.other c.in-Ok-replay.replayed last c.tell_replayed.result c.in-Ok-replay.is
    c.replay.ensures.tells c.replay.ensures.of_run c.replay.ensures.log c.replay.ensures.all c.tell_replayed.ensures)

pub returns-in-Err-SinkFault : goal.returns-in-Err-SinkFault
returns-in-Err-SinkFault g c =
    let r = c.args.ready.now in
    let given = c.deref.result.now in
    let picked = c.deref-2.result.now in
    let o = replay c.args.fuel c.args.words c.in-Ok.p given picked in
    let log = replay_log c.args.fuel c.args.words c.in-Ok.p given picked in
    let old = (sink_state g.K.Sink.written g.K.Sink.faults c.args.out.now) in
    let middle = (sink_state g.K.Sink.written g.K.Sink.faults c.replay.new.out) in
    let ruled = c.replays_have_rules.ensures c.in-Ok.p (is_formed c.plain_is_formed.ensures r.source.tree c.requires.tree c.in-Ok.p c.in-Ok.ensures) c.args.fuel c.args.words given picked in
    same_told c.args.fuel c.args.words c.in-Ok.p (plain_program r.source.tree) given r.input.items picked r.picks.items old middle 10 c.in-Ok.ensures c.deref.ensures.value c.deref-2.ensures.value
    (fault_told o log ruled old middle c.replay.result c.replay.ensures.prefix c.replay.ensures.failed c.replay.ensures.other (c.in-Err-SinkFault.is ∙ ap Err c.in-Err-SinkFault.field-0-is))

pub returns : goal.returns
returns g c =
    let r = c.args.ready.now in
    let given = c.deref.result.now in
    let picked = c.deref-2.result.now in
    let o = replay c.args.fuel c.args.words c.in-Ok.p given picked in
    let log = replay_log c.args.fuel c.args.words c.in-Ok.p given picked in
    let old = (sink_state g.K.Sink.written g.K.Sink.faults c.args.out.now) in
    let middle = (sink_state g.K.Sink.written g.K.Sink.faults c.replay.new.out) in
    let ruled = c.replays_have_rules.ensures c.in-Ok.p (is_formed c.plain_is_formed.ensures r.source.tree c.requires.tree c.in-Ok.p c.in-Ok.ensures) c.args.fuel c.args.words given picked in
    same_told c.args.fuel c.args.words c.in-Ok.p (plain_program r.source.tree) given r.input.items picked r.picks.items old middle 11 c.in-Ok.ensures c.deref.ensures.value c.deref-2.ensures.value
    (lost_told o log ruled old middle c.replay.result c.replay.ensures.prefix c.replay.ensures.failed c.replay.ensures.other (c.in-Err-NoMemory.is ∙ ap Err c.in-Err-NoMemory.field-0-is))
