use Rattle.std.proofs.Common.{Option, subst}
use Rattle.std.specs.Prelude.{IfSome, IfNone}
use Rattle.lq_cli.specs.declared.answer.Answer.{Answer}
use Rattle.lq_cli.specs.Replayed.{ComesFirst, TellsItsEnd}
use Rattle.lq_cli.specs.Seen.{sink_state}
use Rattle.lq_cli.proofs.ReplayEnding.{first_told, end_told, no_memory_told}
use Rattle.lq_cli.proofs.commands.replay.tell_replayed.Goals as goal

pub returns-in-Ok-Some : goal.returns-in-Ok-Some
returns-in-Ok-Some g c = λ o before run.
    let first : ComesFirst c.args.replayed c.in-Ok-Some.answer = subst (λ (found : Option Answer). IfSome found (ComesFirst c.args.replayed)) c.in-Ok-Some.field-0-is (rw c.in-Ok-Some.is at c.comes_first.ensures.some) in
    first_told c.args.replayed.end c.args.replayed.log.items c.requires o before (sink_state g.K.Sink.written g.K.Sink.faults c.args.out.now) run c.in-Ok-Some.answer
    (sink_state g.K.Sink.written g.K.Sink.faults c.tell.new.out) c.tell.result (first o) c.tell.ensures

pub returns-in-Ok-None : goal.returns-in-Ok-None
returns-in-Ok-None g c = λ o before run.
    let none : TellsItsEnd c.args.replayed = subst (λ (found : Option Answer). IfNone found (TellsItsEnd c.args.replayed)) c.in-Ok-None.field-0-is (rw c.in-Ok-None.is at c.comes_first.ensures.none) in
    end_told c.args.replayed.end c.args.replayed.log.items c.requires o before (sink_state g.K.Sink.written g.K.Sink.faults c.args.out.now) run
    (sink_state g.K.Sink.written g.K.Sink.faults c.tell_end.new.out) c.tell_end.result (none o) (c.tell_end.ensures o before run)

pub returns-in-Err : goal.returns-in-Err
returns-in-Err g c = λ o before run.
    no_memory_told c.args.replayed.end c.args.replayed.log.items c.requires o before (sink_state g.K.Sink.written g.K.Sink.faults c.args.out.now) run
