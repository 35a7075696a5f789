use Rattle.lq_cli.specs.Seen.{sink_state}
use Rattle.lq_cli.proofs.EndsTold.{done_told, trap_told, stray_told, fuel_told, sink_told, memory_told}
use Rattle.lq_cli.proofs.end.tell_end.Goals as goal

pub returns-in-Done : goal.returns-in-Done
returns-in-Done g c = λ o before run. done_told o before (sink_state g.K.Sink.written g.K.Sink.faults c.args.out.now) c.args.end c.in-Done.memory c.in-Done.cost c.in-Done.is run

pub returns-in-Trap : goal.returns-in-Trap
returns-in-Trap g c = λ o before run.
    trap_told o before (sink_state g.K.Sink.written g.K.Sink.faults c.args.out.now) c.args.end c.in-Trap.kind c.in-Trap.at c.in-Trap.memory c.in-Trap.cost (sink_state g.K.Sink.written g.K.Sink.faults c.tell.new.out) c.tell.result c.in-Trap.is run c.tell.ensures

pub returns-in-Stray : goal.returns-in-Stray
returns-in-Stray g c = λ o before run.
    stray_told o before (sink_state g.K.Sink.written g.K.Sink.faults c.args.out.now) c.args.end c.in-Stray.at (sink_state g.K.Sink.written g.K.Sink.faults c.tell-in-Stray.new.out) c.tell-in-Stray.result c.in-Stray.is run c.tell-in-Stray.ensures

pub returns-in-Fuel : goal.returns-in-Fuel
returns-in-Fuel g c = λ o before run.
    fuel_told o before (sink_state g.K.Sink.written g.K.Sink.faults c.args.out.now) c.args.end (sink_state g.K.Sink.written g.K.Sink.faults c.tell-in-Fuel.new.out) c.tell-in-Fuel.result c.in-Fuel.is run c.tell-in-Fuel.ensures

pub returns-in-SinkFault : goal.returns-in-SinkFault
returns-in-SinkFault g c = λ o before run. sink_told o before (sink_state g.K.Sink.written g.K.Sink.faults c.args.out.now) c.args.end c.in-SinkFault.is run

pub returns : goal.returns
returns g c = λ o before run. memory_told o before (sink_state g.K.Sink.written g.K.Sink.faults c.args.out.now) c.args.end c.in-NoMemory.is run
