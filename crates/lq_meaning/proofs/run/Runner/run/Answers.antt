use Rattle.lq_meaning.proofs.RunSteps.{broken_off}
use Rattle.lq_meaning.proofs.run.Runner.run.Goals as goal

pub returns-clause-halts : goal.returns-clause-halts
returns-clause-halts g c begun o under =
    broken_off c.args.p.now c.args.fuel begun (g.K.Sink.written c.loop.out) c.loop.self c.loop.turn o (c.loop.invariant.under_way begun o under)
