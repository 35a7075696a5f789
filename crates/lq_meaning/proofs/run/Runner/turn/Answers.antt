use Rattle.std.proofs.Common.{ℕ, List, Option, subst}
use Rattle.std.proofs.lemmas.Result.{err_from_is_err_and, IfOk-weaker, IfErr-weaker}
use Rattle.lq_meaning.specs.declared.lines.Turn.{Turn}
use Rattle.lq_meaning.specs.declared.lines.Turn.TheVariants.{Leave}
use Rattle.lq_meaning.specs.declared.run.Halt.{Halt}
use Rattle.lq_meaning.specs.Ending.{Outcome}
use Rattle.lq_meaning.specs.Runner.{IsUnderWay, Halts}
use Rattle.lq_meaning.proofs.RunSteps.{broken_off}
use Rattle.lq_meaning.proofs.run.Runner.turn.Goals as goal

pub returns-in-Leave-clause-goes_on : goal.returns-in-Leave-clause-goes_on
returns-in-Leave-clause-goes_on g c =
    IfOk-weaker c.leave.result
    (λ (turn : Turn). (fuel : ℕ) (start now : Option (List ℕ)) (o : Outcome) → IsUnderWay c.args.p.now fuel start now c.args.self.now (Leave c.in-Leave.trap) o → IsUnderWay c.args.p.now fuel start now c.leave.new.self turn o)
    (λ (turn : Turn). (start : Option (List ℕ)) (o : Outcome) → IsUnderWay c.args.p.now c.args.fuel start (g.K.Sink.written c.args.out.now) c.args.self.now c.args.turn o → IsUnderWay c.args.p.now c.args.fuel start (g.K.Sink.written c.args.out.now) c.leave.new.self turn o)
    (λ turn goes start o under. goes c.args.fuel start (g.K.Sink.written c.args.out.now) o (subst (λ (turn : Turn). IsUnderWay c.args.p.now c.args.fuel start (g.K.Sink.written c.args.out.now) c.args.self.now turn o) c.in-Leave.is under))
    c.leave.ensures.goes_on

pub returns-in-Leave-clause-halts : goal.returns-in-Leave-clause-halts
returns-in-Leave-clause-halts g c =
    IfErr-weaker c.leave.result
    (λ (halt : Halt). (fuel : ℕ) (start now : Option (List ℕ)) (o : Outcome) → IsUnderWay c.args.p.now fuel start now c.args.self.now (Leave c.in-Leave.trap) o → Halts halt c.leave.new.self start now o)
    (λ (halt : Halt). (start : Option (List ℕ)) (o : Outcome) → IsUnderWay c.args.p.now c.args.fuel start (g.K.Sink.written c.args.out.now) c.args.self.now c.args.turn o → Halts halt c.leave.new.self start (g.K.Sink.written c.args.out.now) o)
    (λ halt halts start o under. halts c.args.fuel start (g.K.Sink.written c.args.out.now) o (subst (λ (turn : Turn). IsUnderWay c.args.p.now c.args.fuel start (g.K.Sink.written c.args.out.now) c.args.self.now turn o) c.in-Leave.is under))
    c.leave.ensures.halts

pub returns-in_err-enter-in-Fork-clause-halts : goal.returns-in_err-enter-in-Fork-clause-halts
returns-in_err-enter-in-Fork-clause-halts g c =
    let p = err_from_is_err_and c.from_residual.result c.from_residual.ensures.1 in
    rw (p.1, p.2) (λ begun o under. broken_off c.args.p.now c.args.fuel begun (g.K.Sink.written c.args.out.now) c.args.self.now c.args.turn o under)
