use Rattle.std.proofs.Common.{suc, ap, ◌∙◌, w64, rules, arith}
use Rattle.std.proofs.lemmas.Int.{to_z-of_z}
use Rattle.std.proofs.lemmas.Result.{err_from_is_err_and}
use Rattle.lq_meaning.specs.declared.lines.Turn.TheVariants.{Run}
use Rattle.lq_meaning.specs.Line.{answered}
use Rattle.lq_meaning.proofs.RunSteps.{put_halts, broken_off, spent_turn, acted_broken_off, answered_turn, trapped_turn, strayed_turn}
use Rattle.lq_meaning.proofs.run.Runner.act.Goals as goal

pub returns-then-self-fuel-clause-halts : goal.returns-then-self-fuel-clause-halts
returns-then-self-fuel-clause-halts g c begun o under =
    spent_turn c.args.p.now c.args.fuel begun (g.K.Sink.written c.args.out.now) c.args.self.now o c.args.action c.args.at c.requires.due under c.if-self-fuel.true

pub returns-in_err-acted-clause-halts : goal.returns-in_err-acted-clause-halts
returns-in_err-acted-clause-halts g c =
    let p = err_from_is_err_and c.from_residual.result c.from_residual.ensures.1 in
    rw (p.1, p.2) (λ begun o under. broken_off c.args.p.now c.args.fuel begun (g.K.Sink.written c.args.out.now) c.args.self.now Run o under)

pub returns-in_err-put_action-clause-halts : goal.returns-in_err-put_action-clause-halts
returns-in_err-put_action-clause-halts g c =
    let p = err_from_is_err_and c.from_residual-in_err-put_action.result c.from_residual-in_err-put_action.ensures.1 in
    rw (p.1, p.2) (λ begun o under. put_halts c.in_err-put_action.field-0.0 _ begun (g.K.Sink.written c.put_action.new.out) o
    (acted_broken_off c.args.p.now c.args.fuel begun (g.K.Sink.written c.args.out.now) c.args.self.now o c.args.action c.args.at c.requires.due under (g.K.Sink.written c.put_action.new.out) c.act.new.self c.in_ok-acted.acted (omega arith) c.in_ok-acted.ensures c.in_err-put_action.ensures.prefix))

pub returns-in_err-answer-in-Answer-clause-halts : goal.returns-in_err-answer-in-Answer-clause-halts
returns-in_err-answer-in-Answer-clause-halts g c =
    let p = err_from_is_err_and c.from_residual-in_err-answer-in-Answer.result c.from_residual-in_err-answer-in-Answer.ensures.1 in
    rw (p.1, p.2) (λ begun o under. acted_broken_off c.args.p.now c.args.fuel begun (g.K.Sink.written c.args.out.now) c.args.self.now o c.args.action c.args.at c.requires.due under (g.K.Sink.written c.put_action.new.out) c.act.new.self c.in_ok-acted.acted (omega arith) c.in_ok-acted.ensures c.in_ok-put_action.ensures.prefix)

pub returns-in_ok-answer-in-Answer-clause-goes_on : goal.returns-in_ok-answer-in-Answer-clause-goes_on
returns-in_ok-answer-in-Answer-clause-goes_on g c begun o under =
    answered_turn c.args.p.now c.args.fuel begun (g.K.Sink.written c.args.out.now) c.args.self.now o c.args.action c.args.at c.requires.due under (g.K.Sink.written c.put_action.new.out) c.act.new.self c.in_ok-acted.acted (omega arith) c.in_ok-acted.ensures
    c.answer.new.self c.in-Answer.word c.in-Answer.is c.in_ok-put_action.ensures.ok
    (λ action at turns branch passed stands below.
    c.in_ok-answer-in-Answer.ensures.task action at turns branch passed stands below
    ∙ ap (answered c.args.p.now (suc turns) branch passed c.args.self.now.lines.top) (to_z-of_z w64 c.in-Answer.word (search rules)))
    c.in_ok-answer-in-Answer.ensures.below

pub returns-in-Trap-clause-goes_on : goal.returns-in-Trap-clause-goes_on
returns-in-Trap-clause-goes_on g c begun o under =
    trapped_turn c.args.p.now c.args.fuel begun (g.K.Sink.written c.args.out.now) c.args.self.now o c.args.action c.args.at c.requires.due under (g.K.Sink.written c.put_action.new.out) c.act.new.self c.in_ok-acted.acted (omega arith) c.in_ok-acted.ensures
    c.in-Trap.kind c.in-Trap.is c.in_ok-put_action.ensures.ok

pub returns-in-Stray-clause-halts : goal.returns-in-Stray-clause-halts
returns-in-Stray-clause-halts g c begun o under =
    strayed_turn c.args.p.now c.args.fuel begun (g.K.Sink.written c.args.out.now) c.args.self.now o c.args.action c.args.at c.requires.due under (g.K.Sink.written c.put_action.new.out) c.act.new.self c.in_ok-acted.acted (omega arith) c.in_ok-acted.ensures
    c.in-Stray.is c.in_ok-put_action.ensures.ok
