-- The replay begins, goes on by a step, and ends.
use Rattle.std.proofs.Common.{◌≡◌, ℕ, ℤ, suc, List, refl, sym, ap, ◌∙◌, subst, arith, Global}
use Rattle.std.specs.Prelude.{Vec}
use Rattle.lq_tree.specs.declared.plain.PProgram.{PProgram}
use Rattle.lq_log.specs.declared.entry.Entry.{Entry}
use Rattle.lq_meaning.specs.declared.end.End.TheVariants.{Fuel, Stray}
use Rattle.lq_meaning.specs.Ending.{Spent, Strayed}
use Rattle.lq_meaning.specs.End.{Tells}
use Rattle.lq_meaning.specs.Task.{Task}
use Rattle.lq_meaning.specs.Behaviour.{beginning}
use Rattle.lq_machine.specs.declared.replays.Replayed.{Replayed}
use Rattle.lq_machine.specs.Machine.{Stands, Makes, Tries, machine_world}
use Rattle.lq_machine.specs.Step.{ending_of}
use Rattle.lq_machine.proofs.Growth.{if_ok}
use Rattle.lq_machine.proofs.Replaying.{After, replay_begins, replay_after, replay_ends, replay_spent, replay_broken, done_tells, done_log, done_all, done_prefix, on_ok}
use Rattle.lq_machine.proofs.replays.replay.Goals as goal

pub loop-machine-init : goal.loop-machine-init
loop-machine-init g c = (replay_begins c.args.p.now c.args.fuel c.args.words c.args.input.now c.args.picks.now c.in_ok-machine.machine (g.K.Sink.written c.args.out.now) c.in_ok-machine.ensures, refl)

pub returns-then-machine-fuel-clause-tells : goal.returns-then-machine-fuel-clause-tells
returns-then-machine-fuel-clause-tells g c = rw (c.stop.ensures.end) (done_tells c.args.fuel c.args.picks.now (beginning c.args.fuel c.args.words c.args.p.now c.args.input.now) (g.K.Sink.written c.args.out.now) (g.K.Sink.written c.loop-machine.out) Spent c.loop-machine.machine (replay_spent c.args.p.now c.args.fuel c.args.picks.now (beginning c.args.fuel c.args.words c.args.p.now c.args.input.now) (g.K.Sink.written c.args.out.now) (g.K.Sink.written c.loop-machine.out) c.loop-machine.machine c.loop-machine.invariant.0 (omega (arith, c.loop-machine-test.true, c.runnable.ensures.value)) c.if-machine-fuel.true) Fuel (λ printed. refl))

pub returns-then-machine-fuel-clause-log : goal.returns-then-machine-fuel-clause-log
returns-then-machine-fuel-clause-log g c = ap (λ (l : Vec Entry Global). l.items) c.stop.ensures.log ∙ done_log c.args.fuel c.args.picks.now (beginning c.args.fuel c.args.words c.args.p.now c.args.input.now) (g.K.Sink.written c.args.out.now) (g.K.Sink.written c.loop-machine.out) Spent c.loop-machine.machine (replay_spent c.args.p.now c.args.fuel c.args.picks.now (beginning c.args.fuel c.args.words c.args.p.now c.args.input.now) (g.K.Sink.written c.args.out.now) (g.K.Sink.written c.loop-machine.out) c.loop-machine.machine c.loop-machine.invariant.0 (omega (arith, c.loop-machine-test.true, c.runnable.ensures.value)) c.if-machine-fuel.true)

pub returns-then-machine-fuel-clause-all : goal.returns-then-machine-fuel-clause-all
returns-then-machine-fuel-clause-all g c = done_all c.args.fuel c.args.picks.now (beginning c.args.fuel c.args.words c.args.p.now c.args.input.now) (g.K.Sink.written c.args.out.now) (g.K.Sink.written c.loop-machine.out) Spent c.loop-machine.machine (replay_spent c.args.p.now c.args.fuel c.args.picks.now (beginning c.args.fuel c.args.words c.args.p.now c.args.input.now) (g.K.Sink.written c.args.out.now) (g.K.Sink.written c.loop-machine.out) c.loop-machine.machine c.loop-machine.invariant.0 (omega (arith, c.loop-machine-test.true, c.runnable.ensures.value)) c.if-machine-fuel.true)

pub returns-then-machine-fuel-clause-prefix : goal.returns-then-machine-fuel-clause-prefix
returns-then-machine-fuel-clause-prefix g c = done_prefix c.args.fuel c.args.picks.now (beginning c.args.fuel c.args.words c.args.p.now c.args.input.now) (g.K.Sink.written c.args.out.now) (g.K.Sink.written c.loop-machine.out) Spent c.loop-machine.machine (replay_spent c.args.p.now c.args.fuel c.args.picks.now (beginning c.args.fuel c.args.words c.args.p.now c.args.input.now) (g.K.Sink.written c.args.out.now) (g.K.Sink.written c.loop-machine.out) c.loop-machine.machine c.loop-machine.invariant.0 (omega (arith, c.loop-machine-test.true, c.runnable.ensures.value)) c.if-machine-fuel.true)

pub returns-then-machine-fuel-clause-other : goal.returns-then-machine-fuel-clause-other
returns-then-machine-fuel-clause-other g c unlike = c.loop-machine.invariant.1

pub returns-in_err-step-clause-prefix : goal.returns-in_err-step-clause-prefix
returns-in_err-step-clause-prefix g c =
    replay_broken c.args.p.now c.args.fuel c.args.picks.now (beginning c.args.fuel c.args.words c.args.p.now c.args.input.now) (g.K.Sink.written c.args.out.now) (g.K.Sink.written c.loop-machine.out) c.loop-machine.machine c.loop-machine.invariant.0 (g.K.Sink.written c.step.new.out) (omega (arith, c.loop-machine-test.true, c.runnable.ensures.value)) c.if-machine-fuel.false
    (subst (Tries (g.K.Sink.written c.loop-machine.out) (g.K.Sink.written c.step.new.out) c.args.p.now c.loop-machine.machine) c.pick_at-pick.ensures c.in_err-step.ensures.tries)

pub returns-in-Some-clause-tells : goal.returns-in-Some-clause-tells
returns-in-Some-clause-tells g c = rw (c.stop-in-Some.ensures.end) (done_tells c.args.fuel c.args.picks.now (beginning c.args.fuel c.args.words c.args.p.now c.args.input.now) (g.K.Sink.written c.args.out.now) (g.K.Sink.written c.step.new.out) (Strayed c.in-Some.at) c.step.new.self (subst (After c.args.p.now c.args.fuel c.args.picks.now (beginning c.args.fuel c.args.words c.args.p.now c.args.input.now) (g.K.Sink.written c.args.out.now) (g.K.Sink.written c.loop-machine.out) c.loop-machine.machine c.loop-machine.invariant.0 (g.K.Sink.written c.step.new.out) c.step.new.self) (sym c.stray.ensures ∙ c.in-Some.is)
    (replay_after c.args.p.now c.args.fuel c.args.picks.now (beginning c.args.fuel c.args.words c.args.p.now c.args.input.now) (g.K.Sink.written c.args.out.now) (g.K.Sink.written c.loop-machine.out) c.loop-machine.machine c.loop-machine.invariant.0 c.step.new.self (g.K.Sink.written c.step.new.out) (omega (arith, c.loop-machine-test.true, c.runnable.ensures.value)) c.if-machine-fuel.false
    (subst (Makes (g.K.Sink.written c.loop-machine.out) (g.K.Sink.written c.step.new.out) c.args.p.now c.loop-machine.machine c.step.new.self) c.pick_at-pick.ensures c.in_ok-step.ensures.makes))) (Stray c.in-Some.at) (λ printed. refl))

pub returns-in-Some-clause-log : goal.returns-in-Some-clause-log
returns-in-Some-clause-log g c = ap (λ (l : Vec Entry Global). l.items) c.stop-in-Some.ensures.log ∙ done_log c.args.fuel c.args.picks.now (beginning c.args.fuel c.args.words c.args.p.now c.args.input.now) (g.K.Sink.written c.args.out.now) (g.K.Sink.written c.step.new.out) (Strayed c.in-Some.at) c.step.new.self (subst (After c.args.p.now c.args.fuel c.args.picks.now (beginning c.args.fuel c.args.words c.args.p.now c.args.input.now) (g.K.Sink.written c.args.out.now) (g.K.Sink.written c.loop-machine.out) c.loop-machine.machine c.loop-machine.invariant.0 (g.K.Sink.written c.step.new.out) c.step.new.self) (sym c.stray.ensures ∙ c.in-Some.is)
    (replay_after c.args.p.now c.args.fuel c.args.picks.now (beginning c.args.fuel c.args.words c.args.p.now c.args.input.now) (g.K.Sink.written c.args.out.now) (g.K.Sink.written c.loop-machine.out) c.loop-machine.machine c.loop-machine.invariant.0 c.step.new.self (g.K.Sink.written c.step.new.out) (omega (arith, c.loop-machine-test.true, c.runnable.ensures.value)) c.if-machine-fuel.false
    (subst (Makes (g.K.Sink.written c.loop-machine.out) (g.K.Sink.written c.step.new.out) c.args.p.now c.loop-machine.machine c.step.new.self) c.pick_at-pick.ensures c.in_ok-step.ensures.makes)))

pub returns-in-Some-clause-all : goal.returns-in-Some-clause-all
returns-in-Some-clause-all g c = done_all c.args.fuel c.args.picks.now (beginning c.args.fuel c.args.words c.args.p.now c.args.input.now) (g.K.Sink.written c.args.out.now) (g.K.Sink.written c.step.new.out) (Strayed c.in-Some.at) c.step.new.self (subst (After c.args.p.now c.args.fuel c.args.picks.now (beginning c.args.fuel c.args.words c.args.p.now c.args.input.now) (g.K.Sink.written c.args.out.now) (g.K.Sink.written c.loop-machine.out) c.loop-machine.machine c.loop-machine.invariant.0 (g.K.Sink.written c.step.new.out) c.step.new.self) (sym c.stray.ensures ∙ c.in-Some.is)
    (replay_after c.args.p.now c.args.fuel c.args.picks.now (beginning c.args.fuel c.args.words c.args.p.now c.args.input.now) (g.K.Sink.written c.args.out.now) (g.K.Sink.written c.loop-machine.out) c.loop-machine.machine c.loop-machine.invariant.0 c.step.new.self (g.K.Sink.written c.step.new.out) (omega (arith, c.loop-machine-test.true, c.runnable.ensures.value)) c.if-machine-fuel.false
    (subst (Makes (g.K.Sink.written c.loop-machine.out) (g.K.Sink.written c.step.new.out) c.args.p.now c.loop-machine.machine c.step.new.self) c.pick_at-pick.ensures c.in_ok-step.ensures.makes)))

pub returns-in-Some-clause-prefix : goal.returns-in-Some-clause-prefix
returns-in-Some-clause-prefix g c = done_prefix c.args.fuel c.args.picks.now (beginning c.args.fuel c.args.words c.args.p.now c.args.input.now) (g.K.Sink.written c.args.out.now) (g.K.Sink.written c.step.new.out) (Strayed c.in-Some.at) c.step.new.self (subst (After c.args.p.now c.args.fuel c.args.picks.now (beginning c.args.fuel c.args.words c.args.p.now c.args.input.now) (g.K.Sink.written c.args.out.now) (g.K.Sink.written c.loop-machine.out) c.loop-machine.machine c.loop-machine.invariant.0 (g.K.Sink.written c.step.new.out) c.step.new.self) (sym c.stray.ensures ∙ c.in-Some.is)
    (replay_after c.args.p.now c.args.fuel c.args.picks.now (beginning c.args.fuel c.args.words c.args.p.now c.args.input.now) (g.K.Sink.written c.args.out.now) (g.K.Sink.written c.loop-machine.out) c.loop-machine.machine c.loop-machine.invariant.0 c.step.new.self (g.K.Sink.written c.step.new.out) (omega (arith, c.loop-machine-test.true, c.runnable.ensures.value)) c.if-machine-fuel.false
    (subst (Makes (g.K.Sink.written c.loop-machine.out) (g.K.Sink.written c.step.new.out) c.args.p.now c.loop-machine.machine c.step.new.self) c.pick_at-pick.ensures c.in_ok-step.ensures.makes)))

pub returns-in-Some-clause-other : goal.returns-in-Some-clause-other
returns-in-Some-clause-other g c unlike = c.in_ok-step.ensures.other (λ is. absurd cc) ∙ c.loop-machine.invariant.1

pub loop-machine-preserved : goal.loop-machine-preserved
loop-machine-preserved g c = (
  subst (After c.args.p.now c.args.fuel c.args.picks.now (beginning c.args.fuel c.args.words c.args.p.now c.args.input.now) (g.K.Sink.written c.args.out.now) (g.K.Sink.written c.loop-machine.out) c.loop-machine.machine c.loop-machine.invariant.0 (g.K.Sink.written c.step.new.out) c.step.new.self) (sym c.stray.ensures ∙ c.in_default.is)
      (replay_after c.args.p.now c.args.fuel c.args.picks.now (beginning c.args.fuel c.args.words c.args.p.now c.args.input.now) (g.K.Sink.written c.args.out.now) (g.K.Sink.written c.loop-machine.out) c.loop-machine.machine c.loop-machine.invariant.0 c.step.new.self (g.K.Sink.written c.step.new.out) (omega (arith, c.loop-machine-test.true, c.runnable.ensures.value)) c.if-machine-fuel.false
      (subst (Makes (g.K.Sink.written c.loop-machine.out) (g.K.Sink.written c.step.new.out) c.args.p.now c.loop-machine.machine c.step.new.self) c.pick_at-pick.ensures c.in_ok-step.ensures.makes)),
  c.in_ok-step.ensures.other (λ is. absurd cc) ∙ c.loop-machine.invariant.1,
)

pub returns-clause-tells : goal.returns-clause-tells
returns-clause-tells g c =
    if_ok c.finish.result _ _
    (λ (r : Replayed) (tells : (p : PProgram) (turns : ℕ) (task : Task) (printed : List ℤ) → Stands p turns c.loop-machine.machine task → Tells r.end (record { ending = ending_of task; world = machine_world c.loop-machine.machine printed })).
    done_tells c.args.fuel c.args.picks.now (beginning c.args.fuel c.args.words c.args.p.now c.args.input.now) (g.K.Sink.written c.args.out.now) (g.K.Sink.written c.loop-machine.out) (ending_of c.loop-machine.invariant.0.task) c.loop-machine.machine (replay_ends c.args.p.now c.args.fuel c.args.picks.now (beginning c.args.fuel c.args.words c.args.p.now c.args.input.now) (g.K.Sink.written c.args.out.now) (g.K.Sink.written c.loop-machine.out) c.loop-machine.machine c.loop-machine.invariant.0 (omega (arith, c.loop-machine-test.false, c.runnable.ensures.value))) r.end
    (λ printed. tells c.args.p.now (suc c.args.fuel) c.loop-machine.invariant.0.task printed c.loop-machine.invariant.0.stands))
    c.finish.ensures.tells

pub returns-clause-log : goal.returns-clause-log
returns-clause-log g c =
    if_ok c.finish.result _ _
    (λ (r : Replayed) (log : r.log ≡ c.loop-machine.machine.log). ap (λ (l : Vec Entry Global). l.items) log ∙ done_log c.args.fuel c.args.picks.now (beginning c.args.fuel c.args.words c.args.p.now c.args.input.now) (g.K.Sink.written c.args.out.now) (g.K.Sink.written c.loop-machine.out) (ending_of c.loop-machine.invariant.0.task) c.loop-machine.machine (replay_ends c.args.p.now c.args.fuel c.args.picks.now (beginning c.args.fuel c.args.words c.args.p.now c.args.input.now) (g.K.Sink.written c.args.out.now) (g.K.Sink.written c.loop-machine.out) c.loop-machine.machine c.loop-machine.invariant.0 (omega (arith, c.loop-machine-test.false, c.runnable.ensures.value))))
    c.finish.ensures.log

pub returns-clause-all : goal.returns-clause-all
returns-clause-all g c = on_ok c.finish.result _ (done_all c.args.fuel c.args.picks.now (beginning c.args.fuel c.args.words c.args.p.now c.args.input.now) (g.K.Sink.written c.args.out.now) (g.K.Sink.written c.loop-machine.out) (ending_of c.loop-machine.invariant.0.task) c.loop-machine.machine (replay_ends c.args.p.now c.args.fuel c.args.picks.now (beginning c.args.fuel c.args.words c.args.p.now c.args.input.now) (g.K.Sink.written c.args.out.now) (g.K.Sink.written c.loop-machine.out) c.loop-machine.machine c.loop-machine.invariant.0 (omega (arith, c.loop-machine-test.false, c.runnable.ensures.value))))

pub returns-clause-prefix : goal.returns-clause-prefix
returns-clause-prefix g c = done_prefix c.args.fuel c.args.picks.now (beginning c.args.fuel c.args.words c.args.p.now c.args.input.now) (g.K.Sink.written c.args.out.now) (g.K.Sink.written c.loop-machine.out) (ending_of c.loop-machine.invariant.0.task) c.loop-machine.machine (replay_ends c.args.p.now c.args.fuel c.args.picks.now (beginning c.args.fuel c.args.words c.args.p.now c.args.input.now) (g.K.Sink.written c.args.out.now) (g.K.Sink.written c.loop-machine.out) c.loop-machine.machine c.loop-machine.invariant.0 (omega (arith, c.loop-machine-test.false, c.runnable.ensures.value)))

pub returns-clause-other : goal.returns-clause-other
returns-clause-other g c unlike = c.loop-machine.invariant.1
