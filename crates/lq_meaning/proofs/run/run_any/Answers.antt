use Rattle.std.proofs.Common.{◌≡◌, Option, sym, ap, ◌∙◌, subst, arith}
use Rattle.std.specs.Prelude.{IfSome, IfNone, IsSomeAnd}
use Rattle.lq_shelf.specs.Sink.{Appends}
use Rattle.lq_shelf.proofs.Pieces.{Appends-nil}
use Rattle.lq_meaning.specs.declared.end.End.{End}
use Rattle.lq_meaning.specs.Ending.{Unruled, Outcome}
use Rattle.lq_meaning.specs.PlainMeaning.{sequential}
use Rattle.lq_meaning.specs.End.{Tells, IsOfRun, IsSinkFault}
use Rattle.lq_meaning.specs.Runner.{Halts}
use Rattle.lq_meaning.specs.Printed.{number_lines}
use Rattle.lq_meaning.proofs.RunBegins.{ready_halts, ready_free, refused_is, missing_is, end_tells, end_all, end_prefix, end_none, end_failed}
use Rattle.lq_meaning.proofs.run.run_any.Given.{Over}
use Rattle.lq_meaning.proofs.run.run_any.Goals.{After-end}
use Rattle.lq_meaning.proofs.run.run_any.Goals as goal

pub run-halt-requires : goal.run-halt-requires
run-halt-requires g c =
    let free = ready_free c.args.p.now c.args.fuel c.args.words c.args.input.now (c.tasks_in_order.ensures.whole c.args.fuel c.args.words c.args.p.now c.args.input.now) c.in-Ok-Ready.field-0 c.in-Ok-Ready.runner c.in-Ok-Ready.field-0-is (c.in-Ok-Ready.ensures c.args.fuel) in
    omega (arith, free)

-- what the run told when it halted
told : (g : Over) (c : After-end g) → Halts c.run-halt.result c.run-halt.new.self (g.K.Sink.written c.args.out.now) (g.K.Sink.written c.run-halt.new.out) (sequential c.args.fuel c.args.words c.args.p.now c.args.input.now)
told g c =
    let begun = g.K.Sink.written c.args.out.now in
    ready_halts c.args.p.now c.args.fuel c.args.words c.args.input.now (c.tasks_in_order.ensures.whole c.args.fuel c.args.words c.args.p.now c.args.input.now) c.in-Ok-Ready.field-0 c.in-Ok-Ready.runner c.in-Ok-Ready.field-0-is (c.in-Ok-Ready.ensures c.args.fuel) c.run-halt.result c.run-halt.new.self begun (g.K.Sink.written c.run-halt.new.out) (c.run-halt.ensures.halts begun)

pub returns-in-Ok-Ready-clause-tells : goal.returns-in-Ok-Ready-clause-tells
returns-in-Ok-Ready-clause-tells g c =
    let o = sequential c.args.fuel c.args.words c.args.p.now c.args.input.now in
    subst (λ (end : Option End). IfSome end (λ e. Tells e o)) (sym c.end.ensures) (end_tells c.run-halt.result c.run-halt.new.self (g.K.Sink.written c.args.out.now) (g.K.Sink.written c.run-halt.new.out) o (told g c))

pub returns-in-Ok-Ready-clause-all : goal.returns-in-Ok-Ready-clause-all
returns-in-Ok-Ready-clause-all g c =
    let o = sequential c.args.fuel c.args.words c.args.p.now c.args.input.now in
    subst (λ (end : Option End). IfSome end (λ e. IsOfRun e → Appends (g.K.Sink.written c.args.out.now) (g.K.Sink.written c.run-halt.new.out) (number_lines o.world.printed))) (sym c.end.ensures)
    (end_all c.run-halt.result c.run-halt.new.self (g.K.Sink.written c.args.out.now) (g.K.Sink.written c.run-halt.new.out) o (told g c))

pub returns-in-Ok-Ready-clause-prefix : goal.returns-in-Ok-Ready-clause-prefix
returns-in-Ok-Ready-clause-prefix g c =
    end_prefix c.run-halt.result c.run-halt.new.self (g.K.Sink.written c.args.out.now) (g.K.Sink.written c.run-halt.new.out) (sequential c.args.fuel c.args.words c.args.p.now c.args.input.now) (told g c)

pub returns-in-Ok-Ready-clause-none : goal.returns-in-Ok-Ready-clause-none
returns-in-Ok-Ready-clause-none g c =
    let o = sequential c.args.fuel c.args.words c.args.p.now c.args.input.now in
    subst (λ (end : Option End). IfNone end (o.ending ≡ Unruled)) (sym c.end.ensures) (end_none c.run-halt.result c.run-halt.new.self (g.K.Sink.written c.args.out.now) (g.K.Sink.written c.run-halt.new.out) o (told g c))

pub returns-in-Ok-Ready-clause-failed : goal.returns-in-Ok-Ready-clause-failed
returns-in-Ok-Ready-clause-failed g c fault =
    c.run-halt.ensures.failed (end_failed c.run-halt.result c.run-halt.new.self (subst (λ (end : Option End). IsSomeAnd end IsSinkFault) c.end.ensures fault))

pub returns-in-Ok-Refused-clause-tells : goal.returns-in-Ok-Refused-clause-tells
returns-in-Ok-Refused-clause-tells g c =
    let is = refused_is c.args.p.now c.args.fuel c.args.words c.args.input.now (c.tasks_in_order.ensures.whole c.args.fuel c.args.words c.args.p.now c.args.input.now) c.in-Ok-Refused.field-0 c.in-Ok-Refused.at c.in-Ok-Refused.field-0-is (c.in-Ok-Refused.ensures c.args.fuel) in
    record {
      ending = ap (λ (o : Outcome). o.ending) is;
      memory = ap (λ (o : Outcome). o.world.memory) is ∙ sym c.new.ensures;
      cost = ap (λ (o : Outcome). o.world.cost) is;
    }

pub returns-in-Ok-Refused-clause-all : goal.returns-in-Ok-Refused-clause-all
returns-in-Ok-Refused-clause-all g c _ =
    let is = refused_is c.args.p.now c.args.fuel c.args.words c.args.input.now (c.tasks_in_order.ensures.whole c.args.fuel c.args.words c.args.p.now c.args.input.now) c.in-Ok-Refused.field-0 c.in-Ok-Refused.at c.in-Ok-Refused.field-0-is (c.in-Ok-Refused.ensures c.args.fuel) in
    subst (λ (o : Outcome). Appends (g.K.Sink.written c.args.out.now) (g.K.Sink.written c.args.out.now) (number_lines o.world.printed)) (sym is) (Appends-nil (g.K.Sink.written c.args.out.now))

pub returns-in-Ok-Missing-clause-none : goal.returns-in-Ok-Missing-clause-none
returns-in-Ok-Missing-clause-none g c =
    ap (λ (o : Outcome). o.ending)
    (missing_is c.args.p.now c.args.fuel c.args.words c.args.input.now (c.tasks_in_order.ensures.whole c.args.fuel c.args.words c.args.p.now c.args.input.now) c.in-Ok-Missing.field-0 c.in-Ok-Missing.field-0-is (c.in-Ok-Missing.ensures c.args.fuel))
