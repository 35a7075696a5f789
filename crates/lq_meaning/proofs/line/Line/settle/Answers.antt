use Rattle.std.proofs.Common.{◌∙◌}
use Rattle.lq_meaning.proofs.LineMoves.{came-stands, came-moves}
use Rattle.lq_meaning.proofs.line.Line.settle.Goals as goal

pub returns-then-branch-clause-task : goal.returns-then-branch-clause-task
returns-then-branch-clause-task c turns branch passed below =
    came-stands c.args.p.now c.step.new.self c.in_ok-step.field-0 turns branch passed _ c.if-branch.true (c.in_ok-step.ensures.same turns branch passed (c.loop.invariant.below turns below))
    ∙ c.loop.invariant.same turns branch passed below

pub returns-then-branch-clause-below : goal.returns-then-branch-clause-below
returns-then-branch-clause-below c turns below = c.in_ok-step.ensures.below turns (c.loop.invariant.below turns below)

pub loop-preserved : goal.loop-preserved
loop-preserved c = record {
  same = λ turns branch passed below.
      came-moves c.args.p.now c.step.new.self c.in_ok-step.field-0 turns branch passed _ c.if-branch.false (c.in_ok-step.ensures.same turns branch passed (c.loop.invariant.below turns below))
      ∙ c.loop.invariant.same turns branch passed below;
  below = λ turns below. c.in_ok-step.ensures.below turns (c.loop.invariant.below turns below);
}
