use Rattle.std.proofs.Common.{suc, ◌∙◌, w64}
use mir.Val.{SFits}
use Rattle.std.proofs.lemmas.Int.{to_z-of_z}
use Rattle.std.proofs.lemmas.Result.{on_ok_weaker}
use Rattle.lq_meaning.proofs.LineMoves.{came-stands, came-moves}
use Rattle.lq_meaning.proofs.line.Line.answer.Goals as goal

pub returns-then-branch-clause-task : goal.returns-then-branch-clause-task
returns-then-branch-clause-task c action at turns branch passed due below =
    let fits : SFits w64 c.args.word = c.ranges.word in
    came-stands c.args.p.now c.resume.new.self c.in_ok-resume.field-0 (suc turns) branch passed _ c.if-branch.true
    (rw (to_z-of_z w64 c.args.word fits) at (c.in_ok-resume.ensures.same action at (suc turns) branch passed due))

pub returns-clause-task : goal.returns-clause-task
returns-clause-task c =
    let fits : SFits w64 c.args.word = c.ranges.word in
    on_ok_weaker c.settle.result
    (λ task action at turns branch passed due below.
    task (suc turns) branch passed (c.in_ok-resume.ensures.below turns below)
    ∙ came-moves c.args.p.now c.resume.new.self c.in_ok-resume.field-0 (suc turns) branch passed _ c.if-branch.false
    (rw (to_z-of_z w64 c.args.word fits) at (c.in_ok-resume.ensures.same action at (suc turns) branch passed due)))
    c.settle.ensures.task

pub returns-clause-below : goal.returns-clause-below
returns-clause-below c = on_ok_weaker c.settle.result (λ below turns few. below (suc turns) (c.in_ok-resume.ensures.below turns few)) c.settle.ensures.below
