use Rattle.std.proofs.Common.{◌<◌, ◌∙◌, ℕ, ap, sym, subst}
use Rattle.std.proofs.lemmas.Result.{on_ok_weaker}
use Rattle.lq_meaning.specs.declared.line.Line.{Line}
use Rattle.lq_meaning.specs.Line.{FewAtStop, IsBelow, context_from}
use Rattle.lq_meaning.proofs.LineBegins.{begins-block, first_block_at, no_block_at}
use Rattle.lq_meaning.proofs.LineResumes.{below-fresh}
use Rattle.lq_meaning.proofs.line.Line.begin_block.Goals as goal
use Rattle.lq_meaning.proofs.line.Line.begin_block.Goals.{After-settle}

-- a line that began has made no turns
began_below : (c : After-settle) → (turns : ℕ) → 0 < turns → IsBelow turns c.restart.new.self
began_below c turns some =
    below-fresh turns c.restart.new.self (ap (λ (line : Line). line.callers) c.restart.ensures) (ap (λ (line : Line). line.frame.parts) c.restart.ensures)
    (subst (λ (line : Line). FewAtStop turns line.stop) (sym c.restart.ensures) tt) some

pub returns-in_default-clause-task : goal.returns-in_default-clause-task
returns-in_default-clause-task c turns branch passed some =
    c.nowhere.ensures.task c.args.p.now turns _ 0
    ∙ sym (no_block_at (context_from c.args.p.now turns branch c.args.most) passed 0 c.args.number c.args.blocks.now c.args.slots.now (sym c.in_default.ensures))

pub returns-clause-task : goal.returns-clause-task
returns-clause-task c =
    on_ok_weaker c.settle.result
    (λ task turns branch passed some.
    task turns _ 0 (began_below c turns some)
    ∙ rw (c.restart.ensures, ← c.in_ok-slots.ensures)
    (begins-block c.args.p.now c.in-Some.block.now c.args.self.now c.args.most c.as_slice.result c.in_ok-slots.slots c.as_slice.ensures turns branch passed c.args.number
    ∙ sym (first_block_at (context_from c.args.p.now turns branch c.args.most) passed c.args.number c.args.blocks.now c.in_ok-slots.slots c.in-Some.block.now (sym c.in-Some.ensures))))
    c.settle.ensures.task

pub returns-clause-below : goal.returns-clause-below
returns-clause-below c = on_ok_weaker c.settle.result (λ below turns some. below turns (began_below c turns some)) c.settle.ensures.below
