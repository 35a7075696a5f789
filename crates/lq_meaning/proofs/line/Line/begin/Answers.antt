use Rattle.std.proofs.Common.{◌≡◌, ◌<◌, ℕ, ◌∙◌, ap, sym, subst}
use Rattle.std.proofs.lemmas.Result.{on_ok_weaker}
use Rattle.lq_meaning.specs.declared.line.Line.{Line}
use Rattle.lq_meaning.specs.Line.{FewAtStop, IsBelow}
use Rattle.lq_meaning.specs.PlainMeaning.{bound}
use Rattle.lq_meaning.proofs.LineBegins.{begins-main}
use Rattle.lq_meaning.proofs.LineResumes.{below-fresh}
use Rattle.lq_meaning.proofs.line.Line.begin.Goals as goal
use Rattle.lq_meaning.proofs.line.Line.begin.Goals.{After-settle}

-- a line that began has made no turns
began_below : (c : After-settle) → (turns : ℕ) → 0 < turns → IsBelow turns c.restart.new.self
began_below c turns some =
    below-fresh turns c.restart.new.self (ap (λ (line : Line). line.callers) c.restart.ensures) (ap (λ (line : Line). line.frame.parts) c.restart.ensures)
    (subst (λ (line : Line). FewAtStop turns line.stop) (sym c.restart.ensures) tt) some

pub returns-clause-task : goal.returns-clause-task
returns-clause-task c =
    let slots : c.in_ok-slots.slots ≡ bound c.args.main.now c.args.words.now = rw (c.len.ensures, c.in_ok-words.ensures) at c.in_ok-slots.ensures in
    on_ok_weaker c.settle.result
    (λ task turns branch passed some.
    task turns branch passed (began_below c turns some)
    ∙ rw c.restart.ensures (begins-main c.args.p.now c.args.main.now c.args.words.now c.args.self.now c.as_slice.result c.in_ok-slots.slots c.as_slice.ensures slots turns branch passed))
    c.settle.ensures.task

pub returns-clause-below : goal.returns-clause-below
returns-clause-below c = on_ok_weaker c.settle.result (λ below turns some. below turns (began_below c turns some)) c.settle.ensures.below
