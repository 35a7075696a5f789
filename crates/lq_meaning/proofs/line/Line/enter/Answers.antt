use Rattle.std.proofs.Common.{◌≡◌, ◌∙◌, ◌++◌, ◌∷◌, [], ap, sym}
use Rattle.lq_meaning.specs.declared.line.Frame.{Frame}
use Rattle.lq_meaning.specs.PlainMeaning.{bound}
use Rattle.lq_meaning.proofs.LineResumes.{entered, entered_below, entered_nowhere}
use Rattle.lq_meaning.proofs.line.Line.enter.Goals as goal

pub returns-in_default-clause-same : goal.returns-in_default-clause-same
returns-in_default-clause-same c =
    entered_nowhere c.args.p.now c.args.self.now c.args.function c.args.words c.args.to c.args.word c.stand.result c.stand.new.self
    (λ none. c.if-more-eq0.false (c.more.ensures ∙ none)) (sym c.in_default.ensures.value) c.stand.ensures.value c.stand.ensures.after

pub returns-clause-same : goal.returns-clause-same
returns-clause-same c =
    let callers : c.push.new.self ≡ c.args.self.now.callers ++ record { frame = c.args.self.now.frame; to = c.args.to } ∷ [] =
    c.in_ok-push.ensures.ok ∙ ap (λ (frame : Frame). c.args.self.now.callers ++ record { frame = frame; to = c.args.to } ∷ []) c.replace-frame.ensures.value in
    let slots : c.in_ok-filled.field-0 ≡ bound c.in-Some.callee.now c.args.words = rw c.len.ensures at c.in_ok-filled.ensures in
    rw (c.replace-frame.ensures.after, c.new.ensures)
    (entered c.args.p.now c.args.self.now c.args.function c.args.words c.args.to c.args.word c.in-Some.callee.now c.as_slice.result c.in_ok-filled.field-0 c.push.new.self
    (λ none. c.if-more-eq0.false (c.more.ensures ∙ none)) (sym c.in-Some.ensures.value) c.as_slice.ensures slots callers)

pub returns-clause-below : goal.returns-clause-below
returns-clause-below c =
    let callers : c.push.new.self ≡ c.args.self.now.callers ++ record { frame = c.args.self.now.frame; to = c.args.to } ∷ [] =
    c.in_ok-push.ensures.ok ∙ ap (λ (frame : Frame). c.args.self.now.callers ++ record { frame = frame; to = c.args.to } ∷ []) c.replace-frame.ensures.value in
    rw (c.replace-frame.ensures.after, c.new.ensures) (entered_below c.args.self.now c.args.to c.as_slice.result c.in_ok-filled.field-0 c.push.new.self callers)
