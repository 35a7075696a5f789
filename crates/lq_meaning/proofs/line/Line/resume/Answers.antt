use Rattle.std.proofs.Common.{◌≡◌, ◌∙◌, ap, w64}
use mir.Val.{SFits}
use Rattle.std.proofs.lemmas.Int.{to_z-of_z}
use Rattle.std.proofs.lemmas.Result.{IfOk-weaker}
use Rattle.lq_meaning.specs.declared.line.Stop.TheVariants.{Test}
use Rattle.lq_meaning.specs.PlainMeaning.{into}
use Rattle.lq_meaning.proofs.LineResumes.{resumed-word, resumed-turn, resumed-end, not_resumed, below-more}
use Rattle.lq_meaning.proofs.line.Line.resume.Goals as goal

pub returns-in-Call-clause-same : goal.returns-in-Call-clause-same
returns-in-Call-clause-same c =
    let fits : SFits w64 c.args.word = c.ranges.word in
    IfOk-weaker c.resume_call.result _ _
    (λ stands same action at turns branch passed due. rw (to_z-of_z w64 c.args.word fits) at (same c.in-Call.at c.in-Call.function c.in-Call.words c.in-Call.to turns branch passed c.in-Call.is))
    c.resume_call.ensures.same

pub returns-in_default : goal.returns-in_default
returns-in_default c = record {
  same = λ action at turns branch passed due. absurd (not_resumed c.args.self.now action at c.in_default.not-Word c.in_default.not-Call c.in_default.not-Test due);
  below = λ turns below. below-more turns _ below;
}

pub returns-in-Word-clause-same : goal.returns-in-Word-clause-same
returns-in-Word-clause-same c action at turns branch passed due =
    let fits : SFits w64 c.args.word = c.ranges.word in
    let put : c.put.new.slots ≡ into c.in-Word.to c.args.self.now.frame.slots c.args.word = simp to_z-of_z at c.put.ensures in
    resumed-word c.args.p.now c.args.self.now c.in-Word.action c.in-Word.at c.in-Word.to c.args.word c.put.new.slots c.in-Word.is put turns branch passed

pub returns-then-not-holds-clause-same : goal.returns-then-not-holds-clause-same
returns-then-not-holds-clause-same c action at turns branch passed due =
    resumed-end c.args.p.now c.args.self.now c.in-Test.repeat c.in-Test.made c.args.word (c.in-Test.is ∙ ap (Test c.in-Test.repeat c.in-Test.made) c.if-not-holds.true) turns branch passed

pub returns-in_ok-repeat-in-Test-clause-same : goal.returns-in_ok-repeat-in-Test-clause-same
returns-in_ok-repeat-in-Test-clause-same c action at turns branch passed due =
    resumed-turn c.args.p.now c.args.self.now c.in-Test.repeat c.in-Test.made c.args.word c.repeat.new.self (c.in-Test.is ∙ ap (Test c.in-Test.repeat c.in-Test.made) c.if-not-holds.false) c.in_ok-repeat-in-Test.ensures turns branch passed
