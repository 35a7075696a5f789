use Rattle.std.proofs.Common.{◌≡◌, ◌∙◌, sym, subst, w64}
use mir.Val.{SFits}
use Rattle.std.proofs.lemmas.Int.{to_z-of_z}
use Rattle.std.proofs.lemmas.Result.{IfOk-weaker, on_ok_weaker}
use Rattle.lq_meaning.specs.declared.line.Stop.TheVariants.{Call}
use Rattle.lq_meaning.specs.Line.{FewAtStop}
use Rattle.lq_meaning.proofs.LineResumes.{resumed-call, below-more, below-stop}
use Rattle.lq_meaning.proofs.line.Line.resume_call.Goals as goal

pub returns-in-Call-clause-same : goal.returns-in-Call-clause-same
returns-in-Call-clause-same c =
    let is : c.args.self.now.stop ≡ Call c.in-Call.at c.in-Call.function c.in-Call.words c.in-Call.to = sym c.replace.ensures.value ∙ c.in-Call.is in
    let fits : SFits w64 c.args.word = c.ranges.word in
    IfOk-weaker c.enter.result _ _
    (λ stands same at function words to turns branch passed call. (rw (to_z-of_z w64 c.args.word fits) at (same turns branch passed)) ∙ resumed-call c.args.p.now c.args.self.now c.in-Call.at c.in-Call.function c.in-Call.words c.in-Call.to c.args.word is turns branch passed)
    c.enter.ensures.same

pub returns-in-Call-clause-below : goal.returns-in-Call-clause-below
returns-in-Call-clause-below c =
    on_ok_weaker c.enter.result
    (λ below turns few. below-more turns _ (below turns (below-stop turns c.args.self.now c.replace.new.dest (subst (FewAtStop turns) (sym c.replace.ensures.after) tt) few)))
    c.enter.ensures.below

pub returns-in_default : goal.returns-in_default
returns-in_default c = record {
  same = λ at function words to turns branch passed call. absurd (c.in_default.not-Call at function words to (c.replace.ensures.value ∙ call));
  below = λ turns below.
      rw c.stand.ensures.after (below-more turns _ (below-stop turns c.args.self.now c.replace.result (subst (FewAtStop turns) (sym c.replace.ensures.value) below.stop) below));
}
