use Rattle.std.proofs.Common.{◌+◌, sym, subst, ◌∙◌}
use Rattle.lq_fixpoint.specs.Work.{AreTested}
use Rattle.lq_fixpoint.proofs.ThinLemmas.{or_first, or_later}
use Rattle.lq_fixpoint.proofs.RoundLemmas.{tested_none, tested_step}
use Rattle.lq_fixpoint.proofs.solving.serve_all.Goals.{then-dropped, else-dropped}
use Rattle.lq_fixpoint.proofs.solving.serve_all.Goals as goal

pub loop-number-init : goal.loop-number-init
loop-number-init c = tested_none c.args.mults.now c.args.list.now c.args.users.now c.args.work.now c.requires.kept

pub loop-number-preserved : goal.loop-number-preserved
loop-number-preserved c =
    let M = c.args.mults.now in
    let list = c.args.list.now in
    let users = c.args.users.now in
    let number = c.loop-number.number in
    let old = c.args.work.now in
    let new = c.serve.new.work in
    let d = c.loop-number.dropped in
    let e = c.in_ok-some.some in
    let tested = tested_step M list users number d e old c.loop-number.work new c.loop-number.invariant c.in_ok-some.ensures in
    let told = AreTested M list users (number + 1) in
    elim c.if-dropped.branch [
      | then-dropped w ↦ subst (λ b. told b old new) (or_first d e w.if-dropped.true ∙ sym w.dropped-is) tested
      | else-dropped w ↦ subst (λ b. told b old new) (or_later d e w.if-dropped.false ∙ sym w.dropped-is) tested
    ]
