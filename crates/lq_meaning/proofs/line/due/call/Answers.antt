use Rattle.std.proofs.Common.{◌≡◌, ◌++◌, ◌∷◌, [], rules, w64}
use mir.Val.{SFits}
use Rattle.std.proofs.lemmas.Int.{to_z-of_z}
use Rattle.lq_meaning.proofs.LineCalls.{calls, argument_more, arguments_all}
use Rattle.lq_meaning.proofs.line.due.call.Goals as goal

pub returns : goal.returns
returns c p =
    calls p c.args.at c.args.to c.args.function c.args.args.now c.loop-e.words c.args.slots.now
    (arguments_all c.args.at c.args.slots.now c.args.args.now c.loop-e.e-index c.loop-e.words c.loop-e-test.false (λ next passed. c.loop-e.invariant c.args.at next passed))

pub loop-e-preserved : goal.loop-e-preserved
loop-e-preserved c at next passed =
    let fits : SFits w64 c.in-Ok.word = search rules in
    let pushed : c.push.new.self ≡ c.loop-e.words ++ c.in-Ok.word ∷ [] = simp to_z-of_z at c.in_ok-push-in-Ok.ensures.ok in
    rw pushed
    (argument_more at c.args.slots.now c.args.args.now c.loop-e.e-index c.e-item.result c.loop-e.words c.in-Ok.word c.loop-e-test.true c.e-item.is c.in-Ok.ensures.ok
    (λ next passed. c.loop-e.invariant at next passed) next passed)
