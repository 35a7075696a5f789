use Rattle.std.proofs.Common.{◌≡◌, arith, Some, rules, w64}
use mir.Val.{SFits}
use Rattle.std.proofs.lemmas.Int.{to_z-of_z}
use Rattle.lq_meaning.specs.Operators.{Computes, Fails}
use Rattle.lq_meaning.specs.PlainMeaning.{value}
use Rattle.lq_meaning.specs.Moves.{Moved, ending}
use Rattle.lq_meaning.specs.Weight.{weight_of}
use Rattle.lq_meaning.proofs.LineMoves.{moved_as, returned_past, stood_for}
use Rattle.lq_meaning.proofs.LineTraps.{fails-return}
use Rattle.lq_meaning.proofs.line.Line.give.Goals as goal

pub returns-in_default : goal.returns-in_default
returns-in_default c p = rw c.in_default.is (moved_as p c.args.self.now _ _ _ _ _ _ (λ turns branch passed. returned_past p c.args.self.now _ turns branch passed) (omega arith) (c.leave.ensures p))

pub returns-in-Ok : goal.returns-in-Ok
returns-in-Ok c p =
    let computes : value c.args.self.now.frame.slots c.in-Some.e.now ≡ Computes c.in-Ok.word = rw c.as_slice.ensures at c.in-Ok.ensures.ok in
    let fits : SFits w64 c.in-Ok.word = search rules in
    let left : Moved p c.args.self.now (ending p c.args.self.now (Some c.in-Ok.word)) (weight_of c.args.self.now) c.leave-in-Ok.result c.leave-in-Ok.new.self = rw (to_z-of_z w64 c.in-Ok.word fits) at (c.leave-in-Ok.ensures p) in
    rw c.in-Some.is (moved_as p c.args.self.now (ending p c.args.self.now (Some c.in-Ok.word)) _ (weight_of c.args.self.now) _ _ _
    (λ turns branch passed. rw computes (returned_past p c.args.self.now c.in-Ok.word turns branch passed)) (omega arith) left)

pub returns-in-Err : goal.returns-in-Err
returns-in-Err c p =
    let fails : value c.args.self.now.frame.slots c.in-Some.e.now ≡ Fails c.in-Err.kind = rw c.as_slice.ensures at c.in-Err.ensures.err in
    rw c.in-Some.is (stood_for p c.args.self.now _ c.args.at _ _ _ _ c.stand.ensures.value c.stand.ensures.after (fails-return p c.args.at c.in-Some.e.now c.args.self.now.frame.slots c.in-Err.kind fails))
