use Rattle.std.proofs.Common.{◌≡◌, ◌∙◌, sym, rules}
use Rattle.std.proofs.lemmas.Bool.{eqb-true}
use Rattle.std.proofs.lemmas.List.{nil_from_length}
use Rattle.lq_meaning.specs.Control.{by_truth}
use Rattle.lq_meaning.specs.Operators.{Computes, Fails}
use Rattle.lq_meaning.specs.PlainMeaning.{value}
use Rattle.lq_meaning.proofs.LineMoves.{chose, chose_nothing, stood_for}
use Rattle.lq_meaning.proofs.LineTraps.{fails-if}
use Rattle.lq_meaning.proofs.line.Line.choose.Goals as goal

pub returns-then-is_empty : goal.returns-then-is_empty
returns-then-is_empty c p =
    let computes : value c.args.self.now.frame.slots c.args.e.now ≡ Computes c.in-Ok.word = rw c.as_slice.ensures at c.in-Ok.ensures.ok in
    let row : c.by_truth-row.result.now ≡ by_truth c.in-Ok.word c.args.body.now c.args.other.now = search rules in
    let none = nil_from_length c.by_truth-row.result.now (eqb-true _ _ (sym c.is_empty.ensures ∙ c.if-is_empty.true)) in
    chose_nothing p c.args.self.now c.args.at c.args.e.now c.args.body.now c.args.other.now c.in-Ok.word computes (sym row ∙ none)

pub returns-in_ok-set_aside-in-Ok : goal.returns-in_ok-set_aside-in-Ok
returns-in_ok-set_aside-in-Ok c p =
    let computes : value c.args.self.now.frame.slots c.args.e.now ≡ Computes c.in-Ok.word = rw c.as_slice.ensures at c.in-Ok.ensures.ok in
    chose p c.args.self.now c.set_aside.new.self c.by_truth-row.result c.args.at c.args.e.now c.args.body.now c.args.other.now c.in-Ok.word c.in_ok-set_aside-in-Ok.ensures computes (search rules)

pub returns-in-Err : goal.returns-in-Err
returns-in-Err c p =
    let fails : value c.args.self.now.frame.slots c.args.e.now ≡ Fails c.in-Err.kind = rw c.as_slice.ensures at c.in-Err.ensures.err in
    stood_for p c.args.self.now _ c.args.at _ _ _ _ c.stand.ensures.value c.stand.ensures.after (fails-if p c.args.at c.args.e.now c.args.body.now c.args.other.now c.args.self.now.frame.slots c.in-Err.kind fails)
