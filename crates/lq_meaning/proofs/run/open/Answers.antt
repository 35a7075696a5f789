use Rattle.std.proofs.Common.{ℕ, suc, List, ℤ, [], length, to_z, of_z, w64, subst, ◌∙◌, sym, rules, arith}
use Rattle.std.proofs.lemmas.Int.{to_z-of_z, ints}
use Rattle.std.specs.Prelude.{IfOk}
use Rattle.std.proofs.lemmas.Result.{IfOk-weaker}
use Rattle.lq_meaning.specs.declared.run.Opening.{Opening}
use Rattle.lq_meaning.specs.Entry.{start, start_on, arguments}
use Rattle.lq_meaning.specs.Behaviour.{bounded}
use Rattle.lq_meaning.specs.InOrder.{run_in_order}
use Rattle.lq_meaning.specs.Runner.{begins_with, Opens}
use Rattle.lq_meaning.proofs.RunBegins.{pair_is, opens_with, without_input, refused, on_input}
use Rattle.lq_meaning.proofs.run.open.Goals as goal

pub returns-then-main-eq0 : goal.returns-then-main-eq0
returns-then-main-eq0 c =
    let p = c.args.p.now in
    let main = c.in-Some.main.now in
    IfOk-weaker c.begin.result
    (λ (opening : Opening). begins_with p main [] c.new.result opening)
    (λ (opening : Opening). (fuel : ℕ) → Opens p fuel c.args.words (run_in_order fuel (bounded (suc fuel) c.args.words p c.args.input.now)) opening)
    (λ opening is fuel. opens_with p fuel c.args.words main [] c.new.result (start c.args.words) (run_in_order fuel (bounded (suc fuel) c.args.words p c.args.input.now)) c.new.ensures
    (without_input p fuel c.args.words c.args.input.now main (sym c.in-Some.ensures.value) c.if-main-eq0.true) opening is)
    c.begin.ensures

pub returns-then-input-words : goal.returns-then-input-words
returns-then-input-words c fuel =
    refused c.args.p.now fuel c.args.words c.args.input.now c.in-Some.main.now (sym c.in-Some.ensures.value) c.if-main-eq0.false c.if-input-words.true

pub returns : goal.returns
returns c =
    let p = c.args.p.now in
    let main = c.in-Some.main.now in
    IfOk-weaker c.begin-2.result
    (λ (opening : Opening). begins_with p main (arguments c.args.input.now) c.in_ok-heap.heap opening)
    (λ (opening : Opening). (fuel : ℕ) → Opens p fuel c.args.words (run_in_order fuel (bounded (suc fuel) c.args.words p c.args.input.now)) opening)
    (λ opening is fuel. opens_with p fuel c.args.words main (arguments c.args.input.now) c.in_ok-heap.heap (start_on c.args.words c.args.input.now) (run_in_order fuel (bounded (suc fuel) c.args.words p c.args.input.now)) c.in_ok-heap.ensures
    (on_input p fuel c.args.words c.args.input.now main (sym c.in-Some.ensures.value) c.if-main-eq0.false c.if-input-words.false) opening is)
    (subst (λ (words : List ℤ). IfOk c.begin-2.result (λ (opening : Opening). begins_with p main words c.in_ok-heap.heap opening)) (pair_is (to_z w64 (of_z w64 c.input_pointer.result)) (to_z w64 (length c.args.input.now)) c.args.input.now (to_z-of_z w64 c.input_pointer.result (search rules) ∙ c.input_pointer.ensures) (omega (arith, ints))) c.begin-2.ensures)
