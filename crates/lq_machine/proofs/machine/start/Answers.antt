-- How a program begins, by its `main` and the input.
use Rattle.std.proofs.Common.{◌≡◌, ℕ, ℤ, List, [], length, sym, ap, ◌∙◌, subst, to_z, of_z, w64, arith, rules, Some}
use Rattle.std.proofs.lemmas.Int.{to_z-of_z, ints}
use Rattle.std.specs.Prelude.{IfOk}
use Rattle.lq_tree.specs.declared.trap.TrapKind.TheVariants.{Words}
use Rattle.lq_tree.specs.declared.plain.PProgram.{PProgram}
use Rattle.lq_meaning.specs.declared.heap.Heap.{Heap}
use Rattle.lq_meaning.specs.Control.{trapped}
use Rattle.lq_meaning.specs.Entry.{start, start_on, arguments}
use Rattle.lq_meaning.specs.Heap.{heap_world}
use Rattle.lq_meaning.specs.Task.{Task, Ended}
use Rattle.lq_meaning.specs.Behaviour.{context, main_task, begins}
use Rattle.lq_meaning.specs.Line.{IsBelow, task_of}
use Rattle.lq_machine.specs.declared.machine.Machine.{Machine}
use Rattle.lq_machine.specs.Machine.{Begins}
use Rattle.lq_machine.proofs.Growth.{if_ok}
use Rattle.lq_machine.proofs.Starting.{starts_by, pair_is, bounded_none, bounded_alone, bounded_refused, bounded_input}
use Rattle.lq_machine.proofs.machine.start.Goals as goal

pub returns-in_default : goal.returns-in_default
returns-in_default c =
    if_ok c.machine_of.result _ _
    (λ (m : Machine) (begins_at : IsBelow 1 c.new.result → Begins c.args.p.now m c.new-in_default.result (λ (turns : ℕ). task_of c.args.p.now turns [] 0 c.new.result)).
    starts_by c.args.p.now c.args.words c.args.input.now m c.new-in_default.result (λ turns. task_of c.args.p.now turns [] 0 c.new.result) (start c.args.words) (begins_at (c.new.ensures.below 1 (omega arith))) c.new-in_default.ensures
    (λ turns. bounded_none c.args.p.now c.args.words c.args.input.now turns (sym c.in_default.ensures.value) ∙ ap (λ (task : Task). begins task (start c.args.words)) (sym (c.new.ensures.task c.args.p.now turns [] 0))))
    c.machine_of.ensures

pub returns-then-main-eq0 : goal.returns-then-main-eq0
returns-then-main-eq0 c =
    if_ok c.begin.result _ _
    (λ (m : Machine) (begins_at : Begins c.args.p.now m c.new-then-main-eq0.result (λ (turns : ℕ). main_task (context c.args.p.now turns) (Some c.in-Some.main.now) [])).
    starts_by c.args.p.now c.args.words c.args.input.now m c.new-then-main-eq0.result (λ turns. main_task (context c.args.p.now turns) (Some c.in-Some.main.now) []) (start c.args.words) begins_at c.new-then-main-eq0.ensures
    (λ turns. bounded_alone c.args.p.now c.args.words c.args.input.now turns c.in-Some.main.now (sym c.in-Some.ensures.value) c.if-main-eq0.true))
    c.begin.ensures

pub returns-then-input-words : goal.returns-then-input-words
returns-then-input-words c =
    if_ok c.refused.result _ _
    (λ (m : Machine) (begins_at : (p : PProgram) → (heap : Heap) × (heap_world heap 0 [] ≡ start c.args.words) × Begins p m heap (λ (turns : ℕ). Ended (trapped Words c.in-Some.main.now.at))).
    let is = begins_at c.args.p.now in
    starts_by c.args.p.now c.args.words c.args.input.now m is.0 (λ turns. Ended (trapped Words c.in-Some.main.now.at)) (start c.args.words) is.2 is.1
    (λ turns. bounded_refused c.args.p.now c.args.words c.args.input.now turns c.in-Some.main.now (sym c.in-Some.ensures.value) c.if-main-eq0.false c.if-input-words.true))
    c.refused.ensures

pub returns : goal.returns
returns c =
    let two = pair_is (to_z w64 (of_z w64 c.input_pointer.result)) (to_z w64 (length c.args.input.now)) c.args.input.now (to_z-of_z w64 c.input_pointer.result (search rules) ∙ c.input_pointer.ensures) (omega (arith, ints)) in
    if_ok c.begin-2.result _ _
    (λ (m : Machine) (begins_at : Begins c.args.p.now m c.in_ok-heap.heap (λ (turns : ℕ). main_task (context c.args.p.now turns) (Some c.in-Some.main.now) (arguments c.args.input.now))).
    starts_by c.args.p.now c.args.words c.args.input.now m c.in_ok-heap.heap (λ turns. main_task (context c.args.p.now turns) (Some c.in-Some.main.now) (arguments c.args.input.now)) (start_on c.args.words c.args.input.now) begins_at c.in_ok-heap.ensures
    (λ turns. bounded_input c.args.p.now c.args.words c.args.input.now turns c.in-Some.main.now (sym c.in-Some.ensures.value) c.if-main-eq0.false c.if-input-words.false))
    (subst (λ (words : List ℤ). IfOk c.begin-2.result (λ (m : Machine). Begins c.args.p.now m c.in_ok-heap.heap (λ (turns : ℕ). main_task (context c.args.p.now turns) (Some c.in-Some.main.now) words))) two c.begin-2.ensures)
