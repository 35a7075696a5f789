-- How a machine begins.
use Rattle.std.proofs.Common.{◌≡◌, ℕ, zero, suc, ℤ, pos, ◌<◌, ◌≤◌, List, [], ◌∷◌, length, Option, None, Some, refl, sym, ap, ◌∙◌, subst, arith}
use Rattle.std.specs.Prelude.{slice_get}
use Rattle.std.proofs.lemmas.Bool.{lt-ltb, le-ltb}
use Rattle.lq_tree.specs.declared.trap.TrapKind.TheVariants.{Words}
use Rattle.lq_tree.specs.declared.plain.PFunc.{PFunc}
use Rattle.lq_tree.specs.declared.plain.PProgram.{PProgram}
use Rattle.lq_meaning.specs.declared.heap.Heap.{Heap}
use Rattle.lq_meaning.specs.declared.line.Line.{Line}
use Rattle.lq_meaning.specs.Control.{trapped}
use Rattle.lq_meaning.specs.Ending.{Unruled}
use Rattle.lq_meaning.specs.Entry.{start, start_on, arguments, input_pointer, enter}
use Rattle.lq_meaning.specs.Heap.{heap_world}
use Rattle.lq_meaning.specs.World.{World}
use Rattle.lq_meaning.specs.Task.{Task, Ended}
use Rattle.lq_meaning.specs.Behaviour.{context, main_task, Beginning, begins, enter_main, bounded}
use Rattle.lq_meaning.specs.Line.{task_of}
use Rattle.lq_machine.specs.declared.machine.Machine.{Machine}
use Rattle.lq_machine.specs.declared.machine.forest.Node.{Node}
use Rattle.lq_machine.specs.Forest.{IsTree, no_branch}
use Rattle.lq_machine.specs.Around.{Settles}
use Rattle.lq_machine.specs.Machine.{Stands, Begins, Starts}

-- a line alone is the whole task
pub stands_alone : (p : PProgram) (m : Machine) (old : List Node) (line : Line) → m.cost ≡ 0 → Settles p 1 old m.forest.nodes.items 0 0 0 line → (turns : ℕ) → 0 < turns → Stands p turns m (task_of p turns [] 0 line)
stands_alone p m old line free settles turns some =
    let one : 1 ≡ suc m.cost = omega (arith, free) in
    (settles.tree, subst (λ (most : ℕ). IsTree m.forest.nodes.items most settles.tree) one (record { fits = settles.has.fits; once = settles.has.once; first = settles.has.here }), settles.tasks turns no_branch (omega (arith, some)))

-- a machine that begins as the program does
pub starts_by : (p : PProgram) (words : ℕ) (input : List ℤ) (m : Machine) (heap : Heap) (task : ℕ → Task) (w : World) → Begins p m heap task → heap_world heap 0 [] ≡ w
    → ((turns : ℕ) → bounded turns words p input ≡ begins (task turns) w) → Starts p words input m
starts_by p words input m heap task w is opens same = record {
  task = λ turns some. subst (λ (b : Beginning). Stands p turns m b.task) (sym (same turns)) (is.begun turns some);
  world = λ turns. ap (λ (h : Heap). heap_world h m.cost []) is.same_heap ∙ ap (λ (k : ℕ). heap_world heap k []) is.no_cost ∙ opens ∙ ap (λ (b : Beginning). b.world) (sym (same turns));
  cost = is.no_cost;
  log = is.no_log;
  stray = is.no_stray;
}

module _ (p : PProgram) (words : ℕ) (input : List ℤ) (turns : ℕ) where
  pub bounded_none : slice_get p.funcs p.main ≡ None → bounded turns words p input ≡ begins (Ended Unruled) (start words)
  bounded_none is = ap (λ (f : Option PFunc). enter_main (context p turns) f words input) is

  module _ (main : PFunc) (is : slice_get p.funcs p.main ≡ Some main) where
    with_main : bounded turns words p input ≡ enter_main (context p turns) (Some main) words input
    with_main = ap (λ (f : Option PFunc). enter_main (context p turns) f words input) is

    by_params : (params : ℕ) → (params ≡ 0 → ⊥) → (b : ℕ → Beginning) → (after : Beginning) → ((n : ℕ) → b (suc n) ≡ after) → b params ≡ after
    by_params zero some b after f = absurd (some refl)
    by_params (suc n) some b after f = f n

    pub bounded_alone : main.params ≡ 0 → bounded turns words p input ≡ begins (main_task (context p turns) (Some main) []) (start words)
    bounded_alone none' = with_main ∙ (rw none' refl)

    pub bounded_refused : (main.params ≡ 0 → ⊥) → words < length input → bounded turns words p input ≡ begins (Ended (trapped Words main.at)) (start words)
    bounded_refused some long =
        with_main ∙ by_params main.params some (λ params. enter (begins (Ended (trapped Words main.at))) (λ arguments. begins (main_task (context p turns) (Some main) arguments)) params words input) _
        (λ n. rw (lt-ltb words (length input) long) refl)

    pub bounded_input : (main.params ≡ 0 → ⊥) → length input ≤ words → bounded turns words p input ≡ begins (main_task (context p turns) (Some main) (arguments input)) (start_on words input)
    bounded_input some fits =
        with_main ∙ by_params main.params some (λ params. enter (begins (Ended (trapped Words main.at))) (λ arguments. begins (main_task (context p turns) (Some main) arguments)) params words input) _
        (λ n. rw (le-ltb words (length input) fits) refl)

-- the arguments of a `main` with parameters
pub pair_is : (first second : ℤ) (input : List ℤ) → first ≡ input_pointer input → second ≡ pos (length input) → first ∷ second ∷ [] ≡ arguments input
pair_is first second input one two = ap (λ (x : ℤ). x ∷ second ∷ []) one ∙ ap (λ (y : ℤ). input_pointer input ∷ y ∷ []) two
