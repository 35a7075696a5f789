-- The leaves of the task of a plain program have the paths of their branches.
use Rattle.std.proofs.Common.{ℕ, suc, ◌≤◌, ℤ, List, [], ◌∷◌, ◌++◌, Option, None, Some, refl, arith}
use Rattle.std.specs.Prelude.{slice_get}
use Rattle.std.proofs.lemmas.Bool.{cond_both}
use Rattle.lq_tree.specs.declared.trap.TrapKind.TheVariants.{Words}
use Rattle.lq_tree.specs.declared.plain.PFunc.{PFunc}
use Rattle.lq_tree.specs.declared.plain.PProgram.{PProgram}
use Rattle.lq_meaning.specs.Ending.{Trap, Done}
use Rattle.lq_meaning.specs.Control.{trapped, Flow, GoesOn, Returns}
use Rattle.lq_meaning.specs.Task.{Task, Ended, Due, Fork, Tasks, all_ended, first_trap, behind_all, forked}
use Rattle.lq_meaning.specs.TaskControl.{Line, ends}
use Rattle.lq_meaning.specs.Behaviour as tree
use Rattle.lq_meaning.specs.Placed.{IsPlacedFrom, ArePlacedFrom}
use Rattle.lq_meaning.proofs.Kept.{enter_kept}
use Rattle.lq_meaning.proofs.TaskKept.{IsTaskKept, main_kept}

-- what has passed so many forks has passed fewer
pub placed_earlier : (task : Task) (path : List ℕ) (earlier passed : ℕ) → earlier ≤ passed → IsPlacedFrom task path passed → IsPlacedFrom task path earlier
placed_earlier (Ended ending) path earlier passed below placed = tt
placed_earlier (Due at action next) path earlier passed below placed = let least : passed ≤ placed.0 = placed.1 in (placed.0, omega arith, placed.2, placed.3)
placed_earlier (Fork children behind) path earlier passed below placed = let least : passed ≤ placed.0 = placed.1 in (placed.0, omega arith, placed.2, placed.3)

-- a line is placed, where what comes next is
abbrev LineIsPlaced : (path : List ℕ) (X : Type 0) → Line X → Type 0
LineIsPlaced path X own =
    (next : X → ℕ → Task) → ((x : X) (passed : ℕ) → IsPlacedFrom (next x passed) path passed) → (passed : ℕ) → IsPlacedFrom (own next passed) path passed

pub behind_all_placed : (path : List ℕ) (passed : ℕ) (trap : Option Trap) (behind : Task) → IsPlacedFrom behind path (suc passed) → IsPlacedFrom (behind_all trap behind) path passed
behind_all_placed path passed None behind placed = placed_earlier behind path passed (suc passed) (omega arith) placed
behind_all_placed path passed (Some trap) behind placed = tt

pub forked_placed : (path : List ℕ) (passed : ℕ) (children : Tasks) (behind : Task) → ArePlacedFrom children path passed 0 → IsPlacedFrom behind path (suc passed)
    → IsPlacedFrom (forked children behind) path passed
forked_placed path passed children behind are placed =
    cond_both (all_ended children) _ _ (λ (task : Task). IsPlacedFrom task path passed)
    (λ _. behind_all_placed path passed (first_trap children) behind placed) (λ _. (passed, omega arith, are, placed))

ends_placed : {L : Type 0} (path : List ℕ) (flow : Flow L) (passed : ℕ) → IsPlacedFrom (ends flow passed) path passed
ends_placed path (GoesOn locals) passed = tt
ends_placed path (Returns word) passed = tt

-- each way of putting parts together keeps this
placing : (fuel turns : ℕ) → IsTaskKept fuel turns (λ path X run own. LineIsPlaced path X own) (λ path passed number runs tasks. ArePlacedFrom tasks path passed number)
placing fuel turns = record {
  gives = λ x next placed passed. placed x passed;
  stops = λ ending differs next placed passed. tt;
  due = λ at action next placed passed. (passed, omega arith, refl, λ word. placed word passed);
  goes = λ {path} {X} {Y} {first} {first'} {next} {next'} firsts goes last placed passed. firsts (λ x. next' x last) (λ x between. goes x last placed between) passed;
  forks = λ {path} {L} {runs} {children} locals are next placed passed.
      forked_placed path passed (children passed) (next (GoesOn locals) (suc passed)) (are passed) (placed (GoesOn locals) (suc passed));
  nothing = tt;
  beside = λ {path} {passed} {number} {L} {run} {own} {others} {tasks} placed are. (placed ends (ends_placed (path ++ passed ∷ number ∷ [])) 0, are);
  same = λ equal placed. placed;
}

module _ (turns : ℕ) (p : PProgram) where
  enter_main_placed : (f : Option PFunc) (words : ℕ) (input : List ℤ) → IsPlacedFrom (tree.enter_main (tree.context p turns) f words input).task [] 0
  enter_main_placed None words input = tt
  enter_main_placed (Some f) words input =
      enter_kept (λ (b : tree.Beginning) (o : tree.Beginning). IsPlacedFrom b.task [] 0) {refused = tree.begins (Ended (trapped Words f.at))} {refused' = tree.begins (Ended (trapped Words f.at))}
      {entered = λ arguments. tree.begins (tree.main_task (tree.context p turns) (Some f) arguments)} {entered' = λ arguments. tree.begins (tree.main_task (tree.context p turns) (Some f) arguments)}
      f.params words input (λ w opens. tt) (λ arguments w opens. main_kept (placing 0 turns) p (Some f) arguments (λ word passed. Ended Done) (λ word passed. tt) 0)

  pub bounded_placed : (words : ℕ) (input : List ℤ) → IsPlacedFrom (tree.bounded turns words p input).task [] 0
  bounded_placed words input = enter_main_placed (slice_get p.funcs p.main) words input
