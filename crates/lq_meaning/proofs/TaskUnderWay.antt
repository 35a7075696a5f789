-- The task of a plain program is under way: each of its forks is at work, and no leaf has strayed.
use Rattle.std.proofs.Common.{◌≡◌, ℕ, suc, ℤ, Bool, true, false, List, Option, None, Some, refl}
use Rattle.std.specs.Prelude.{slice_get}
use Rattle.std.proofs.lemmas.Bool.{cond_both}
use Rattle.lq_tree.specs.declared.trap.TrapKind.TheVariants.{Words}
use Rattle.lq_tree.specs.declared.plain.PFunc.{PFunc}
use Rattle.lq_tree.specs.declared.plain.PProgram.{PProgram}
use Rattle.lq_meaning.specs.Ending.{Trap, Ending, Done, Trapped, Strayed, Spent, Unruled}
use Rattle.lq_meaning.specs.Control.{trapped, Flow, GoesOn, Returns}
use Rattle.lq_meaning.specs.Task.{Task, Ended, Due, Fork, Tasks, none, more, all_ended, first_trap, behind_all, forked}
use Rattle.lq_meaning.specs.TaskControl.{ends}
use Rattle.lq_meaning.specs.Behaviour as tree
use Rattle.lq_meaning.proofs.Kept.{enter_kept}
use Rattle.lq_meaning.proofs.TaskKept.{IsStop, IsTaskKept, main_kept}

abbrev pub is_stray : Ending → Bool
is_stray (Strayed at) = true
is_stray ending = false

-- a child of each fork has not ended, and no leaf has strayed
abbrev mutual
  pub IsUnderWay : Task → Type 0
  IsUnderWay (Ended ending) = is_stray ending ≡ false
  IsUnderWay (Due at action next) = (word : ℤ) → IsUnderWay (next word)
  IsUnderWay (Fork children behind) = (all_ended children ≡ false) × AreUnderWay children × IsUnderWay behind

  pub AreUnderWay : Tasks → Type 0
  AreUnderWay none = Unit {0}
  AreUnderWay (more task tasks) = IsUnderWay task × AreUnderWay tasks

stop_under_way : (ending : Ending) → IsStop ending → is_stray ending ≡ false
stop_under_way Done is = absurd is
stop_under_way (Trapped trap) is = refl
stop_under_way (Strayed at) is = absurd is
stop_under_way Spent is = refl
stop_under_way Unruled is = refl

pub behind_all_under_way : (trap : Option Trap) (behind : Task) → IsUnderWay behind → IsUnderWay (behind_all trap behind)
behind_all_under_way None behind is = is
behind_all_under_way (Some trap) behind is = refl

pub forked_under_way : (children : Tasks) (behind : Task) → AreUnderWay children → IsUnderWay behind → IsUnderWay (forked children behind)
forked_under_way children behind are is =
    cond_both (all_ended children) _ _ (λ (task : Task). IsUnderWay task) (λ _. behind_all_under_way (first_trap children) behind is) (λ works. (works, are, is))

ends_under_way : {L : Type 0} (flow : Flow L) (passed : ℕ) → IsUnderWay (ends flow passed)
ends_under_way (GoesOn locals) passed = refl
ends_under_way (Returns word) passed = refl

-- each way of putting parts together keeps this
going : (fuel turns : ℕ) → IsTaskKept fuel turns
    (λ path X run own. (next : X → ℕ → Task) → ((x : X) (passed : ℕ) → IsUnderWay (next x passed)) → (passed : ℕ) → IsUnderWay (own next passed))
    (λ path passed number runs tasks. AreUnderWay tasks)
going fuel turns = record {
  gives = λ x next goes passed. goes x passed;
  stops = λ ending is next goes passed. stop_under_way ending is;
  due = λ at action next goes passed word. goes word passed;
  goes = λ {path} {X} {Y} {first} {first'} {next} {next'} firsts nexts last goes passed. firsts (λ x. next' x last) (λ x between. nexts x last goes between) passed;
  forks = λ {path} {L} {runs} {children} locals are next goes passed. forked_under_way (children passed) (next (GoesOn locals) (suc passed)) (are passed) (goes (GoesOn locals) (suc passed));
  nothing = tt;
  beside = λ {path} {passed} {number} {L} {run} {own} {others} {tasks} is are. (is ends ends_under_way 0, are);
  same = λ equal is. is;
}

module _ (turns : ℕ) (p : PProgram) where
  enter_main_under_way : (f : Option PFunc) (words : ℕ) (input : List ℤ) → IsUnderWay (tree.enter_main (tree.context p turns) f words input).task
  enter_main_under_way None words input = refl
  enter_main_under_way (Some f) words input =
      let refused = tree.begins (Ended (trapped Words f.at)) in
      let entered = λ (arguments : List ℤ). tree.begins (tree.main_task (tree.context p turns) (Some f) arguments) in
      enter_kept (λ (b : tree.Beginning) (o : tree.Beginning). IsUnderWay b.task) {refused = refused} {refused' = refused} {entered = entered} {entered' = entered}
      f.params words input (λ w opens. refl) (λ arguments w opens. main_kept (going 0 turns) p (Some f) arguments (λ word passed. Ended Done) (λ word passed. refl) 0)

  pub bounded_under_way : (words : ℕ) (input : List ℤ) → IsUnderWay (tree.bounded turns words p input).task
  bounded_under_way words input = enter_main_under_way (slice_get p.funcs p.main) words input

  -- nothing is counted before the first action
  enter_main_opens : (f : Option PFunc) (words : ℕ) (input : List ℤ) → (tree.enter_main (tree.context p turns) f words input).world.cost ≡ 0
  enter_main_opens None words input = refl
  enter_main_opens (Some f) words input =
      let refused = tree.begins (Ended (trapped Words f.at)) in
      let entered = λ (arguments : List ℤ). tree.begins (tree.main_task (tree.context p turns) (Some f) arguments) in
      enter_kept (λ (b : tree.Beginning) (o : tree.Beginning). b.world.cost ≡ 0) {refused = refused} {refused' = refused} {entered = entered} {entered' = entered}
      f.params words input (λ w opens. opens) (λ arguments w opens. opens)

  pub bounded_opens : (words : ℕ) (input : List ℤ) → (tree.bounded turns words p input).world.cost ≡ 0
  bounded_opens words input = enter_main_opens (slice_get p.funcs p.main) words input
