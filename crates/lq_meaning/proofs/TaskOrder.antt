-- The task of a plain program in order is its sequential execution.
use Rattle.std.proofs.Common.{◌≡◌, ◌≢◌, ℕ, suc, ◌<◌, ℤ, true, List, Option, None, Some, refl, sym, ap, ◌∙◌}
use Rattle.std.specs.Prelude.{slice_get}
use Rattle.std.proofs.lemmas.Bool.{cond_both, and_parts}
use Rattle.lq_tree.specs.declared.trap.TrapKind.TheVariants.{Words}
use Rattle.lq_tree.specs.declared.plain.PFunc.{PFunc}
use Rattle.lq_tree.specs.declared.plain.PProgram.{PProgram}
use Rattle.lq_meaning.specs.World.{World}
use Rattle.lq_meaning.specs.Ending.{Trap, Ending, Done, Trapped, Strayed, Spent, Unruled, Outcome}
use Rattle.lq_meaning.specs.Control.{trapped, Came, Gives, Stops, Run, give, stop, go_on, due, Flow, GoesOn, Returns, caught, branch, before, joined, ended}
use Rattle.lq_meaning.specs.PlainMeaning.{in_function, context, sequential, enter_main}
use Rattle.lq_meaning.specs.Task.{Task, Ended, Due, Fork, Tasks, none, more, has_ended, all_ended, trap_of, first_trap, behind_all, forked}
use Rattle.lq_meaning.specs.TaskControl.{Line, ends, leaf}
use Rattle.lq_meaning.specs.Behaviour as tree
use Rattle.lq_meaning.specs.InOrder.{at_end, answers, unless_trapped, in_order, all_in_order, come_to, run_in_order}
use Rattle.lq_meaning.proofs.Kept.{enter_kept}
use Rattle.lq_meaning.proofs.TaskKept.{IsStop, IsTaskKept, main_kept}

-- what comes behind a part of a line: its trap is the leaf's
abbrev come_next : {X : Type 0} → Came X → (X → Run (Option Trap)) → Came (Option Trap)
come_next (Gives x w) next = next x w
come_next (Stops (Trapped trap) w) next = Gives (Some trap) w
come_next (Stops ending w) next = Stops ending w

answers-come_next : (a : Came ℤ) (next : ℤ → Run (Option Trap)) → answers a next ≡ come_next a next
answers-come_next (Gives x w) next = refl
answers-come_next (Stops Done w) next = refl
answers-come_next (Stops (Trapped trap) w) next = refl
answers-come_next (Stops (Strayed at) w) next = refl
answers-come_next (Stops Spent w) next = refl
answers-come_next (Stops Unruled w) next = refl

-- behind two parts
come_next-go_on : {X Y : Type 0} (a : Came X) (next : X → Run Y) (behind : Y → Run (Option Trap)) → come_next a (λ x w. come_next (next x w) behind) ≡ come_next (go_on a next) behind
come_next-go_on (Gives x w) next behind = refl
come_next-go_on (Stops Done w) next behind = refl
come_next-go_on (Stops (Trapped trap) w) next behind = refl
come_next-go_on (Stops (Strayed at) w) next behind = refl
come_next-go_on (Stops Spent w) next behind = refl
come_next-go_on (Stops Unruled w) next behind = refl

-- a part that stops the line, stops it
stop-at_end : {X : Type 0} (ending : Ending) (behind : X → Run (Option Trap)) (w : World) → IsStop ending → at_end ending w ≡ come_next {X = X} (Stops ending w) behind
stop-at_end Done behind w is = absurd is
stop-at_end (Trapped trap) behind w is = refl
stop-at_end (Strayed at) behind w is = absurd is
stop-at_end Spent behind w is = refl
stop-at_end Unruled behind w is = refl

-- a branch ends with its statements
abbrev at_its_end : {L : Type 0} → Flow L → Run (Option Trap)
at_its_end (GoesOn locals) = give None
at_its_end (Returns word) = stop Unruled

ends-in_order : {L : Type 0} (fuel : ℕ) (flow : Flow L) (passed : ℕ) (w : World) → in_order fuel (ends flow passed) w ≡ at_its_end flow w
ends-in_order fuel (GoesOn locals) passed w = refl
ends-in_order fuel (Returns word) passed w = refl

come_next-caught : {L : Type 0} (a : Came (Flow L)) → come_next a at_its_end ≡ caught a
come_next-caught (Gives (GoesOn locals) w) = refl
come_next-caught (Gives (Returns word) w) = refl
come_next-caught (Stops Done w) = refl
come_next-caught (Stops (Trapped trap) w) = refl
come_next-caught (Stops (Strayed at) w) = refl
come_next-caught (Stops Spent w) = refl
come_next-caught (Stops Unruled w) = refl

-- a trap that was caught doesn't stop the run
abbrev IsCaught : Came (Option Trap) → Type 0
IsCaught (Gives trap w) = Unit {0}
IsCaught (Stops ending w) = (trap : Trap) → ending ≢ Trapped trap

caught_is : {L : Type 0} (a : Came (Flow L)) → IsCaught (caught a)
caught_is (Gives (GoesOn locals) w) = tt
caught_is (Gives (Returns word) w) = λ trap e. cc
caught_is (Stops Done w) = λ trap e. cc
caught_is (Stops (Trapped trap) w) = tt
caught_is (Stops (Strayed at) w) = λ trap e. cc
caught_is (Stops Spent w) = λ trap e. cc
caught_is (Stops Unruled w) = λ trap e. cc

go_on_caught : (a : Came (Option Trap)) (next : Option Trap → Run (Option Trap)) → IsCaught a → ((x : Option Trap) (w : World) → IsCaught (next x w)) → IsCaught (go_on a next)
go_on_caught (Gives trap w) next is behind = behind trap w
go_on_caught (Stops ending w) next is behind = is

-- where all have ended, nothing comes of tasks but their first trap
ended-in_order : (fuel : ℕ) (task : Task) (w : World) → has_ended task ≡ true → in_order fuel task w ≡ Gives (trap_of task) w
ended-in_order fuel (Ended Done) w ended = refl
ended-in_order fuel (Ended (Trapped trap)) w ended = refl
ended-in_order fuel (Ended (Strayed at)) w ended = absurd cc
ended-in_order fuel (Ended Spent) w ended = absurd cc
ended-in_order fuel (Ended Unruled) w ended = absurd cc
ended-in_order fuel (Due at action next) w ended = absurd cc
ended-in_order fuel (Fork children behind) w ended = absurd cc

all_ended-in_order : (fuel : ℕ) (tasks : Tasks) (w : World) → all_ended tasks ≡ true → all_in_order fuel tasks w ≡ Gives (first_trap tasks) w
all_ended-in_order fuel none w ended = refl
all_ended-in_order fuel (more task tasks) w ended =
    let parts = and_parts (has_ended task) (all_ended tasks) ended in
    rw (ended-in_order fuel task w parts.0) (rw (all_ended-in_order fuel tasks w parts.1) refl)

behind_all-in_order : (fuel : ℕ) (trap : Option Trap) (behind : Task) (w : World) → in_order fuel (behind_all trap behind) w ≡ unless_trapped (in_order fuel behind) trap w
behind_all-in_order fuel None behind w = refl
behind_all-in_order fuel (Some trap) behind w = refl

-- whether its children have ended or not, a fork comes to the same
pub forked-in_order : (fuel : ℕ) (children : Tasks) (behind : Task) (w : World) → in_order fuel (forked children behind) w ≡ go_on (all_in_order fuel children w) (unless_trapped (in_order fuel behind))
forked-in_order fuel children behind w =
    cond_both (all_ended children) _ _ (λ (task : Task). in_order fuel task w ≡ go_on (all_in_order fuel children w) (unless_trapped (in_order fuel behind)))
    (λ ended. rw (all_ended-in_order fuel children w ended) (behind_all-in_order fuel (first_trap children) behind w)) (λ _. refl)

-- behind a fork the line goes on, or ends by the first trap
joined-come_next : {L : Type 0} (locals : L) (a : Came (Option Trap)) (next : Run (Option Trap)) (behind : Flow L → Run (Option Trap)) → IsCaught a → ((w : World) → next w ≡ behind (GoesOn locals) w)
    → go_on a (unless_trapped next) ≡ come_next (go_on a (joined locals)) behind
joined-come_next locals (Gives None w) next behind is same = same w
joined-come_next locals (Gives (Some trap) w) next behind is same = refl
joined-come_next locals (Stops Done w) next behind is same = refl
joined-come_next locals (Stops (Trapped trap) w) next behind is same = absurd (is trap refl)
joined-come_next locals (Stops (Strayed at) w) next behind is same = refl
joined-come_next locals (Stops Spent w) next behind is same = refl
joined-come_next locals (Stops Unruled w) next behind is same = refl

-- a line in order comes to what the run comes to, and what is behind it
abbrev FollowsRun : (fuel : ℕ) (X : Type 0) → Run X → Line X → Type 0
FollowsRun fuel X run own =
    (next : X → ℕ → Task) (behind : X → Run (Option Trap)) → ((x : X) (passed : ℕ) (w : World) → in_order fuel (next x passed) w ≡ behind x w)
    → (passed : ℕ) (w : World) → in_order fuel (own next passed) w ≡ come_next (run w) behind

-- tasks in order come to what the run comes to, which catches each trap
record FollowRun (fuel : ℕ) (run : Run (Option Trap)) (tasks : Tasks) : Type 0 where
  comes : (w : World) → all_in_order fuel tasks w ≡ run w
  caught : (w : World) → IsCaught (run w)

leaf_follows : {L : Type 0} (fuel : ℕ) (run : Run (Flow L)) (own : Line (Flow L)) → FollowsRun fuel (Flow L) run own → (w : World) → in_order fuel (leaf own) w ≡ branch run w
leaf_follows fuel run own follows w = follows ends at_its_end (ends-in_order fuel) 0 w ∙ come_next-caught (run w)

before_follows : {L : Type 0} (fuel : ℕ) (run : Run (Flow L)) (own : Line (Flow L)) (others : Run (Option Trap)) (tasks : Tasks) → FollowsRun fuel (Flow L) run own → FollowRun fuel others tasks
    → FollowRun fuel (before (branch run) others) (more (leaf own) tasks)
before_follows fuel run own others tasks follows follow = record {
  comes = λ w i. before (λ w. leaf_follows fuel run own follows w i) (λ w. follow.comes w i) w;
  caught = λ w. go_on_caught (branch run w) _ (caught_is (run w)) (λ trap v. go_on_caught (others v) _ (follow.caught v) (λ later u. tt));
}

-- each way of putting parts together keeps this
following : (fuel turns : ℕ) → fuel < turns → IsTaskKept fuel turns (λ path. FollowsRun fuel) (λ path passed number. FollowRun fuel)
following fuel turns below = record {
  gives = λ x next behind same passed w. same x passed w;
  stops = λ {path} {X} ending is next behind same passed w. stop-at_end ending behind w is;
  due = λ at action next behind same passed w. answers-come_next (due fuel at action w) _ ∙ (λ i. come_next (due fuel at action w) (λ word v. same word passed v i));
  goes = λ {path} {X} {Y} {first} {first'} {next} {next'} follows goes last behind same passed w.
      follows (λ x. next' x last) (λ x v. come_next (next x v) behind) (λ x between v. goes x last behind same between v) passed w ∙ come_next-go_on (first w) next behind;
  forks = λ {path} {L} {runs} {children} locals follow next behind same passed w.
      forked-in_order fuel (children passed) (next (GoesOn locals) (suc passed)) w
      ∙ ((λ i. go_on ((follow passed).comes w i) (unless_trapped (in_order fuel (next (GoesOn locals) (suc passed)))))
      ∙ joined-come_next locals (runs w) _ behind ((follow passed).caught w) (λ v. same (GoesOn locals) (suc passed) v));
  nothing = record { comes = λ w. refl; caught = λ w. tt };
  beside = λ {path} {passed} {number} {L} {run} {own} {others} {tasks} follows follow. before_follows fuel run own others tasks follows follow;
  same = λ {path} {X} {run} {other} {own} equal follows next behind same passed w. follows next behind same passed w ∙ ap (λ a. come_next a behind) (sym (equal below w));
}

-- of how the run of `main` ends
ended-come_to : (a : Came ℤ) → come_to (come_next a (λ word. give None)) ≡ ended a
ended-come_to (Gives word w) = refl
ended-come_to (Stops Done w) = refl
ended-come_to (Stops (Trapped trap) w) = refl
ended-come_to (Stops (Strayed at) w) = refl
ended-come_to (Stops Spent w) = refl
ended-come_to (Stops Unruled w) = refl

module _ (fuel turns : ℕ) (below : fuel < turns) (p : PProgram) where
  main_in_order : (f : Option PFunc) (arguments : List ℤ) (w : World)
      → come_to (in_order fuel (tree.main_task (tree.context p turns) f arguments) w) ≡ ended (in_function (context p fuel) f arguments w)
  main_in_order f arguments w =
      ap come_to (main_kept (following fuel turns below) p f arguments (λ word passed. Ended Done) (λ word. give None) (λ word passed v. refl) 0 w)
      ∙ ended-come_to (in_function (context p fuel) f arguments w)

  enter_main_in_order : (f : Option PFunc) (words : ℕ) (input : List ℤ) → run_in_order fuel (tree.enter_main (tree.context p turns) f words input) ≡ enter_main (context p fuel) f words input
  enter_main_in_order None words input = refl
  enter_main_in_order (Some f) words input =
      enter_kept (λ (b : tree.Beginning) (o : Outcome). run_in_order fuel b ≡ o) {refused = tree.begins (Ended (trapped Words f.at))}
      {entered = λ arguments. tree.begins (tree.main_task (tree.context p turns) (Some f) arguments)} f.params words input (λ w opens. refl) (λ arguments w opens. main_in_order (Some f) arguments w)

  -- with loops of more turns than the fuel
  pub bounded_in_order : (words : ℕ) (input : List ℤ) → run_in_order fuel (tree.bounded turns words p input) ≡ sequential fuel words p input
  bounded_in_order words input = enter_main_in_order (slice_get p.funcs p.main) words input
