-- A step of a leaf is a step of the whole task around it.
use Rattle.std.proofs.Common.{◌≡◌, ℕ, ◌+◌, ◌-◌, ◌<◌, ◌≤◌, Bool, true, false, List, [], ◌∷◌, refl, sym, ap, ◌∙◌, arith, ⊎_elim, add_assoc, zero-add, ◌⊎◌, inl, inr}
use Rattle.std.specs.Prelude.{◌&&◌}
use Rattle.std.proofs.lemmas.Bool.{cases_lt, lt-ltb, le-ltb}
use Rattle.lq_tree.specs.declared.plain.PProgram.{PProgram}
use Rattle.lq_meaning.specs.World.{World}
use Rattle.lq_meaning.specs.Task.{Task, Ended, Due, Fork, Tasks, none, more, has_ended, all_ended, forked}
use Rattle.lq_meaning.specs.Line.{behind_of}
use Rattle.lq_machine.specs.Step.{runnable, all_runnable, moved, step, step_in}
use Rattle.lq_machine.specs.declared.machine.forest.Node.{Node}
use Rattle.lq_machine.specs.Forest.{Tree, join, tasks_of, no_branch, counts_of}
use Rattle.lq_machine.specs.Around.{Crumb, under, left_of, right_of, crumb_node, fill, plug, branches_under, branches_in, left_by, left_of_hole, FitsCrumb, FitsAround, fill_tasks, around}
use Rattle.lq_machine.proofs.TaskLists.{runnable-join, moved-moved, moved-same}
use Rattle.lq_machine.proofs.Trees.{told, forked_open}

-- a step at the first task, or behind it
pub first_steps : (task : Task) (tasks : Tasks) (n : ℕ) (w : World) → n < runnable task → step_in (more task tasks) n w ≡ moved (λ task. more task tasks) (step task n w)
first_steps task tasks n w first = rw (lt-ltb n (runnable task) first)

later_steps : (task : Task) (tasks : Tasks) (n : ℕ) (w : World) → runnable task ≤ n → step_in (more task tasks) n w ≡ moved (more task) (step_in tasks (n - runnable task) w)
later_steps task tasks n w later = rw (le-ltb n (runnable task) later)

-- a step in the first of two lists, or in the second
pub join-left : (a b : Tasks) (n : ℕ) (w : World) → n < all_runnable a → step_in (join a b) n w ≡ moved (λ a. join a b) (step_in a n w)
join-left none b n w first = absurd (omega arith)
join-left (more task a) b n w first =
    ⊎_elim
    (λ here. first_steps task (join a b) n w here ∙ sym (ap (moved (λ a. join a b)) (first_steps task a n w here) ∙ moved-moved (λ a. join a b) (λ task. more task a) (step task n w)))
    (λ later.
    let inner : step_in (join a b) (n - runnable task) w ≡ moved (λ a. join a b) (step_in a (n - runnable task) w) = join-left a b (n - runnable task) w (omega arith) in
    later_steps task (join a b) n w later ∙ ap (moved (more task)) inner ∙ moved-moved (more task) (λ a. join a b) (step_in a (n - runnable task) w)
    ∙ sym (ap (moved (λ a. join a b)) (later_steps task a n w later) ∙ moved-moved (λ a. join a b) (more task) (step_in a (n - runnable task) w)))
    (cases_lt n (runnable task))

pub join-right : (a b : Tasks) (n : ℕ) (w : World) → step_in (join a b) (all_runnable a + n) w ≡ moved (join a) (step_in b n w)
join-right none b n w = rw (zero-add n) (sym (moved-same (step_in b n w)))
join-right (more task a) b n w =
    let from : (runnable task + all_runnable a + n) - runnable task ≡ all_runnable a + n = omega arith in
    later_steps task (join a b) (runnable task + all_runnable a + n) w (omega arith) ∙ ap (λ (k : ℕ). moved (more task) (step_in (join a b) k w)) from
    ∙ ap (moved (more task)) (join-right a b n w) ∙ moved-moved (more task) (join a) (step_in b n w)

and_true : (a b : Bool) → (a && b) ≡ true → (a ≡ true) × (b ≡ true)
and_true true b both = (refl, both)
and_true false b both = absurd cc

true_or_false : (b : Bool) → (b ≡ true) ⊎ (b ≡ false)
true_or_false true = inl refl
true_or_false false = inr refl

-- where all have ended, no leaf is runnable
ended_still : (task : Task) → has_ended task ≡ true → runnable task ≡ 0
ended_still (Ended ending) ended = refl
ended_still (Due at action next) ended = absurd cc
ended_still (Fork children behind) ended = absurd cc

all_ended_still : (tasks : Tasks) → all_ended tasks ≡ true → all_runnable tasks ≡ 0
all_ended_still none ended = refl
all_ended_still (more task tasks) ended =
    let both = and_true (has_ended task) (all_ended tasks) ended in omega (arith, ended_still task both.0, all_ended_still tasks both.1)

pub runnable_open : (tasks : Tasks) (n : ℕ) → n < all_runnable tasks → all_ended tasks ≡ false
runnable_open tasks n runs = ⊎_elim (λ ended. absurd (omega (arith, all_ended_still tasks ended))) (λ open'. open') (true_or_false (all_ended tasks))

-- a step below a fork
pub fork_steps : (children : Tasks) (behind : Task) (n : ℕ) (w : World) → n < all_runnable children
    → step_in (more (forked children behind) none) n w ≡ moved (λ children. more (forked children behind) none) (step_in children n w)
fork_steps children behind n w runs =
    rw (forked_open children behind (runnable_open children n runs))
    (first_steps (Fork children behind) none n w runs ∙ moved-moved (λ task. more task none) (λ children. forked children behind) (step_in children n w))

pub fork_runs : (children : Tasks) (behind : Task) (n : ℕ) → n < all_runnable children → n < all_runnable (more (forked children behind) none)
fork_runs children behind n runs = rw (forked_open children behind (runnable_open children n runs)) (omega (arith, runs))

module _ (p : PProgram) (turns : ℕ) where
  fill-tasks_of : (branches : ℕ → List ℕ) (crumb : Crumb) (tree : Tree) → tasks_of p turns branches (fill crumb tree) ≡ fill_tasks p turns branches crumb (tasks_of p turns (branches_under branches crumb) tree)
  fill-tasks_of branches (under node number passed line) tree = refl
  fill-tasks_of branches (left_of node number passed right) tree = refl
  fill-tasks_of branches (right_of node number passed left) tree = refl

  pub plug-tasks_of : (crumbs : List Crumb) (tree : Tree) → tasks_of p turns no_branch (plug crumbs tree) ≡ around p turns crumbs (tasks_of p turns (branches_in crumbs) tree)
  plug-tasks_of [] tree = refl
  plug-tasks_of (crumb ∷ crumbs) tree = plug-tasks_of crumbs (fill crumb tree) ∙ ap (around p turns crumbs) (fill-tasks_of (branches_in crumbs) crumb tree)

  fill_steps : (nodes : List Node) (most below : ℕ) (branches : ℕ → List ℕ) (crumb : Crumb) (tasks : Tasks) (n : ℕ) (w : World) → FitsCrumb nodes most crumb below → n < all_runnable tasks
      → (step_in (fill_tasks p turns branches crumb tasks) (left_by crumb + n) w ≡ moved (fill_tasks p turns branches crumb) (step_in tasks n w))
      × (left_by crumb + n < all_runnable (fill_tasks p turns branches crumb tasks))
  fill_steps nodes most below branches (under node number passed line) tasks n w fits runs =
      rw (zero-add n) (fork_steps tasks (behind_of p turns (branches number) passed line) n w runs, fork_runs tasks (behind_of p turns (branches number) passed line) n runs)
  fill_steps nodes most below branches (left_of node number passed right) tasks n w fits runs =
      rw (zero-add n) (join-left tasks (tasks_of p turns branches right) n w runs, omega (arith, runnable-join tasks (tasks_of p turns branches right)))
  fill_steps nodes most below branches (right_of node number passed left) tasks n w fits runs =
      let is : all_runnable (tasks_of p turns branches left) ≡ (counts_of left).runnable = (told nodes most p turns branches left fits.1).runnable in
      rw (← is) (join-right (tasks_of p turns branches left) tasks n w, omega (arith, runnable-join (tasks_of p turns branches left) tasks))

  pub around_steps : (nodes : List Node) (most below : ℕ) (crumbs : List Crumb) (tasks : Tasks) (n : ℕ) (w : World) → FitsAround nodes most crumbs below → n < all_runnable tasks
      → step_in (around p turns crumbs tasks) (left_of_hole crumbs + n) w ≡ moved (around p turns crumbs) (step_in tasks n w)
  around_steps nodes most below [] tasks n w fits runs = rw (zero-add n) (sym (moved-same (step_in tasks n w)))
  around_steps nodes most below (crumb ∷ crumbs) tasks n w fits runs =
      let here = fill_steps nodes most below (branches_in crumbs) crumb tasks n w fits.0 runs in
      let outer : step_in (around p turns crumbs (fill_tasks p turns (branches_in crumbs) crumb tasks)) (left_of_hole crumbs + (left_by crumb + n)) w
      ≡ moved (around p turns crumbs) (step_in (fill_tasks p turns (branches_in crumbs) crumb tasks) (left_by crumb + n) w)
      = around_steps nodes most (crumb_node crumb) crumbs (fill_tasks p turns (branches_in crumbs) crumb tasks) (left_by crumb + n) w fits.1 here.1 in
      rw (add_assoc (left_of_hole crumbs) (left_by crumb) n)
      (outer ∙ ap (moved (around p turns crumbs)) here.0 ∙ moved-moved (around p turns crumbs) (fill_tasks p turns (branches_in crumbs) crumb) (step_in tasks n w))
