-- A meaning that follows a task: it gives what the run of the task gives with no picks, the leftmost leaf each time.
use Rattle.std.proofs.Common.{◌≡◌, ℕ, zero, suc, ◌+◌, ◌≤◌, ℤ, nat_lt, true, false, List, [], sym, ap, ◌∙◌, arith}
use Rattle.std.proofs.lemmas.Bool.{lt-ltb, le-ltb}
use Rattle.lq_tree.specs.declared.trap.TrapKind.{TrapKind}
use Rattle.lq_meaning.specs.declared.action.Action.{Action}
use Rattle.lq_meaning.specs.World.{World, Acted, Answers, Traps, Strays, act}
use Rattle.lq_meaning.specs.Ending.{Ending, Strayed, Spent, Outcome}
use Rattle.lq_meaning.specs.Control.{trapped, Came, Gives, Stops, answered, due}
use Rattle.lq_meaning.proofs.Costs.{left_by, act-cost}
use Rattle.lq_log.specs.declared.entry.Entry.{Entry}
use Rattle.lq_meaning.specs.Task.{Spot, Task, Ended}
use Rattle.lq_machine.specs.Step.{moved, logged, resumed, step}
use Rattle.lq_machine.specs.Run.{run}
use Rattle.lq_machine.proofs.Leaves.{Leaf, Leaf-number, step-Leaf}
use Rattle.lq_machine.proofs.Runs.{ends, outcome_behind, leaf_of, run-step, run-spent, run-ended, leaf_of-below}

-- a meaning gives what the run of a task gives with no picks, where the cost so far and the fuel left are the fuel
abbrev pub Follows : (fuel : ℕ) → (World → Outcome) → Task → Type 0
Follows fuel meaning task = (k : ℕ) (w : World) → w.cost + k ≡ fuel → meaning w ≡ run k [] task w

pub ended_follows : (fuel : ℕ) (ending : Ending) → Follows fuel (ends ending) (Ended ending)
ended_follows fuel ending k w e = sym (run-ended k [] ending w)

-- the same, from worlds of at least so much cost
abbrev pub FollowsFrom : (least fuel : ℕ) → (World → Outcome) → Task → Type 0
FollowsFrom least fuel meaning task = (k : ℕ) (w : World) → least ≤ w.cost → w.cost + k ≡ fuel → meaning w ≡ run k [] task w

-- what goes on from an action of the leftmost leaf gives, at each outcome of it, what the run gives behind it
pub record FollowsOnFrom (least fuel : ℕ) (go : Came ℤ → Outcome) (at : Spot) (next : ℤ → Task) (put : Task → Task) : Type 0 where
  pub spent : (w : World) → go (Stops Spent w) ≡ ends Spent w
  pub strayed : (w : World) → go (Stops (Strayed at.place) w) ≡ ends (Strayed at.place) w
  pub traps : (kind : TrapKind) → FollowsFrom least fuel (λ w. go (Stops (trapped kind at.place) w)) (put (Ended (trapped kind at.place)))
  pub gives : (word : ℤ) → FollowsFrom least fuel (λ w. go (Gives word w)) (put (next word))

-- behind the action, by what came of it
acted_follows : (least fuel : ℕ) (go : Came ℤ → Outcome) (at : Spot) (entries : List Entry) (next : ℤ → Task) (put : Task → Task) → FollowsOnFrom least fuel go at next put →
    (k : ℕ) (r : Acted) → least ≤ (left_by r).cost → (left_by r).cost + k ≡ fuel →
    go (answered at.place r) ≡ outcome_behind (moved put (resumed at entries next r)) (run k [])
acted_follows least fuel go at entries next put on k (Answers word w) costs e = on.gives word k w costs e
acted_follows least fuel go at entries next put on k (Traps kind w) costs e = on.traps kind k w costs e
acted_follows least fuel go at entries next put on k (Strays w) costs e = on.strayed w

-- so the whole follows the task
pub due_follows_from : (least fuel : ℕ) (go : Came ℤ → Outcome) {task : Task} {at : Spot} {action : Action} {next : ℤ → Task} {put : Task → Task} →
    Leaf task 0 at action next put → FollowsOnFrom (suc least) fuel go at next put →
    FollowsFrom least fuel (λ w. go (due fuel at.place action w)) task
due_follows_from least fuel go {task} {at} {action} {next} {put} leaf on zero w costs e =
    let out : nat_lt w.cost fuel ≡ false = le-ltb _ _ (omega arith) in
    rw out (on.spent w ∙ sym (run-spent [] task w (Leaf-number leaf)))
due_follows_from least fuel go {task} {at} {action} {next} {put} leaf on (suc k) w costs e =
    let in_time : nat_lt w.cost fuel ≡ true = lt-ltb _ _ (omega arith) in
    let stepped : step task (leaf_of 0 task) w ≡ moved put (resumed at (logged at action w) next (act action w)) =
    ap (λ n. step task n w) (leaf_of-below 0 task (Leaf-number leaf)) ∙ step-Leaf leaf w in
    rw in_time
    (acted_follows (suc least) fuel go at (logged at action w) next put on k (act action w) (omega (arith, act-cost action w)) (omega (arith, act-cost action w))
    ∙ (ap (λ s. outcome_behind s (run k [])) (sym stepped)
    ∙ sym (run-step k [] task w (Leaf-number leaf))))

-- the same from any world
pub record FollowsOn (fuel : ℕ) (go : Came ℤ → Outcome) (at : Spot) (next : ℤ → Task) (put : Task → Task) : Type 0 where
  pub spent : (w : World) → go (Stops Spent w) ≡ ends Spent w
  pub strayed : (w : World) → go (Stops (Strayed at.place) w) ≡ ends (Strayed at.place) w
  pub traps : (kind : TrapKind) → Follows fuel (λ w. go (Stops (trapped kind at.place) w)) (put (Ended (trapped kind at.place)))
  pub gives : (word : ℤ) → Follows fuel (λ w. go (Gives word w)) (put (next word))

pub due_follows : (fuel : ℕ) (go : Came ℤ → Outcome) {task : Task} {at : Spot} {action : Action} {next : ℤ → Task} {put : Task → Task} →
    Leaf task 0 at action next put → FollowsOn fuel go at next put →
    Follows fuel (λ w. go (due fuel at.place action w)) task
due_follows fuel go leaf on k w e =
    due_follows_from 0 fuel go leaf
    (record { spent = on.spent; strayed = on.strayed; traps = λ kind k w costs e. on.traps kind k w e; gives = λ word k w costs e. on.gives word k w e }) k w (omega arith) e
