-- A run only adds to the numbers that are printed.
use Rattle.std.proofs.Common.{◌≡◌, ℕ, zero, suc, ◌-◌, ℤ, List, ⊎_elim, arith}
use Rattle.std.specs.Prelude.{nat_lt}
use Rattle.std.proofs.lemmas.Bool.{cond_both, cases_lt}
use Rattle.lq_meaning.proofs.Costs.{left_by}
use Rattle.lq_meaning.proofs.Printed.{Adds, Adds-none, Adds-trans, act_adds}
use Rattle.lq_meaning.specs.World.{World, Acted, Answers, Traps, Strays, act}
use Rattle.lq_meaning.specs.Ending.{Outcome}
use Rattle.lq_log.specs.declared.entry.Entry.{Entry}
use Rattle.lq_meaning.specs.Task.{Spot, Task, Ended, Due, Fork, Tasks, none, more, forked}
use Rattle.lq_machine.specs.Step.{step, step_in, Stepped, Moves, Leaves, moved, logged, resumed, runnable}
use Rattle.lq_machine.specs.Run.{first_pick, other_picks, run}
use Rattle.lq_machine.proofs.Runs.{outcome_behind, leaf_of, run-step, run-spent, run-still}

-- the world that a step leaves
abbrev pub left_after : {T : Type 0} → Stepped T → World
left_after (Moves entries task w) = w
left_after (Leaves at w) = w

moved_adds : {S T : Type 0} (old : List ℤ) (f : S → T) (s : Stepped S) → Adds old (left_after s).printed → Adds old (left_after (moved f s)).printed
moved_adds old f (Moves entries task w) adds = adds
moved_adds old f (Leaves at w) adds = adds

resumed_adds : (old : List ℤ) (at : Spot) (entries : List Entry) (next : ℤ → Task) (a : Acted) → Adds old (left_by a).printed → Adds old (left_after (resumed at entries next a)).printed
resumed_adds old at entries next (Answers word w) adds = adds
resumed_adds old at entries next (Traps kind w) adds = adds
resumed_adds old at entries next (Strays w) adds = adds

mutual
  pub step_adds : (task : Task) (n : ℕ) (w : World) → Adds w.printed (left_after (step task n w)).printed
  step_adds (Ended ending) n w = Adds-none w.printed
  step_adds (Due at action next) n w = resumed_adds w.printed at (logged at action w) next (act action w) (act_adds action w)
  step_adds (Fork children behind) n w = moved_adds w.printed (λ children. forked children behind) (step_in children n w) (step_in_adds children n w)

  step_in_adds : (tasks : Tasks) (n : ℕ) (w : World) → Adds w.printed (left_after (step_in tasks n w)).printed
  step_in_adds none n w = Adds-none w.printed
  step_in_adds (more task tasks) n w =
      cond_both (nat_lt n (runnable task)) _ _ (λ (s : Stepped Tasks). Adds w.printed (left_after s).printed)
      (λ _. moved_adds w.printed (λ task. more task tasks) (step task n w) (step_adds task n w))
      (λ _. moved_adds w.printed (more task) (step_in tasks (n - runnable task) w) (step_in_adds tasks (n - runnable task) w))

behind_adds : (old : List ℤ) (s : Stepped Task) (go : Task → World → Outcome) → ((task : Task) (w : World) → Adds w.printed (go task w).world.printed) →
    Adds old (left_after s).printed → Adds old (outcome_behind s go).world.printed
behind_adds old (Moves entries task w) go goes adds = Adds-trans old w.printed (go task w).world.printed adds (goes task w)
behind_adds old (Leaves at w) go goes adds = adds

-- where no leaf is runnable, nothing is added
still_adds : (fuel : ℕ) (picks : List ℕ) (task : Task) (w : World) → runnable task ≡ 0 → Adds w.printed (run fuel picks task w).world.printed
still_adds fuel picks task w still = rw (run-still fuel picks task w still) (Adds-none w.printed)

-- whatever the picks and the fuel, a run only adds to what was printed
pub run_adds : (fuel : ℕ) (picks : List ℕ) (task : Task) (w : World) → Adds w.printed (run fuel picks task w).world.printed
run_adds zero picks task w =
    ⊎_elim (λ due. rw (run-spent picks task w due) (Adds-none w.printed)) (λ still. still_adds zero picks task w (omega arith)) (cases_lt 0 (runnable task))
run_adds (suc fuel) picks task w =
    ⊎_elim
    (λ due.
    let leaf = leaf_of (first_pick picks) task in
    rw (run-step fuel picks task w due) (behind_adds w.printed (step task leaf w) (run fuel (other_picks picks)) (run_adds fuel (other_picks picks)) (step_adds task leaf w)))
    (λ still. still_adds (suc fuel) picks task w (omega arith))
    (cases_lt 0 (runnable task))
