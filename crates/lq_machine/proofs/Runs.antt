-- One step of a run, as its outcome shows it.
use Rattle.std.proofs.Common.{◌≡◌, ℕ, zero, suc, ◌%◌, ◌<◌, List, [], ◌∷◌, refl, ap, ◌∙◌, arith}
use Rattle.std.proofs.Math.Nat.{mod-eq_of_lt}
use Rattle.lq_meaning.specs.World.{World}
use Rattle.lq_meaning.specs.Ending.{Ending, Strayed, Spent, Outcome}
use Rattle.lq_log.specs.declared.entry.Entry.{Entry}
use Rattle.lq_meaning.specs.Task.{Task, Ended}
use Rattle.lq_machine.specs.Step.{runnable, ending_of, Stepped, Moves, Leaves, step}
use Rattle.lq_machine.specs.Run.{first_pick, other_picks, Ran, stopped, while_runnable, then_run, ran, run}

abbrev pub ends : Ending → World → Outcome
ends ending w = record { ending = ending; world = w }

-- the number of the leaf that a pick takes
abbrev pub leaf_of : (pick : ℕ) → Task → ℕ
leaf_of pick task = pick % runnable task

-- what comes of a step, and of what goes on behind it
abbrev pub outcome_behind : Stepped Task → (Task → World → Outcome) → Outcome
outcome_behind (Moves entries task w) next = next task w
outcome_behind (Leaves at w) next = ends (Strayed at) w

-- a run goes on where a leaf is runnable
goes_on : (n : ℕ) (task : Task) (w : World) (next : Task → World → Ran) → 0 < n → while_runnable n task w next ≡ next task w
goes_on zero task w next due = absurd (omega arith)
goes_on (suc n) task w next due = refl

-- and stands where none is
stands : (n : ℕ) (task : Task) (w : World) (next : Task → World → Ran) → n ≡ 0 → while_runnable n task w next ≡ stopped (ending_of task) w
stands zero task w next still = refl
stands (suc n) task w next still = absurd (omega arith)

-- the outcome behind a step has no part in the log
outcome-then_run : (s : Stepped Task) (fuel : ℕ) (picks : List ℕ) → (then_run s (ran fuel picks)).outcome ≡ outcome_behind s (run fuel picks)
outcome-then_run (Moves entries task w) fuel picks = refl
outcome-then_run (Leaves at w) fuel picks = refl

-- where an action is due, a run takes a step if there is fuel, and is out of fuel otherwise
pub run-step : (fuel : ℕ) (picks : List ℕ) (task : Task) (w : World) → 0 < runnable task →
    run (suc fuel) picks task w ≡ outcome_behind (step task (leaf_of (first_pick picks) task) w) (run fuel (other_picks picks))
run-step fuel picks task w due =
    ap (λ (r : Ran). r.outcome) (goes_on (runnable task) task w _ due) ∙ outcome-then_run (step task (leaf_of (first_pick picks) task) w) fuel (other_picks picks)

pub run-spent : (picks : List ℕ) (task : Task) (w : World) → 0 < runnable task → run 0 picks task w ≡ ends Spent w
run-spent picks task w due = ap (λ (r : Ran). r.outcome) (goes_on (runnable task) task w _ due)

-- where none is due, it has ended
pub run-still : (fuel : ℕ) (picks : List ℕ) (task : Task) (w : World) → runnable task ≡ 0 → run fuel picks task w ≡ ends (ending_of task) w
run-still zero picks task w still = ap (λ (r : Ran). r.outcome) (stands (runnable task) task w _ still)
run-still (suc fuel) picks task w still = ap (λ (r : Ran). r.outcome) (stands (runnable task) task w _ still)

pub run-ended : (fuel : ℕ) (picks : List ℕ) (ending : Ending) (w : World) → run fuel picks (Ended ending) w ≡ ends ending w
run-ended fuel picks ending w = run-still fuel picks (Ended ending) w refl

-- a pick that is the number of a leaf picks that leaf
pub leaf_of-below : (k : ℕ) (task : Task) → k < runnable task → leaf_of k task ≡ k
leaf_of-below k task h = mod-eq_of_lt h

-- every pick picks a leaf, where there is one
pub leaf_of-is_leaf : (pick : ℕ) (task : Task) → 0 < runnable task → leaf_of pick task < runnable task
leaf_of-is_leaf pick task h = omega arith

-- a run whose first pick is a leaf goes on behind that leaf's step
pub run-picked : (fuel k : ℕ) (task : Task) (w : World) (entries : List Entry) (next : Task) (after : World) → k < runnable task → step task k w ≡ Moves entries next after →
    run (suc fuel) (k ∷ []) task w ≡ run fuel [] next after
run-picked fuel k task w entries next after h e =
    run-step fuel (k ∷ []) task w (omega arith) ∙ ap (λ s. outcome_behind s (run fuel [])) (ap (λ n. step task n w) (leaf_of-below k task h) ∙ e)
