-- The run of a task under a list of picks, and its log (docs/LANGUAGE.md, "Steps and picks" and "Races").
use Rattle.std.specs.Prelude.{ℕ, zero, suc, ◌%◌, List, [], ◌∷◌, ◌++◌}
use Rattle.lq_meaning.specs.World.{World}
use Rattle.lq_meaning.specs.Ending.{Ending, Strayed, Spent, Outcome}
use Rattle.lq_log.specs.declared.entry.Entry.{Entry}
use Rattle.lq_meaning.specs.Task.{Task}
use Rattle.lq_machine.specs.Step.{runnable, ending_of, Stepped, Moves, Leaves, step}

-- the next pick, and those behind it; behind the last one every pick is 0
abbrev pub first_pick : List ℕ → ℕ
first_pick [] = 0
first_pick (pick ∷ picks) = pick

abbrev pub other_picks : List ℕ → List ℕ
other_picks [] = []
other_picks (pick ∷ picks) = picks

-- what a run comes to: its outcome, and its accesses in the order of the steps
pub record Ran : Type 0 where
  pub outcome : Outcome
  pub log : List Entry

abbrev pub stopped : Ending → World → Ran
stopped ending w = record { outcome = record { ending = ending; world = w }; log = [] }

abbrev pub behind_entries : List Entry → Ran → Ran
behind_entries entries r = record { outcome = r.outcome; log = entries ++ r.log }

-- goes on behind a step, or ends by its stray, which makes no entry
abbrev pub then_run : Stepped Task → (Task → World → Ran) → Ran
then_run (Moves entries task w) next = behind_entries entries (next task w)
then_run (Leaves at w) next = stopped (Strayed at) w

-- goes on where some leaf is runnable
abbrev pub while_runnable : (runnable : ℕ) → Task → World → (Task → World → Ran) → Ran
while_runnable zero task w next = stopped (ending_of task) w
while_runnable (suc n) task w next = next task w

-- the run with this much fuel left: a pick counts modulo the runnable leaves
abbrev pub ran : (fuel : ℕ) → (picks : List ℕ) → Task → World → Ran
ran zero picks task w = while_runnable (runnable task) task w (λ task w. stopped Spent w)
ran (suc fuel) picks task w =
    while_runnable (runnable task) task w (λ task w.
    then_run (step task (first_pick picks % runnable task) w) (ran fuel (other_picks picks)))

abbrev pub run : (fuel : ℕ) → (picks : List ℕ) → Task → World → Outcome
run fuel picks task w = (ran fuel picks task w).outcome

abbrev pub log : (fuel : ℕ) → (picks : List ℕ) → Task → World → List Entry
log fuel picks task w = (ran fuel picks task w).log
