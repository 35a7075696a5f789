-- A task in order: the actions of a leaf one behind the other, and of a fork one branch behind the other (docs/LANGUAGE.md,
-- "Sequential execution").
use Rattle.std.specs.Prelude.{ℕ, ℤ, Option, None, Some}
use Rattle.lq_meaning.specs.Ending.{Trap, Ending, Done, Trapped, Outcome}
use Rattle.lq_meaning.specs.Control.{Came, Gives, Stops, Run, give, stop, ◌⨾◌, due, before}
use Rattle.lq_meaning.specs.Task.{Task, Ended, Due, Fork, Tasks, none, more}
use Rattle.lq_meaning.specs.Behaviour.{Beginning}

-- a leaf gives its trap, if it trapped; one that can't go on stops the run
abbrev pub at_end : Ending → Run (Option Trap)
at_end Done = give None
at_end (Trapped trap) = give (Some trap)
at_end ending = stop ending

-- goes on with the word of an action; its trap is the leaf's
abbrev pub answers : Came ℤ → (ℤ → Run (Option Trap)) → Came (Option Trap)
answers (Gives word w) next = next word w
answers (Stops (Trapped trap) w) next = Gives (Some trap) w
answers (Stops ending w) next = Stops ending w

-- behind a fork, unless a branch trapped
abbrev pub unless_trapped : Run (Option Trap) → Option Trap → Run (Option Trap)
unless_trapped behind None = behind
unless_trapped behind (Some trap) = give (Some trap)

-- the trap of a task in order, if it traps
abbrev mutual
  pub in_order : (fuel : ℕ) → Task → Run (Option Trap)
  in_order fuel (Ended ending) w = at_end ending w
  in_order fuel (Due at action next) w = answers (due fuel at.place action w) (λ word w. in_order fuel (next word) w)
  in_order fuel (Fork children behind) w = (all_in_order fuel children ⨾ unless_trapped (λ w. in_order fuel behind w)) w

  pub all_in_order : (fuel : ℕ) → Tasks → Run (Option Trap)
  all_in_order fuel none w = give None w
  all_in_order fuel (more task tasks) w = before (λ w. in_order fuel task w) (λ w. all_in_order fuel tasks w) w

-- how the run of a task ended that gave this
abbrev pub come_to : Came (Option Trap) → Outcome
come_to (Gives None w) = record { ending = Done; world = w }
come_to (Gives (Some trap) w) = record { ending = Trapped trap; world = w }
come_to (Stops ending w) = record { ending = ending; world = w }

-- the run in order of what a program begins with
abbrev pub run_in_order : (fuel : ℕ) → Beginning → Outcome
run_in_order fuel b = come_to (in_order fuel b.task b.world)
