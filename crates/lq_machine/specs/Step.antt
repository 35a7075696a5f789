-- The steps of a task: which leaves are runnable, and what the action of one makes of the task (docs/LANGUAGE.md, "Steps and
-- picks").
use Rattle.std.specs.Prelude.{ℕ, ◌+◌, ◌-◌, ℤ, nat_lt, Bool, true, false, if◌then◌else◌, List, [], ◌∷◌, Option, None, Some}
use Rattle.lq_tree.specs.declared.place.Place.{Place}
use Rattle.lq_meaning.specs.declared.memory.Address.{Address}
use Rattle.lq_meaning.specs.Memory.{reach}
use Rattle.lq_meaning.specs.declared.action.Action.{Action}
use Rattle.lq_meaning.specs.declared.action.Action.TheVariants.{Load, Store}
use Rattle.lq_meaning.specs.World.{World, Acted, Answers, Traps, Strays, act}
use Rattle.lq_meaning.specs.Ending.{Ending, Done, Trapped, Spent}
use Rattle.lq_meaning.specs.Task.{Spot, Task, Ended, Due, Fork, Tasks, none, more, has_ended, forked}
use Rattle.lq_log.specs.declared.entry.Entry.{Entry}

-- the leaves whose action is due
abbrev mutual
  pub runnable : Task → ℕ
  runnable (Ended ending) = 0
  runnable (Due at action next) = 1
  runnable (Fork children behind) = all_runnable children

  pub all_runnable : Tasks → ℕ
  all_runnable none = 0
  all_runnable (more task tasks) = runnable task + all_runnable tasks

-- how the run ends where no leaf is runnable: as the leaf did, or by the first leaf that can't go on
abbrev mutual
  pub ending_of : Task → Ending
  ending_of (Ended ending) = ending
  ending_of (Due at action next) = Spent
  ending_of (Fork children behind) = ending_among children

  pub ending_among : Tasks → Ending
  ending_among none = Done
  ending_among (more task tasks) = if has_ended task then ending_among tasks else ending_of task

-- what a step makes of a task or of tasks, with the entries that it adds to the log; a stray ends the run
pub data Stepped (T : Type 0) : Type 0 where
  Moves : List Entry → T → World → Stepped T
  Leaves : Place → World → Stepped T

abbrev pub moved : {S T : Type 0} → (S → T) → Stepped S → Stepped T
moved f (Moves entries task w) = Moves entries (f task) w
moved f (Leaves at w) = Leaves at w

-- what an action adds to the log: a load or a store that lies in its block
abbrev pub access : Spot → (write : Bool) → Option Address → List Entry
access at write None = []
access at write (Some a) =
    record { path = at.path; write = write; block = a.block; element = a.element; field = a.field; at = at.place } ∷ []

abbrev pub logged : Spot → Action → World → List Entry
logged at (Load p index field) w = access at false (reach w.memory p index field)
logged at (Store p index field word) w = access at true (reach w.memory p index field)
logged at _ w = []

-- what a leaf becomes by its action
abbrev pub resumed : Spot → List Entry → (ℤ → Task) → Acted → Stepped Task
resumed at entries next (Answers word w) = Moves entries (next word) w
resumed at entries next (Traps kind w) = Moves entries (Ended (Trapped (record { kind = kind; at = at.place }))) w
resumed at entries next (Strays w) = Leaves at.place w

-- the one costed action of the runnable leaf with this number, from 0 and from the left
abbrev mutual
  pub step : Task → ℕ → World → Stepped Task
  step (Ended ending) n w = Moves [] (Ended ending) w
  step (Due at action next) n w = resumed at (logged at action w) next (act action w)
  step (Fork children behind) n w = moved (λ children. forked children behind) (step_in children n w)

  pub step_in : Tasks → ℕ → World → Stepped Tasks
  step_in none n w = Moves [] none w
  step_in (more task tasks) n w =
      if nat_lt n (runnable task) then moved (λ task. more task tasks) (step task n w)
      else moved (more task) (step_in tasks (n - runnable task) w)
