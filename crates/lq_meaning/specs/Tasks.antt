-- What holds of the tasks of formed programs: each form has a rule, and branches neither print nor allocate (docs/LANGUAGE.md,
-- "Task tree" and "What holds of a plain program").
use Rattle.std.specs.Prelude.{◌≢◌, ⊤, ℕ, zero, suc, ℤ, Bool, true, false, IsTrue, not, ◌&&◌}
use Rattle.lq_meaning.specs.declared.action.Action.{Action}
use Rattle.lq_meaning.specs.declared.action.Action.TheVariants.{Allocate, Print}
use Rattle.lq_meaning.specs.Ending.{Ending, Spent, Unruled}
use Rattle.lq_meaning.specs.Task.{Task, Ended, Due, Fork, Tasks, none, more}

-- the action prints or allocates
abbrev pub is_loud : Action → Bool
is_loud (Allocate count fields) = true
is_loud (Print number) = true
is_loud action = false

-- a leaf that has ended is done, trapped or strayed: it isn't stuck
pub record IsRuled (ending : Ending) : Type 0 where
  pub ruled : ending ≢ Unruled
  pub unspent : ending ≢ Spent

-- For so many actions no leaf is stuck, and no leaf prints or allocates but where all forks have been passed: within
-- branches `parallel` is true.
abbrev mutual
  pub IsRegular : Task → (actions : ℕ) → (parallel : Bool) → Type 0
  IsRegular (Ended ending) zero parallel = ⊤
  IsRegular (Ended ending) (suc n) parallel = IsRuled ending
  IsRegular (Due at action next) zero parallel = ⊤
  IsRegular (Due at action next) (suc n) parallel = IsTrue (not (parallel && is_loud action)) × ((word : ℤ) → IsRegular (next word) n parallel)
  IsRegular (Fork children behind) zero parallel = ⊤
  IsRegular (Fork children behind) (suc n) parallel = AreRegular children (suc n) × IsRegular behind (suc n) parallel

  pub AreRegular : Tasks → (actions : ℕ) → Type 0
  AreRegular none n = ⊤
  AreRegular (more task tasks) n = IsRegular task n true × AreRegular tasks n
