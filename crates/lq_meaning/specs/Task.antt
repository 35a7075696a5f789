-- The task tree of an interleaved run (docs/LANGUAGE.md, "Task tree").
use Rattle.std.specs.Prelude.{ℕ, ℤ, Bool, true, false, ◌&&◌, if◌then◌else◌, List, Option, None, Some}
use Rattle.std.specs.Option.{option_or}
use Rattle.lq_tree.specs.declared.place.Place.{Place}
use Rattle.lq_meaning.specs.declared.action.Action.{Action}
use Rattle.lq_meaning.specs.Ending.{Trap, Ending, Done, Trapped}

-- where a leaf stands: its path, and the place of its statement
pub record Spot : Type 0 where
  pub path : List ℕ
  pub place : Place

-- A task is a leaf at which nothing is due; a leaf that is settled with an action due, with what it becomes by the answer;
-- or a fork: its children, and what its parent becomes behind it. A leaf at which nothing is due is done or trapped, and so
-- has ended; or it can't go on, since the bound of its definition is spent or its form has no rule.
mutual
  pub data Task : Type 0 where
    Ended : Ending → Task
    Due : Spot → Action → (ℤ → Task) → Task
    Fork : Tasks → Task → Task

  pub data Tasks : Type 0 where
    none : Tasks
    more : Task → Tasks → Tasks

-- the leaf is done or trapped
abbrev pub has_ended : Task → Bool
has_ended (Ended Done) = true
has_ended (Ended (Trapped trap)) = true
has_ended task = false

abbrev pub all_ended : Tasks → Bool
all_ended none = true
all_ended (more task tasks) = has_ended task && all_ended tasks

-- the trap of the first child that trapped, where all have ended
abbrev pub trap_of : Task → Option Trap
trap_of (Ended (Trapped trap)) = Some trap
trap_of task = None

abbrev pub first_trap : Tasks → Option Trap
first_trap none = None
first_trap (more task tasks) = option_or (trap_of task) (first_trap tasks)

-- behind a fork whose children have all ended
abbrev pub behind_all : Option Trap → Task → Task
behind_all None behind = behind
behind_all (Some trap) behind = Ended (Trapped trap)

-- a fork whose children have all ended continues its parent at once, with the trap of the first that trapped
abbrev pub forked : Tasks → Task → Task
forked children behind = if all_ended children then behind_all (first_trap children) behind else Fork children behind
