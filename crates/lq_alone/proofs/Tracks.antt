-- Tracks: what the run of a task does that is clean for so many actions, whatever the order of its branches.
use Rattle.std.proofs.Common.{◌≡◌, ℕ, zero, suc, ◌+◌, ◌<◌, ℤ, Bool, true, false, not, ◌&&◌, IsTrue, List, [], ◌∷◌, ◌++◌, Option, None}
use Rattle.std.specs.Option.{option_or}
use Rattle.lq_meaning.specs.declared.action.Action.{Action}
use Rattle.lq_meaning.specs.World.{World, Acted, Answers, Traps, act}
use Rattle.lq_meaning.specs.Ending.{Trap, Ending, Trapped}
use Rattle.lq_meaning.specs.Task.{Spot, Task, Ended, Due, Fork, Tasks, none, more, has_ended, all_ended, trap_of, behind_all}
use Rattle.lq_meaning.specs.Tasks.{is_loud}
use Rattle.lq_alone.proofs.Marks.{Mark, marks_of, past, Apart}

-- How many actions a task needs, the trap that it ends with, and its accesses. Where it needs more actions than there are,
-- the fuel is spent, and then the track speaks only of what is done within it.
pub record Track : Type 0 where
  pub need : ℕ
  pub trap : Option Trap
  pub marks : List Mark

abbrev pub total : List Track → ℕ
total [] = 0
total (t ∷ tracks) = t.need + total tracks

abbrev pub all_marks : List Track → List Mark
all_marks [] = []
all_marks (t ∷ tracks) = t.marks ++ all_marks tracks

abbrev pub trap_among : List Track → Option Trap
trap_among [] = None
trap_among (t ∷ tracks) = option_or t.trap (trap_among tracks)

-- different branches are apart
abbrev pub AllApart : List Track → Type 0
AllApart [] = Unit {0}
AllApart (t ∷ tracks) = Apart t.marks (all_marks tracks) × AllApart tracks

-- nothing is done
abbrev pub still : Option Trap → Track
still trap = record { need = 0; trap = trap; marks = [] }

-- one action more
abbrev pub behind : List Mark → Track → Track
behind marks t = record { need = suc t.need; trap = t.trap; marks = marks ++ t.marks }

-- an action is due, and there is none left
abbrev pub out : Track
out = record { need = 1; trap = None; marks = [] }

-- branches that need more actions than there are left
abbrev pub spent_by : (n : ℕ) → List Track → Track
spent_by n tracks = record { need = suc n; trap = None; marks = all_marks tracks }

-- behind branches
abbrev pub behind_branches : List Track → Track → Track
behind_branches tracks t = record { need = total tracks + t.need; trap = t.trap; marks = all_marks tracks ++ t.marks }

-- the world behind branches
abbrev pub world_behind : World → List Track → World
world_behind w tracks = record { memory = past w.memory (all_marks tracks); left = w.left; cost = w.cost + total tracks; printed = w.printed }

-- what a leaf becomes by what its action does; a stray makes nothing of it
pub data Becomes (at : Spot) (next : ℤ → Task) : Acted → Task → World → Type 0 where
  by_answer : {word : ℤ} {w : World} → Becomes at next (Answers word w) (next word) w
  by_trap : {kind : _} {w : World} → Becomes at next (Traps kind w) (Ended (Trapped (record { kind = kind; at = at.place }))) w

abbrev pub IsQuiet : (parallel : Bool) → Action → Type 0
IsQuiet parallel action = IsTrue (not (parallel && is_loud action))

-- A task goes for so many actions from a world by this track, and leaves the last world, where the fuel is not spent. No
-- leaf strays, branches are apart and neither print nor allocate, and no fork is one of branches that have all ended.
mutual
  pub data Goes : (n : ℕ) → (parallel : Bool) → Task → World → Track → (last : World) → Type 0 where
    ended : {n : ℕ} {parallel : Bool} {ending : Ending} {w : World} →
        has_ended (Ended ending) ≡ true → Goes n parallel (Ended ending) w (still (trap_of (Ended ending))) w
    spent : {parallel : Bool} {at : Spot} {action : Action} {next : ℤ → Task} {w : World} → Goes zero parallel (Due at action next) w out w
    acts : {n : ℕ} {parallel : Bool} {at : Spot} {action : Action} {next : ℤ → Task} {w : World} {task : Task} {after : World} {t : Track} {last : World} →
        IsQuiet parallel action → Becomes at next (act action w) task after → Goes n parallel task after t last →
        Goes (suc n) parallel (Due at action next) w (behind (marks_of at action w) t) last
    fork_spent : {n : ℕ} {parallel : Bool} {children : Tasks} {parent : Task} {w : World} {tracks : List Track} →
        AllGo n children w tracks → AllApart tracks → all_ended children ≡ false → n < total tracks →
        Goes n parallel (Fork children parent) w (spent_by n tracks) w
    forks : {n rest : ℕ} {parallel : Bool} {children : Tasks} {parent : Task} {w : World} {tracks : List Track} {t : Track} {last : World} →
        AllGo n children w tracks → AllApart tracks → all_ended children ≡ false → rest + total tracks ≡ n →
        Goes rest parallel (behind_all (trap_among tracks) parent) (world_behind w tracks) t last →
        Goes n parallel (Fork children parent) w (behind_branches tracks t) last

  -- each branch goes from this world, for all of these actions
  pub data AllGo : (n : ℕ) → Tasks → World → List Track → Type 0 where
    no_more : {n : ℕ} {w : World} → AllGo n none w []
    and_more : {n : ℕ} {task : Task} {tasks : Tasks} {w : World} {t : Track} {last : World} {tracks : List Track} →
        Goes n true task w t last → AllGo n tasks w tracks → AllGo n (more task tasks) w (t ∷ tracks)
