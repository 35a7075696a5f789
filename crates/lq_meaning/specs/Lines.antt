-- The lines of a run in order on a stack, as the rest of the run (docs/LANGUAGE.md, "Sequential execution").
use Rattle.std.specs.Prelude.{◌≡◌, ℕ, zero, suc, ◌≤◌, List, [], ◌∷◌, Option, None, Some, option_map}
use Rattle.std.specs.Option.{option_or}
use Rattle.lq_tree.specs.declared.plain.PProgram.{PProgram}
use Rattle.lq_meaning.specs.declared.line.Line.{Line}
use Rattle.lq_meaning.specs.declared.line.Standing.TheVariants.{Fork as IsFork}
use Rattle.lq_meaning.specs.declared.lines.Caught.{Caught}
use Rattle.lq_meaning.specs.declared.lines.OpenFork.{OpenFork}
use Rattle.lq_meaning.specs.declared.lines.Lines.{Lines}
use Rattle.lq_meaning.specs.declared.lines.Turn.{Turn}
use Rattle.lq_meaning.specs.declared.lines.Turn.TheVariants.{Run as RunTurn, Leave}
use Rattle.lq_meaning.specs.World.{World}
use Rattle.lq_meaning.specs.Ending.{Trap, Outcome}
use Rattle.lq_meaning.specs.Control.{Came, Gives, Run, give, go_on, ◌⨾◌}
use Rattle.lq_meaning.specs.Task.{Task, Tasks, none, more}
use Rattle.lq_meaning.specs.InOrder.{in_order, all_in_order, unless_trapped, come_to}
use Rattle.lq_meaning.specs.Line.{IsBelow, task_of, children_of, behind_of, standing_of}

-- the trap that a branch ended by
abbrev pub trap_of : Caught → Trap
trap_of caught = record { kind = caught.kind; at = caught.at }

-- the tasks from this number on
abbrev pub tasks_from : ℕ → Tasks → Tasks
tasks_from zero tasks = tasks
tasks_from (suc n) none = none
tasks_from (suc n) (more task tasks) = tasks_from n tasks

-- a fork whose branches run: the first trap so far, the branches that are left, and the line behind it
pub record Level : Type 0 where
  pub trap : Option Trap
  pub left : Tasks
  pub behind : Task

-- the branches that are left, and then the line behind the fork, unless a branch trapped
abbrev pub rejoined : (fuel : ℕ) → Level → Run (Option Trap)
rejoined fuel level = all_in_order fuel level.left ⨾ λ later. unless_trapped (λ w. in_order fuel level.behind w) (option_or level.trap later)

-- a fork of which one branch more has ended
abbrev pub with_trap : Level → Option Trap → Level
with_trap level trap = record level { trap = option_or level.trap trap }

-- the fork on the stack is this one; the turns that its line made of its loops are fewer than a bound
pub record IsLevel (p : PProgram) (fuel most : ℕ) (fork : OpenFork) (level : Level) : Type 0 where
  pub branch : List ℕ
  pub passed : ℕ
  pub stands : standing_of fork.line ≡ IsFork
  pub below : IsBelow most fork.line
  pub trap : level.trap ≡ option_map trap_of fork.trap
  pub left : level.left ≡ tasks_from fork.begun (children_of p (suc fuel) branch passed fork.line)
  pub behind : level.behind ≡ behind_of p (suc fuel) branch passed fork.line

-- The forks on the stack, from the outermost on: behind a branch of the outermost comes what is left of it, and then what
-- comes after; behind a branch of the innermost comes all of this.
abbrev pub Waits : (p : PProgram) → (fuel most : ℕ) → List OpenFork → (after all : Option Trap → Run (Option Trap)) → Type 0
Waits p fuel most [] after all = all ≡ after
Waits p fuel most (fork ∷ forks) after all =
    (level : Level) × IsLevel p fuel most fork level × Waits p fuel most forks (λ trap. rejoined fuel (with_trap level trap) ⨾ after) all

-- what the line on top comes to from this world
abbrev pub Comes : (p : PProgram) → (fuel : ℕ) → Line → Turn → World → Came (Option Trap) → Type 0
Comes p fuel line RunTurn w came =
    (branch : List ℕ) × (passed : ℕ) × IsBelow (suc w.cost) line × (came ≡ in_order fuel (task_of p (suc fuel) branch passed line) w)
Comes p fuel line (Leave trap) w came = came ≡ Gives (option_map trap_of trap) w

-- the lines are the rest of a run that ends with this outcome
pub record IsRest (p : PProgram) (fuel : ℕ) (lines : Lines) (turn : Turn) (w : World) (o : Outcome) : Type 0 where
  pub within : w.cost ≤ fuel
  pub next : Option Trap → Run (Option Trap)
  pub waits : Waits p fuel (suc w.cost) lines.forks.items give next
  pub came : Came (Option Trap)
  pub top : Comes p fuel lines.top turn w came
  pub outcome : o ≡ come_to (go_on came next)

-- what is left behind a line that has ended: the whole run has ended with it, or the lines go on
abbrev pub Leaves : (p : PProgram) → (fuel : ℕ) → Lines → Option Caught → World → Outcome → Option Turn → Type 0
Leaves p fuel lines trap w o None = o ≡ come_to (Gives (option_map trap_of trap) w)
Leaves p fuel lines trap w o (Some turn) = IsRest p fuel lines turn w o
