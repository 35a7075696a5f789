-- The task machine as the task for which it stands, and what its steps do (docs/LANGUAGE.md, "Steps and picks").
use Rattle.std.specs.Prelude.{◌≡◌, ℕ, suc, ◌+◌, ◌%◌, ◌<◌, ℤ, List, [], ◌++◌, Option, None, Some}
use Rattle.lq_tree.specs.declared.plain.PProgram.{PProgram}
use Rattle.lq_shelf.specs.Sink.{Appends, AppendsPrefix}
use Rattle.lq_tree.specs.declared.place.Place.{Place}
use Rattle.lq_log.specs.declared.entry.Entry.{Entry}
use Rattle.lq_meaning.specs.declared.action.Action.{Action}
use Rattle.lq_meaning.specs.declared.line.Line.{Line}
use Rattle.lq_meaning.specs.declared.heap.Heap.{Heap}
use Rattle.lq_meaning.specs.Behaviour.{bounded}
use Rattle.lq_meaning.specs.Heap.{heap_world, printed_by}
use Rattle.lq_meaning.specs.Line.{task_of, answered, IsBelow}
use Rattle.lq_meaning.specs.Printed.{number_lines}
use Rattle.lq_meaning.specs.World.{World, Strays, act}
use Rattle.lq_meaning.specs.Task.{Task, none, more}
use Rattle.lq_machine.specs.declared.machine.Machine.{Machine}
use Rattle.lq_machine.specs.Forest.{Tree, IsTree, tasks_of, no_branch, counts_at}
use Rattle.lq_machine.specs.Step.{runnable, Stepped, Moves, Leaves, resumed, step}

-- The machine stands for this task, where loops make so many turns at most: its nodes are those of a tree whose one task it
-- is. The turns that were made of each loop are at most as many as the steps.
abbrev pub Stands : PProgram → (turns : ℕ) → Machine → Task → Type 0
Stands p turns m task = (tree : Tree) × IsTree m.forest.nodes.items (suc m.cost) tree × (tasks_of p turns no_branch tree ≡ more task none)

-- how many leaves the machine counts as runnable
abbrev pub runnable_in : Machine → ℕ
runnable_in m = (counts_at m.forest.nodes.items 0).runnable

-- the world of a machine, with the printed numbers, which it doesn't keep itself
abbrev pub machine_world : Machine → (printed : List ℤ) → World
machine_world m printed = heap_world m.heap m.cost printed

-- A machine that has made no step, on this heap. The task for which it stands has bounds on the turns of its loops.
pub record Begins (p : PProgram) (m : Machine) (heap : Heap) (task : ℕ → Task) : Type 0 where
  pub same_heap : m.heap ≡ heap
  pub no_cost : m.cost ≡ 0
  pub no_log : m.log.items ≡ []
  pub no_stray : m.stray ≡ None
  pub begun : (turns : ℕ) → 0 < turns → Stands p turns m (task turns)

-- the machine stands for the task with which a program begins on an input, with each bound on the turns of loops
pub record Starts (p : PProgram) (words : ℕ) (input : List ℤ) (m : Machine) : Type 0 where
  pub task : (turns : ℕ) → 0 < turns → Stands p turns m (bounded turns words p input).task
  pub world : (turns : ℕ) → machine_world m [] ≡ (bounded turns words p input).world
  pub cost : m.cost ≡ 0
  pub log : m.log.items ≡ []
  pub stray : m.stray ≡ None

-- what comes of the action that is due on a line: it strays, or the line goes on
abbrev pub Acts : PProgram → (old new : Machine) → Line → Action → Place → Option Line → Type 0
Acts p old new line action at None =
    (new.stray ≡ Some at) × ((printed : List ℤ) → act action (machine_world old printed) ≡ Strays (machine_world new printed))
Acts p old new line action at (Some after) =
    (new.stray ≡ old.stray) × ((most : ℕ) → IsBelow most line → IsBelow (suc most) after)
    × ((most turns : ℕ) (path branch : List ℕ) (passed : ℕ) (entries : List Entry) (printed : List ℤ) → IsBelow most line → most < turns
    → resumed (record { path = path; place = at }) entries (answered p turns branch passed line) (act action (machine_world old printed))
    ≡ Moves entries (task_of p turns branch passed after) (machine_world new (printed_by action printed)))

-- The machine is as behind this step, by which these numbers were printed: its task has moved and its log has the entries
-- of the step, or the step has strayed.
abbrev pub Follows : PProgram → (turns : ℕ) → (old new : Machine) → (printed : List ℤ) → Stepped Task → Type 0
Follows p turns old new printed (Moves entries task w) =
    Stands p turns new task × (w ≡ machine_world new printed) × (new.log.items ≡ old.log.items ++ entries) × (new.stray ≡ old.stray)
Follows p turns old new printed (Leaves at w) =
    (new.stray ≡ Some at) × (w ≡ machine_world new printed) × (new.log.items ≡ old.log.items)

-- the numbers that are printed behind a step
abbrev pub printed_behind : Stepped Task → List ℤ
printed_behind (Moves entries task w) = w.printed
printed_behind (Leaves at w) = w.printed

-- a step was made, with each bound on the turns that is above the cost, and the numbers that it printed were written
abbrev pub Makes : (written now : Option (List ℕ)) → PProgram → (old new : Machine) → (pick : ℕ) → Type 0
Makes written now p old new pick =
    (numbers : List ℤ) × Appends written now (number_lines numbers) × (new.cost ≡ old.cost + 1)
    × ((turns : ℕ) (task : Task) (printed : List ℤ) → new.cost < turns → Stands p turns old task →
    Follows p turns old new (printed ++ numbers) (step task (pick % runnable task) (machine_world old printed)))

-- a step failed, and the first bytes of the lines of the numbers that it prints were written
abbrev pub Tries : (written now : Option (List ℕ)) → PProgram → (old : Machine) → (pick : ℕ) → Type 0
Tries written now p old pick =
    (numbers : List ℤ) × AppendsPrefix written now (number_lines numbers)
    × ((turns : ℕ) (task : Task) (printed : List ℤ) → old.cost + 1 < turns → Stands p turns old task →
    (others : List ℤ) × (printed_behind (step task (pick % runnable task) (machine_world old printed)) ≡ printed ++ (numbers ++ others)))
