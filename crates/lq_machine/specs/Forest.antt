-- The nodes of a machine as a tree, and the tasks for which it stands (docs/LANGUAGE.md, "Task tree").
use Rattle.std.specs.Prelude.{◌≡◌, ℕ, ◌+◌, ◌≤◌, ◌==◌, if◌then◌else◌, true, false, ◌&&◌, List, [], ◌∷◌, ◌++◌, Option, None, Some, slice_get}
use Rattle.std.specs.Option.{option_or}
use Rattle.lq_tree.specs.declared.plain.PProgram.{PProgram}
use Rattle.lq_meaning.specs.declared.line.Line.{Line}
use Rattle.lq_meaning.specs.declared.line.Standing.{Standing}
use Rattle.lq_meaning.specs.declared.line.Standing.TheVariants.{Unruled as IsUnruled, Due as IsDue, Fork as IsFork}
use Rattle.lq_meaning.specs.Ending.{Trap, Done, Trapped}
use Rattle.lq_meaning.specs.Task.{Task, Ended, Tasks, none, more, forked}
use Rattle.lq_meaning.specs.Line.{task_of, behind_of, standing_of, IsBelow}
use Rattle.lq_machine.specs.declared.machine.forest.Caught.{Caught}
use Rattle.lq_machine.specs.declared.machine.forest.Counts.{Counts}
use Rattle.lq_machine.specs.declared.machine.forest.Kind.{Kind}
use Rattle.lq_machine.specs.declared.machine.forest.Kind.TheVariants.{Over, Leaf, Fork, Pair}
use Rattle.lq_machine.specs.declared.machine.forest.Node.{Node}

-- A tree of nodes, each with its number in the list. A task has its number among the children of its fork, and its line the
-- number of forks that it has passed.
pub data Tree : Type 0 where
  over : (node number passed : ℕ) → Option Caught → Tree
  leaf : (node number passed : ℕ) → Line → Tree
  fork : (node number passed : ℕ) → Line → Tree → Tree
  pair : (node number passed : ℕ) → Tree → Tree → Tree

-- the number of the root of a tree in the list
abbrev pub root : Tree → ℕ
root (over node number passed trap) = node
root (leaf node number passed line) = node
root (fork node number passed line children) = node
root (pair node number passed left right) = node

-- how often a number in the list is that of a node of the tree
abbrev pub once : ℕ → ℕ → ℕ
once k node = if k == node then 1 else 0

abbrev pub uses : ℕ → Tree → ℕ
uses k (over node number passed trap) = once k node
uses k (leaf node number passed line) = once k node
uses k (fork node number passed line children) = once k node + uses k children
uses k (pair node number passed left right) = once k node + (uses k left + uses k right)

-- one list of tasks and then another
abbrev pub join : Tasks → Tasks → Tasks
join none others = others
join (more task tasks) others = more task (join tasks others)

-- the task of a trap, or of none
abbrev pub trap_of : Caught → Trap
trap_of caught = record { kind = caught.kind; at = caught.at }

abbrev pub over_by : Option Caught → Task
over_by None = Ended Done
over_by (Some caught) = Ended (Trapped (trap_of caught))

-- the branches of the children of a fork, by their numbers
abbrev pub branch_below : (branch : List ℕ) → (passed number : ℕ) → List ℕ
branch_below branch passed number = branch ++ passed ∷ number ∷ []

-- the tasks of a tree whose children have these branches by their numbers
abbrev pub tasks_of : PProgram → (turns : ℕ) → (branches : ℕ → List ℕ) → Tree → Tasks
tasks_of p turns branches (over node number passed trap) = more (over_by trap) none
tasks_of p turns branches (leaf node number passed line) = more (task_of p turns (branches number) passed line) none
tasks_of p turns branches (fork node number passed line children) =
    more (forked (tasks_of p turns (branch_below (branches number) passed) children) (behind_of p turns (branches number) passed line)) none
tasks_of p turns branches (pair node number passed left right) = join (tasks_of p turns branches left) (tasks_of p turns branches right)

-- what is told of no node, of a task that has ended, and of a line by where it stands
abbrev pub no_counts : Counts
no_counts = record { runnable = 0; ended = true; trap = None }

abbrev pub counts_over : Option Caught → Counts
counts_over trap = record { runnable = 0; ended = true; trap = trap }

abbrev pub counts_standing : Standing → Counts
counts_standing (IsDue action at) = record { runnable = 1; ended = false; trap = None }
counts_standing standing = record { runnable = 0; ended = false; trap = None }

-- what is told of a fork whose children haven't all ended, and of two lists of tasks
abbrev pub counts_above : Counts → Counts
counts_above counts = record { runnable = counts.runnable; ended = false; trap = None }

abbrev pub counts_both : Counts → Counts → Counts
counts_both left right = record { runnable = left.runnable + right.runnable; ended = left.ended && right.ended; trap = option_or left.trap right.trap }

abbrev pub counts_of : Tree → Counts
counts_of (over node number passed trap) = counts_over trap
counts_of (leaf node number passed line) = counts_standing (standing_of line)
counts_of (fork node number passed line children) = counts_above (counts_of children)
counts_of (pair node number passed left right) = counts_both (counts_of left) (counts_of right)

-- what the list tells of the node with this number
abbrev pub counts_in : Option Node → Counts
counts_in None = no_counts
counts_in (Some node) = node.counts

abbrev pub counts_at : List Node → ℕ → Counts
counts_at nodes node = counts_in (slice_get nodes node)

-- this is told of a pair, or of a fork whose children haven't all ended
abbrev pub IsTold : List Node → Kind → Counts → Type 0
IsTold nodes (Pair left right) counts = counts ≡ counts_both (counts_at nodes left) (counts_at nodes right)
IsTold nodes (Fork line children) counts = ((counts_at nodes children).ended ≡ false) × (counts ≡ counts_above (counts_at nodes children))
IsTold nodes kind counts = ⊥

-- the line goes on without a fork, or has no rule
abbrev pub IsSettled : Standing → Type 0
IsSettled (IsDue action at) = Unit {0}
IsSettled IsUnruled = Unit {0}
IsSettled standing = ⊥

-- the list has this node
abbrev pub Has : List Node → ℕ → (number passed : ℕ) → Kind → Counts → Type 0
Has nodes node number passed kind counts = slice_get nodes node ≡ Some (record { kind = kind; number = number; passed = passed; counts = counts })

-- The list has the nodes of the tree, with what is told of each. No line stands in front of a fork, and of no fork all
-- children have ended. Of each loop that is under way, so many turns at most were made.
abbrev pub Fits : List Node → (most : ℕ) → Tree → Type 0
Fits nodes most (over node number passed trap) = Has nodes node number passed (Over trap) (counts_over trap)
Fits nodes most (leaf node number passed line) =
    Has nodes node number passed (Leaf line) (counts_standing (standing_of line)) × IsSettled (standing_of line) × IsBelow most line
Fits nodes most (fork node number passed line children) =
    Has nodes node number passed (Fork line (root children)) (counts_above (counts_of children))
    × (standing_of line ≡ IsFork) × IsBelow most line × ((counts_of children).ended ≡ false) × Fits nodes most children
Fits nodes most (pair node number passed left right) =
    Has nodes node number passed (Pair (root left) (root right)) (counts_both (counts_of left) (counts_of right)) × Fits nodes most left × Fits nodes most right

-- the list has this tree, whose root comes first, and each of its nodes once
pub record IsTree (nodes : List Node) (most : ℕ) (tree : Tree) : Type 0 where
  pub fits : Fits nodes most tree
  pub once : (k : ℕ) → uses k tree ≤ 1
  pub first : root tree ≡ 0

-- the root is in no branch
abbrev pub no_branch : ℕ → List ℕ
no_branch number = []
