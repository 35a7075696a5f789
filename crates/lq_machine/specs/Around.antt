-- A place in a tree of nodes: the tree below it, and what is around it; and what changes of the nodes come to.
use Rattle.std.specs.Prelude.{◌≡◌, ℕ, zero, suc, ◌+◌, ◌<◌, ◌≤◌, List, [], ◌∷◌, ◌++◌, length, Option, None, Some, slice_get}
use Rattle.lq_tree.specs.declared.plain.PProgram.{PProgram}
use Rattle.lq_meaning.specs.declared.line.Line.{Line}
use Rattle.lq_meaning.specs.declared.line.Standing.TheVariants.{Fork as IsFork}
use Rattle.lq_meaning.specs.Task.{Tasks, none, more, forked}
use Rattle.lq_meaning.specs.Line.{task_of, behind_of, children_of, task_at, standing_of, IsBelow}
use Rattle.lq_machine.specs.declared.machine.forest.Counts.{Counts}
use Rattle.lq_machine.specs.declared.machine.forest.Kind.{Kind}
use Rattle.lq_machine.specs.declared.machine.forest.Kind.TheVariants.{Fork, Pair}
use Rattle.lq_machine.specs.declared.machine.forest.Node.{Node}
use Rattle.lq_machine.specs.declared.machine.forest.Seat.{Seat}
use Rattle.lq_machine.specs.Forest.{Tree, leaf, fork, pair, root, once, uses, join, tasks_of, branch_below, no_branch, counts_of, counts_standing, Has, Fits, IsTree}

-- a node with a hole below it: a fork without its children, or a pair without its left or its right side
pub data Crumb : Type 0 where
  under : (node number passed : ℕ) → Line → Crumb
  left_of : (node number passed : ℕ) → (right : Tree) → Crumb
  right_of : (node number passed : ℕ) → (left : Tree) → Crumb

-- the number of the node in the list
abbrev pub crumb_node : Crumb → ℕ
crumb_node (under node number passed line) = node
crumb_node (left_of node number passed right) = node
crumb_node (right_of node number passed left) = node

-- a tree put into the hole
abbrev pub fill : Crumb → Tree → Tree
fill (under node number passed line) tree = fork node number passed line tree
fill (left_of node number passed right) tree = pair node number passed tree right
fill (right_of node number passed left) tree = pair node number passed left tree

-- a tree put into what is around it, of which the innermost comes first
abbrev pub plug : List Crumb → Tree → Tree
plug [] tree = tree
plug (crumb ∷ crumbs) tree = plug crumbs (fill crumb tree)

-- the branches of the tasks in the hole, by those around it
abbrev pub branches_under : (branches : ℕ → List ℕ) → Crumb → ℕ → List ℕ
branches_under branches (under node number passed line) = branch_below (branches number) passed
branches_under branches (left_of node number passed right) = branches
branches_under branches (right_of node number passed left) = branches

abbrev pub branches_in : List Crumb → ℕ → List ℕ
branches_in [] = no_branch
branches_in (crumb ∷ crumbs) = branches_under (branches_in crumbs) crumb

-- how many runnable leaves are to the left of the hole
abbrev pub left_by : Crumb → ℕ
left_by (under node number passed line) = 0
left_by (left_of node number passed right) = 0
left_by (right_of node number passed left) = (counts_of left).runnable

abbrev pub left_of_hole : List Crumb → ℕ
left_of_hole [] = 0
left_of_hole (crumb ∷ crumbs) = left_of_hole crumbs + left_by crumb

-- the nodes around the hole, from the root on
abbrev pub way_of : List Crumb → List ℕ
way_of [] = []
way_of (crumb ∷ crumbs) = way_of crumbs ++ crumb_node crumb ∷ []

-- the list has this node, whatever is told of it
abbrev pub HasKind : List Node → ℕ → (number passed : ℕ) → Kind → Type 0
HasKind nodes node number passed kind = (counts : Counts) × Has nodes node number passed kind counts

-- the list has the node, and what is below it beside the hole, into which the node with this number comes
abbrev pub FitsCrumb : List Node → (most : ℕ) → Crumb → (below : ℕ) → Type 0
FitsCrumb nodes most (under node number passed line) below =
    HasKind nodes node number passed (Fork line below) × (standing_of line ≡ IsFork) × IsBelow most line
FitsCrumb nodes most (left_of node number passed right) below = HasKind nodes node number passed (Pair below (root right)) × Fits nodes most right
FitsCrumb nodes most (right_of node number passed left) below = HasKind nodes node number passed (Pair (root left) below) × Fits nodes most left

abbrev pub FitsAround : List Node → (most : ℕ) → List Crumb → (below : ℕ) → Type 0
FitsAround nodes most [] below = below ≡ 0
FitsAround nodes most (crumb ∷ crumbs) below = FitsCrumb nodes most crumb below × FitsAround nodes most crumbs (crumb_node crumb)

-- how often a number in the list is that of a node around the hole
abbrev pub uses_beside : ℕ → Crumb → ℕ
uses_beside k (under node number passed line) = once k node
uses_beside k (left_of node number passed right) = once k node + uses k right
uses_beside k (right_of node number passed left) = once k node + uses k left

abbrev pub uses_around : ℕ → List Crumb → ℕ
uses_around k [] = 0
uses_around k (crumb ∷ crumbs) = uses_beside k crumb + uses_around k crumbs

-- tasks in one hole, and in all around it
abbrev pub fill_tasks : PProgram → (turns : ℕ) → (branches : ℕ → List ℕ) → Crumb → Tasks → Tasks
fill_tasks p turns branches (under node number passed line) tasks = more (forked tasks (behind_of p turns (branches number) passed line)) none
fill_tasks p turns branches (left_of node number passed right) tasks = join tasks (tasks_of p turns branches right)
fill_tasks p turns branches (right_of node number passed left) tasks = join (tasks_of p turns branches left) tasks

abbrev pub around : PProgram → (turns : ℕ) → List Crumb → Tasks → Tasks
around p turns [] tasks = tasks
around p turns (crumb ∷ crumbs) tasks = around p turns crumbs (fill_tasks p turns (branches_in crumbs) crumb tasks)

-- the tree is a line
abbrev pub IsLine : Tree → Type 0
IsLine (leaf node number passed line) = Unit {0}
IsLine tree = ⊥

-- From the root of a tree one node down, towards the runnable leaf with this number: to the node there, and the number that
-- the leaf has below it. A line has no node below.
abbrev pub GoesDown : List Node → (most : ℕ) → Tree → (rest : ℕ) → Option (ℕ × ℕ) → Type 0
GoesDown nodes most tree rest None = IsLine tree
GoesDown nodes most tree rest (Some (child, less)) =
    (crumb : Crumb) × (below : Tree) × (fill crumb below ≡ tree) × FitsCrumb nodes most crumb child × Fits nodes most below × (root below ≡ child)
    × (less < (counts_of below).runnable) × (left_by crumb + less ≡ rest) × (crumb_node crumb ≡ root tree)

-- on the way down a tree to the runnable leaf with this number, which has the number `rest` below this node
pub record IsOnWay (nodes : List Node) (most : ℕ) (tree : Tree) (pick node rest : ℕ) (nodes_above : List ℕ) : Type 0 where
  pub crumbs : List Crumb
  pub below : Tree
  pub plugged : plug crumbs below ≡ tree
  pub around : FitsAround nodes most crumbs node
  pub fits : Fits nodes most below
  pub here : root below ≡ node
  pub runs : rest < (counts_of below).runnable
  pub number : left_of_hole crumbs + rest ≡ pick
  pub way : nodes_above ≡ way_of crumbs

-- the way down has come to a line
abbrev pub IsFound : List Node → (most : ℕ) → Tree → (pick node : ℕ) → (way : List ℕ) → Type 0
IsFound nodes most tree pick node way = (rest : ℕ) × (found : IsOnWay nodes most tree pick node rest way) × IsLine found.below

-- the list has changed at this node alone, and behind its end
pub record Changes (old new : List Node) (node : ℕ) : Type 0 where
  pub same : (k : ℕ) → k < length old → (k ≡ node → ⊥) → slice_get new k ≡ slice_get old k
  pub longer : length old ≤ length new

-- the list has changed behind its end alone
pub record Keeps (old new : List Node) : Type 0 where
  pub same : (k : ℕ) → k < length old → slice_get new k ≡ slice_get old k
  pub longer : length old ≤ length new

-- the list has a tree at this node, and each of its nodes once
pub record HasTree (nodes : List Node) (most node : ℕ) (tree : Tree) : Type 0 where
  pub fits : Fits nodes most tree
  pub here : root tree ≡ node
  pub once : (k : ℕ) → uses k tree ≤ 1

-- a line came to a node, with what is below it behind the old end of the list
pub record Settles (p : PProgram) (most : ℕ) (old new : List Node) (node number passed : ℕ) (line : Line) : Type 0 where
  pub tree : Tree
  pub has : HasTree new most node tree
  pub fresh : (k : ℕ) → k < length old → (k ≡ node → ⊥) → uses k tree ≡ 0
  pub tasks : (turns : ℕ) (branches : ℕ → List ℕ) → most ≤ turns → tasks_of p turns branches tree ≡ more (task_of p turns (branches number) passed line) none

-- so many tasks from a number on
abbrev pub part_of : Tasks → (first count : ℕ) → Tasks
part_of tasks first zero = none
part_of tasks first (suc n) = more (task_at tasks first) (part_of tasks (suc first) n)

-- so many branches of the fork of a line came behind the end of the list
pub record Grows (p : PProgram) (most : ℕ) (old new : List Node) (line : Line) (first count node : ℕ) : Type 0 where
  pub tree : Tree
  pub has : HasTree new most node tree
  pub fresh : (k : ℕ) → k < length old → uses k tree ≡ 0
  pub tasks : (turns : ℕ) (branch : List ℕ) (passed : ℕ) → most ≤ turns → tasks_of p turns (branch_below branch passed) tree ≡ part_of (children_of p turns branch passed line) first count

-- The fork of a line came to a node, whose children are those of a tree: it stands there, unless all have ended. Else the
-- line goes on behind them.
abbrev pub Closes : PProgram → (most : ℕ) → (old new : List Node) → (node number passed : ℕ) → Line → Tree → Option Line → Type 0
Closes p most old new node number passed line below None =
    (tree : Tree) × HasTree new most node tree × ((k : ℕ) → (k ≡ node → ⊥) → uses k tree ≤ uses k below)
    × ((turns : ℕ) (branches : ℕ → List ℕ) → most ≤ turns → tasks_of p turns branches tree ≡ fill_tasks p turns branches (under node number passed line) (tasks_of p turns (branch_below (branches number) passed) below))
Closes p most old new node number passed line below (Some after) =
    (new ≡ old) × IsBelow most after
    × ((turns : ℕ) (branches : ℕ → List ℕ) → most ≤ turns → more (task_of p turns (branches number) (suc passed) after) none
    ≡ fill_tasks p turns branches (under node number passed line) (tasks_of p turns (branch_below (branches number) passed) below))

-- The fork of a line came to a node, above its branches; or the line has gone on behind them, and what changed of the list
-- is not in use.
abbrev pub Opens : PProgram → (most : ℕ) → (old new : List Node) → (node number passed : ℕ) → Line → Option Line → Type 0
Opens p most old new node number passed line None = Settles p most old new node number passed line
Opens p most old new node number passed line (Some after) =
    IsBelow most after × ((turns : ℕ) (branch : List ℕ) → most ≤ turns → task_of p turns branch (suc passed) after ≡ task_of p turns branch passed line)

-- a node was made anew, by what is below it now
pub record IsAnew (p : PProgram) (most : ℕ) (old new : List Node) (crumb : Crumb) (below : Tree) : Type 0 where
  pub tree : Tree
  pub has : HasTree new most (crumb_node crumb) tree
  pub fresh : (k : ℕ) → k < length old → uses k tree ≤ uses_beside k crumb + uses k below
  pub tasks : (turns : ℕ) (branches : ℕ → List ℕ) → most ≤ turns → tasks_of p turns branches tree ≡ fill_tasks p turns branches crumb (tasks_of p turns (branches_under branches crumb) below)

-- the list has what is around a hole and the tree in it, and each node once
pub record HasAround (nodes : List Node) (most : ℕ) (crumbs : List Crumb) (below : Tree) : Type 0 where
  pub around : FitsAround nodes most crumbs (root below)
  pub fits : Fits nodes most below
  pub once : (k : ℕ) → uses_around k crumbs + uses k below ≤ 1

-- the nodes around a hole were made anew, up to the root
pub record Rises (p : PProgram) (most : ℕ) (new : List Node) (crumbs : List Crumb) (below : Tree) : Type 0 where
  pub tree : Tree
  pub is : IsTree new most tree
  pub tasks : (turns : ℕ) → most ≤ turns → tasks_of p turns no_branch tree ≡ around p turns crumbs (tasks_of p turns (branches_in crumbs) below)

-- the list has what is around a node, and each of its nodes once, but not this one
pub record IsVacant (nodes : List Node) (most : ℕ) (crumbs : List Crumb) (node : ℕ) : Type 0 where
  pub around : FitsAround nodes most crumbs node
  pub free : uses_around node crumbs ≡ 0
  pub once : (k : ℕ) → uses_around k crumbs ≤ 1

-- the line of the runnable leaf with this number was taken out of a tree
pub record IsPlucked (nodes : List Node) (most : ℕ) (tree : Tree) (pick : ℕ) (seat : Seat) (line : Line) (nodes_above : List ℕ) : Type 0 where
  pub crumbs : List Crumb
  pub plugged : plug crumbs (leaf seat.node seat.number seat.passed line) ≡ tree
  pub vacant : IsVacant nodes most crumbs seat.node
  pub runs : 0 < (counts_standing (standing_of line)).runnable
  pub few : IsBelow most line
  pub number : left_of_hole crumbs ≡ pick
  pub way : nodes_above ≡ way_of crumbs

-- the list has a tree of which the line is a leaf, with what is around it
pub record Returns (p : PProgram) (most : ℕ) (nodes : List Node) (crumbs : List Crumb) (seat : Seat) (line : Line) : Type 0 where
  pub tree : Tree
  pub is : IsTree nodes most tree
  pub tasks : (turns : ℕ) → most ≤ turns → tasks_of p turns no_branch tree ≡ around p turns crumbs (more (task_of p turns (branches_in crumbs seat.number) seat.passed line) none)
