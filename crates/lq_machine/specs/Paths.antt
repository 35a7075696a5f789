-- The path of a line by the nodes above it (docs/LANGUAGE.md, "Races").
use Rattle.std.specs.Prelude.{ℕ, List, [], ◌∷◌, ◌++◌, Option, None, Some, slice_get}
use Rattle.lq_machine.specs.declared.machine.forest.Kind.{Kind}
use Rattle.lq_machine.specs.declared.machine.forest.Kind.TheVariants.{Fork}
use Rattle.lq_machine.specs.declared.machine.forest.Node.{Node}
use Rattle.lq_machine.specs.declared.machine.forest.Seat.{Seat}

-- the branch with this number below a path; the root of all is in no branch
abbrev pub into_branch : List ℕ → (number : ℕ) → List ℕ
into_branch [] number = []
into_branch (x ∷ path) number = (x ∷ path) ++ number ∷ []

-- a path down to a fork or a line
abbrev pub onto : List ℕ → Seat → List ℕ
onto path seat = into_branch path seat.number ++ seat.passed ∷ []

-- the fork at a node
abbrev pub fork_by : (node number passed : ℕ) → Kind → Option Seat
fork_by node number passed (Fork line children) = Some (record { node = node; number = number; passed = passed })
fork_by node number passed kind = None

abbrev pub fork_seat : (node : ℕ) → Option Node → Option Seat
fork_seat node None = None
fork_seat node (Some found) = fork_by node found.number found.passed found.kind

-- a path down through a node
abbrev pub through : List ℕ → Option Seat → List ℕ
through path None = path
through path (Some fork) = onto path fork

-- and through the nodes of a way
abbrev pub through_all : List Node → List ℕ → (nodes_above : List ℕ) → List ℕ
through_all nodes path [] = path
through_all nodes path (node ∷ nodes_above) = through_all nodes (through path (fork_seat node (slice_get nodes node))) nodes_above
