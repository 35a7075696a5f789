-- Every statement of a function with the site at which it stands.
use Rattle.std.specs.Prelude.{ℕ, List, [], ◌∷◌, ◌++◌, Option, None, Some}
use Rattle.std.specs.List.{flat_map}
use Rattle.lq_tree.specs.declared.place.Place.{Place}
use Rattle.lq_tree.specs.declared.stmt.StmtKind.{StmtKind, Block', Local, If', While', For', Cobegin', Foreach', Row_of-Stmt, end_of-Stmt, more_of-Stmt, Row_of-Arm, end_of-Arm, more_of-Arm, None', Some', Held-StmtKind-If-1}
use Rattle.lq_tree.specs.declared.stmt.Stmt.{Stmt}
use Rattle.lq_tree.specs.declared.stmt.Arm.{Arm, Arm', out-Arm}
use Rattle.lq_names.specs.Scopes.{Site, Number, declared, declare, in_parallel}

-- a statement and where it stands
pub record Placed : Type 0 where
  pub site : Site
  pub at : Place
  pub kind : StmtKind

-- the site behind a statement
abbrev pub after : Site → StmtKind → Site
after s (Local type name initial) = declare s name (declared type)
after s _ = s

-- the site behind the first part of a `for`
abbrev pub after_row : {n : _} → Site → Row_of-Stmt n → Site
after_row s end_of-Stmt = s
after_row s (more_of-Stmt at kind rest) = after s kind

-- the same of a first part that may be missing
abbrev pub after_first : Site → Held-StmtKind-If-1 → Site
after_first s None' = s
after_first s (Some' p first) = after_row s first

-- the site of an iteration of a `foreach`, whose index is declared outside
abbrev pub iteration : Site → (index : List ℕ) → Site
iteration s index = in_parallel (declare s index Number)

-- the statements at any depth, each with its site: a local is in scope from behind its declaration to the end of the
-- block or body around it, one of the head of a `for` to the end of that `for`, and an index in its block
unfoldable mutual
  pub sites : Site → Place → StmtKind → List Placed
  sites s at (Block' n body) = sites_row s body
  sites s at (If' n arms other) = record { site = s; at = at; kind = If' n arms other } ∷ sites_arms s arms ++ sites_held s other
  sites s at (While' e p body) = record { site = s; at = at; kind = While' e p body } ∷ sites_row s body
  sites s at (For' first e third p body) =
      let inner = after_first s first in
      sites_held s first ++ (record { site = inner; at = at; kind = For' first e third p body } ∷ sites_held inner third ++ sites_row inner body)
  sites s at (Cobegin' n blocks) = sites_each (in_parallel s) blocks
  sites s at (Foreach' index low high step p body) =
      record { site = s; at = at; kind = Foreach' index low high step p body } ∷ sites_row (iteration s index) body
  sites s at kind = record { site = s; at = at; kind = kind } ∷ []

  -- statements one after another
  pub sites_row : {n : _} → Site → Row_of-Stmt n → List Placed
  sites_row s end_of-Stmt = []
  sites_row s (more_of-Stmt at kind rest) = sites s at kind ++ sites_row (after s kind) rest

  -- blocks beside each other
  pub sites_each : {n : _} → Site → Row_of-Stmt n → List Placed
  sites_each s end_of-Stmt = []
  sites_each s (more_of-Stmt at kind rest) = sites s at kind ++ sites_each s rest

  -- the bodies of an `if`
  pub sites_arms : {n : _} → Site → Row_of-Arm n → List Placed
  sites_arms s end_of-Arm = []
  sites_arms s (more_of-Arm arm rest) = sites_arm s arm ++ sites_arms s rest

  -- one of them
  pub sites_arm : Site → Arm → List Placed
  sites_arm s (Arm' e p body) = sites_row s body

  -- a statement that may be missing
  pub sites_held : Site → Held-StmtKind-If-1 → List Placed
  sites_held s None' = []
  sites_held s (Some' p other) = sites_row s other

-- the same of a list of statements, of blocks beside each other, of the bodies of an `if`, and of what may be missing
abbrev pub sites_list : Site → List Stmt → List Placed
sites_list s [] = []
sites_list s (stmt ∷ rest) = sites s stmt.at stmt.kind ++ sites_list (after s stmt.kind) rest

-- one statement
abbrev pub sites_of : Site → Stmt → List Placed
sites_of s stmt = sites s stmt.at stmt.kind

-- blocks beside each other
abbrev pub sites_beside : Site → List Stmt → List Placed
sites_beside s blocks = flat_map (sites_of s) blocks

-- the bodies of an `if`
abbrev pub sites_of_bodies : Site → List Arm → List Placed
sites_of_bodies s arms = flat_map (λ (arm : Arm). sites_of s (out-Arm arm).body) arms

-- a statement that may be missing
abbrev pub sites_of_other : Site → Option Stmt → List Placed
sites_of_other s None = []
sites_of_other s (Some stmt) = sites_of s stmt

-- the site behind a statement that may be missing
abbrev pub after_other : Site → Option Stmt → Site
after_other s None = s
after_other s (Some stmt) = after s stmt.kind
