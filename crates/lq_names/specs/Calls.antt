-- Which functions may print and which may allocate (docs/LANGUAGE.md, "Name rules").
use Rattle.std.specs.Prelude.{ℕ, Bool, true, false, not, ◌&&◌, ◌||◌, List, Option, None, Some, IsTrue}
use Rattle.std.specs.List.{list_any}
use Rattle.lq_tree.specs.declared.expr.Expr.{Expr, out-Expr}
use Rattle.lq_tree.specs.declared.expr.Expr.TheOpen as node
use Rattle.lq_tree.specs.declared.stmt.Stmt.{Stmt}
use Rattle.lq_tree.specs.declared.stmt.StmtKind.{StmtKind, out-StmtKind}
use Rattle.lq_tree.specs.declared.stmt.StmtKind.TheOpen as form
use Rattle.lq_tree.specs.declared.program.Program.{Program}
use Rattle.lq_tree.specs.declared.program.Func.{Func}
use Rattle.lq_names.specs.declared.effects.Effect.{Effect}
use Rattle.lq_names.specs.declared.effects.Effect.TheVariants.{Prints, Allocates}
use Rattle.lq_names.specs.Scopes.{function_of}
use Rattle.lq_names.specs.Rules.{Node}
use Rattle.lq_tree.specs.Walk.{nodes, statements, Form, some_value}
use Rattle.lq_names.specs.Sites.{Placed}

-- it is printing
abbrev pub is_print : Effect → Bool
is_print Prints = true
is_print Allocates = false

-- it is allocating
abbrev pub is_calloc : Effect → Bool
is_calloc Prints = false
is_calloc Allocates = true

-- a node is a `calloc`, or a call of one of these functions
abbrev pub node_does : Effect → (List ℕ → Bool) → Node → Bool
node_does effect set (node.Call f args) = set f
node_does effect set (node.Calloc e type) = is_calloc effect
node_does effect set _ = false

-- a statement itself is a `print`, or a call of one of these functions
abbrev pub form_does : Effect → (List ℕ → Bool) → Form → Bool
form_does effect set (form.Print e) = is_print effect
form_does effect set (form.Call f args) = set f
form_does effect set _ = false

-- an expression has such a node
abbrev pub expression_does : Effect → (List ℕ → Bool) → Expr → Bool
expression_does effect set e = list_any (λ (n : Expr). node_does effect set (out-Expr n)) (nodes e)

-- a statement, or an expression that stands in it
abbrev pub statement_does : Effect → (List ℕ → Bool) → Form → Bool
statement_does effect set f = form_does effect set f || some_value (expression_does effect set) f

-- what stands as a statement, with its expressions
abbrev pub kind_does : Effect → (List ℕ → Bool) → StmtKind → Bool
kind_does effect set kind = statement_does effect set (out-StmtKind kind)

-- a statement at its site
abbrev pub placed_does : Effect → (List ℕ → Bool) → Placed → Bool
placed_does effect set p = kind_does effect set p.kind

-- a statement of the function, at any depth
abbrev pub function_does : Effect → (List ℕ → Bool) → Option Func → Bool
function_does effect set None = false
function_does effect set (Some f) = list_any (λ (s : Stmt). kind_does effect set s.kind) (statements f.body)

-- the function belongs to the set and isn't in it
abbrev pub is_missing : Program → Effect → (List ℕ → Bool) → Func → Bool
is_missing p effect set f = not (set f.name) && function_does effect set (function_of p.funcs f.name)

-- the set is closed under calls: it has each function that prints or allocates itself, or calls one of the set
abbrev pub IsClosed : Program → Effect → (List ℕ → Bool) → Type 0
IsClosed p effect set = (name : List ℕ) → IsTrue (function_does effect set (function_of p.funcs name)) → IsTrue (set name)

-- the functions that may print, or may allocate: the least set that is closed under calls
pub record IsLeast (p : Program) (effect : Effect) (set : List ℕ → Bool) : Type 0 where
  pub closed : IsClosed p effect set
  pub least : (other : List ℕ → Bool) → IsClosed p effect other → (name : List ℕ) → IsTrue (set name) → IsTrue (other name)
