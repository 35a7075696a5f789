-- The layers of the forms of statements.
use Rattle.std.proofs.Common.{◌≡◌, ℕ, ℤ, List, rules}
use Rattle.lq_tree.specs.declared.expr.Expr.{Expr}
use Rattle.lq_tree.specs.declared.stmt.Stmt.{Stmt}
use Rattle.lq_tree.specs.declared.stmt.StmtKind.{Foreach, out-StmtKind, the_lemmas}
use Rattle.lq_tree.specs.declared.stmt.StmtKind.TheOpen as layer

pub out_foreach : (index : List ℕ) (low high : Expr) (step : ℤ) (body : Stmt) → out-StmtKind (Foreach index low high step body) ≡ layer.Foreach index low high step body
out_foreach index low high step body = search (rules, the_lemmas)
