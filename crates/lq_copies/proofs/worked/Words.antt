-- Short functions without parameters.
use Prim.Native.String.{String}
use Rattle.std.specs.Prelude.{ℕ, List, [], None, Some}
use Rattle.lq_tree.specs.declared.stmt.Stmt.{Stmt}
use Rattle.lq_tree.specs.declared.program.Func.{Func}
use Rattle.lq_meaning.proofs.worked.SourceWords.{int, stmt, call_statement, func}

-- a call without arguments
abbrev pub calling : (line col : ℕ) → String → Stmt
calling line col name = stmt line col (call_statement name [])

-- a void function in a line
abbrev pub void : (line : ℕ) → String → List Stmt → Func
void line name body = func line 1 None name [] body

-- the function `main`
abbrev pub main : (line : ℕ) → List Stmt → Func
main line body = func line 1 (Some (int 0)) "main" [] body
