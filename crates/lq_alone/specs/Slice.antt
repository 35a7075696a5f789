-- The source tree that a slice is (docs/LANGUAGE.md, "The slice").
use Rattle.std.specs.Prelude.{ℕ, pos, List, [], ◌∷◌, ◌++◌, map, Some, codes}
use Rattle.lq_tree.specs.declared.expr.Base.TheVariants.{Int}
use Rattle.lq_tree.specs.declared.expr.CType.{CType}
use Rattle.lq_tree.specs.declared.expr.Expr.{Expr, Num, Var, Index, Calloc}
use Rattle.lq_tree.specs.declared.stmt.StmtKind.{Block, Local, Store, Print, Return, Cobegin}
use Rattle.lq_tree.specs.declared.stmt.Stmt.{Stmt}
use Rattle.lq_tree.specs.declared.program.Program.{Program}
use Rattle.lq_alone.specs.declared.slice.Store.{Store as Stored}
use Rattle.lq_alone.specs.declared.slice.Step.{Step}
use Rattle.lq_alone.specs.declared.slice.Step.TheVariants.{Store as StoreStep, Print as PrintStep}
use Rattle.lq_alone.specs.declared.slice.Block.{Block as Branch}
use Rattle.lq_alone.specs.declared.slice.Slice.{Slice}

abbrev pub int : CType
int = record { base = Int; stars = 0 }

abbrev pub pointer_to_int : CType
pointer_to_int = record { base = Int; stars = 1 }

-- a source by the name of the array in it
module _ (name : List ℕ) where
  abbrev pub element : ℕ → Expr
  element index = Index (Var name) (Num (pos index))

  abbrev pub store_statement : Stored → Stmt
  store_statement s = record { at = s.at; kind = Store (element s.index) (Num s.value) }

  abbrev pub step_statement : Step → Stmt
  step_statement (StoreStep s) = store_statement s
  step_statement (PrintStep at index) = record { at = at; kind = Print (element index) }

  abbrev pub block_statement : Branch → Stmt
  block_statement b = record { at = b.at; kind = Block (map store_statement b.stores) }

  abbrev pub declaration : Slice → Stmt
  declaration s = record { at = s.declaration; kind = Local pointer_to_int name (Some (Calloc (Num (pos s.count)) int)) }

  abbrev pub fork : Slice → Stmt
  fork s = record { at = s.fork; kind = Cobegin (block_statement s.left ∷ block_statement s.right ∷ []) }

  abbrev pub last : Slice → Stmt
  last s = record { at = s.end; kind = Return (Some (Num (pos 0))) }

  -- the statements of `main`
  abbrev pub body : Slice → List Stmt
  body s = declaration s ∷ (map store_statement s.before ++ (fork s ∷ (map step_statement s.after ++ last s ∷ [])))

  -- the whole source: one function
  abbrev pub program : Slice → Program
  program s =
      record {
        structs = [];
        funcs = record { at = s.main; result = Some int; name = codes "main"; params = []; body = body s } ∷ [];
      }
