-- Short words for plain trees. A list stands for each row of the tree.
use Prim.Native.String.{String}
use Rattle.std.specs.Prelude.{ℕ, ℤ, pos, List, [], ◌∷◌, Option, None, Some, codes}
use Rattle.lq_tree.specs.declared.expr.CType.{CType}
use Rattle.lq_tree.specs.declared.expr.BinOp.{BinOp}
use Rattle.lq_tree.specs.declared.plain.PExpr.{PExpr, Num, Neg', Not', Bin', Shift', IsNull', Row_of-PExpr, end_of-PExpr, more_of-PExpr}
use Rattle.lq_tree.specs.declared.plain.PKind.{PKind, If', While', Cobegin', Row_of-PStmt, end_of-PStmt, more_of-PStmt, Row_of-Branch, end_of-Branch, more_of-Branch}
use Rattle.lq_tree.specs.declared.plain.PStmt.{PStmt}
use Rattle.lq_tree.specs.declared.plain.Branch.{Branch, Branch'}
use Rattle.lq_tree.specs.declared.plain.Slot.{Slot}
use Rattle.lq_tree.specs.declared.plain.PFunc.{PFunc}
use Rattle.lq_tree.specs.declared.plain.PProgram.{PProgram}
use Rattle.lq_tree.specs.declared.program.StructDef.{StructDef}
use Rattle.lq_tree.proofs.worked.SourceWords.{shape, count, at}

-- expressions
abbrev exprs : (es : List PExpr) → Row_of-PExpr (count es)
exprs [] = end_of-PExpr
exprs (e ∷ es) = more_of-PExpr e (exprs es)

abbrev pub num : ℕ → PExpr
num n = Num (pos n)

abbrev pub neg : PExpr → PExpr
neg e = Neg' _ (exprs (e ∷ []))

abbrev pub not : PExpr → PExpr
not e = Not' _ (exprs (e ∷ []))

abbrev pub bin : BinOp → (left right : PExpr) → PExpr
bin op left right = Bin' op _ (exprs (left ∷ [])) _ (exprs (right ∷ []))

abbrev pub shift : (pointer distance : PExpr) → PExpr
shift pointer distance = Shift' _ (exprs (pointer ∷ [])) _ (exprs (distance ∷ []))

abbrev pub is_null : PExpr → PExpr
is_null e = IsNull' _ (exprs (e ∷ []))

-- statements
abbrev pub stmt : (line col : ℕ) → PKind → PStmt
stmt line col kind = record { at = at line col; kind = kind }

abbrev stmts : (ss : List PStmt) → Row_of-PStmt (count ss)
stmts [] = end_of-PStmt
stmts (s ∷ ss) = more_of-PStmt s.at s.kind (stmts ss)

abbrev pub if_else : PExpr → (first second : List PStmt) → PKind
if_else condition first second = If' condition (shape first) (stmts first) (shape second) (stmts second)

abbrev pub while : (head : List PStmt) → PExpr → (body : List PStmt) → PKind
while head condition body = While' (shape head) (stmts head) condition (shape body) (stmts body)

abbrev pub branch : (line col : ℕ) → List PStmt → Branch
branch line col body = Branch' (at line col) (shape body) (stmts body)

abbrev branches : (bs : List Branch) → Row_of-Branch (count bs)
branches [] = end_of-Branch
branches (b ∷ bs) = more_of-Branch b (branches bs)

abbrev pub cobegin : List Branch → PKind
cobegin bs = Cobegin' (shape bs) (branches bs)

-- slots, functions and programs
abbrev pub Slots : Type 0
Slots = List Slot

abbrev pub named : String → CType → Slot
named name type = record { name = Some (codes name); ctype = type }

abbrev pub unnamed : CType → Slot
unnamed type = record { name = None; ctype = type }

abbrev pub func : (line col : ℕ) → Option CType → String → (params : ℕ) → Slots → List PStmt → PFunc
func line col result name params slots body =
    record { at = at line col; result = result; name = codes name; params = params; slots = slots; body = body }

abbrev pub program : List StructDef → List PFunc → (main : ℕ) → (factors : List ℤ) → PProgram
program structs funcs main factors = record { structs = structs; funcs = funcs; main = main; factors = factors }
