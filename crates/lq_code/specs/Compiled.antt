-- The code of a plain program, with one case a plain form (docs/CODE.md, "Compiled code").
use Rattle.std.specs.Prelude.{ℕ, ◌+◌, ℤ, pos, nat_abs, List, [], ◌∷◌, ◌++◌, length, map, Option, None, Some}
use Rattle.lq_tree.specs.declared.place.Place.{Place}
use Rattle.lq_tree.specs.declared.expr.BinOp.{BinOp}
use Rattle.lq_tree.specs.declared.expr.BinOp.TheVariants.{Mul, Div, Rem, Add, Sub, Lt, Le, Gt, Ge, Eq, Ne, And, Or}
use Rattle.lq_tree.specs.declared.plain.PExpr.{PExpr, Num, Null, Slot, Neg', Not', Bin', Shift', IsNull', Row_of-PExpr, end_of-PExpr, more_of-PExpr}
use Rattle.lq_tree.specs.declared.plain.PKind.{PKind, Set, Load, Store, Calloc, Call, If', While', Cobegin', Foreach, Print, Return, Row_of-PStmt, end_of-PStmt, more_of-PStmt, Row_of-Branch, end_of-Branch, more_of-Branch}
use Rattle.lq_tree.specs.declared.plain.PStmt.{PStmt}
use Rattle.lq_tree.specs.declared.plain.Branch.{Branch, Branch'}
use Rattle.lq_tree.specs.declared.plain.PFunc.{PFunc}
use Rattle.lq_tree.specs.declared.plain.PProgram.{PProgram}
use Rattle.lq_tree.specs.declared.program.StructDef.{StructDef}
use Rattle.lq_tree.specs.Layout.{fields_of}
use Rattle.lq_code.specs.declared.op.Operator.{Operator}
use Rattle.lq_code.specs.declared.op.Operator.TheVariants as operator
use Rattle.lq_code.specs.declared.op.Op.TheVariants as op
use Rattle.lq_code.specs.declared.code.Instr.{Instr}
use Rattle.lq_code.specs.declared.code.CFunc.{CFunc}
use Rattle.lq_code.specs.declared.code.Code.{Code}
use Rattle.lq_code.specs.Parts.{Part, instr, nothing, one, ◌followed_by◌, choice, repeated}

-- 1 where the word of the part is true, and 0 where it is not
abbrev pub truth : Place → Part → Part
truth at part = part followed_by one at op.Not followed_by one at op.Not

-- an operator behind both its operands
abbrev pub both : Place → Operator → (left right : Part) → Part
both at o left right = left followed_by right followed_by one at (op.Bin o)

-- an operator; `&&` and `||` go by the left side, and come to the right one only where they have to
abbrev pub operated : Place → BinOp → (left right : Part) → Part
operated at And left right = choice at left (truth at right) (one at (op.Num (pos 0)))
operated at Or left right = choice at left (one at (op.Num (pos 1))) (truth at right)
operated at Mul left right = both at operator.Mul left right
operated at Div left right = both at operator.Div left right
operated at Rem left right = both at operator.Rem left right
operated at Add left right = both at operator.Add left right
operated at Sub left right = both at operator.Sub left right
operated at Lt left right = both at operator.Lt left right
operated at Le left right = both at operator.Le left right
operated at Gt left right = both at operator.Gt left right
operated at Ge left right = both at operator.Ge left right
operated at Eq left right = both at operator.Eq left right
operated at Ne left right = both at operator.Ne left right

-- an expression: its word is pushed
abbrev mutual
  pub expression : Place → PExpr → Part
  expression at (Num n) = one at (op.Num n)
  expression at Null = one at (op.Num (pos 0))
  expression at (Slot n) = one at (op.Get n)
  expression at (Neg' p e) = expression_row at e followed_by one at op.Neg
  expression at (Not' p e) = expression_row at e followed_by one at op.Not
  expression at (Bin' o p a q b) = operated at o (expression_row at a) (expression_row at b)
  expression at (Shift' p a q n) = expression_row at a followed_by expression_row at n followed_by one at op.Shift
  expression at (IsNull' p e) = expression_row at e followed_by one at op.IsNull

  -- the one expression of a box
  pub expression_row : {n : _} → Place → Row_of-PExpr n → Part
  expression_row at end_of-PExpr = nothing
  expression_row at (more_of-PExpr e rest) = expression at e

-- arguments, from left to right
abbrev pub arguments : Place → List PExpr → Part
arguments at [] = nothing
arguments at (e ∷ args) = expression at e followed_by arguments at args

-- what a Return gives
abbrev pub result : Place → Option PExpr → Part
result at None = one at (op.Num (pos 0))
result at (Some e) = expression at e

-- the branches of a `cobegin`: where each begins, and their code
pub record Branches : Type 0 where
  pub starts : List ℕ
  pub instrs : List Instr

abbrev pub no_branches : Branches
no_branches = record { starts = []; instrs = [] }

-- a branch in front of others, which begin where it ends
abbrev pub before : (from : ℕ) → (branch : List Instr) → Branches → Branches
before from branch others = record { starts = from ∷ others.starts; instrs = branch ++ others.instrs }

-- a Fork in front of its branches
abbrev pub forked : Place → (branches : ℕ → Branches) → Part
forked at branches from =
    let all = branches (from + 1) in instr at (op.Fork (from + 1 + length all.instrs) all.starts) ∷ all.instrs

-- an Each in front of its iteration
abbrev pub iterated : Place → (index : ℕ) → (step : ℤ) → (iteration : Part) → Part
iterated at index step iteration from =
    let inner = iteration (from + 1) in instr at (op.Each index (nat_abs step) (from + 1 + length inner)) ∷ inner

-- a statement of a program with these structs
abbrev mutual
  pub statement : List StructDef → Place → PKind → Part
  statement structs at (Set to e) = expression at e followed_by one at (op.Put to)
  statement structs at (Load to base index field) = expression at index followed_by one at (op.Load to base field)
  statement structs at (Store base index field e) =
      expression at index followed_by expression at e followed_by one at (op.Store base field)
  statement structs at (Calloc to count type) = expression at count followed_by one at (op.Calloc to (fields_of structs type))
  statement structs at (Call to function args) = arguments at args followed_by one at (op.Call to function)
  statement structs at (If' e n body m other) = choice at (expression at e) (list structs body) (list structs other)
  statement structs at (While' n head e m body) =
      repeated at (list structs head followed_by expression at e) (list structs body)
  statement structs at (Cobegin' n blocks) = forked at (branches structs at blocks)
  statement structs at (Foreach index low high step body) =
      expression at low followed_by expression at high followed_by iterated at index step (branch structs at body)
  statement structs at (Print e) = expression at e followed_by one at op.Print
  statement structs at (Return e) = result at e followed_by one at op.Return

  -- one statement after another
  pub list : {n : _} → List StructDef → Row_of-PStmt n → Part
  list structs end_of-PStmt = nothing
  list structs (more_of-PStmt at kind rest) = statement structs at kind followed_by list structs rest

  -- a branch of the parallel statement at a place, with its End
  pub branch : List StructDef → Place → Branch → Part
  branch structs at (Branch' inner n body) = list structs body followed_by one at op.End

  -- the branches of a `cobegin`
  pub branches : {n : _} → List StructDef → Place → Row_of-Branch n → (from : ℕ) → Branches
  branches structs at end_of-Branch from = no_branches
  branches structs at (more_of-Branch body rest) from =
      let first = branch structs at body from in before from first (branches structs at rest (from + length first))

-- the statements of a body
abbrev pub all : List StructDef → List PStmt → Part
all structs [] = nothing
all structs (s ∷ body) = statement structs s.at s.kind followed_by all structs body

-- a function: where its body ends, it gives 0, or null
abbrev pub function : List StructDef → PFunc → CFunc
function structs f =
    record {
      at = f.at;
      params = f.params;
      slots = length f.slots;
      instrs = (all structs f.body followed_by one f.at (op.Num (pos 0)) followed_by one f.at op.Return) 0;
    }

-- the code of a program
abbrev pub compiled : PProgram → Code
compiled p = record { funcs = map (function p.structs) p.funcs; main = p.main }
