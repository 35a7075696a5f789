-- What a source that breaks no name rule has, as far as the plain form goes by it; by recursion on the tree.
use Rattle.std.specs.Prelude.{◌≡◌, ℕ, Bool, true, false, List, [], ◌∷◌, ◌++◌, length, map, Option, None, Some, codes}
use Rattle.std.specs.List.{AllByRecursion}
use Rattle.lq_tree.specs.declared.expr.BinOp.{BinOp}
use Rattle.lq_tree.specs.declared.expr.BinOp.TheVariants.{Eq, Ne}
use Rattle.lq_tree.specs.declared.expr.Expr.{Expr, Num, Var, Neg', Not', Bin', Index', Deref', Arrow', Dot', Call' as CallExpr', Calloc', Row_of-Expr, end_of-Expr, more_of-Expr}
use Rattle.lq_tree.specs.declared.stmt.StmtKind.{StmtKind, Empty, Block', Local as Declare, Set, Store, Call, If', While', For', Print, Return, Cobegin', Foreach', Row_of-Stmt, end_of-Stmt, more_of-Stmt, Row_of-Arm, end_of-Arm, more_of-Arm, None', Some', Held-StmtKind-If-1}
use Rattle.lq_tree.specs.declared.stmt.Stmt.{Stmt}
use Rattle.lq_tree.specs.declared.stmt.Arm.{Arm, Arm'}
use Rattle.lq_tree.specs.declared.program.Func.{Func}
use Rattle.lq_tree.specs.declared.program.Param.{Param}
use Rattle.lq_tree.specs.declared.program.Program.{Program}
use Rattle.lq_tree.specs.Lookup.{function_of}
use Rattle.lq_tree.specs.Types.{Ty, Number, Variable, declared, is_in_scope, is_pointer, row_type, count_row}
use Rattle.lq_plain.specs.Flat.{is_zero}
use Rattle.lq_plain.specs.Places.{is_place}

abbrev pub is_place_row : {n : _} → Row_of-Expr n → Bool
is_place_row end_of-Expr = false
is_place_row (more_of-Expr e rest) = is_place e

abbrev pub is_zero_row : {n : _} → Row_of-Expr n → Bool
is_zero_row end_of-Expr = false
is_zero_row (more_of-Expr e rest) = is_zero e

-- beside a pointer stands the literal 0
abbrev pub IsZeroBeside : {n : _} → Ty → Row_of-Expr n → Type 0
IsZeroBeside type other = is_pointer type ≡ true → is_zero_row other ≡ true

-- a pointer is compared with the literal 0 alone
abbrev pub AreCompared : {m n : _} → BinOp → (left right : Ty) → Row_of-Expr m → Row_of-Expr n → Type 0
AreCompared Eq left right a b = IsZeroBeside left b × IsZeroBeside right a
AreCompared Ne left right a b = IsZeroBeside left b × IsZeroBeside right a
AreCompared op left right a b = Unit {0}

-- there is such a function, and it takes so many arguments
abbrev pub Takes : Option Func → ℕ → Type 0
Takes None count = ⊥
Takes (Some f) count = length f.params ≡ count

-- an expression where these variables are in scope
abbrev mutual
  pub IsRegular : Program → List Variable → Expr → Type 0
  IsRegular p scope (Num n) = Unit {0}
  IsRegular p scope (Var name) = is_in_scope scope name ≡ true
  IsRegular p scope (Neg' q a) = IsRegularPart p scope a
  IsRegular p scope (Not' q a) = IsRegularPart p scope a
  IsRegular p scope (Bin' op q a r b) = IsRegularPart p scope a × IsRegularPart p scope b × AreCompared op (row_type p scope a) (row_type p scope b) a b
  IsRegular p scope (Index' q a r i) = IsRegularPart p scope a × IsRegularPart p scope i × is_pointer (row_type p scope a) ≡ true
  IsRegular p scope (Deref' q a) = IsRegularPart p scope a × is_pointer (row_type p scope a) ≡ true
  IsRegular p scope (Arrow' q a field) = IsRegularPart p scope a × is_pointer (row_type p scope a) ≡ true
  IsRegular p scope (Dot' q a field) = IsRegularPart p scope a × is_place_row a ≡ true
  IsRegular p scope (CallExpr' f q args) = AreRegular p scope args × Takes (function_of p.funcs f) (count_row args)
  IsRegular p scope (Calloc' q a type) = IsRegularPart p scope a

  -- the one expression of a box
  pub IsRegularPart : {n : _} → Program → List Variable → Row_of-Expr n → Type 0
  IsRegularPart p scope end_of-Expr = ⊥
  IsRegularPart p scope (more_of-Expr e rest) = IsRegular p scope e

  -- arguments
  pub AreRegular : {n : _} → Program → List Variable → Row_of-Expr n → Type 0
  AreRegular p scope end_of-Expr = Unit {0}
  AreRegular p scope (more_of-Expr e rest) = IsRegular p scope e × AreRegular p scope rest

-- an expression that may be missing
abbrev pub IsRegularOption : Program → List Variable → Option Expr → Type 0
IsRegularOption p scope None = Unit {0}
IsRegularOption p scope (Some e) = IsRegular p scope e

-- the variables in scope behind a statement
abbrev pub variables_behind : List Variable → StmtKind → List Variable
variables_behind scope (Declare type name e) = scope ++ record { name = name; type = declared type } ∷ []
variables_behind scope kind = scope

abbrev pub variables_behind_row : {n : _} → List Variable → Row_of-Stmt n → List Variable
variables_behind_row scope end_of-Stmt = scope
variables_behind_row scope (more_of-Stmt at kind rest) = variables_behind scope kind

abbrev pub variables_behind_held : List Variable → Held-StmtKind-If-1 → List Variable
variables_behind_held scope None' = scope
variables_behind_held scope (Some' q first) = variables_behind_row scope first

-- a statement where these variables are in scope
abbrev mutual
  pub IsRegularStatement : Program → List Variable → StmtKind → Type 0
  IsRegularStatement p scope Empty = Unit {0}
  IsRegularStatement p scope (Block' n body) = AreRegularStatements p scope body
  IsRegularStatement p scope (Declare type name e) = IsRegularOption p scope e
  IsRegularStatement p scope (Set name e) = is_in_scope scope name ≡ true × IsRegular p scope e
  IsRegularStatement p scope (Store into e) = IsRegular p scope into × is_place into ≡ true × IsRegular p scope e
  IsRegularStatement p scope (Call f args) = AllByRecursion (IsRegular p scope) args × Takes (function_of p.funcs f) (length args)
  IsRegularStatement p scope (If' n arms other) = AreRegularArms p scope arms × IsRegularHeld p scope other
  IsRegularStatement p scope (While' e q body) = IsRegular p scope e × AreRegularStatements p scope body
  IsRegularStatement p scope (For' first e third q body) =
      IsRegularHeld p scope first × IsRegularOption p (variables_behind_held scope first) e
      × IsRegularHeld p (variables_behind_held scope first) third × AreRegularStatements p (variables_behind_held scope first) body
  IsRegularStatement p scope (Print e) = IsRegular p scope e
  IsRegularStatement p scope (Return e) = IsRegularOption p scope e
  IsRegularStatement p scope (Cobegin' n blocks) = AreRegularBlocks p scope blocks
  IsRegularStatement p scope (Foreach' index low high step q body) =
      IsRegular p scope low × IsRegular p scope high × AreRegularStatements p (scope ++ record { name = index; type = Number } ∷ []) body

  -- one statement after another
  pub AreRegularStatements : {n : _} → Program → List Variable → Row_of-Stmt n → Type 0
  AreRegularStatements p scope end_of-Stmt = Unit {0}
  AreRegularStatements p scope (more_of-Stmt at kind rest) = IsRegularStatement p scope kind × AreRegularStatements p (variables_behind scope kind) rest

  -- blocks beside each other
  pub AreRegularBlocks : {n : _} → Program → List Variable → Row_of-Stmt n → Type 0
  AreRegularBlocks p scope end_of-Stmt = Unit {0}
  AreRegularBlocks p scope (more_of-Stmt at kind rest) = IsRegularStatement p scope kind × AreRegularBlocks p scope rest

  -- the arms of an `if`
  pub AreRegularArms : {n : _} → Program → List Variable → Row_of-Arm n → Type 0
  AreRegularArms p scope end_of-Arm = Unit {0}
  AreRegularArms p scope (more_of-Arm arm rest) = IsRegularArm p scope arm × AreRegularArms p scope rest

  pub IsRegularArm : Program → List Variable → Arm → Type 0
  IsRegularArm p scope (Arm' e q body) = IsRegular p scope e × AreRegularStatements p scope body

  -- a statement that may be missing
  pub IsRegularHeld : Program → List Variable → Held-StmtKind-If-1 → Type 0
  IsRegularHeld p scope None' = Unit {0}
  IsRegularHeld p scope (Some' q body) = AreRegularStatements p scope body

-- the body of a function
abbrev pub IsRegularBody : Program → List Variable → List Stmt → Type 0
IsRegularBody p scope [] = Unit {0}
IsRegularBody p scope (s ∷ body) = IsRegularStatement p scope s.kind × IsRegularBody p (variables_behind scope s.kind) body

abbrev pub parameter : Param → Variable
parameter q = record { name = q.name; type = declared q.ctype }

abbrev pub IsRegularFunction : Program → Func → Type 0
IsRegularFunction p f = IsRegularBody p (map parameter f.params) f.body

-- `main` takes nothing, or the input and how many numbers it has
abbrev pub TakesInput : List Param → Type 0
TakesInput [] = Unit {0}
TakesInput (a ∷ []) = ⊥
TakesInput (a ∷ b ∷ []) = Unit {0}
TakesInput (a ∷ b ∷ q ∷ params) = ⊥

abbrev pub IsRegularEntry : Option Func → Type 0
IsRegularEntry None = Unit {0}
IsRegularEntry (Some f) = TakesInput f.params

abbrev pub IsRegularProgram : Program → Type 0
IsRegularProgram p = AllByRecursion (IsRegularFunction p) p.funcs × IsRegularEntry (function_of p.funcs (codes "main"))
