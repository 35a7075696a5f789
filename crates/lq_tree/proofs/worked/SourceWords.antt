-- Short words for the trees of sources. A list stands for each row of the tree.
use Prim.Native.String.{String}
use Rattle.std.specs.Prelude.{ℕ, pos, List, [], ◌∷◌, Option, None, Some, codes}
use mathlib.Core.Former.{Count, arity, list, this}
use Rattle.lq_tree.specs.declared.place.Place.{Place}
use Rattle.lq_tree.specs.declared.expr.Base.TheVariants.{Int, Struct}
use Rattle.lq_tree.specs.declared.expr.CType.{CType}
use Rattle.lq_tree.specs.declared.expr.BinOp.{BinOp}
use Rattle.lq_tree.specs.declared.expr.Expr.{Expr, Num, Var, Neg', Not', Bin', Index', Deref', Arrow', Dot', Call' as CallExpr', Calloc', Row_of-Expr, end_of-Expr, more_of-Expr}
use Rattle.lq_tree.specs.declared.stmt.StmtKind.{StmtKind, Block', Local, Set, Call, If', While', For', Cobegin', Foreach', Row_of-Stmt, end_of-Stmt, more_of-Stmt, Row_of-Arm, end_of-Arm, more_of-Arm, None', Some', Held-StmtKind-If-1}
use Rattle.lq_tree.specs.declared.stmt.Stmt.{Stmt}
use Rattle.lq_tree.specs.declared.stmt.Arm.{Arm, Arm'}
use Rattle.lq_tree.specs.declared.program.StructDef.{StructDef}
use Rattle.lq_tree.specs.declared.program.Param.{Param}
use Rattle.lq_tree.specs.declared.program.Func.{Func}
use Rattle.lq_tree.specs.declared.program.Program.{Program}

abbrev pub at : (line col : ℕ) → Place
at line col = record { line = line; col = col }

abbrev pub int : (stars : ℕ) → CType
int stars = record { base = Int; stars = stars }

abbrev pub struct : String → (stars : ℕ) → CType
struct name stars = record { base = Struct (codes name); stars = stars }

-- how long a row is
abbrev pub shape : {A : Type 0} → List A → List (Unit {0})
shape [] = []
shape (x ∷ xs) = tt ∷ shape xs

abbrev pub count : {A : Type 0} → List A → Count
count xs = arity (list this) (shape xs)

-- expressions
abbrev pub exprs : (es : List Expr) → Row_of-Expr (count es)
exprs [] = end_of-Expr
exprs (e ∷ es) = more_of-Expr e (exprs es)

abbrev pub num : ℕ → Expr
num n = Num (pos n)

abbrev pub var : String → Expr
var name = Var (codes name)

abbrev pub neg : Expr → Expr
neg e = Neg' _ (exprs (e ∷ []))

abbrev pub not : Expr → Expr
not e = Not' _ (exprs (e ∷ []))

abbrev pub bin : BinOp → (left right : Expr) → Expr
bin op left right = Bin' op _ (exprs (left ∷ [])) _ (exprs (right ∷ []))

abbrev pub index : (base index : Expr) → Expr
index base i = Index' _ (exprs (base ∷ [])) _ (exprs (i ∷ []))

abbrev pub deref : Expr → Expr
deref e = Deref' _ (exprs (e ∷ []))

abbrev pub arrow : Expr → String → Expr
arrow e field = Arrow' _ (exprs (e ∷ [])) (codes field)

abbrev pub dot : Expr → String → Expr
dot e field = Dot' _ (exprs (e ∷ [])) (codes field)

abbrev pub call : String → List Expr → Expr
call name args = CallExpr' (codes name) (shape args) (exprs args)

abbrev pub calloc : Expr → CType → Expr
calloc count type = Calloc' _ (exprs (count ∷ [])) type

-- statements
abbrev pub stmt : (line col : ℕ) → StmtKind → Stmt
stmt line col kind = record { at = at line col; kind = kind }

abbrev pub stmts : (ss : List Stmt) → Row_of-Stmt (count ss)
stmts [] = end_of-Stmt
stmts (s ∷ ss) = more_of-Stmt s.at s.kind (stmts ss)

abbrev pub block : List Stmt → StmtKind
block body = Block' (shape body) (stmts body)

abbrev pub local : CType → String → StmtKind
local type name = Local type (codes name) None

abbrev pub local_set : CType → String → Expr → StmtKind
local_set type name e = Local type (codes name) (Some e)

abbrev pub set : String → Expr → StmtKind
set name e = Set (codes name) e

abbrev pub call_statement : String → List Expr → StmtKind
call_statement name args = Call (codes name) args

abbrev pub held : Option Stmt → Held-StmtKind-If-1
held None = None'
held (Some s) = Some' _ (stmts (s ∷ []))

abbrev pub arm : Expr → Stmt → Arm
arm condition body = Arm' condition _ (stmts (body ∷ []))

abbrev pub arms : (as' : List Arm) → Row_of-Arm (count as')
arms [] = end_of-Arm
arms (a ∷ as') = more_of-Arm a (arms as')

abbrev pub if_arms : List Arm → Option Stmt → StmtKind
if_arms as' other = If' (shape as') (arms as') (held other)

abbrev pub while : Expr → Stmt → StmtKind
while condition body = While' condition _ (stmts (body ∷ []))

abbrev pub for : Option Stmt → Option Expr → Option Stmt → Stmt → StmtKind
for first condition third body = For' (held first) condition (held third) _ (stmts (body ∷ []))

abbrev pub cobegin : List Stmt → StmtKind
cobegin blocks = Cobegin' (shape blocks) (stmts blocks)

abbrev pub foreach : String → (low high : Expr) → (step : ℕ) → Stmt → StmtKind
foreach name low high step body = Foreach' (codes name) low high (pos step) _ (stmts (body ∷ []))

-- structs and functions
abbrev pub param : CType → String → Param
param type name = record { ctype = type; name = codes name }

abbrev pub struct_at : (line col : ℕ) → String → List Param → StructDef
struct_at line col name fields = record { at = at line col; name = codes name; fields = fields }

abbrev pub func : (line col : ℕ) → Option CType → String → List Param → List Stmt → Func
func line col result name params body = record { at = at line col; result = result; name = codes name; params = params; body = body }

abbrev pub program : List StructDef → List Func → Program
program structs funcs = record { structs = structs; funcs = funcs }
