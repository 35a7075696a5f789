-- The walk over a source: the statements of a body at any depth, in the order of the text, and their expressions.
use Rattle.std.specs.Prelude.{Bool, false, ◌||◌, List, [], ◌∷◌, ◌++◌, map, Some}
use Rattle.std.specs.List.{list_any, flat_map}
use Rattle.lq_tree.specs.declared.place.Place.{Place}
use Rattle.lq_tree.specs.declared.expr.Expr.{Expr, Num, Var, Neg', Not', Bin', Index', Deref', Arrow', Dot', Call' as CallExpr', Calloc', Row_of-Expr, end_of-Expr, more_of-Expr}
use Rattle.lq_tree.specs.declared.stmt.Arm.{Arm, Arm', out-Arm}
use Rattle.lq_tree.specs.declared.stmt.Stmt.{Stmt}
use Rattle.lq_tree.specs.declared.stmt.StmtKind.{StmtKind, out-StmtKind, Block', If', While', For', Cobegin', Foreach', Row_of-Stmt, end_of-Stmt, more_of-Stmt, Row_of-Arm, end_of-Arm, more_of-Arm, None', Some', Held-StmtKind-If-1}
use Rattle.lq_tree.specs.declared.stmt.StmtKind.TheOpen.{StmtKind-F, Local, Set, Store, Call, If, While, For, Return, Print, Foreach}

-- the nodes of an expression: itself and its parts at any depth
unfoldable mutual
  pub nodes : Expr → List Expr
  nodes (Num n) = Num n ∷ []
  nodes (Var name) = Var name ∷ []
  nodes (Neg' p a) = Neg' p a ∷ nodes_row a
  nodes (Not' p a) = Not' p a ∷ nodes_row a
  nodes (Bin' op p a q b) = Bin' op p a q b ∷ nodes_row a ++ nodes_row b
  nodes (Index' p a q b) = Index' p a q b ∷ nodes_row a ++ nodes_row b
  nodes (Deref' p a) = Deref' p a ∷ nodes_row a
  nodes (Arrow' p a field) = Arrow' p a field ∷ nodes_row a
  nodes (Dot' p a field) = Dot' p a field ∷ nodes_row a
  nodes (CallExpr' f n args) = CallExpr' f n args ∷ nodes_row args
  nodes (Calloc' p a type) = Calloc' p a type ∷ nodes_row a

  -- of each expression of a row
  pub nodes_row : {n : _} → Row_of-Expr n → List Expr
  nodes_row end_of-Expr = []
  nodes_row (more_of-Expr e rest) = nodes e ++ nodes_row rest

-- a statement, with its parts
abbrev pub Form : Type 0
Form = StmtKind-F StmtKind Arm Stmt

-- the condition of an arm
abbrev pub condition : Arm → Expr
condition arm = (out-Arm arm).cond

-- the expressions that stand in a statement itself: each is used as a value
abbrev pub values : Form → List Expr
values (Local type name (Some e)) = e ∷ []
values (Set name e) = e ∷ []
values (Store target e) = target ∷ e ∷ []
values (Call f args) = args
values (If arms other) = map condition arms
values (While e body) = e ∷ []
values (For first (Some e) third body) = e ∷ []
values (Return (Some e)) = e ∷ []
values (Print e) = e ∷ []
values (Foreach index low high step body) = low ∷ high ∷ []
values _ = []

-- one of them passes a test
abbrev pub some_value : (Expr → Bool) → Form → Bool
some_value test (Local type name (Some e)) = test e
some_value test (Set name e) = test e
some_value test (Store target e) = test target || test e
some_value test (Call f args) = list_any test args
some_value test (If arms other) = list_any (λ (arm : Arm). test (condition arm)) arms
some_value test (While e body) = test e
some_value test (For first (Some e) third body) = test e
some_value test (Return (Some e)) = test e
some_value test (Print e) = test e
some_value test (Foreach index low high step body) = test low || test high
some_value test _ = false

-- a statement at its place
abbrev pub statement : Place → StmtKind → Stmt
statement at kind = record { at = at; kind = kind }

-- the statements inside a statement, at any depth
unfoldable mutual
  pub inside : StmtKind → List Stmt
  inside (Block' n body) = within_row body
  inside (If' n arms other) = within_arms arms ++ within_held other
  inside (While' e p body) = within_row body
  inside (For' first e third p body) = within_held first ++ within_held third ++ within_row body
  inside (Cobegin' n blocks) = within_row blocks
  inside (Foreach' index low high step p body) = within_row body
  inside _ = []

  -- each with those inside it
  pub within_row : {n : _} → Row_of-Stmt n → List Stmt
  within_row end_of-Stmt = []
  within_row (more_of-Stmt at kind rest) = statement at kind ∷ inside kind ++ within_row rest

  -- of the bodies of an `if`
  pub within_arms : {n : _} → Row_of-Arm n → List Stmt
  within_arms end_of-Arm = []
  within_arms (more_of-Arm arm rest) = within_arm arm ++ within_arms rest

  -- of one of them
  pub within_arm : Arm → List Stmt
  within_arm (Arm' e p body) = within_row body

  -- of a statement that may be missing
  pub within_held : Held-StmtKind-If-1 → List Stmt
  within_held None' = []
  within_held (Some' p other) = within_row other

-- the statements of a body
abbrev pub statements : List Stmt → List Stmt
statements body = flat_map (λ (s : Stmt). s ∷ inside s.kind) body

-- the expressions that stand in the statements of a body
abbrev pub expressions : List Stmt → List Expr
expressions body = flat_map (λ (s : Stmt). values (out-StmtKind s.kind)) (statements body)
