-- A walk through the calls of a source, in the order of the text (docs/CODE.md, "Copies of functions"). At each call a rule says which
-- name stands there from now on, and the walk goes on with what the rule keeps in mind.
use Rattle.std.specs.Prelude.{ℕ, List, [], ◌∷◌, ◌++◌, Option, None, Some}
use Rattle.lq_tree.specs.declared.expr.Expr.{Expr, Num, Var, Neg', Not', Bin', Index', Deref', Arrow', Dot', Call' as CallExpr', Calloc', Row_of-Expr, end_of-Expr, more_of-Expr}
use Rattle.lq_tree.specs.declared.stmt.StmtKind.{StmtKind, Empty, Block', Local, Set, Store, Call, If', While', For', Return, Print, Cobegin', Foreach', Row_of-Stmt, end_of-Stmt, more_of-Stmt, Row_of-Arm, end_of-Arm, more_of-Arm, None', Some', Held-StmtKind-If-1}
use Rattle.lq_tree.specs.declared.stmt.Arm.{Arm, Arm'}
use Rattle.lq_tree.specs.declared.stmt.Stmt.{Stmt}
use Rattle.lq_tree.specs.declared.program.Func.{Func}

-- the bytes of a name
abbrev pub Name : Type 0
Name = List ℕ

-- what the rule says at a call of a function: the name that stands there, and what is kept in mind
abbrev pub Naming : Type 0 → Type 0
Naming S = Name → S → Name × S

-- an expression
abbrev mutual
  pub named : {S : Type 0} → Naming S → Expr → S → Expr × S
  named take (Num n) s = (Num n, s)
  named take (Var name) s = (Var name, s)
  named take (Neg' p a) s = let e = named_row take a s in (Neg' p e.0, e.1)
  named take (Not' p a) s = let e = named_row take a s in (Not' p e.0, e.1)
  named take (Bin' op p a q b) s = let left = named_row take a s in let right = named_row take b left.1 in (Bin' op p left.0 q right.0, right.1)
  named take (Index' p a q b) s = let base = named_row take a s in let index = named_row take b base.1 in (Index' p base.0 q index.0, index.1)
  named take (Deref' p a) s = let e = named_row take a s in (Deref' p e.0, e.1)
  named take (Arrow' p a field) s = let e = named_row take a s in (Arrow' p e.0 field, e.1)
  named take (Dot' p a field) s = let e = named_row take a s in (Dot' p e.0 field, e.1)
  named take (CallExpr' f n args) s = let first = take f s in let others = named_row take args first.1 in (CallExpr' first.0 n others.0, others.1)
  named take (Calloc' p a type) s = let e = named_row take a s in (Calloc' p e.0 type, e.1)

  -- from left to right
  pub named_row : {S : Type 0} {n : _} → Naming S → Row_of-Expr n → S → Row_of-Expr n × S
  named_row take end_of-Expr s = (end_of-Expr, s)
  named_row take (more_of-Expr e rest) s = let first = named take e s in let others = named_row take rest first.1 in (more_of-Expr first.0 others.0, others.1)

-- the arguments of a call that is a statement
abbrev pub named_list : {S : Type 0} → Naming S → List Expr → S → List Expr × S
named_list take [] s = ([], s)
named_list take (e ∷ args) s = let first = named take e s in let others = named_list take args first.1 in (first.0 ∷ others.0, others.1)

-- an expression that may be missing
abbrev pub named_option : {S : Type 0} → Naming S → Option Expr → S → Option Expr × S
named_option take None s = (None, s)
named_option take (Some e) s = let given = named take e s in (Some given.0, given.1)

-- a statement
abbrev mutual
  pub statement : {S : Type 0} → Naming S → StmtKind → S → StmtKind × S
  statement take Empty s = (Empty, s)
  statement take (Block' n body) s = let inner = row take body s in (Block' n inner.0, inner.1)
  statement take (Local type name e) s = let value = named_option take e s in (Local type name value.0, value.1)
  statement take (Set name e) s = let value = named take e s in (Set name value.0, value.1)
  statement take (Store target e) s = let into = named take target s in let value = named take e into.1 in (Store into.0 value.0, value.1)
  statement take (Call f args) s = let first = take f s in let others = named_list take args first.1 in (Call first.0 others.0, others.1)
  statement take (If' n arms other) s = let first = named_arms take arms s in let last = held take other first.1 in (If' n first.0 last.0, last.1)
  statement take (While' e p body) s = let test = named take e s in let turn = row take body test.1 in (While' test.0 p turn.0, turn.1)
  statement take (For' first e third p body) s =
      let begun = held take first s in
      let test = named_option take e begun.1 in
      let last = held take third test.1 in
      let turn = row take body last.1 in
      (For' begun.0 test.0 last.0 p turn.0, turn.1)
  statement take (Return e) s = let value = named_option take e s in (Return value.0, value.1)
  statement take (Print e) s = let value = named take e s in (Print value.0, value.1)
  statement take (Cobegin' n blocks) s = let inner = row take blocks s in (Cobegin' n inner.0, inner.1)
  statement take (Foreach' index low high step p body) s =
      let from = named take low s in
      let to = named take high from.1 in
      let turn = row take body to.1 in
      (Foreach' index from.0 to.0 step p turn.0, turn.1)

  -- one statement after another
  pub row : {S : Type 0} {n : _} → Naming S → Row_of-Stmt n → S → Row_of-Stmt n × S
  row take end_of-Stmt s = (end_of-Stmt, s)
  row take (more_of-Stmt at kind rest) s = let first = statement take kind s in let others = row take rest first.1 in (more_of-Stmt at first.0 others.0, others.1)

  -- a statement that may be missing
  pub held : {S : Type 0} → Naming S → Held-StmtKind-If-1 → S → Held-StmtKind-If-1 × S
  held take None' s = (None', s)
  held take (Some' p other) s = let inner = row take other s in (Some' p inner.0, inner.1)

  -- the arms of an `if`: of each the condition, and then its body
  pub named_arms : {S : Type 0} {n : _} → Naming S → Row_of-Arm n → S → Row_of-Arm n × S
  named_arms take end_of-Arm s = (end_of-Arm, s)
  named_arms take (more_of-Arm arm rest) s = let first = named_arm take arm s in let others = named_arms take rest first.1 in (more_of-Arm first.0 others.0, others.1)

  pub named_arm : {S : Type 0} → Naming S → Arm → S → Arm × S
  named_arm take (Arm' e p body) s = let test = named take e s in let inner = row take body test.1 in (Arm' test.0 p inner.0, inner.1)

-- the statements of a body
abbrev pub body : {S : Type 0} → Naming S → List Stmt → S → List Stmt × S
body take [] s = ([], s)
body take (stmt ∷ rest) s =
    let first = statement take stmt.kind s in
    let others = body take rest first.1 in
    (record { at = stmt.at; kind = first.0 } ∷ others.0, others.1)

-- a function
abbrev pub function : {S : Type 0} → Naming S → Func → S → Func × S
function take f s = let inner = body take f.body s in (record f { body = inner.0 }, inner.1)

-- the names of the functions that a function calls, in the order of the text
abbrev pub calls : Func → List Name
calls f = (function (λ name names. (name, names ++ name ∷ [])) f []).1
