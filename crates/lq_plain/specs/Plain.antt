-- The plain form of statements, functions and programs (docs/LANGUAGE.md, "Plain form"). The same names stand for the same
-- statements as in the meaning of a source.
use Rattle.std.specs.Prelude.{ℕ, suc, if◌then◌else◌, pos, List, [], ◌∷◌, length, map, Option, None, Some, codes}
use Rattle.lq_tree.specs.declared.place.Place.{Place}
use Rattle.lq_tree.specs.declared.expr.CType.{CType}
use Rattle.lq_tree.specs.declared.expr.Expr.{Expr}
use Rattle.lq_tree.specs.declared.stmt.StmtKind.{StmtKind, Empty, Block', Local as Declare, Set as Set', Store as Store', Call as Call', If', While', For', Print as Print', Return as Return', Cobegin', Foreach', Row_of-Stmt, end_of-Stmt, more_of-Stmt, Row_of-Arm, end_of-Arm, more_of-Arm, None', Some', Held-StmtKind-If-1}
use Rattle.lq_tree.specs.declared.stmt.Stmt.{Stmt}
use Rattle.lq_tree.specs.declared.stmt.Arm.{Arm, Arm'}
use Rattle.lq_tree.specs.declared.plain.PExpr.{PExpr, Num, Null}
use Rattle.lq_tree.specs.declared.plain.PKind.{PKind, Set, Store, Call, If, While, Cobegin, Foreach, Print, Return}
use Rattle.lq_tree.specs.declared.plain.Branch.{Branch, roll-Branch}
use Rattle.lq_tree.specs.declared.plain.Slot.{Slot}
use Rattle.lq_tree.specs.declared.plain.PFunc.{PFunc}
use Rattle.lq_tree.specs.declared.plain.PProgram.{PProgram}
use Rattle.lq_tree.specs.declared.program.Func.{Func}
use Rattle.lq_tree.specs.declared.program.Param.{Param}
use Rattle.lq_tree.specs.declared.program.Program.{Program}
use Rattle.lq_tree.specs.Lookup.{function_of, number_of}
use Rattle.lq_tree.specs.Types.{Ty, Number, declared, is_pointer, result_of}
use Rattle.lq_tree.specs.Locals.{Local, type_of_local}
use Rattle.lq_plain.specs.Factors.{factors}
use Rattle.lq_plain.specs.Flat.{Env, slot_of, type_of, Made, then_stands, with_slot, Valued, valued, Flat, Is, Names, Gets, load, atom, flat, operand, is_pure, int_type, Values, before, wanted, params_of, first_type, other_params, flatten}

-- the locals in scope behind a statement, and what has been made up to there
pub record Behind : Type 0 where
  pub scope : List (Local ℕ)
  pub made : Made

abbrev pub behind : Env → Made → Behind
behind env m = record { scope = env.scope; made = m }

-- a list of statements of its own begins with none, and goes on with the slots
abbrev pub fresh : List Slot → Made
fresh slots = record { slots = slots; front = [] }

-- one statement more, behind a list of its own
abbrev pub then_holds : Place → PKind → Made → List Slot → Made
then_holds at kind m slots = then_stands at kind (record { slots = slots; front = m.front })

-- an expression as a value, as an atom, and as a value that is wanted to be of a type
abbrev pub flat_of : Env → Place → Expr → Made → Valued
flat_of env at e m = flat at (type_of env e) (flatten env at e m)

abbrev pub atom_of : Env → Place → Expr → Made → Valued
atom_of env at e m = atom at (type_of env e) (flatten env at e m)

abbrev pub flat_as : Env → Place → Ty → Expr → Made → Valued
flat_as env at type e m = flat at (type_of env e) (wanted type e (flatten env at e m) m)

-- a local gets the word of an expression; a load, a call or a calloc goes into it directly
abbrev pub put : Place → ℕ → Flat → Made
put at to (Is v) = then_stands at (Set to v.value) v.made
put at to (Names base index field) = let i = atom at Number index in then_stands at (load base i field to) i.made
put at to (Gets kind m) = then_stands at (kind to) m

abbrev pub assigned : Env → Place → ℕ → Ty → Expr → Made → Made
assigned env at to type e m = put at to (wanted type e (flatten env at e m) m)

-- 0 or null
abbrev pub empty_of : Ty → PExpr
empty_of type = if is_pointer type then Null else Num (pos 0)

abbrev pub initial : Env → Place → ℕ → CType → Option Expr → Made → Made
initial env at to type None m = then_stands at (Set to (empty_of (declared type))) m
initial env at to type (Some e) m = assigned env at to (declared type) e m

-- A store to what an expression names: the index is a value where the word that is stored is pure, else an atom. A well-named
-- source stores to nothing that has no place.
abbrev pub stored : Env → Place → Ty → (word : Expr) → Flat → Made
stored env at type e (Names base index field) =
    let i = operand (is_pure e) at Number index in
    let v = flat_as env at type e i.made in
    then_stands at (Store base i.value field v.value) v.made
stored env at type e found =
    let v = flat_as env at type e (atom at type found).made in
    then_stands at (Store 0 (Num (pos 0)) 0 v.value) v.made

-- arguments of a call that is a statement, as atoms
abbrev pub arguments : Env → Place → List Param → List Expr → Made → Values
arguments env at params [] m = record { values = []; made = m }
arguments env at params (e ∷ args) m =
    let first = atom at (type_of env e) (wanted (first_type params) e (flatten env at e m) m) in
    before first (arguments env at (other_params params) args first.made)

abbrev pub called : Env → Place → List ℕ → Values → Made
called env at name given = then_stands at (Call None (number_of env.program.funcs name) given.values) given.made

-- the condition of a loop, in front of which its statements stand; a missing one is 1
abbrev pub condition : Env → Place → Option Expr → List Slot → Valued
condition env at None slots = valued (Num (pos 1)) (fresh slots)
condition env at (Some e) slots = flat_of env at e (fresh slots)

abbrev pub looped : Place → (condition : Valued) → (body : Made) → Made → Made
looped at c body m = then_holds at (While c.made.front c.value body.front) m body.slots

-- branches, and the slots made up to behind them
pub record Branches : Type 0 where
  pub list : List Branch
  pub slots : List Slot

abbrev pub branch : Place → Made → Branch
branch at body = roll-Branch (record { at = at; body = body.front })

-- with a local in scope
abbrev pub knows : Env → List ℕ → ℕ → Ty → Env
knows env name slot type = record env { scope = record { name = name; type = type; what = slot } ∷ env.scope }

abbrev mutual
  pub plain : Env → Place → StmtKind → Made → Behind
  plain env at Empty m = behind env m
  plain env at (Block' n body) m = behind env (plain_row env body m).made
  plain env at (Declare type name e) m =
      let to = length m.slots in
      record { scope = (knows env name to (declared type)).scope; made = initial env at to type e (with_slot (Some name) type m) }
  plain env at (Set' name e) m = behind env (assigned env at (slot_of env name) (type_of_local env.scope name) e m)
  plain env at (Store' into e) m = behind env (stored env at (type_of env into) e (flatten env at into m))
  plain env at (Call' name args) m = behind env (called env at name (arguments env at (params_of (function_of env.program.funcs name)) args m))
  plain env at (If' n arms other) m = behind env (plain_arms env at arms (λ m. (plain_held env other m).made) m)
  plain env at (While' e p body) m =
      let c = condition env at (Some e) m.slots in
      behind env (looped at c (plain_row env body (fresh c.made.slots)).made m)
  plain env at (For' first e third p body) m =
      let opened = plain_held env first m in
      let inner = record env { scope = opened.scope } in
      let c = condition inner at e opened.made.slots in
      let done = plain_row inner body (fresh c.made.slots) in
      behind env (looped at c (plain_held inner third done.made).made opened.made)
  plain env at (Print' e) m = let v = flat_of env at e m in behind env (then_stands at (Print v.value) v.made)
  plain env at (Return' None) m = behind env (then_stands at (Return None) m)
  plain env at (Return' (Some e)) m = let v = flat_as env at env.result e m in behind env (then_stands at (Return (Some v.value)) v.made)
  plain env at (Cobegin' n blocks) m =
      let all = plain_branches env blocks m.slots in
      behind env (then_holds at (Cobegin all.list) m all.slots)
  plain env at (Foreach' index low high step p body) m =
      let slot = length m.slots in
      let from = operand (is_pure high) at Number (flatten env at low (with_slot (Some index) int_type m)) in
      let to = flat_of env at high from.made in
      let done = plain_iteration (knows env index slot Number) body to.made.slots in
      behind env (then_holds at (Foreach slot from.value to.value step done.0) to.made done.1)

  -- one statement after another
  pub plain_row : {n : _} → Env → Row_of-Stmt n → Made → Behind
  plain_row env end_of-Stmt m = behind env m
  plain_row env (more_of-Stmt at kind rest) m =
      let first = plain env at kind m in plain_row (record env { scope = first.scope }) rest first.made

  -- a statement that may be missing
  pub plain_held : Env → Held-StmtKind-If-1 → Made → Behind
  plain_held env None' m = behind env m
  plain_held env (Some' p body) m = plain_row env body m

  -- an `if` with several arms is an If in the second list of an If, at the same place
  pub plain_arms : {n : _} → Env → Place → Row_of-Arm n → (Made → Made) → Made → Made
  plain_arms env at end_of-Arm otherwise m = otherwise m
  plain_arms env at (more_of-Arm arm rest) otherwise m = plain_arm env at arm (plain_arms env at rest otherwise) m

  pub plain_arm : Env → Place → Arm → (Made → Made) → Made → Made
  plain_arm env at (Arm' e p body) otherwise m =
      let c = flat_of env at e m in
      let held = (plain_row env body (fresh c.made.slots)).made in
      let other = otherwise (fresh held.slots) in
      then_holds at (If c.value held.front other.front) c.made other.slots

  -- the blocks of a `cobegin`
  pub plain_branches : {n : _} → Env → Row_of-Stmt n → List Slot → Branches
  plain_branches env end_of-Stmt slots = record { list = []; slots = slots }
  plain_branches env (more_of-Stmt at kind rest) slots =
      let first = (plain env at kind (fresh slots)).made in
      let others = plain_branches env rest first.slots in
      record { list = branch at first ∷ others.list; slots = others.slots }

  -- the block of a `foreach`
  pub plain_iteration : {n : _} → Env → Row_of-Stmt n → List Slot → Branch × List Slot
  plain_iteration env end_of-Stmt slots = (branch (record { line = 1; col = 1 }) (fresh slots), slots)
  plain_iteration env (more_of-Stmt at kind rest) slots = let first = (plain env at kind (fresh slots)).made in (branch at first, first.slots)

abbrev pub plain_all : Env → List Stmt → Made → Made
plain_all env [] m = m
plain_all env (s ∷ body) m = let first = plain env s.at s.kind m in plain_all (record env { scope = first.scope }) body first.made

-- the parameters are the first slots
abbrev pub param_slot : Param → Slot
param_slot p = record { name = Some p.name; ctype = p.ctype }

abbrev pub scope_from : ℕ → List Param → List (Local ℕ) → List (Local ℕ)
scope_from n [] scope = scope
scope_from n (p ∷ params) scope = scope_from (suc n) params (record { name = p.name; type = declared p.ctype; what = n } ∷ scope)

abbrev pub plain_body : Program → Func → Made
plain_body p f = plain_all (record { program = p; result = result_of f.result; scope = scope_from 0 f.params [] }) f.body (fresh (map param_slot f.params))

abbrev pub plain_func : Program → Func → PFunc
plain_func p f =
    let body = plain_body p f in
    record { at = f.at; name = f.name; result = f.result; params = length f.params; slots = body.slots; body = body.front }

-- the plain form of a program
abbrev pub plain_program : Program → PProgram
plain_program p =
    record { structs = p.structs; funcs = map (plain_func p) p.funcs; main = number_of p.funcs (codes "main"); factors = factors p }
