-- The slots that are made stay where they are: what is made later comes behind them.
use Rattle.std.proofs.Common.{◌≡◌, ℕ, zero, suc, Bool, true, false, not, ◌&&◌, List, [], ◌∷◌, ◌++◌, length, Option, None, Some, refl}
use Rattle.std.specs.List.{slice_get}
use Rattle.std.proofs.lemmas.Bool.{cond_both}
use Rattle.lq_tree.specs.declared.place.Place.{Place}
use Rattle.lq_tree.specs.declared.expr.CType.{CType}
use Rattle.lq_tree.specs.declared.expr.Expr.{Expr, Num, Var, Neg', Not', Bin', Index', Deref', Arrow', Dot', Call' as CallExpr', Calloc', Row_of-Expr, end_of-Expr, more_of-Expr}
use Rattle.lq_tree.specs.declared.plain.PExpr.{Num as Number, Null}
use Rattle.lq_tree.specs.declared.plain.PKind.{Set as SetTo}
use Rattle.lq_tree.specs.declared.plain.Slot.{Slot}
use Rattle.lq_tree.specs.declared.program.Param.{Param}
use Rattle.lq_tree.specs.declared.stmt.StmtKind.{StmtKind, Empty, Block', Local as Declare, Set, Store, Call, If', While', For', Print, Return, Cobegin', Foreach', Row_of-Stmt, end_of-Stmt, more_of-Stmt, Row_of-Arm, end_of-Arm, more_of-Arm, None', Some', Held-StmtKind-If-1}
use Rattle.lq_tree.specs.declared.stmt.Stmt.{Stmt}
use Rattle.lq_tree.specs.declared.stmt.Arm.{Arm, Arm'}
use Rattle.lq_tree.specs.Types.{Ty, Number as IsNumber, is_pointer, declared}
use Rattle.lq_tree.specs.Locals.{type_of_local}
use Rattle.lq_tree.specs.Lookup.{function_of}
use Rattle.lq_plain.specs.Flat.{Env, slot_of, type_of, Made, with_slot, slot_type, int_type, then_stands, valued, Flat, Is, Names, Gets, is_atom, in_new_slot, atom, flat, operand, is_pure, is_pure_row, stops_early, at_first, dotted, is_zero, wanted, params_of, first_type, other_params, flatten, flatten_row, operand_row, arguments_row}
use Rattle.lq_plain.specs.Plain.{fresh, flat_of, flat_as, put, assigned, initial, stored, arguments, condition, knows, plain, plain_row, plain_held, plain_arms, plain_arm, plain_branches, plain_iteration, plain_all}
use Rattle.lq_plain.proofs.Taken.{made_of}

-- each slot of one list stands in another at its number
pub record Extends (old new : List Slot) : Type 0 where
  pub there : (n : ℕ) (s : Slot) → slice_get old n ≡ Some s → slice_get new n ≡ Some s

pub extends_same : (slots : List Slot) → Extends slots slots
extends_same slots = record { there = λ n s is. is }

pub extends_on : {a b c : List Slot} → Extends a b → Extends b c → Extends a c
extends_on first next = record { there = λ n s is. next.there n s (first.there n s is) }

stays_there : (slots more : List Slot) (n : ℕ) (s : Slot) → slice_get slots n ≡ Some s → slice_get (slots ++ more) n ≡ Some s
stays_there [] more n s is = absurd cc
stays_there (t ∷ slots) more zero s is = is
stays_there (t ∷ slots) more (suc n) s is = stays_there slots more n s is

pub extends_more : (slots more : List Slot) → Extends slots (slots ++ more)
extends_more slots more = record { there = stays_there slots more }

-- a slot more
pub extends_slot : (name : Option (List ℕ)) (type : CType) (m : Made) → Extends m.slots (with_slot name type m).slots
extends_slot name type m = extends_more m.slots (record { name = name; ctype = type } ∷ [])

-- a slot more stands last
pub slice_get_push : (slots : List Slot) (s : Slot) → slice_get (slots ++ s ∷ []) (length slots) ≡ Some s
slice_get_push [] s = refl
slice_get_push (t ∷ slots) s = slice_get_push slots s

-- ---- values

pub atom_grows : (at : Place) (type : Ty) (found : Flat) → Extends (made_of found).slots (atom at type found).made.slots
atom_grows at type (Is v) =
    cond_both (is_atom v.value) v (in_new_slot at type (λ to. SetTo to v.value) v.made) (λ u. Extends v.made.slots u.made.slots) (λ _. extends_same v.made.slots) (λ _. extends_slot None (slot_type type) v.made)
atom_grows at type (Names base index field) = extends_on (atom_grows at IsNumber index) (extends_slot None (slot_type type) (atom at IsNumber index).made)
atom_grows at type (Gets kind m) = extends_slot None (slot_type type) m

pub flat_grows : (at : Place) (type : Ty) (found : Flat) → Extends (made_of found).slots (flat at type found).made.slots
flat_grows at type (Is v) = extends_same v.made.slots
flat_grows at type (Names base index field) = atom_grows at type (Names base index field)
flat_grows at type (Gets kind m) = atom_grows at type (Gets kind m)

pub operand_grows : (pure : Bool) (at : Place) (type : Ty) (found : Flat) → Extends (made_of found).slots (operand pure at type found).made.slots
operand_grows true at type found = flat_grows at type found
operand_grows false at type found = atom_grows at type found

pub put_grows : (at : Place) (to : ℕ) (found : Flat) → Extends (made_of found).slots (put at to found).slots
put_grows at to (Is v) = extends_same v.made.slots
put_grows at to (Names base index field) = atom_grows at IsNumber index
put_grows at to (Gets kind m) = extends_same m.slots

pub wanted_grows : (type : Ty) (e : Expr) (found : Flat) (m : Made) → Extends m.slots (made_of found).slots → Extends m.slots (made_of (wanted type e found m)).slots
wanted_grows type e found m grows = cond_both (is_pointer type && is_zero e) (Is (valued Null m)) found (λ x. Extends m.slots (made_of x).slots) (λ _. extends_same m.slots) (λ _. grows)

dotted_grows : (field : ℕ) (found : Flat) (slots : List Slot) → Extends slots (made_of found).slots → Extends slots (made_of (dotted field found)).slots
dotted_grows field (Is v) slots grows = grows
dotted_grows field (Names base index none) slots grows = grows
dotted_grows field (Gets kind m) slots grows = grows

mutual
  pub flatten_grows : (env : Env) (at : Place) (e : Expr) (m : Made) → Extends m.slots (made_of (flatten env at e m)).slots
  flatten_grows env at (Num n) m = extends_same m.slots
  flatten_grows env at (Var name) m = extends_same m.slots
  flatten_grows env at (Neg' p a) m = operand_row_grows (is_pure_row a) env at a m
  flatten_grows env at (Not' p a) m = operand_row_grows (is_pure_row a) env at a m
  flatten_grows env at (Bin' op p a q b) m =
      let pure = is_pure_row a && is_pure_row b in
      cond_both (not pure && stops_early op) _ _ (λ found. Extends m.slots (made_of found).slots)
      (λ _.
      let begin = then_stands at (SetTo (length m.slots) (Number (at_first op))) (with_slot None int_type m) in
      let first = operand_row true env at a begin in
      extends_on (extends_slot None int_type m) (extends_on (operand_row_grows true env at a begin) (operand_row_grows true env at b (record { slots = first.made.slots; front = [] }))))
      (λ _. extends_on (operand_row_grows pure env at a m) (operand_row_grows pure env at b (operand_row pure env at a m).made))
  flatten_grows env at (Index' p base q i) m = extends_on (operand_row_grows false env at base m) (flatten_row_grows env at i (operand_row false env at base m).made)
  flatten_grows env at (Deref' p base) m = operand_row_grows false env at base m
  flatten_grows env at (Arrow' p base field) m = operand_row_grows false env at base m
  flatten_grows env at (Dot' p e field) m = dotted_grows _ (flatten_row env at e m) m.slots (flatten_row_grows env at e m)
  flatten_grows env at (CallExpr' name n args) m = arguments_row_grows env at (params_of (function_of env.program.funcs name)) args m
  flatten_grows env at (Calloc' p count type) m = operand_row_grows false env at count m

  pub flatten_row_grows : {n : _} (env : Env) (at : Place) (row : Row_of-Expr n) (m : Made) → Extends m.slots (made_of (flatten_row env at row m)).slots
  flatten_row_grows env at end_of-Expr m = extends_same m.slots
  flatten_row_grows env at (more_of-Expr e rest) m = flatten_grows env at e m

  pub operand_row_grows : {n : _} (pure : Bool) (env : Env) (at : Place) (row : Row_of-Expr n) (m : Made) → Extends m.slots (operand_row pure env at row m).made.slots
  operand_row_grows pure env at end_of-Expr m = extends_same m.slots
  operand_row_grows pure env at (more_of-Expr e rest) m = extends_on (flatten_grows env at e m) (operand_grows pure at (type_of env e) (flatten env at e m))

  pub arguments_row_grows : {n : _} (env : Env) (at : Place) (params : List Param) (row : Row_of-Expr n) (m : Made) → Extends m.slots (arguments_row env at params row m).made.slots
  arguments_row_grows env at params end_of-Expr m = extends_same m.slots
  arguments_row_grows env at params (more_of-Expr e rest) m =
      let found = wanted (first_type params) e (flatten env at e m) m in
      extends_on (extends_on (wanted_grows (first_type params) e (flatten env at e m) m (flatten_grows env at e m)) (atom_grows at (type_of env e) found))
      (arguments_row_grows env at (other_params params) rest (atom at (type_of env e) found).made)

-- ---- expressions in statements

module _ (env : Env) (at : Place) where
  pub flat_of_grows : (e : Expr) (m : Made) → Extends m.slots (flat_of env at e m).made.slots
  flat_of_grows e m = extends_on (flatten_grows env at e m) (flat_grows at (type_of env e) (flatten env at e m))

  pub wanted_flatten_grows : (type : Ty) (e : Expr) (m : Made) → Extends m.slots (made_of (wanted type e (flatten env at e m) m)).slots
  wanted_flatten_grows type e m = wanted_grows type e (flatten env at e m) m (flatten_grows env at e m)

  pub flat_as_grows : (type : Ty) (e : Expr) (m : Made) → Extends m.slots (flat_as env at type e m).made.slots
  flat_as_grows type e m = extends_on (wanted_flatten_grows type e m) (flat_grows at (type_of env e) (wanted type e (flatten env at e m) m))

  pub assigned_grows : (to : ℕ) (type : Ty) (e : Expr) (m : Made) → Extends m.slots (assigned env at to type e m).slots
  assigned_grows to type e m = extends_on (wanted_flatten_grows type e m) (put_grows at to (wanted type e (flatten env at e m) m))

  pub initial_grows : (to : ℕ) (type : CType) (e : Option Expr) (m : Made) → Extends m.slots (initial env at to type e m).slots
  initial_grows to type None m = extends_same m.slots
  initial_grows to type (Some e) m = assigned_grows to (declared type) e m

  pub stored_grows : (type : Ty) (e : Expr) (found : Flat) → Extends (made_of found).slots (stored env at type e found).slots
  stored_grows type e (Names base index field) = extends_on (operand_grows (is_pure e) at IsNumber index) (flat_as_grows type e (operand (is_pure e) at IsNumber index).made)
  stored_grows type e (Is v) = extends_on (atom_grows at type (Is v)) (flat_as_grows type e (atom at type (Is v)).made)
  stored_grows type e (Gets kind m) = extends_on (atom_grows at type (Gets kind m)) (flat_as_grows type e (atom at type (Gets kind m)).made)

  pub arguments_grows : (params : List Param) (args : List Expr) (m : Made) → Extends m.slots (arguments env at params args m).made.slots
  arguments_grows params [] m = extends_same m.slots
  arguments_grows params (e ∷ args) m =
      let found = wanted (first_type params) e (flatten env at e m) m in
      extends_on (extends_on (wanted_flatten_grows (first_type params) e m) (atom_grows at (type_of env e) found)) (arguments_grows (other_params params) args (atom at (type_of env e) found).made)

  pub condition_grows : (e : Option Expr) (slots : List Slot) → Extends slots (condition env at e slots).made.slots
  condition_grows None slots = extends_same slots
  condition_grows (Some e) slots = flat_of_grows e (fresh slots)

-- ---- statements

mutual
  pub plain_grows : (env : Env) (at : Place) (kind : StmtKind) (m : Made) → Extends m.slots (plain env at kind m).made.slots
  plain_grows env at Empty m = extends_same m.slots
  plain_grows env at (Block' n body) m = row_grows env body m
  plain_grows env at (Declare type name e) m = extends_on (extends_slot (Some name) type m) (initial_grows env at (length m.slots) type e (with_slot (Some name) type m))
  plain_grows env at (Set name e) m = assigned_grows env at (slot_of env name) (type_of_local env.scope name) e m
  plain_grows env at (Store into e) m = extends_on (flatten_grows env at into m) (stored_grows env at (type_of env into) e (flatten env at into m))
  plain_grows env at (Call name args) m = arguments_grows env at (params_of (function_of env.program.funcs name)) args m
  plain_grows env at (If' n arms other) m = arms_grow env at arms (λ k. (plain_held env other k).made) (λ k. held_grows env other k) m
  plain_grows env at (While' e p body) m =
      let c = condition env at (Some e) m.slots in
      extends_on (condition_grows env at (Some e) m.slots) (row_grows env body (fresh c.made.slots))
  plain_grows env at (For' first e third p body) m =
      let opened = plain_held env first m in
      let inner : Env = record env { scope = opened.scope } in
      let c = condition inner at e opened.made.slots in
      let turn = (plain_row inner body (fresh c.made.slots)).made in
      extends_on (held_grows env first m) (extends_on (condition_grows inner at e opened.made.slots) (extends_on (row_grows inner body (fresh c.made.slots)) (held_grows inner third turn)))
  plain_grows env at (Print e) m = flat_of_grows env at e m
  plain_grows env at (Return None) m = extends_same m.slots
  plain_grows env at (Return (Some e)) m = flat_as_grows env at env.result e m
  plain_grows env at (Cobegin' n blocks) m = branches_grow env blocks m.slots
  plain_grows env at (Foreach' index low high step p body) m =
      let k = with_slot (Some index) int_type m in
      let from = operand (is_pure high) at IsNumber (flatten env at low k) in
      let to = flat_of env at high from.made in
      extends_on (extends_slot (Some index) int_type m)
      (extends_on (extends_on (flatten_grows env at low k) (operand_grows (is_pure high) at IsNumber (flatten env at low k)))
      (extends_on (flat_of_grows env at high from.made) (iteration_grows (knows env index (length m.slots) IsNumber) body to.made.slots)))

  pub row_grows : {n : _} (env : Env) (row : Row_of-Stmt n) (m : Made) → Extends m.slots (plain_row env row m).made.slots
  row_grows env end_of-Stmt m = extends_same m.slots
  row_grows env (more_of-Stmt at kind rest) m =
      let first = plain env at kind m in
      extends_on (plain_grows env at kind m) (row_grows (record env { scope = first.scope }) rest first.made)

  pub held_grows : (env : Env) (held : Held-StmtKind-If-1) (m : Made) → Extends m.slots (plain_held env held m).made.slots
  held_grows env None' m = extends_same m.slots
  held_grows env (Some' p body) m = row_grows env body m

  pub arms_grow : {n : _} (env : Env) (at : Place) (row : Row_of-Arm n) (otherwise : Made → Made) → ((k : Made) → Extends k.slots (otherwise k).slots) → (m : Made) → Extends m.slots (plain_arms env at row otherwise m).slots
  arms_grow env at end_of-Arm otherwise more m = more m
  arms_grow env at (more_of-Arm arm rest) otherwise more m = arm_grows env at arm (plain_arms env at rest otherwise) (λ k. arms_grow env at rest otherwise more k) m

  pub arm_grows : (env : Env) (at : Place) (arm : Arm) (otherwise : Made → Made) → ((k : Made) → Extends k.slots (otherwise k).slots) → (m : Made) → Extends m.slots (plain_arm env at arm otherwise m).slots
  arm_grows env at (Arm' e p body) otherwise more m =
      let c = flat_of env at e m in
      let held = (plain_row env body (fresh c.made.slots)).made in
      extends_on (flat_of_grows env at e m) (extends_on (row_grows env body (fresh c.made.slots)) (more (fresh held.slots)))

  pub branches_grow : {n : _} (env : Env) (row : Row_of-Stmt n) (slots : List Slot) → Extends slots (plain_branches env row slots).slots
  branches_grow env end_of-Stmt slots = extends_same slots
  branches_grow env (more_of-Stmt at kind rest) slots = extends_on (plain_grows env at kind (fresh slots)) (branches_grow env rest (plain env at kind (fresh slots)).made.slots)

  pub iteration_grows : {n : _} (env : Env) (row : Row_of-Stmt n) (slots : List Slot) → Extends slots (plain_iteration env row slots).1
  iteration_grows env end_of-Stmt slots = extends_same slots
  iteration_grows env (more_of-Stmt at kind rest) slots = plain_grows env at kind (fresh slots)

pub all_grows : (env : Env) (body : List Stmt) (m : Made) → Extends m.slots (plain_all env body m).slots
all_grows env [] m = extends_same m.slots
all_grows env (s ∷ body) m =
    let first = plain env s.at s.kind m in
    extends_on (plain_grows env s.at s.kind m) (all_grows (record env { scope = first.scope }) body first.made)
