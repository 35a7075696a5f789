-- The plain form of expressions (docs/LANGUAGE.md, "Plain form"): each is a value without loads, calls and callocs, behind
-- the statements that have to stand in front of it.
use Rattle.std.specs.Prelude.{ℕ, suc, Bool, true, false, not, ◌&&◌, if◌then◌else◌, ℤ, pos, List, [], ◌∷◌, ◌++◌, length, Option, None, Some}
use Rattle.std.specs.Ordering.{int_eq}
use Rattle.lq_tree.specs.declared.place.Place.{Place}
use Rattle.lq_tree.specs.declared.expr.Base.TheVariants.{Int}
use Rattle.lq_tree.specs.declared.expr.CType.{CType}
use Rattle.lq_tree.specs.declared.expr.BinOp.{BinOp}
use Rattle.lq_tree.specs.declared.expr.BinOp.TheVariants.{Add, Sub, Eq, Ne, And, Or}
use Rattle.lq_tree.specs.declared.expr.Expr.{Expr, Num as Number', Var, Neg' as Negated', Not' as Inverted', Bin' as Operator', Index', Deref', Arrow', Dot', Call' as CallExpr', Calloc' as Callocated', Row_of-Expr, end_of-Expr, more_of-Expr}
use Rattle.lq_tree.specs.declared.plain.PExpr.{PExpr, Num, Null, Slot as InSlot, Neg, Not, Bin, Shift, IsNull}
use Rattle.lq_tree.specs.declared.plain.PKind.{PKind, Set, Load, Calloc, Call, If}
use Rattle.lq_tree.specs.declared.plain.PStmt.{PStmt}
use Rattle.lq_tree.specs.declared.plain.Slot.{Slot}
use Rattle.lq_tree.specs.declared.program.Func.{Func}
use Rattle.lq_tree.specs.declared.program.Param.{Param}
use Rattle.lq_tree.specs.declared.program.Program.{Program}
use Rattle.lq_tree.specs.Lookup.{function_of, number_of}
use Rattle.lq_tree.specs.Layout.{field_number}
use Rattle.lq_tree.specs.Types.{Ty, Number, Pointer, Unknown, declared, element_of, is_pointer, row_type, expression_type}
use Rattle.lq_tree.specs.Locals.{Local, what_of, variables_of}

-- the source, what its function at hand gives, and the locals in scope with their slots
pub record Env : Type 0 where
  pub program : Program
  pub result : Ty
  pub scope : List (Local ℕ)

abbrev pub slot_of : Env → List ℕ → ℕ
slot_of env name = what_of 0 env.scope name

abbrev pub type_by : {n : _} → Env → Row_of-Expr n → Ty
type_by env row = row_type env.program (variables_of env.scope) row

abbrev pub type_of : Env → Expr → Ty
type_of env e = expression_type env.program (variables_of env.scope) e

-- the slots made so far, and the statements that stand in front
pub record Made : Type 0 where
  pub slots : List Slot
  pub front : List PStmt

abbrev pub statement : Place → PKind → PStmt
statement at kind = record { at = at; kind = kind }

abbrev pub then_stands : Place → PKind → Made → Made
then_stands at kind m = record { slots = m.slots; front = m.front ++ statement at kind ∷ [] }

-- one slot more; its number is how many there were before
abbrev pub with_slot : Option (List ℕ) → CType → Made → Made
with_slot name type m = record { slots = m.slots ++ record { name = name; ctype = type } ∷ []; front = m.front }

abbrev pub int_type : CType
int_type = record { base = Int; stars = 0 }

-- the type of a slot for a value of this type
abbrev pub slot_type : Ty → CType
slot_type (Pointer base stars) = record { base = base; stars = suc stars }
slot_type _ = int_type

-- a value behind what stands in front of it
pub record Valued : Type 0 where
  pub value : PExpr
  pub made : Made

abbrev pub valued : PExpr → Made → Valued
valued value m = record { value = value; made = m }

-- What an expression comes to: a value; an element of what a slot points to, by its index, and a field of it; or a call or a
-- calloc, by the slot that gets its word.
pub data Flat : Type 0 where
  Is : Valued → Flat
  Names : (base : ℕ) → (index : Flat) → (field : ℕ) → Flat
  Gets : (ℕ → PKind) → Made → Flat

-- a number, null and a slot are atoms
abbrev pub is_atom : PExpr → Bool
is_atom (Num n) = true
is_atom Null = true
is_atom (InSlot n) = true
is_atom _ = false

-- a new slot without a name gets its word
abbrev pub in_new_slot : Place → Ty → (ℕ → PKind) → Made → Valued
in_new_slot at type kind m =
    valued (InSlot (length m.slots)) (then_stands at (kind (length m.slots)) (with_slot None (slot_type type) m))

abbrev pub load : (base : ℕ) → Valued → (field to : ℕ) → PKind
load base index field to = Load to base index.value field

-- an atom as it is, anything else in a new slot; the index of a load is an atom
abbrev pub atom : Place → Ty → Flat → Valued
atom at type (Is v) = if is_atom v.value then v else in_new_slot at type (λ to. Set to v.value) v.made
atom at type (Names base index field) = let i = atom at Number index in in_new_slot at type (load base i field) i.made
atom at type (Gets kind m) = in_new_slot at type kind m

-- a value as it is, anything else in a new slot
abbrev pub flat : Place → Ty → Flat → Valued
flat at type (Is v) = v
flat at type found = atom at type found

-- an operand: as it is where all operands are pure, else an atom
abbrev pub operand : (pure : Bool) → Place → Ty → Flat → Valued
operand true at type found = flat at type found
operand false at type found = atom at type found

-- an expression that loads nothing, calls nothing and allocates nothing
abbrev mutual
  pub is_pure : Expr → Bool
  is_pure (Number' n) = true
  is_pure (Var name) = true
  is_pure (Negated' p a) = is_pure_row a
  is_pure (Inverted' p a) = is_pure_row a
  is_pure (Operator' op p a q b) = is_pure_row a && is_pure_row b
  is_pure _ = false

  pub is_pure_row : {n : _} → Row_of-Expr n → Bool
  is_pure_row end_of-Expr = true
  is_pure_row (more_of-Expr e rest) = is_pure e && is_pure_row rest

-- an operator over the values of its operands, by their types; the other side of a comparison with a pointer is the literal 0
abbrev pub operator : (left right : Ty) → BinOp → (a b : PExpr) → PExpr
operator left right Add a b = if is_pointer left then Shift a b else Bin Add a b
operator left right Sub a b = if is_pointer left then Shift a (Neg b) else Bin Sub a b
operator left right Eq a b = if is_pointer left then IsNull a else if is_pointer right then IsNull b else Bin Eq a b
operator left right Ne a b = if is_pointer left then Not (IsNull a) else if is_pointer right then Not (IsNull b) else Bin Ne a b
operator left right op a b = Bin op a b

-- the slot that a base is
abbrev pub slot_in : PExpr → ℕ
slot_in (InSlot n) = n
slot_in _ = 0

-- whether a value is true, as a value
abbrev pub is_true : PExpr → PExpr
is_true value = Bin Ne value (Num (pos 0))

-- `&&` and `||`, where a side isn't pure: a slot gets 0, or 1, and the word of the right side only where that is asked for
abbrev pub if_needed : BinOp → PExpr → List PStmt → PKind
if_needed Or first second = If first [] second
if_needed op first second = If first second []

abbrev pub at_first : BinOp → ℤ
at_first Or = pos 1
at_first op = pos 0

abbrev pub stopping : Place → BinOp → (left right : Made → Valued) → Made → Flat
stopping at op left right m =
    let to = length m.slots in
    let first = left (then_stands at (Set to (Num (at_first op))) (with_slot None int_type m)) in
    let second = right (record { slots = first.made.slots; front = [] }) in
    let asked = second.made.front ++ statement at (Set to (is_true second.value)) ∷ [] in
    Is (valued (InSlot to) (then_stands at (if_needed op first.value asked) (record { slots = second.made.slots; front = first.made.front })))

abbrev pub stops_early : BinOp → Bool
stops_early And = true
stops_early Or = true
stops_early _ = false

-- the field of an element
abbrev pub dotted : (field : ℕ) → Flat → Flat
dotted field (Names base index none) = Names base index field
dotted field found = found

-- values behind what stands in front of them
pub record Values : Type 0 where
  pub values : List PExpr
  pub made : Made

abbrev pub before : Valued → Values → Values
before first others = record { values = first.value ∷ others.values; made = others.made }

-- the literal 0 is null where a pointer is wanted
abbrev pub is_zero : Expr → Bool
is_zero (Number' n) = int_eq n (pos 0)
is_zero _ = false

abbrev pub wanted : Ty → Expr → Flat → Made → Flat
wanted type e found m = if is_pointer type && is_zero e then Is (valued Null m) else found

abbrev pub params_of : Option Func → List Param
params_of None = []
params_of (Some f) = f.params

-- the type of the first of these, and the others
abbrev pub first_type : List Param → Ty
first_type [] = Unknown
first_type (p ∷ params) = declared p.ctype

abbrev pub other_params : List Param → List Param
other_params [] = []
other_params (p ∷ params) = params

-- flattening: operands from left to right
abbrev mutual
  pub flatten : Env → Place → Expr → Made → Flat
  flatten env at (Number' n) m = Is (valued (Num n) m)
  flatten env at (Var name) m = Is (valued (InSlot (slot_of env name)) m)
  flatten env at (Negated' p a) m = let v = operand_row (is_pure_row a) env at a m in Is (valued (Neg v.value) v.made)
  flatten env at (Inverted' p a) m = let v = operand_row (is_pure_row a) env at a m in Is (valued (Not v.value) v.made)
  flatten env at (Operator' op p a q b) m =
      let pure = is_pure_row a && is_pure_row b in
      if not pure && stops_early op then stopping at op (operand_row true env at a) (operand_row true env at b) m
      else (
      let first = operand_row pure env at a m in
      let second = operand_row pure env at b first.made in
      Is (valued (operator (type_by env a) (type_by env b) op first.value second.value) second.made))
  flatten env at (Index' p base q i) m = let to = operand_row false env at base m in Names (slot_in to.value) (flatten_row env at i to.made) 0
  flatten env at (Deref' p base) m = let to = operand_row false env at base m in Names (slot_in to.value) (Is (valued (Num (pos 0)) to.made)) 0
  flatten env at (Arrow' p base field) m =
      let to = operand_row false env at base m in
      Names (slot_in to.value) (Is (valued (Num (pos 0)) to.made)) (field_number env.program.structs (element_of (type_by env base)) field)
  flatten env at (Dot' p e field) m = dotted (field_number env.program.structs (type_by env e) field) (flatten_row env at e m)
  flatten env at (CallExpr' name n args) m =
      let given = arguments_row env at (params_of (function_of env.program.funcs name)) args m in
      Gets (λ slot. Call (Some slot) (number_of env.program.funcs name) given.values) given.made
  flatten env at (Callocated' p count type) m = let n = operand_row false env at count m in Gets (λ slot. Calloc slot n.value type) n.made

  -- the one expression of a box
  pub flatten_row : {n : _} → Env → Place → Row_of-Expr n → Made → Flat
  flatten_row env at end_of-Expr m = Is (valued Null m)
  flatten_row env at (more_of-Expr e rest) m = flatten env at e m

  -- as an operand
  pub operand_row : {n : _} → (pure : Bool) → Env → Place → Row_of-Expr n → Made → Valued
  operand_row pure env at end_of-Expr m = valued Null m
  operand_row pure env at (more_of-Expr e rest) m = operand pure at (type_of env e) (flatten env at e m)

  -- arguments as atoms, each as its parameter wants it
  pub arguments_row : {n : _} → Env → Place → List Param → Row_of-Expr n → Made → Values
  arguments_row env at params end_of-Expr m = record { values = []; made = m }
  arguments_row env at params (more_of-Expr e rest) m =
      let first = atom at (type_of env e) (wanted (first_type params) e (flatten env at e m) m) in
      before first (arguments_row env at (other_params params) rest first.made)
