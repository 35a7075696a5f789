-- The types of a plain program (docs/LANGUAGE.md, "What holds of a plain program"; ISO/IEC 9899:2011, 6.5.6 for pointers).
use Rattle.std.specs.Prelude.{ℕ, zero, suc, Bool, true, false, not, ◌&&◌, ◌==◌, if◌then◌else◌, List, [], ◌∷◌, slice_get, Option, None, Some}
use Rattle.lq_tree.specs.declared.expr.CType.{CType}
use Rattle.lq_tree.specs.declared.program.Program.{Program}
use Rattle.lq_tree.specs.declared.program.Param.{Param}
use Rattle.lq_tree.specs.declared.program.StructDef.{StructDef}
use Rattle.lq_tree.specs.declared.plain.PExpr.{PExpr, Num, Null, Slot as InSlot, Neg', Not', Bin', Shift', IsNull', Row_of-PExpr, end_of-PExpr, more_of-PExpr}
use Rattle.lq_tree.specs.declared.plain.PKind.{PKind, Set, Load, Store, Calloc, Call, If', While', Cobegin', Foreach, Print, Return}
use Rattle.lq_tree.specs.declared.plain.Slot.{Slot}
use Rattle.lq_tree.specs.declared.plain.PFunc.{PFunc}
use Rattle.lq_tree.specs.declared.plain.PProgram.{PProgram}
use Rattle.lq_tree.specs.Types.{Ty, Number, Pointer, Element, Unknown, same_base, declared, element_of, type_of_field, struct_of, is_number, is_pointer, is_known, result_of}

-- an int or a pointer
abbrev pub is_value : Ty → Bool
is_value Number = true
is_value (Pointer base stars) = true
is_value _ = false

-- the structs of a plain program, as those of a source
abbrev pub with_structs : List StructDef → Program
with_structs structs = record { structs = structs; funcs = [] }

-- a type that a slot, a field or a result may have
abbrev pub is_slot_type : List StructDef → CType → Bool
is_slot_type structs type = is_value (declared type) && is_known (with_structs structs) type.base

-- two types are the same, and of a value
abbrev pub agree : Ty → Ty → Bool
agree Number Number = true
agree (Pointer base stars) (Pointer other more) = same_base base other && stars == more
agree _ _ = false

-- the type of a slot, unknown where there is none
abbrev pub type_at : Option Slot → Ty
type_at None = Unknown
type_at (Some s) = declared s.ctype

-- the type of the slot with this number
abbrev pub slot_type : List Slot → ℕ → Ty
slot_type slots n = type_at (slice_get slots n)

-- an int where the operands are what they must be
abbrev pub number_if : Bool → Ty
number_if holds = if holds then Number else Unknown

-- a pointer so many elements further on has the same type
abbrev pub shifted : (pointer distance : Ty) → Ty
shifted pointer distance = if is_pointer pointer && is_number distance then pointer else Unknown

-- the type of an expression, unknown where an operand isn't of the type that it must be; null has none by itself
abbrev mutual
  pub plain_type : List Slot → PExpr → Ty
  plain_type slots (Num n) = Number
  plain_type slots Null = Unknown
  plain_type slots (InSlot n) = slot_type slots n
  plain_type slots (Neg' p e) = number_if (is_number (operand_type slots e))
  plain_type slots (Not' p e) = number_if (is_number (operand_type slots e))
  plain_type slots (Bin' op p a q b) = number_if (is_number (operand_type slots a) && is_number (operand_type slots b))
  plain_type slots (Shift' p a q n) = shifted (operand_type slots a) (operand_type slots n)
  plain_type slots (IsNull' p e) = number_if (is_pointer (operand_type slots e))

  -- of the one operand of a box
  pub operand_type : {n : _} → List Slot → Row_of-PExpr n → Ty
  operand_type slots end_of-PExpr = Unknown
  operand_type slots (more_of-PExpr e rest) = plain_type slots e

-- the expression may stand where a value of this type is wanted: null stands for a pointer of any type
abbrev pub fits : List Slot → (wanted : Ty) → PExpr → Bool
fits slots wanted Null = is_pointer wanted
fits slots wanted e = agree wanted (plain_type slots e)

-- the fields of a struct
abbrev pub fields_in : Option StructDef → List Param
fields_in None = []
fields_in (Some s) = s.fields

-- the type of a field, by its number, of an element of this type; a number and a pointer are field 0
abbrev pub field_type : List StructDef → Ty → ℕ → Ty
field_type structs (Element struct) n = type_of_field (slice_get (fields_in (struct_of structs struct)) n)
field_type structs type zero = type
field_type structs type (suc n) = Unknown

-- the type of what a pointer slot reaches, with this field
abbrev pub reached : PProgram → PFunc → (base field : ℕ) → Ty
reached p f base field = field_type p.structs (element_of (slot_type f.slots base)) field

-- each argument has the type of its parameter, and there are as many
abbrev pub arguments_fit : List Slot → (params : ℕ) → (callee : List Slot) → List PExpr → Bool
arguments_fit slots zero callee [] = true
arguments_fit slots (suc n) (param ∷ callee) (e ∷ args) = fits slots (declared param.ctype) e && arguments_fit slots n callee args
arguments_fit slots _ callee args = false

-- the slot for a result, if there is one, has its type
abbrev pub result_fits : List Slot → Option ℕ → Option CType → Bool
result_fits slots None result = true
result_fits slots (Some to) result = agree (slot_type slots to) (result_of result)

-- a call of a function that is there
abbrev pub call_fits : List Slot → Option ℕ → Option PFunc → List PExpr → Bool
call_fits slots to None args = false
call_fits slots to (Some g) args = arguments_fit slots g.params g.slots args && result_fits slots to g.result

-- a return gives a value of the result's type, or none where there is no result
abbrev pub return_fits : List Slot → Option CType → Option PExpr → Bool
return_fits slots None None = true
return_fits slots (Some type) (Some e) = fits slots (declared type) e
return_fits slots _ _ = false

-- each slot, function, struct and field that a statement itself names is there, its types agree, and `main` isn't called
abbrev pub is_typed : PProgram → PFunc → PKind → Bool
is_typed p f (Set to e) = fits f.slots (slot_type f.slots to) e
is_typed p f (Load to base index field) = fits f.slots Number index && agree (slot_type f.slots to) (reached p f base field)
is_typed p f (Store base index field e) = fits f.slots Number index && is_value (reached p f base field) && fits f.slots (reached p f base field) e
is_typed p f (Calloc to count type) =
    fits f.slots Number count && is_known (with_structs p.structs) type.base && agree (slot_type f.slots to) (Pointer type.base type.stars)
is_typed p f (Call to function args) = not (function == p.main) && call_fits f.slots to (slice_get p.funcs function) args
is_typed p f (If' e n body m other) = fits f.slots Number e
is_typed p f (While' n head e m body) = fits f.slots Number e
is_typed p f (Cobegin' n blocks) = true
is_typed p f (Foreach index low high step branch) =
    is_number (slot_type f.slots index) && fits f.slots Number low && fits f.slots Number high
is_typed p f (Print e) = fits f.slots Number e
is_typed p f (Return e) = return_fits f.slots f.result e
