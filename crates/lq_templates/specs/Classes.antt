-- The classes of a program as its templates see them (docs/CHECKING.md, "Classes").
use Rattle.std.specs.Prelude.{ℕ, suc, ◌-◌, ◌==◌, if◌then◌else◌, List, [], ◌∷◌, ◌++◌, length, Option, None, Some, codes}
use Rattle.lq_tree.specs.declared.expr.Base.{Base}
use Rattle.lq_tree.specs.declared.expr.Base.TheVariants.{Int, Struct}
use Rattle.lq_tree.specs.declared.expr.CType.{CType}
use Rattle.lq_tree.specs.declared.plain.PFunc.{PFunc}
use Rattle.lq_tree.specs.declared.plain.Slot.{Slot}
use Rattle.lq_tree.specs.declared.program.Param.{Param}
use Rattle.lq_tree.specs.declared.program.StructDef.{StructDef}
use Rattle.lq_tree.specs.Lookup.{struct_of}
use Rattle.lq_classes.specs.Classes.{var, class_at}

-- a sorting of variables: the number of the class of a function's slot; the result of a function has the number of its slots as slot
abbrev pub ClassOf : Type 0
ClassOf = (function slot : ℕ) → ℕ

-- that of the classes of a program, which have a list of numbers for each function
abbrev pub class_in : List (List ℕ) → ClassOf
class_in rows function slot = class_at rows (var function slot)

-- a pointer variable of a program: its function, its slot and its type
pub record Variable : Type 0 where
  pub function : ℕ
  pub slot : ℕ
  pub type : CType

-- a variable of this type, if it is a pointer
abbrev pub pointer : (function slot : ℕ) → CType → List Variable
pointer function slot type = if type.stars == 0 then [] else record { function = function; slot = slot; type = type } ∷ []

-- the pointer slots of a function from this number on
abbrev pub slot_variables : (function slot : ℕ) → List Slot → List Variable
slot_variables function slot [] = []
slot_variables function slot (s ∷ slots) = pointer function slot s.ctype ++ slot_variables function (suc slot) slots

-- the result variable of a function, if it returns a pointer
abbrev pub result_variable : (function slot : ℕ) → Option CType → List Variable
result_variable function slot None = []
result_variable function slot (Some type) = pointer function slot type

-- the variables of functions from this number on, in order of function and slot, a result behind the slots
abbrev pub variables : (function : ℕ) → List PFunc → List Variable
variables function [] = []
variables function (f ∷ funcs) = slot_variables function 0 f.slots ++ (result_variable function (length f.slots) f.result ++ variables (suc function) funcs)

-- the first variables of the classes from this number on; classes are numbered by their first variables
abbrev pub first_variables : ClassOf → (next : ℕ) → List Variable → List Variable
first_variables class_of next [] = []
first_variables class_of next (v ∷ rest) =
    if class_of v.function v.slot == next then v ∷ first_variables class_of (suc next) rest else first_variables class_of next rest

-- the one word of what isn't a struct, under the name `word`
abbrev pub word_of : CType → List Param
word_of type = record { ctype = type; name = codes "word" } ∷ []

-- the fields of a struct
abbrev pub struct_fields : Option StructDef → List Param
struct_fields None = []
struct_fields (Some s) = s.fields

-- the fields of what is declared with this base and no star
abbrev pub base_fields : List StructDef → Base → List Param
base_fields structs Int = word_of (record { base = Int; stars = 0 })
base_fields structs (Struct name) = struct_fields (struct_of structs name)

-- the fields of what a pointer of this type points to
abbrev pub fields_behind : List StructDef → CType → List Param
fields_behind structs type = if type.stars == 1 then base_fields structs type.base else word_of (record type { stars = type.stars - 1 })
