-- The words of a block's elements: how many fields an element has, and their numbers (docs/LANGUAGE.md, "Types").
use Rattle.std.specs.Prelude.{ℕ, suc, ◌==◌, if◌then◌else◌, List, [], ◌∷◌, length, Option, None, Some}
use Rattle.lq_tree.specs.declared.expr.Base.{Base}
use Rattle.lq_tree.specs.declared.expr.Base.TheVariants.{Int, Struct}
use Rattle.lq_tree.specs.declared.expr.CType.{CType}
use Rattle.lq_tree.specs.declared.program.Param.{Param}
use Rattle.lq_tree.specs.declared.program.StructDef.{StructDef}
use Rattle.lq_tree.specs.Lookup.{same, struct_of}
use Rattle.lq_tree.specs.Types.{Ty, Element}

-- how many fields a struct has
abbrev pub fields_of_struct : Option StructDef → ℕ
fields_of_struct None = 0
fields_of_struct (Some s) = length s.fields

-- how many fields an element of a base has: an int is one word
abbrev pub fields_of_base : List StructDef → Base → ℕ
fields_of_base structs Int = 1
fields_of_base structs (Struct name) = fields_of_struct (struct_of structs name)

-- how many fields an element of a type has: an int and a pointer are one word
abbrev pub fields_of : List StructDef → CType → ℕ
fields_of structs type = if type.stars == 0 then fields_of_base structs type.base else 1

-- the number of a field among these, from 0
abbrev pub number_among : List Param → List ℕ → ℕ
number_among [] name = 0
number_among (f ∷ fields) name = if same f.name name then 0 else suc (number_among fields name)

-- the number of a field of a struct
abbrev pub number_in : Option StructDef → List ℕ → ℕ
number_in None name = 0
number_in (Some s) name = number_among s.fields name

-- the number of a field of the elements of this type
abbrev pub field_number : List StructDef → Ty → List ℕ → ℕ
field_number structs (Element struct) name = number_in (struct_of structs struct) name
field_number structs _ name = 0
