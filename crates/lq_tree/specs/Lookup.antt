-- Structs, functions and fields by their names (docs/LANGUAGE.md, "Scope").
use Rattle.std.specs.Prelude.{ℕ, suc, Bool, ◌==◌, if◌then◌else◌, List, [], ◌∷◌, find, Option, option_and_then}
use Rattle.std.specs.Cmp.Lexicographic.{pointwise}
use Rattle.lq_tree.specs.declared.program.Program.{Program}
use Rattle.lq_tree.specs.declared.program.StructDef.{StructDef}
use Rattle.lq_tree.specs.declared.program.Func.{Func}
use Rattle.lq_tree.specs.declared.program.Param.{Param}

-- two names are the same
abbrev pub same : List ℕ → List ℕ → Bool
same a b = pointwise ◌==◌ a b

-- the struct of a name: of two the first one is meant
abbrev pub struct_of : List StructDef → List ℕ → Option StructDef
struct_of structs name = find (λ (s : StructDef). same s.name name) structs

-- the function of a name: of two the first one is meant
abbrev pub function_of : List Func → List ℕ → Option Func
function_of funcs name = find (λ (f : Func). same f.name name) funcs

-- the number of a function, from 0: of two of one name the first one is meant
abbrev pub number_of : List Func → List ℕ → ℕ
number_of [] name = 0
number_of (f ∷ funcs) name = if same f.name name then 0 else suc (number_of funcs name)

-- the field of a name: of two the first one is meant
abbrev pub field_among : List Param → List ℕ → Option Param
field_among fields name = find (λ (f : Param). same f.name name) fields

-- the field of a struct, both by name
abbrev pub field_of : Program → (struct field : List ℕ) → Option Param
field_of p struct field = option_and_then (λ (s : StructDef). field_among s.fields field) (struct_of p.structs struct)
