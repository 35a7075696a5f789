-- What the heads of structs and functions break, and what a whole program breaks (docs/LANGUAGE.md, "Name rules").
use Rattle.std.specs.Prelude.{ℕ, zero, Bool, true, false, ◌&&◌, ◌||◌, not, if◌then◌else◌, List, [], ◌∷◌, ◌++◌, map, Option, None, Some, codes}
use Rattle.std.specs.List.{list_any, flat_map}
use Rattle.lq_tree.specs.declared.place.Place.{Place}
use Rattle.lq_tree.specs.declared.expr.Base.TheVariants.{Int}
use Rattle.lq_tree.specs.declared.expr.CType.{CType}
use Rattle.lq_tree.specs.declared.program.Program.{Program}
use Rattle.lq_tree.specs.declared.program.StructDef.{StructDef}
use Rattle.lq_tree.specs.declared.program.Func.{Func}
use Rattle.lq_tree.specs.declared.program.Param.{Param}
use Rattle.lq_names.specs.declared.fault.Fault.{Fault}
use Rattle.lq_names.specs.Scopes.{Site, Variable, Ty, Number, Pointer, declared, same, function_of}
use Rattle.lq_names.specs.Types.{is_known}
use Rattle.lq_names.specs.Rules.{is_whole}
use Rattle.lq_names.specs.Faults.{broken, fault_at, placed_faults}
use Rattle.lq_names.specs.Sites.{sites_list}
use Rattle.lq_names.specs.Seen.{is_among}

-- ---- N1: `main` is missing, or has none of its forms (docs/LANGUAGE.md, "Entry of main")

-- it is an int
abbrev pub is_int : Ty → Bool
is_int Number = true
is_int _ = false

-- it is an `int *`
abbrev pub is_int_pointer : Ty → Bool
is_int_pointer (Pointer Int zero) = true
is_int_pointer _ = false

-- no parameters, or `int *` and `int`
abbrev pub takes_input : List Param → Bool
takes_input [] = true
takes_input (a ∷ []) = false
takes_input (a ∷ b ∷ []) = is_int_pointer (declared a.ctype) && is_int (declared b.ctype)
takes_input (a ∷ b ∷ c ∷ rest) = false

-- a function gives an int
abbrev pub gives_int : Option CType → Bool
gives_int None = false
gives_int (Some type) = is_int (declared type)

-- there is a `main`, of one of its forms
abbrev pub is_entry : Option Func → Bool
is_entry None = false
is_entry (Some f) = gives_int f.result && takes_input f.params

-- the place of what a program lacks
abbrev pub start : Place
start = record { line = 1; col = 1 }

-- what is broken at `main`
abbrev pub entry_rules : Program → List ℕ
entry_rules p = broken ((not (is_entry (function_of p.funcs (codes "main"))), 1) ∷ [])

-- ---- N2, N3, N4 and N7 at the head of a struct or a function

-- two fields or parameters have one name
abbrev pub has_twins : List Param → Bool
has_twins [] = false
has_twins (f ∷ fields) = list_any (λ (g : Param). same f.name g.name) fields || has_twins fields

-- the type names an unknown struct
abbrev pub is_unknown : Program → CType → Bool
is_unknown p type = not (is_known p type.base)

-- the type is a struct without a star
abbrev pub is_bare : CType → Bool
is_bare type = is_whole (declared type)

-- one of the fields, parameters or the result is so
abbrev pub some_type : (CType → Bool) → Option CType → List Param → Bool
some_type test None params = list_any (λ (q : Param). test q.ctype) params
some_type test (Some type) params = test type || list_any (λ (q : Param). test q.ctype) params

-- the rules at a struct, behind structs of these names
abbrev pub struct_rules : Program → (earlier : List (List ℕ)) → StructDef → List ℕ
struct_rules p earlier d = broken ((is_among earlier d.name || has_twins d.fields, 2) ∷ (some_type (is_unknown p) None d.fields, 3) ∷ (some_type is_bare None d.fields, 7) ∷ [])

-- the rules at the head of a function, behind functions of these names
abbrev pub head_rules : Program → (earlier : List (List ℕ)) → Func → List ℕ
head_rules p earlier f = broken ((is_among earlier f.name, 2) ∷ (some_type (is_unknown p) f.result f.params, 3) ∷ (has_twins f.params, 4) ∷ (some_type is_bare f.result f.params, 7) ∷ [])

-- the names with one more, each once
abbrev pub with_name : List (List ℕ) → List ℕ → List (List ℕ)
with_name names name = if is_among names name then names else names ++ (name ∷ [])

-- at each struct, where the earlier ones have these names
abbrev pub struct_faults : Program → (earlier : List (List ℕ)) → List StructDef → List Fault
struct_faults p earlier [] = []
struct_faults p earlier (d ∷ rest) = map (fault_at d.at) (struct_rules p earlier d) ++ struct_faults p (with_name earlier d.name) rest

-- ---- a function, its body included

-- a parameter as a variable
abbrev pub parameter : Param → Variable
parameter q = record { name = q.name; type = declared q.ctype }

-- the site of a function's body
abbrev pub body_site : Program → (prints allocates : List ℕ → Bool) → Func → Site
body_site p prints allocates f = record {
  program = p;
  prints = prints;
  allocates = allocates;
  returns = f.result;
  scope = map parameter f.params;
  outside = 0;
  parallel = false;
}

-- at each function, where the earlier ones have these names
abbrev pub function_faults : Program → (prints allocates : List ℕ → Bool) → (earlier : List (List ℕ)) → List Func → List Fault
function_faults p prints allocates earlier [] = []
function_faults p prints allocates earlier (f ∷ rest) =
    map (fault_at f.at) (head_rules p earlier f) ++ (flat_map placed_faults (sites_list (body_site p prints allocates f) f.body) ++ function_faults p prints allocates (with_name earlier f.name) rest)

-- all that a program breaks, where these functions may print and these may allocate
abbrev pub program_faults : Program → (prints allocates : List ℕ → Bool) → List Fault
program_faults p prints allocates = map (fault_at start) (entry_rules p) ++ (struct_faults p [] p.structs ++ function_faults p prints allocates [] p.funcs)
