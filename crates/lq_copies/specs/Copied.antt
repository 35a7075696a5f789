-- A source whose calls have functions of their own (docs/CODE.md, "Copies of functions").
use Rattle.std.specs.Prelude.{ℕ, zero, suc, ◌+◌, not, ◌||◌, nat_lt, if◌then◌else◌, List, [], ◌∷◌, ◌++◌, length, map, filter, count_by, Option, None, Some, slice_get, codes, decimal}
use Rattle.lq_tree.specs.declared.program.Func.{Func}
use Rattle.lq_tree.specs.declared.program.Program.{Program}
use Rattle.lq_tree.specs.Lookup.{same, function_of}
use Rattle.lq_copies.specs.Calls.{Name, Naming, function}
use Rattle.lq_copies.specs.Recursive.{is_among, is_recursive}

-- how far the copying has come: the list of functions, each as it was; which functions a call has kept; and of which function each copy is
pub record Copying : Type 0 where
  pub funcs : List Func
  pub kept : List Name
  pub made : List Name

-- the k-th copy of `f` is called `f@k`
abbrev pub copy_name : Name → (k : ℕ) → Name
copy_name name k = name ++ codes "@" ++ decimal k

-- one copy more, and its name at the call
abbrev pub new_copy : Copying → Func → Name × Copying
new_copy c f =
    let name = copy_name f.name (count_by (same f.name) c.made + 1) in
    (name, record { funcs = c.funcs ++ record f { name = name } ∷ []; kept = c.kept; made = c.made ++ f.name ∷ [] })

-- a later call of a function: it gets a copy, unless the function is recursive or there are 256 functions
abbrev pub later_call : (recursive : List Name) → Option Func → Naming Copying
later_call recursive None name c = (name, c)
later_call recursive (Some f) name c = if is_among recursive name || not (nat_lt (length c.funcs) 256) then (name, c) else new_copy c f

-- a call: the first one of a function keeps it
abbrev pub taken : Program → (recursive : List Name) → Naming Copying
taken p recursive name c =
    if is_among c.kept name then later_call recursive (function_of p.funcs name) name c
    else (name, record c { kept = name ∷ c.kept })

-- the next function with its calls named, if there is one, and then the others
abbrev pub before_others : Naming Copying → (others : Copying → List Func) → Option Func → Copying → List Func
before_others take others None c = []
before_others take others (Some f) c = let done = function take f c in done.0 ∷ others done.1

-- the functions from a place of the list on, one after another, copies among them; so many at most
abbrev pub worked_off : (most : ℕ) → Naming Copying → (place : ℕ) → Copying → List Func
worked_off zero take place c = []
worked_off (suc most) take place c = before_others take (λ c. worked_off most take (place + 1) c) (slice_get c.funcs place) c

-- the functions of a source and their copies, which are never more than 256, unless the source itself has more functions
abbrev pub copied_funcs : Program → List Func
copied_funcs p =
    let recursive = map (λ (f : Func). f.name) (filter (is_recursive p) p.funcs) in
    worked_off (length p.funcs + 256) (taken p recursive) 0 (record { funcs = p.funcs; kept = []; made = [] })

-- the copy of a source
abbrev pub copied : Program → Program
copied p = record p { funcs = copied_funcs p }
