-- Which functions are recursive (docs/CODE.md, "Copies of functions").
use Rattle.std.specs.Prelude.{ℕ, zero, suc, Bool, List, [], ◌∷◌, length, map, filter}
use Rattle.std.specs.List.{list_any}
use Rattle.lq_tree.specs.declared.program.Func.{Func}
use Rattle.lq_tree.specs.declared.program.Program.{Program}
use Rattle.lq_tree.specs.Lookup.{same}
use Rattle.lq_copies.specs.Calls.{Name, calls}

-- a name is among these
abbrev pub is_among : List Name → Name → Bool
is_among names name = list_any (same name) names

-- the functions that one of these calls
abbrev pub called_by : Program → List Func → List Func
called_by p callers = filter (λ (f : Func). list_any (λ (caller : Func). is_among (calls caller) f.name) callers) p.funcs

-- the functions that a function reaches by so many calls or less, but at least one
abbrev pub reached : Program → (more : ℕ) → Func → List Func
reached p zero f = called_by p (f ∷ [])
reached p (suc more) f = called_by p (f ∷ reached p more f)

-- a function reaches itself by calls; where it does, it does so by no more calls than there are functions
abbrev pub is_recursive : Program → Func → Bool
is_recursive p f = is_among (map (λ (g : Func). g.name) (reached p (length p.funcs) f)) f.name
