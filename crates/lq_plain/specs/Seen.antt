-- What the code holds, as the definitions see it.
use Rattle.std.specs.Prelude.{ℕ, List, [], ◌∷◌}
use Rattle.lq_tree.specs.Types.{Variable}
use Rattle.lq_tree.specs.Locals.{Local}

-- a variable with its slot
abbrev pub local : Variable → ℕ → Local ℕ
local v slot = record { name = v.name; type = v.type; what = slot }

-- variables with their slots inside a scope
abbrev pub inside : List (Local ℕ) → List Variable → List ℕ → List (Local ℕ)
inside scope (v ∷ variables) (slot ∷ slots) = inside (local v slot ∷ scope) variables slots
inside scope _ _ = scope

-- variables in the order of their declarations, with their slots: the innermost first
abbrev pub locals_of : List Variable → List ℕ → List (Local ℕ)
locals_of variables slots = inside [] variables slots
