-- The locals in scope (docs/LANGUAGE.md, "Scope"): parameters, declared locals and indices, the innermost first.
use Rattle.std.specs.Prelude.{ℕ, if◌then◌else◌, List, [], ◌∷◌, map, reverse, Option, None, Some}
use Rattle.lq_tree.specs.Lookup.{same}
use Rattle.lq_tree.specs.Types.{Ty, Unknown, Variable}

-- a local: its name, its type, and what it stands for (a word, a slot)
pub record Local (X : Type 0) : Type 0 where
  pub name : List ℕ
  pub type : Ty
  pub what : X

-- the local of a name: of two the innermost is meant
abbrev pub local_of : {X : Type 0} → List (Local X) → List ℕ → Option (Local X)
local_of [] name = None
local_of (l ∷ locals) name = if same l.name name then Some l else local_of locals name

-- what a name stands for, or this where it isn't in scope
abbrev pub what_of : {X : Type 0} → X → List (Local X) → List ℕ → X
what_of otherwise [] name = otherwise
what_of otherwise (l ∷ locals) name = if same l.name name then l.what else what_of otherwise locals name

-- the type of a name, unknown where it isn't in scope
abbrev pub type_of_local : {X : Type 0} → List (Local X) → List ℕ → Ty
type_of_local [] name = Unknown
type_of_local (l ∷ locals) name = if same l.name name then l.type else type_of_local locals name

-- the same locals with another `what` at the local of a name
abbrev pub with_what : {X : Type 0} → List (Local X) → List ℕ → X → List (Local X)
with_what [] name what = []
with_what (l ∷ locals) name what = if same l.name name then record l { what = what } ∷ locals else l ∷ with_what locals name what

-- the names and types alone, in the order of their declarations, as the types of expressions take them
abbrev pub variables_of : {X : Type 0} → List (Local X) → List Variable
variables_of {X} locals = reverse (map (λ (l : Local X). record { name = l.name; type = l.type }) locals)
