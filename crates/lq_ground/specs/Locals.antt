-- Which slots are source locals at a point of the text, found from the last slot to the first; and the values of their names.
use Rattle.std.specs.Prelude.{ℕ, suc, Bool, false, not, ◌&&◌, ◌||◌, if◌then◌else◌, List, [], ◌∷◌, ◌++◌, Option, None, Some}
use Rattle.std.specs.List.{list_any}
use Rattle.lq_tree.specs.declared.plain.Slot.{Slot}
use Rattle.lq_tree.specs.Lookup.{same}
use Rattle.lq_linear.specs.Form.{Linear}
use Rattle.lq_templates.specs.Names.{is_word, is_called_later}
use Rattle.lq_symbolic.specs.declared.value.SymValue.{SymValue}
use Rattle.lq_symbolic.specs.State.{parts}

-- the name is one of these
abbrev pub has : List (List ℕ) → List ℕ → Bool
has names name = list_any (λ other. same name other) names

-- where these names stand behind a slot, it is a source local if it has another one
abbrev pub is_free : (behind : List (List ℕ)) → (in_scope : Bool) → Option (List ℕ) → Bool
is_free behind in_scope None = false
is_free behind in_scope (Some name) = in_scope && (not (has behind name) && not (is_word name))

-- the names that stand behind the slot before it
abbrev pub with_name : (behind : List (List ℕ)) → (in_scope : Bool) → Option (List ℕ) → List (List ℕ)
with_name behind in_scope None = behind
with_name behind in_scope (Some name) = if in_scope && not (has behind name) then behind ++ name ∷ [] else behind

-- a slot is a source local, where these slots follow
abbrev pub is_local : (in_scope : ℕ → Bool) → (slot : ℕ) → Option (List ℕ) → (later : List Slot) → Bool
is_local in_scope slot None later = false
is_local in_scope slot (Some name) later = in_scope slot && not (is_word name || is_called_later in_scope (suc slot) later name)

-- which of the slots from this number on are
abbrev pub locals_from : (in_scope : ℕ → Bool) → (slot : ℕ) → List Slot → List Bool
locals_from in_scope slot [] = []
locals_from in_scope slot (s ∷ later) = is_local in_scope slot s.name later ∷ locals_from in_scope (suc slot) later

-- what a slot's names stand for, if it is a source local
abbrev pub values_at : (local : Bool) → SymValue → List Linear
values_at local value = if local then parts value else []

-- of the slots from this number on
abbrev pub values_of : (value : ℕ → SymValue) → (slot : ℕ) → List Bool → List Linear
values_of value slot [] = []
values_of value slot (local ∷ later) = values_at local (value slot) ++ values_of value (suc slot) later
