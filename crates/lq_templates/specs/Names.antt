-- The names of templates (docs/CHECKING.md, "Scopes" and "Templates").
use Rattle.std.specs.Prelude.{ℕ, suc, ◌==◌, Bool, false, not, ◌&&◌, ◌||◌, if◌then◌else◌, List, [], ◌∷◌, ◌++◌, Option, None, Some, slice_get, codes}
use Rattle.std.specs.List.{flat_map}
use Rattle.lq_tree.specs.declared.expr.CType.{CType}
use Rattle.lq_tree.specs.declared.plain.Slot.{Slot}
use Rattle.lq_tree.specs.declared.program.Param.{Param}
use Rattle.lq_tree.specs.Lookup.{same}
use Rattle.lq_templates.specs.declared.template.NamePart.TheVariants.{Value, Off, Len}
use Rattle.lq_templates.specs.declared.template.Named.{Named}

-- `off`, `len` and `result` have a meaning of their own in qualifiers, and are no name of a scope or template
abbrev pub is_word : List ℕ → Bool
is_word name = same name (codes "off") || (same name (codes "len") || same name (codes "result"))

-- the numbers of an int (no star) or a pointer of this name: the value of the one, the offset and the length of the other
abbrev pub numbers_of : (text : List ℕ) → (stars : ℕ) → (changed : Bool) → List Named
numbers_of text stars changed =
    if stars == 0
    then record { text = text; part = Value; changed = changed } ∷ []
    else record { text = text; part = Off; changed = changed } ∷ record { text = text; part = Len; changed = changed } ∷ []

-- a slot has this name
abbrev pub is_called : Option (List ℕ) → List ℕ → Bool
is_called None name = false
is_called (Some other) name = same other name

-- one of the slots from this number on is in scope and has this name
abbrev pub is_called_later : (in_scope : ℕ → Bool) → (slot : ℕ) → List Slot → List ℕ → Bool
is_called_later in_scope slot [] name = false
is_called_later in_scope slot (s ∷ later) name = (in_scope slot && is_called s.name name) || is_called_later in_scope (suc slot) later name

-- the names of a slot, behind which others follow: it is a source local where it has a name and is in scope, and no later slot in
-- scope has its name
abbrev pub slot_names : (changed in_scope : ℕ → Bool) → (slot : ℕ) → Option (List ℕ) → CType → (later : List Slot) → List Named
slot_names changed in_scope slot None type later = []
slot_names changed in_scope slot (Some name) type later =
    if in_scope slot && not (is_word name || is_called_later in_scope (suc slot) later name) then numbers_of name type.stars (changed slot) else []

-- the names of the source locals among the slots from this number on, in the order of their declarations
abbrev pub names_from : (changed in_scope : ℕ → Bool) → (slot : ℕ) → List Slot → List Named
names_from changed in_scope slot [] = []
names_from changed in_scope slot (s ∷ later) = slot_names changed in_scope slot s.name s.ctype later ++ names_from changed in_scope (suc slot) later

-- the names of the source locals of a function, where these slots are changed and those are in scope
abbrev pub local_names : List Slot → (changed in_scope : ℕ → Bool) → List Named
local_names slots changed in_scope = names_from changed in_scope 0 slots

-- a slot is marked
abbrev pub mark : Option Bool → Bool
mark None = false
mark (Some b) = b

-- the slots that are marked in a table
abbrev pub marked : List Bool → ℕ → Bool
marked marks slot = mark (slice_get marks slot)

-- the names of a field
abbrev pub names_of_field : Param → List Named
names_of_field f = numbers_of (codes "." ++ f.name) f.ctype.stars false

-- of fields
abbrev pub field_names : List Param → List Named
field_names fields = flat_map names_of_field fields

-- the element of an access
abbrev pub element : Named
element = record { text = codes "@"; part = Value; changed = false }

-- what a function returns
abbrev pub result_names : CType → List Named
result_names type = numbers_of (codes "result") type.stars false
