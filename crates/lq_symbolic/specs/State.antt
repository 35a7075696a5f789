-- What the checker knows at a point of the text (docs/CHECKING.md, "State").
use Rattle.std.specs.Prelude.{◌≡◌, ℕ, ◌+◌, ◌==◌, if◌then◌else◌, List, [], ◌∷◌, ◌++◌, Option, None, Some, pos, slice_index_or, slice_set}
use Rattle.std.specs.List.{flat_map}
use Rattle.lq_tree.specs.declared.expr.CType.{CType}
use Rattle.lq_tree.specs.declared.plain.Slot.{Slot}
use Rattle.lq_linear.specs.Form.{Linear}
use Rattle.lq_linear.specs.Row.{Inequality}
use Rattle.lq_linear.specs.Collect.{as_row, constant, symbol}
use Rattle.lq_linear.specs.Sides.{at_most, equal}
use Rattle.lq_linear.specs.declared.item.Item.TheVariants.{Holds}
use Rattle.lq_templates.specs.declared.condition.Given.{Given}
use Rattle.lq_templates.specs.declared.condition.Given.TheVariants.{Fixed}
use Rattle.lq_symbolic.specs.declared.value.SymPtr.{SymPtr}
use Rattle.lq_symbolic.specs.declared.value.SymValue.{SymValue}
use Rattle.lq_symbolic.specs.declared.value.SymValue.TheVariants.{Int as OfInt, Ptr as OfPointer}
use Rattle.lq_symbolic.specs.declared.state.FieldType.{FieldType}
use Rattle.lq_symbolic.specs.declared.state.SymState.{SymState as State}

-- ---- values

-- the form of an int
abbrev pub form_of : SymValue → Linear
form_of (OfInt form) = form
form_of (OfPointer p) = constant (pos 0)

-- the block and the offset of a pointer
abbrev pub pointer_of : SymValue → SymPtr
pointer_of (OfInt form) = record { class = 0; block = 0; offset = constant (pos 0) }
pointer_of (OfPointer p) = p

-- the length of a pointer's block, as a form
abbrev pub length_of : SymPtr → Linear
length_of p = symbol p.block

-- a pointer takes the class of where it is put
abbrev pub of_class : ℕ → SymValue → SymValue
of_class class (OfInt form) = OfInt form
of_class class (OfPointer p) = OfPointer (record p { class = class })

-- the numbers that names stand for: that of an int, and the offset and the length of a pointer
abbrev pub parts : SymValue → List Linear
parts (OfInt form) = form ∷ []
parts (OfPointer p) = p.offset ∷ length_of p ∷ []

-- the same, of one value after the other
abbrev pub all_parts : List SymValue → List Linear
all_parts values = flat_map parts values

-- ---- the state

-- a value, and the state behind it
pub record Valued : Type 0 where
  pub value : SymValue
  pub state : State

-- a value is given, and this state is left
abbrev pub Gives : Valued → SymValue → State → Type 0
Gives valued value s = valued ≡ record { value = value; state = s }

-- several values, and the state behind them
pub record AllValued : Type 0 where
  pub values : List SymValue
  pub state : State

-- these values are given, and this state is left
abbrev pub GiveAll : AllValued → List SymValue → State → Type 0
GiveAll valued values s = valued ≡ record { values = values; state = s }

-- the value of the slot with this number
abbrev pub value_at : State → ℕ → SymValue
value_at s slot = slice_index_or s.slots slot (OfInt (constant (pos 0)))

-- a slot, whose class this is, gets a value
abbrev pub put : (class slot : ℕ) → SymValue → State → State
put class slot value s = record s { slots = slice_set s.slots slot (of_class class value) }

-- items become known
abbrev pub with_items : List Given → State → State
with_items items s = record s { items = s.items ++ items }

-- a row that passes the bounds is left out
abbrev pub with_bounded : Option Inequality → State → State
with_bounded None s = s
with_bounded (Some row) s = with_items (Fixed (Holds row) ∷ []) s

-- a row becomes known
abbrev pub with_row : Inequality → State → State
with_row row s = with_bounded (as_row row) s

-- rows become known one after the other
abbrev pub with_rows : List Inequality → State → State
with_rows [] s = s
with_rows (row ∷ rows) s = with_rows rows (with_row row s)

-- ---- new values

-- so many symbols are taken
abbrev pub taken : ℕ → State → State
taken count s = record s { next = s.next + count }

-- `form >= 0`
abbrev pub not_below_zero : Linear → Inequality
not_below_zero form = at_most (constant (pos 0)) form

-- a new int
abbrev pub new_int : State → Valued
new_int s = record { value = OfInt (symbol s.next); state = taken 1 s }

-- a pointer of no class that is the next symbol's block with this offset
abbrev pub next_block : (offset : Linear) → State → SymPtr
next_block offset s = record { class = 0; block = s.next; offset = offset }

-- a new pointer of this class: a new block with a new offset, and the rows `len >= 0` and then `offset >= 0`
abbrev pub new_pointer : (class : ℕ) → State → Valued
new_pointer class s =
    let p = record (next_block (symbol (s.next + 1)) s) { class = class } in
    record { value = OfPointer p; state = with_rows (not_below_zero (length_of p) ∷ not_below_zero p.offset ∷ []) (taken 2 s) }

-- null: a new block with offset 0, and the rows `len >= 0` and `len <= 0`
abbrev pub new_null : State → Valued
new_null s =
    let p = next_block (constant (pos 0)) s in
    record { value = OfPointer p; state = with_rows (equal (constant (pos 0)) (length_of p)) (taken 1 s) }

-- a new value of a type, a pointer of this class
abbrev pub new_of : (class : ℕ) → CType → State → Valued
new_of class type s = if type.stars == 0 then new_int s else new_pointer class s

-- new values of fields, one after the other
abbrev pub new_values : List FieldType → State → AllValued
new_values [] s = record { values = []; state = s }
new_values (field ∷ fields) s =
    let first = new_of field.class field.ctype s in
    let later = new_values fields first.state in
    record { values = first.value ∷ later.values; state = later.state }

-- the slot with this number, whose class this is, gets a new value
abbrev pub renew : (class slot : ℕ) → Option Slot → State → State
renew class slot None s = s
renew class slot (Some declared) s = let new = new_of class declared.ctype s in put class slot new.value new.state
