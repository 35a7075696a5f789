-- Open records: opened, read, written and folded (docs/CHECKING.md, "Opening and folding").
use Rattle.std.specs.Prelude.{◌≡◌, ◌==◌, ℕ, nat_lt, Bool, false, ◌&&◌, if◌then◌else◌, List, [], ◌∷◌, find, map, Option, None, Some, pos, slice_index_or, slice_set}
use Rattle.std.specs.Ordering.{int_eq}
use Rattle.std.specs.Cmp.Lexicographic.{pointwise}
use Rattle.lq_linear.specs.Form.{Linear, sum_of}
use Rattle.lq_linear.specs.Collect.{constant}
use Rattle.lq_templates.specs.declared.condition.Given.{Given}
use Rattle.lq_templates.specs.declared.condition.Given.TheVariants.{Of}
use Rattle.lq_templates.specs.declared.condition.Rule.TheVariants.{Fold}
use Rattle.lq_templates.specs.declared.condition.Site.{Site}
use Rattle.lq_templates.specs.declared.condition.Condition.{Condition}
use Rattle.lq_templates.specs.Rows.{same_term}
use Rattle.lq_templates.specs.Conditions.{asks}
use Rattle.lq_symbolic.specs.declared.value.SymPtr.{SymPtr}
use Rattle.lq_symbolic.specs.declared.value.SymValue.{SymValue}
use Rattle.lq_symbolic.specs.declared.value.SymValue.TheVariants.{Int as OfInt}
use Rattle.lq_symbolic.specs.declared.state.FieldType.{FieldType}
use Rattle.lq_symbolic.specs.declared.state.Opened.{Opened}
use Rattle.lq_symbolic.specs.declared.state.SymState.{SymState as State}
use Rattle.lq_symbolic.specs.State.{form_of, all_parts, with_items, new_values}
use Rattle.lq_symbolic.specs.Value.{bounded_or_new}

-- ---- which element is reached

-- a block and an element, and the state behind them
pub record Reached : Type 0 where
  pub at : SymPtr
  pub state : State

-- this element is reached, and this state is left
abbrev pub Reaches : Reached → SymPtr → State → Type 0
Reaches found at s = found ≡ record { at = at; state = s }

-- the element that a pointer and an index name: the offset and the index added up
abbrev pub reached : SymPtr → (index : Linear) → State → Reached
reached p index s =
    let element = bounded_or_new (sum_of p.offset index) s in
    record { at = record p { offset = form_of element.value }; state = element.state }

-- ---- the open records

-- the open record of a class
abbrev pub opened_of : (class : ℕ) → List Opened → Option Opened
opened_of class opened = find (λ o. o.class == class) opened

-- a record is open now, and no other of its class; they stand in order of class
abbrev pub with_opened : Opened → List Opened → List Opened
with_opened o [] = o ∷ []
with_opened o (first ∷ rest) =
    if nat_lt first.class o.class then first ∷ with_opened o rest
    else (if first.class == o.class then o ∷ rest else o ∷ first ∷ rest)

-- two forms are equal
abbrev pub same_form : Linear → Linear → Bool
same_form a b = pointwise same_term a.terms b.terms && int_eq a.constant b.constant

-- the record at this block and element is the open one
abbrev pub is_at : SymPtr → Option Opened → Bool
is_at at None = false
is_at at (Some o) = o.at.block == at.block && same_form o.at.offset at.offset

-- the values of the fields of the open record of a class
abbrev pub fields_in : Option Opened → List SymValue
fields_in None = []
fields_in (Some o) = o.fields

-- ---- folding

-- the condition of a fold: the values of a record meet the record template, which has the number of its class
abbrev pub fold_of : Site → (facts : List Given) → Opened → Condition
fold_of site facts o = asks Fold site facts (Of o.class (all_parts o.fields))

-- the open records are folded in order of class
abbrev pub fold_all : Site → State → List Condition
fold_all site s = map (fold_of site s.items) s.opened

-- after that none is open
abbrev pub folded : State → State
folded s = record s { opened = [] }

-- what the name or names of a field of a fresh block stand for: 0, or offset and length 0
abbrev pub zero_parts : FieldType → List Linear
zero_parts field = if field.ctype.stars == 0 then constant (pos 0) ∷ [] else constant (pos 0) ∷ constant (pos 0) ∷ []

-- ---- opening

-- the condition of opening a class at an element: the record that is open is folded, unless it is the one that is wanted
abbrev pub fold_other : Site → (facts : List Given) → SymPtr → Option Opened → List Condition
fold_other site facts at None = []
fold_other site facts at (Some o) = if is_at at (Some o) then [] else fold_of site facts o ∷ []

-- the class is opened at an element
abbrev pub asked_opening : Site → (class : ℕ) → SymPtr → State → List Condition
asked_opening site class at s = fold_other site s.items at (opened_of class s.opened)

-- a record with new values, of which the record template's rows are known
abbrev pub open_new : (class : ℕ) → List FieldType → SymPtr → State → State
open_new class types at s =
    let fields = new_values types s in
    let known = with_items (Of class (all_parts fields.values) ∷ []) fields.state in
    record known { opened = with_opened (record { class = class; at = at; fields = fields.values }) known.opened }

-- the state behind it: the record that is open is used where it is the one that is wanted
abbrev pub open_record : (class : ℕ) → List FieldType → SymPtr → State → State
open_record class types at s = if is_at at (opened_of class s.opened) then s else open_new class types at s

-- ---- reading and writing

-- the value of a field of the open record of a class
abbrev pub read_field : (class field : ℕ) → State → SymValue
read_field class field s = slice_index_or (fields_in (opened_of class s.opened)) field (OfInt (constant (pos 0)))

-- the fields of the open record of a class change
abbrev pub with_fields : (class : ℕ) → (List SymValue → List SymValue) → List Opened → List Opened
with_fields class change [] = []
with_fields class change (o ∷ rest) =
    if o.class == class then record o { fields = change o.fields } ∷ rest else o ∷ with_fields class change rest

-- a field of the open record of a class gets a value
abbrev pub write_field : (class field : ℕ) → SymValue → State → State
write_field class field value s = record s { opened = with_fields class (λ fields. slice_set fields field value) s.opened }
