-- What the walk over a function's body rests on: the program, its classes and templates, and what they are at a statement.
use Rattle.std.specs.Prelude.{ℕ, suc, ◌+◌, ◌-◌, ◌==◌, Bool, false, ◌&&◌, ◌++◌, if◌then◌else◌, List, [], ◌∷◌, filter, length, Option, None, Some, pos, slice_get, slice_index_or}
use Rattle.std.specs.List.{flat_map, range_with_len}
use Rattle.lq_tree.specs.declared.program.Param.{Param}
use Rattle.lq_tree.specs.declared.plain.PKind.{PKind, Load, Store, Row_of-PStmt}
use Rattle.lq_tree.specs.declared.plain.PStmt.{PStmt}
use Rattle.lq_tree.specs.declared.plain.Slot.{Slot}
use Rattle.lq_tree.specs.declared.plain.PFunc.{PFunc}
use Rattle.lq_tree.specs.declared.plain.Branch.{Branch, Branch'}
use Rattle.lq_tree.specs.PlainScopes.{is_among}
use Rattle.lq_tree.specs.PlainWalk.{within_row, statements}
use Rattle.lq_linear.specs.Form.{Linear}
use Rattle.lq_linear.specs.Collect.{constant}
use Rattle.lq_classes.specs.Classes.{root}
use Rattle.lq_templates.specs.declared.condition.Given.{Given}
use Rattle.lq_templates.specs.declared.condition.Given.TheVariants.{Of}
use Rattle.lq_templates.specs.declared.template.TemplateKind.{TemplateKind}
use Rattle.lq_templates.specs.declared.template.TemplateKind.TheVariants.{Pre, Post}
use Rattle.lq_templates.specs.declared.template.Template.{Template}
use Rattle.lq_templates.specs.declared.template.Named.{Named}
use Rattle.lq_templates.specs.Classes.{ClassOf, fields_behind}
use Rattle.lq_templates.specs.Names.{slot_names}
use Rattle.lq_templates.specs.Spots.{Walk, inner_scope, spot_at, passed, closed, changed, walked_row, params_of, spots}
use Rattle.lq_templates.specs.Templates.{Env, spot_templates, count_scopes}
use Rattle.lq_symbolic.specs.declared.value.SymValue.{SymValue}
use Rattle.lq_symbolic.specs.declared.value.SymValue.TheVariants.{Int as OfInt}
use Rattle.lq_symbolic.specs.declared.state.FieldType.{FieldType}
use Rattle.lq_symbolic.specs.declared.state.Start.{Start}
use Rattle.lq_symbolic.specs.declared.state.SymState.{SymState as State}
use Rattle.lq_symbolic.specs.State.{parts, value_at, put, with_items, renew}

-- ---- the ground of a walk

-- the function with its program, classes and accesses, all templates, how many of them come before those inside the function's text,
-- and the number of the function's scope
pub record Ground : Type 0 where
  pub env : Env
  pub templates : List Template
  pub before : ℕ
  pub scope : ℕ

-- the slots of the function
abbrev pub slots_of : Ground → List Slot
slots_of g = g.env.func.slots

-- the class of a pointer slot
abbrev pub class_of_slot : Ground → ℕ → ℕ
class_of_slot g slot = g.env.class_of g.env.number slot

-- a slot gets a value
abbrev pub put_slot : Ground → (slot : ℕ) → SymValue → State → State
put_slot g slot value s = put (class_of_slot g slot) slot value s

-- ---- the fields of a class

-- the class of the slot from which a pointer comes, if it comes from one
abbrev pub class_of_root : (class_at : ℕ → ℕ) → Option ℕ → List ℕ
class_of_root class_at None = []
class_of_root class_at (Some slot) = class_at slot ∷ []

-- the class of the slot that a statement loads from the field of a class, or stores to it
abbrev pub class_moved : (class_at : ℕ → ℕ) → (class field : ℕ) → PKind → List ℕ
class_moved class_at class field (Load to base index f) = if class_at base == class && f == field then class_at to ∷ [] else []
class_moved class_at class field (Store base index f e) = if class_at base == class && f == field then class_of_root class_at (root e) else []
class_moved class_at class field _ = []

-- the classes of all such slots of the functions from this number on; they are one, since the field is
abbrev pub classes_moved : ClassOf → (class field number : ℕ) → List PFunc → List ℕ
classes_moved class_of class field number [] = []
classes_moved class_of class field number (f ∷ funcs) =
    flat_map (λ (s : PStmt). class_moved (class_of number) class field s.kind) (statements f.body) ++ classes_moved class_of class field (suc number) funcs

-- the fields from this number on of a class
abbrev pub fields_from : Ground → (class field : ℕ) → List Param → List FieldType
fields_from g class field [] = []
fields_from g class field (f ∷ later) =
    record { ctype = f.ctype; class = slice_index_or (classes_moved g.env.class_of class field 0 g.env.program.funcs) 0 0 }
    ∷ fields_from g class (suc field) later

-- the fields of what a slot points to
abbrev pub fields_at : Ground → (class : ℕ) → Option Slot → List FieldType
fields_at g class None = []
fields_at g class (Some s) = fields_from g class 0 (fields_behind g.env.program.structs s.ctype)

-- the fields of the class of a pointer slot
abbrev pub fields_of : Ground → (slot : ℕ) → List FieldType
fields_of g slot = fields_at g (class_of_slot g slot) (slice_get (slots_of g) slot)

-- ---- names at a point of the text

-- these values, where there are names for them
abbrev pub if_named : List Named → List Linear → List Linear
if_named [] values = []
if_named (n ∷ names) values = values

-- the values of the names of source locals among the slots from this number on
abbrev pub values_from : (in_scope : ℕ → Bool) → (value : ℕ → SymValue) → (slot : ℕ) → List Slot → List Linear
values_from in_scope value slot [] = []
values_from in_scope value slot (s ∷ later) =
    if_named (slot_names (is_among []) in_scope slot s.name s.ctype later) (parts (value slot)) ++ values_from in_scope value (suc slot) later

-- the values of the names of the source locals in scope
abbrev pub local_values : Ground → Walk → State → List Linear
local_values g w s = values_from (is_among w.scope) (value_at s) 0 (slots_of g)

-- those of the names of a function's parameters
abbrev pub param_values : PFunc → (value : ℕ → SymValue) → List Linear
param_values f value = values_from (is_among (params_of f)) value 0 f.slots

-- ---- where the walk stands inside a statement

-- in its first list, or in its branch
abbrev pub in_first : PKind → Walk → Walk
in_first kind w = passed (spot_at w.scope kind) w

-- in its second list, behind the first
abbrev pub in_second : {n : _} → PKind → (first : Row_of-PStmt n) → Walk → Walk
in_second kind first w = closed w (walked_row first (in_first kind w))

-- in a branch
abbrev pub in_branch : Branch → Walk → Walk
in_branch (Branch' at n body) w = passed (inner_scope at (within_row body) w.scope ∷ []) w

-- ---- the template of an If or a While

-- the slots that it changes, ascending
abbrev pub changes : Ground → PKind → Walk → List ℕ
changes g kind w = filter (is_among (changed w.scope kind)) (range_with_len 0 (length (slots_of g)))

-- its template at the values of the locals; where no slot changes it has none
abbrev pub where_any : (changes : List ℕ) → Given → List Given
where_any [] given = []
where_any (slot ∷ changes) given = given ∷ []

-- the number of its template: those before it are those before the text and those of what has been passed
abbrev pub spot_number : Ground → Walk → ℕ
spot_number g w = suc (g.before + length (spot_templates g.env (suc g.scope) w.spots))

-- its rows on the values of the locals
abbrev pub spot_rows : Ground → PKind → Walk → State → List Given
spot_rows g kind w s = where_any (changes g kind w) (Of (spot_number g w) (local_values g w s))

-- slots get new values, one after the other
abbrev pub renewed : Ground → (changes : List ℕ) → State → State
renewed g [] s = s
renewed g (slot ∷ changes) s = renewed g changes (renew (class_of_slot g slot) slot (slice_get (slots_of g) slot) s)

-- behind an If or at the head of a While: the changed slots are new, and the rows are known
abbrev pub at_spot : Ground → PKind → Walk → State → State
at_spot g kind w s =
    let new = renewed g (changes g kind w) s in
    with_items (spot_rows g kind w new) new

-- ---- scopes

-- a branch begins: the values of its scope's names are kept
abbrev pub start_of : Ground → Walk → State → Start
start_of g w s = record { scope = suc (g.scope + count_scopes w.spots); values = local_values g w s }

-- its scope is the innermost one
abbrev pub in_scope : Start → State → State
in_scope start s = record s { scopes = start ∷ s.scopes }

-- the number of the scope of the function with this number, among these and those that follow
abbrev pub function_scope : List PFunc → (number : ℕ) → ℕ
function_scope [] number = 0
function_scope (f ∷ funcs) number = if number == 0 then 0 else suc (count_scopes (spots f)) + function_scope funcs (number - 1)

-- what the names of the function's scope stood for at its entry
abbrev pub at_entry : List Start → List Linear
at_entry [] = []
at_entry (start ∷ []) = start.values
at_entry (start ∷ outer) = at_entry outer

-- ---- functions

-- the same for these arguments
abbrev pub argument_values : PFunc → List SymValue → List Linear
argument_values f arguments = param_values f (λ slot. slice_index_or arguments slot (OfInt (constant (pos 0))))

-- it is the pre template of the function
abbrev pub is_pre : (func : ℕ) → TemplateKind → Bool
is_pre func (Pre other) = func == other
is_pre func _ = false

-- it is the post template of the function
abbrev pub is_post : (func : ℕ) → TemplateKind → Bool
is_post func (Post other) = func == other
is_post func _ = false

-- the rows at these values of the templates that pass, among those from this number on
abbrev pub rows_where : (TemplateKind → Bool) → (number : ℕ) → List Template → List Linear → List Given
rows_where test number [] values = []
rows_where test number (t ∷ rest) values = if test t.kind then Of number values ∷ [] else rows_where test (suc number) rest values

-- the pre rows of a function
abbrev pub pre_rows : Ground → (func : ℕ) → List Linear → List Given
pre_rows g func values = rows_where (is_pre func) 1 g.templates values

-- the post rows of a function, if it has them
abbrev pub post_rows : Ground → (func : ℕ) → List Linear → List Given
post_rows g func values = rows_where (is_post func) 1 g.templates values
