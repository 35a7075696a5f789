-- A state stands for the slots and the memory of a run. Soundness is proved with it; a verdict doesn't rest on it.
use Rattle.std.specs.Prelude.{◌≡◌, ℕ, zero, suc, ◌<◌, ◌≤◌, ◌==◌, ◌⊎◌, false, if◌then◌else◌, List, [], ◌∷◌, ◌++◌, length, ℤ, pos, slice_index_or, Contains}
use Rattle.std.specs.List.{AllByRecursion}
use Rattle.lq_tree.specs.declared.expr.CType.{CType}
use Rattle.lq_linear.specs.Form.{value_of}
use Rattle.lq_linear.specs.Collect.{constant}
use Rattle.lq_meaning.specs.Word.{null, block_of, offset_of}
use Rattle.lq_meaning.specs.Memory.{Blocks, elements, address, block_at, word_at}
use Rattle.lq_templates.specs.declared.condition.Assign.{Assign}
use Rattle.lq_templates.specs.Conditions.{RowsHold}
use Rattle.lq_symbolic.specs.declared.value.SymValue.{SymValue}
use Rattle.lq_symbolic.specs.declared.value.SymValue.TheVariants.{Int as OfInt}
use Rattle.lq_symbolic.specs.declared.state.FieldType.{FieldType}
use Rattle.lq_symbolic.specs.declared.state.Opened.{Opened}
use Rattle.lq_symbolic.specs.declared.state.SymState.{SymState as State}
use Rattle.lq_symbolic.specs.Stands.{View, AgreeBelow, Sorted, IsBlockOf, StandsFor, LocalsStand, ItemsMet}

-- the fields of each class
abbrev pub Fields : Type 0
Fields = (class : ℕ) → List FieldType

-- ---- records that are open

-- the class of a pointer in the field with this number
abbrev pub class_of_field : List FieldType → (field : ℕ) → ℕ
class_of_field [] field = 0
class_of_field (f ∷ later) zero = f.class
class_of_field (f ∷ later) (suc field) = class_of_field later field

-- the value of a field of an open record
abbrev pub field_value : Opened → (field : ℕ) → SymValue
field_value o field = slice_index_or o.fields field (OfInt (constant (pos 0)))

-- an open record is at this block and element
pub record IsRecordAt (view : View) (o : Opened) (block element : ℕ) : Type 0 where
  pub at_block : view.block o.at.block ≡ block
  pub at_element : value_of view.number o.at.offset ≡ pos element

-- the element of an open record lies in its block, and its values are the words there
pub record RecordStands (m : Sorted) (fields : Fields) (view : View) (o : Opened) : Type 0 where
  pub of_block : IsBlockOf m view o.class o.at.block
  pub block : ℕ
  pub element : ℕ
  pub is_at : IsRecordAt view o block element
  pub inside : element < elements (block_at m.memory block)
  pub values : (field : ℕ) → field < length o.fields →
      StandsFor m view (class_of_field (fields o.class) field) (field_value o field) (word_at m.memory (address block element field))

-- one of the open records is at this block and element
pub record IsOpen (view : View) (s : State) (block element : ℕ) : Type 0 where
  pub opened : Opened
  pub among : Contains s.opened opened
  pub is_at : IsRecordAt view opened block element

-- ---- records that are closed

-- the numbers that the name or names of a field stand for, where it has this word
abbrev pub word_numbers : Blocks → CType → (word : ℤ) → List ℤ
word_numbers memory type word =
    if type.stars == 0 then word ∷ [] else pos (offset_of word) ∷ pos (elements (block_at memory (block_of word))) ∷ []

-- those of the fields from this one on of an element
abbrev pub record_numbers : Blocks → (block element field : ℕ) → List FieldType → List ℤ
record_numbers memory block element field [] = []
record_numbers memory block element field (f ∷ later) =
    word_numbers memory f.ctype (word_at memory (address block element field)) ++ record_numbers memory block element (suc field) later

-- a word in memory is null, or points to a block of this class
abbrev pub PointsTo : Sorted → (class : ℕ) → (word : ℤ) → Type 0
PointsTo m class word = (word ≡ null) ⊎ ((block_of word ≤ length m.memory) × (m.class_of (block_of word) ≡ class))

-- the pointers among the fields from this one on of an element point to their classes
abbrev pub PointersSorted : Sorted → (block element field : ℕ) → List FieldType → Type 0
PointersSorted m block element field [] = Unit {0}
PointersSorted m block element field (f ∷ later) =
    ((f.ctype.stars == 0) ≡ false → PointsTo m f.class (word_at m.memory (address block element field)))
    × PointersSorted m block element (suc field) later

-- a record meets its class's template, and its pointers point to their classes
pub record IsFolded (assign : Assign) (m : Sorted) (fields : Fields) (block element : ℕ) : Type 0 where
  pub rows : RowsHold assign (m.class_of block) (record_numbers m.memory block element 0 (fields (m.class_of block)))
  pub pointers : PointersSorted m block element 0 (fields (m.class_of block))

-- every record that isn't open does
abbrev pub AllFolded : Assign → Sorted → Fields → View → State → Type 0
AllFolded assign m fields view s =
    (block element : ℕ) → element < elements (block_at m.memory block) → ¬ IsOpen view s block element → IsFolded assign m fields block element

-- ---- the state

-- what the words of a run are: its slots, the classes of pointer slots and those in scope, its memory and the fields of its classes
pub record Run : Type 0 where
  pub slots : List ℤ
  pub class_at : (slot : ℕ) → ℕ
  pub scope : List ℕ
  pub sorted : Sorted
  pub fields : Fields

-- under a view a state stands for them
pub record StandsUnder (assign : Assign) (run : Run) (s : State) (view : View) : Type 0 where
  pub locals : LocalsStand run.sorted view run.class_at run.scope s run.slots
  pub items : ItemsMet assign view s
  pub opened : AllByRecursion (RecordStands run.sorted run.fields view) s.opened
  pub folded : AllFolded assign run.sorted run.fields view s

-- and under every view that agrees with it on the symbols that have been taken
abbrev pub Stands : Assign → Run → State → View → Type 0
Stands assign run s view = (other : View) → AgreeBelow s.next view other → StandsUnder assign run s other
