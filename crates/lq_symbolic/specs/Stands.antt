-- What a state stands for: words of slots, and numbers that meet its items. Soundness is proved with it; a verdict doesn't rest on it.
use Rattle.std.specs.Prelude.{◌≡◌, ◌≢◌, ℕ, ◌<◌, ◌≤◌, IsTrue, List, length, ℤ, pos, slice_index_or}
use Rattle.std.specs.List.{AllByRecursion, flat_map}
use Rattle.lq_tree.specs.PlainScopes.{is_among}
use Rattle.lq_linear.specs.Form.{value_of}
use Rattle.lq_linear.specs.Item.{MeetsItem}
use Rattle.lq_meaning.specs.Word.{pointer}
use Rattle.lq_meaning.specs.Memory.{Blocks, elements, block_at}
use Rattle.lq_templates.specs.declared.condition.Assign.{Assign}
use Rattle.lq_templates.specs.Conditions.{items_of}
use Rattle.lq_symbolic.specs.declared.value.SymPtr.{SymPtr}
use Rattle.lq_symbolic.specs.declared.value.SymValue.{SymValue}
use Rattle.lq_symbolic.specs.declared.value.SymValue.TheVariants.{Int as OfInt, Ptr as OfPointer}
use Rattle.lq_symbolic.specs.declared.state.SymState.{SymState as State}
use Rattle.lq_symbolic.specs.State.{value_at}

-- a number for each symbol, and a block of the memory for each symbol of a block: 0, which is none, for null
pub record View : Type 0 where
  pub number : ℕ → ℤ
  pub block : ℕ → ℕ

-- two views agree on the symbols below this one
abbrev pub AgreeBelow : (next : ℕ) → (view other : View) → Type 0
AgreeBelow next view other = (n : ℕ) → n < next → (view.number n ≡ other.number n) × (view.block n ≡ other.block n)

-- a memory, and the class of each of its blocks: that of the slot that got it
pub record Sorted : Type 0 where
  pub memory : Blocks
  pub class_of : (block : ℕ) → ℕ

-- the block of a symbol is there, its symbol is its length, and it is of this class or null
pub record IsBlockOf (m : Sorted) (view : View) (class symbol : ℕ) : Type 0 where
  pub there : view.block symbol ≤ length m.memory
  pub long : view.number symbol ≡ pos (elements (block_at m.memory (view.block symbol)))
  pub of_class : view.block symbol ≢ 0 → m.class_of (view.block symbol) ≡ class

-- a word is the pointer to an offset in its symbol's block, or null, with offset 0
pub record IsPointerWord (m : Sorted) (view : View) (class : ℕ) (p : SymPtr) (word : ℤ) : Type 0 where
  pub of_block : IsBlockOf m view class p.block
  pub offset : ℕ
  pub at_offset : value_of view.number p.offset ≡ pos offset
  pub null_at_start : view.block p.block ≡ 0 → offset ≡ 0
  pub points : word ≡ pointer (view.block p.block) offset

-- a value stands for a word
abbrev pub StandsFor : Sorted → View → (class : ℕ) → SymValue → ℤ → Type 0
StandsFor m view class (OfInt form) word = word ≡ value_of view.number form
StandsFor m view class (OfPointer p) word = IsPointerWord m view class p word

-- each slot in scope has a word that its value stands for; of the others nothing is said
abbrev pub LocalsStand : Sorted → View → (class_at : ℕ → ℕ) → (scope : List ℕ) → State → (slots : List ℤ) → Type 0
LocalsStand m view class_at scope s slots =
    (slot : ℕ) → IsTrue (is_among scope slot) → StandsFor m view (class_at slot) (value_at s slot) (slice_index_or slots slot (pos 0))

-- the items are met, those of templates under an assignment
abbrev pub ItemsMet : Assign → View → State → Type 0
ItemsMet assign view s = AllByRecursion (MeetsItem view.number) (flat_map (items_of assign) s.items)
