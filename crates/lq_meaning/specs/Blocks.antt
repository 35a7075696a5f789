-- Where the words of each block stand among numbered cells (docs/LANGUAGE.md, "Memory").
use Rattle.std.specs.Prelude.{◌≡◌, ℕ, zero, suc, ◌+◌, ◌-◌, ◌*◌, ◌^◌, ◌<◌, ◌≤◌, ℤ, pos, negsuc, Bool, ◌&&◌, nat_lt, if◌then◌else◌, List, map, length, slice_index_or, slice_range, All, AllPairs, Option, None, Some}
use Rattle.lq_meaning.specs.declared.blocks.Span.{Span}
use Rattle.lq_meaning.specs.declared.memory.Block.{Block}
use Rattle.lq_meaning.specs.Memory.{Blocks}

-- the span of these parts
abbrev pub span : (first fields length : ℕ) → Span
span first fields length = record { first = first; fields = fields; length = length }

-- the cells of a block are those from its first to below this
abbrev pub end : Span → ℕ
end s = s.first + s.length * s.fields

-- the cell is one of the block's
abbrev pub Covers : Span → ℕ → Type 0
Covers s cell = (s.first ≤ cell) × (cell < end s)

-- the cells of the block are below a number
abbrev pub Below : ℕ → Span → Type 0
Below bound s = (cell : ℕ) → Covers s cell → cell < bound

-- no cell is one of both blocks
abbrev pub Apart : Span → Span → Type 0
Apart s t = (cell : ℕ) → Covers s cell → Covers t cell → ⊥

-- a pointer word has room for the number of one more block
abbrev pub HasRoom : List Span → Type 0
HasRoom spans = length spans < 2 ^ 31 - 1

-- blocks as they lie among the cells: each has fields, their cells have numbers below 2^32, no two share one, and a pointer word
-- has room for the number of each
pub record Laid (spans : List Span) : Type 0 where
  pub fields : All (λ s. 1 ≤ s.fields) spans
  pub below : All (λ s. end s ≤ 2 ^ 32) spans
  pub apart : AllPairs Apart spans
  pub few : length spans < 2 ^ 31

-- a block of no cells
abbrev pub no_span : Span
no_span = span 0 0 0

-- the block with this number, from 1, or one of no cells
abbrev pub span_at : List Span → ℕ → Span
span_at spans zero = no_span
span_at spans (suc n) = slice_index_or spans n no_span

-- the block has an element and a field of these numbers
abbrev pub holds : Span → (element field : ℕ) → Bool
holds s element field = nat_lt element s.length && nat_lt field s.fields

-- the cell of an element and a field of a block
abbrev pub cell_in : Span → (element field : ℕ) → ℕ
cell_in s element field = s.first + element * s.fields + field

-- the same, where the block has them
abbrev pub cell_if : Span → (element field : ℕ) → Option ℕ
cell_if s element field = if holds s element field then Some (cell_in s element field) else None

-- the cell of an address, where it lies in its block
abbrev pub cell_of : List Span → (block : ℕ) → (element : ℤ) → (field : ℕ) → Option ℕ
cell_of spans block (pos element) field = cell_if (span_at spans block) element field
cell_of spans block (negsuc n) field = None

-- an address has its own cell
abbrev pub OneAddress : List Span → Type 0
OneAddress spans =
    (b c : ℕ) (e f : ℤ) (m n : ℕ) (cell : ℕ) → cell_of spans b e m ≡ Some cell → cell_of spans c f n ≡ Some cell → (b ≡ c) × (e ≡ f) × (m ≡ n)

-- the block whose words stand in these cells
abbrev pub block_in : List ℤ → Span → Block
block_in words s = record { fields = s.fields; words = slice_range words s.first (end s) }

-- block by block its fields and its words
abbrev pub memory_of : List Span → List ℤ → Blocks
memory_of spans words = map (block_in words) spans
