-- Blocks and addresses (docs/LANGUAGE.md, "Memory"; ISO/IEC 9899:2011, 6.5.6 for pointers and 7.22.3.2 for calloc).
use Rattle.std.specs.Prelude.{ℕ, zero, suc, ◌+◌, ◌-◌, ◌*◌, ◌/◌, ℤ, pos, negsuc, ◌+ℤ◌, Bool, ◌&&◌, nat_lt, if◌then◌else◌, List, [], ◌∷◌, ◌++◌, length, replicate, slice_index_or, slice_set, All, ◌≤◌, ◌^◌, Option, None, Some}
use Rattle.lq_meaning.specs.declared.memory.Address.{Address}
use Rattle.lq_meaning.specs.declared.memory.Block.{Block}
use Rattle.lq_meaning.specs.Word.{block_of, offset_of}

-- a memory is its blocks, numbered from 1
abbrev pub Blocks : Type 0
Blocks = List Block

-- each block has so few words that each of its elements has a number below 2^32
abbrev pub Addressable : Blocks → Type 0
Addressable blocks = All (λ block. length block.words ≤ 2 ^ 32) blocks

-- how many elements a block has
abbrev pub elements : Block → ℕ
elements block = length block.words / block.fields

-- the address of these parts
abbrev pub address : (block element field : ℕ) → Address
address block element field = record { block = block; element = element; field = field }

-- a block of no words
abbrev pub no_words : Block
no_words = record { fields = 0; words = [] }

-- the block with this number, or one of no words
abbrev pub block_at : Blocks → ℕ → Block
block_at blocks zero = no_words
block_at blocks (suc n) = slice_index_or blocks n no_words

-- the block has an element and a field of these numbers
abbrev pub has : Block → (element field : ℕ) → Bool
has block element field = nat_lt element (elements block) && nat_lt field block.fields

-- the address lies in its block
abbrev pub lies : Blocks → Address → Bool
lies blocks a = has (block_at blocks a.block) a.element a.field

-- where in its block an address has its word
abbrev pub position : Blocks → Address → ℕ
position blocks a = a.element * (block_at blocks a.block).fields + a.field

-- the word at an address
abbrev pub word_at : Blocks → Address → ℤ
word_at blocks a = slice_index_or (block_at blocks a.block).words (position blocks a) (pos 0)

-- the same blocks but for the word at an address
abbrev pub with_word : Blocks → Address → ℤ → Blocks
with_word blocks a word =
    slice_set blocks (a.block - 1) (record { fields = (block_at blocks a.block).fields; words = slice_set (block_at blocks a.block).words (position blocks a) word })

-- one block more, of so many words that are all 0
abbrev pub with_zeros : Blocks → (fields words : ℕ) → Blocks
with_zeros blocks fields words = blocks ++ record { fields = fields; words = replicate words (pos 0) } ∷ []

-- one block more of so many elements, all of whose words are 0
abbrev pub with_block : Blocks → (fields count : ℕ) → Blocks
with_block blocks fields count = blocks ++ record { fields = fields; words = replicate (count * fields) (pos 0) } ∷ []

-- an address, where it lies in its block
abbrev pub if_lies : Blocks → Address → Option Address
if_lies blocks a = if lies blocks a then Some a else None

-- the element of a whole number, where it is not negative
abbrev pub reach_element : Blocks → ℕ → ℤ → ℕ → Option Address
reach_element blocks block (pos element) field = if_lies blocks (address block element field)
reach_element blocks block (negsuc n) field = None

-- the address that a pointer word and an index reach, where it lies in its block; otherwise an access is a stray
abbrev pub reach : Blocks → (pointer index : ℤ) → (field : ℕ) → Option Address
reach blocks pointer index field = reach_element blocks (block_of pointer) (pos (offset_of pointer) +ℤ index) field
