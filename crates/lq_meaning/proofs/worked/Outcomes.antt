-- Short words for what a run comes to.
use Rattle.std.specs.Prelude.{ℕ, ℤ, pos, List, map}
use Rattle.lq_meaning.specs.declared.memory.Block.{Block}
use Rattle.lq_meaning.specs.Memory.{Blocks}
use Rattle.lq_meaning.specs.Ending.{Ending, Outcome}

abbrev pub numbers : List ℕ → List ℤ
numbers ns = map pos ns

-- a block of so many fields, with these words
abbrev pub memory_block : (fields : ℕ) → List ℤ → Block
memory_block fields words = record { fields = fields; words = words }

-- an ending, the memory, the words that are left, the cost, and what was printed
abbrev pub outcome : Ending → Blocks → (left cost : ℕ) → (printed : List ℤ) → Outcome
outcome ending memory left cost printed =
    record { ending = ending; world = record { memory = memory; left = left; cost = cost; printed = printed } }
