-- The frame of a branch: the addresses that it accesses.
use Rattle.std.specs.Prelude.{◌≡◌, ℕ, List, length, All, None}
use Rattle.lq_meaning.specs.declared.memory.Address.{Address}
use Rattle.lq_meaning.specs.Memory.{Blocks, block_at, word_at}
use Rattle.lq_alone.specs.Alone.{Access, Alone}

-- as many blocks, each of as many fields and words
pub record HasSameBlocks (m m' : Blocks) : Type 0 where
  pub count : length m' ≡ length m
  pub fields : (n : ℕ) → (block_at m' n).fields ≡ (block_at m n).fields
  pub words : (n : ℕ) → length (block_at m' n).words ≡ length (block_at m n).words

-- the same word at each address that is accessed
abbrev pub HasSameWords : List Access → (m m' : Blocks) → Type 0
HasSameWords accesses m m' = All (λ (a : Access). word_at m' a.address ≡ word_at m a.address) accesses

-- no access writes at the address
abbrev pub IsUnwritten : List Access → Address → Type 0
IsUnwritten accesses x = All (λ (a : Access). a.address ≡ x → a.written ≡ None) accesses

-- the same ending, accesses and cost, and branches as far apart
pub record DoesTheSame (a a' : Alone) : Type 0 where
  pub ending : a'.ending ≡ a.ending
  pub accesses : a'.accesses ≡ a.accesses
  pub cost : a'.world.cost ≡ a.world.cost
  pub apart : a'.apart ≡ a.apart
