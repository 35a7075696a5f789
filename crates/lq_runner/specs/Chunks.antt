-- The chunks into which the branches or iterations of a fork are cut (docs/THREADS.md, "Chunks").
use Rattle.std.specs.Prelude.{◌≡◌, ℕ, ◌+◌, ◌<◌, ◌≤◌, min, List, [], ◌∷◌, length, All, AllPairs}
use Rattle.std.specs.List.{range_with_len}
use Rattle.lq_runner.specs.declared.chunks.Chunk.{Chunk}

-- the chunk of this many, from this ordinal on
abbrev pub chunk : (first length : ℕ) → Chunk
chunk first length = record { first = first; length = length }

-- the ordinals of its branches
abbrev pub ordinals : Chunk → List ℕ
ordinals c = range_with_len c.first c.length

-- each chunk begins where the one before ends: the first of them at this ordinal, and the last one ends in front of that
abbrev pub Follow : (from : ℕ) → List Chunk → (to : ℕ) → Type 0
Follow from [] to = from ≡ to
Follow from (c ∷ chunks) to = (c.first ≡ from) × Follow (from + c.length) chunks to

-- the one chunk has as many branches as the other that comes behind it, or one more
abbrev pub IsAsLarge : Chunk → Chunk → Type 0
IsAsLarge c behind = (behind.length ≤ c.length) × (c.length ≤ behind.length + 1)

-- the chunks of n branches, at most so many
pub record AreChunks (n most : ℕ) (chunks : List Chunk) : Type 0 where
  pub count : length chunks ≡ min n most
  pub full : All (λ (c : Chunk). 0 < c.length) chunks
  pub whole : Follow 0 chunks n
  pub even : AllPairs IsAsLarge chunks
