-- Forks that are cut, and lists that are no cut of a fork.
use Rattle.std.proofs.Common.{◌<◌, [], ◌∷◌, refl, arith}
use Rattle.lq_runner.specs.declared.chunks.Chunk.{Chunk}
use Rattle.lq_runner.specs.Chunks.{chunk, IsAsLarge, AreChunks}
use Rattle.lq_runner.proofs.Pairs.{all_by_index, pairs_cons}

-- five branches, at most two chunks: the larger comes first
five_in_two : AreChunks 5 2 (chunk 0 3 ∷ chunk 3 2 ∷ [])
five_in_two = record {
  count = omega arith;
  full = all_by_index (λ (c : Chunk). 0 < c.length) (chunk 0 3 ∷ chunk 3 2 ∷ []) (omega arith, (omega arith, tt));
  whole = (refl, (refl, refl));
  even = pairs_cons IsAsLarge (chunk 0 3) (chunk 3 2 ∷ []) ((omega arith, omega arith), tt) (pairs_cons IsAsLarge (chunk 3 2) [] tt (λ i j d before inside. absurd (omega arith)));
}

-- two branches, at most four chunks: no chunk is empty
two_in_four : AreChunks 2 4 (chunk 0 1 ∷ chunk 1 1 ∷ [])
two_in_four = record {
  count = omega arith;
  full = all_by_index (λ (c : Chunk). 0 < c.length) (chunk 0 1 ∷ chunk 1 1 ∷ []) (omega arith, (omega arith, tt));
  whole = (refl, (refl, refl));
  even = pairs_cons IsAsLarge (chunk 0 1) (chunk 1 1 ∷ []) ((omega arith, omega arith), tt) (pairs_cons IsAsLarge (chunk 1 1) [] tt (λ i j d before inside. absurd (omega arith)));
}

-- the smaller first
smaller_first : AreChunks 5 2 (chunk 0 2 ∷ chunk 2 3 ∷ []) → ⊥
smaller_first cut = let large = (cut.even 0 1 (chunk 0 0) (omega arith) (omega arith)).0 in absurd (omega arith)

-- sizes that differ by two
uneven : AreChunks 4 2 (chunk 0 3 ∷ chunk 3 1 ∷ []) → ⊥
uneven cut = let close = (cut.even 0 1 (chunk 0 0) (omega arith) (omega arith)).1 in absurd (omega arith)

-- the last branch left out
one_left_out : AreChunks 5 2 (chunk 0 2 ∷ chunk 2 2 ∷ []) → ⊥
one_left_out cut = let end = cut.whole.1.1 in absurd (omega arith)

-- a branch in two chunks
one_twice : AreChunks 5 2 (chunk 0 3 ∷ chunk 2 3 ∷ []) → ⊥
one_twice cut = let start = cut.whole.1.0 in absurd (omega arith)

-- an empty chunk
one_empty : AreChunks 1 2 (chunk 0 1 ∷ chunk 1 0 ∷ []) → ⊥
one_empty cut = let some = cut.full 1 (chunk 0 0) (omega arith) in absurd (omega arith)

-- fewer chunks than there may be
one_chunk : AreChunks 5 2 (chunk 0 5 ∷ []) → ⊥
one_chunk cut = let count = cut.count in absurd (omega arith)
