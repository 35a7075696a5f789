-- Any number of branches is cut into chunks.
use Rattle.std.proofs.Common.{◌≡◌, ℕ, zero, suc, ◌+◌, ◌-◌, ◌*◌, ◌/◌, ◌%◌, ◌<◌, ◌≤◌, min, List, [], ◌∷◌, length, ap, refl, ◌∙◌, arith}
use Rattle.std.specs.Prelude.{AllPairs}
use Rattle.std.specs.List.{AllByRecursion}
use native.Mathlib.Decide.{dec_lt}
use Rattle.lq_runner.specs.declared.chunks.Chunk.{Chunk}
use Rattle.lq_runner.specs.Chunks.{chunk, Follow, IsAsLarge, AreChunks}
use Rattle.lq_runner.proofs.Pairs.{all_by_index, all_map, pairs_cons}

-- k chunks from an ordinal on, of which the first m have one more than q
abbrev cut : (from k q m : ℕ) → List Chunk
cut from zero q m = []
cut from (suc k) q m = chunk from (q + min 1 m) ∷ cut (from + (q + min 1 m)) k q (m - 1)

cut_length : (from k q m : ℕ) → length (cut from k q m) ≡ k
cut_length from zero q m = refl
cut_length from (suc k) q m = ap suc (cut_length (from + (q + min 1 m)) k q (m - 1))

cut_follows : (from k q m to : ℕ) → m ≤ k → to ≡ from + (k * q + m) → Follow from (cut from k q m) to
cut_follows from zero q m to few is = omega arith
cut_follows from (suc k) q m to few is = (refl, cut_follows (from + (q + min 1 m)) k q (m - 1) to (omega arith) (omega arith))

-- each has q, or one more where m of them are left
cut_sizes : (from k q m : ℕ) → AllByRecursion (λ (c : Chunk). (q ≤ c.length) × (c.length ≤ q + min 1 m)) (cut from k q m)
cut_sizes from zero q m = tt
cut_sizes from (suc k) q m = (
  (omega arith, omega arith),
  all_map (λ (c : Chunk). (q ≤ c.length) × (c.length ≤ q + min 1 (m - 1))) (λ (c : Chunk). (q ≤ c.length) × (c.length ≤ q + min 1 m))
      (λ c both. (let low = both.0 in let high = both.1 in (omega arith, omega arith)))
      (cut (from + (q + min 1 m)) k q (m - 1)) (cut_sizes (from + (q + min 1 m)) k q (m - 1)),
)

cut_even : (from k q m : ℕ) → AllPairs IsAsLarge (cut from k q m)
cut_even from zero q m = λ i j d before inside. absurd (omega arith)
cut_even from (suc k) q m =
    let first = chunk from (q + min 1 m) in
    let rest = cut (from + (q + min 1 m)) k q (m - 1) in
    pairs_cons IsAsLarge first rest
    (all_map (λ (c : Chunk). (q ≤ c.length) × (c.length ≤ q + min 1 (m - 1))) (IsAsLarge first)
    (λ c both. (let low = both.0 in let high = both.1 in (omega arith, omega arith)))
    rest (cut_sizes (from + (q + min 1 m)) k q (m - 1)))
    (cut_even (from + (q + min 1 m)) k q (m - 1))

-- as many chunks of n as are asked for, each with a branch at least
cut_into : (n most count : ℕ) → count ≡ min n most → 0 < count → AreChunks n most (cut 0 count (n / count) (n % count))
cut_into n most count is some = record {
  count = cut_length 0 count (n / count) (n % count) ∙ is;
  full = all_by_index (λ (c : Chunk). 0 < c.length) (cut 0 count (n / count) (n % count))
      (all_map (λ (c : Chunk). (n / count ≤ c.length) × (c.length ≤ n / count + min 1 (n % count))) (λ (c : Chunk). 0 < c.length)
      (λ c both. (let low = both.0 in let one = large in omega arith))
      (cut 0 count (n / count) (n % count)) (cut_sizes 0 count (n / count) (n % count)));
  whole = cut_follows 0 count (n / count) (n % count) n (omega arith) (omega arith);
  even = cut_even 0 count (n / count) (n % count);
}
  where
    -- count is at most n, so none is empty
    large : 0 < n / count
    large = by (dec_lt 0 (n / count))
      where
        by : Dec (0 < n / count) → 0 < n / count
        by (yes h) = h
        by (no h) = let zero_there : n / count ≡ 0 = omega arith in let none_there = ap (λ k. count * k) zero_there in absurd (omega arith)

pub chunks_there : (n most : ℕ) → 1 ≤ most → (chunks : List Chunk) × AreChunks n most chunks
chunks_there n most some = by (dec_lt 0 n)
  where
    by : Dec (0 < n) → (chunks : List Chunk) × AreChunks n most chunks
    by (yes any) = (cut 0 (min n most) (n / min n most) (n % min n most), cut_into n most (min n most) refl (omega arith))
    by (no none_there) = ([], record { count = omega arith; full = λ k d inside. absurd (omega arith); whole = omega arith; even = λ i j d before inside. absurd (omega arith) })
