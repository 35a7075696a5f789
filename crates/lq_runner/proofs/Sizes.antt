-- Which chunk each of the chunks of a fork is.
use Rattle.std.proofs.Common.{◌≡◌, ℕ, zero, suc, ◌+◌, ◌-◌, ◌*◌, ◌/◌, ◌%◌, ◌<◌, ◌≤◌, min, List, [], ◌∷◌, ◌++◌, length, ap, refl, ◌∙◌, sum_by, arith, Some, flat_map}
use Rattle.std.specs.Prelude.{slice_get, AllPairs}
use Rattle.std.specs.List.{AllByRecursion, range_with_len}
use Rattle.std.proofs.Math.Nat.{mul-le-mul_left}
use Rattle.std.proofs.lemmas.List.Sums.{sum_by-cons}
use native.Mathlib.Decide.{dec_lt}
use Rattle.lq_runner.specs.declared.chunks.Chunk.{Chunk}
use Rattle.lq_runner.specs.Chunks.{chunk, ordinals, Follow, IsAsLarge, AreChunks}
use Rattle.lq_runner.proofs.Pairs.{first_pairs}

-- n ordinals and then m more
range_join : (a n m : ℕ) → range_with_len a n ++ range_with_len (a + n) m ≡ range_with_len a (n + m)
range_join a zero m = ap (λ (b : ℕ). range_with_len b m) (omega arith) ∙ ap (range_with_len a) (omega arith)
range_join a (suc n) m =
    let rest = range_join (a + 1) n m in
    let start : a + suc n ≡ a + 1 + n = omega arith in
    let count : suc n + m ≡ suc (n + m) = omega arith in
    rw (start, count) (ap (λ ns. a ∷ ns) rest)

-- chunks that follow each other have the ordinals from the first on
pub ordinals_follow : (from to : ℕ) (chunks : List Chunk) → Follow from chunks to → (from ≤ to) × (flat_map ordinals chunks ≡ range_with_len from (to - from))
ordinals_follow from to [] same = (omega arith, ap (range_with_len from) (let none_left : 0 ≡ to - from = omega arith in none_left))
ordinals_follow from to (c ∷ chunks) follow =
    let rest = ordinals_follow (from + c.length) to chunks follow.1 in
    let within = rest.0 in
    let first : ordinals c ≡ range_with_len from c.length = ap (λ (a : ℕ). range_with_len a c.length) follow.0 in
    let count : c.length + (to - (from + c.length)) ≡ to - from = omega arith in (
      omega arith,
      ap (λ ns. ns ++ flat_map ordinals chunks) first ∙ ap (λ ns. range_with_len from c.length ++ ns) rest.1 ∙ range_join from c.length (to - (from + c.length)) ∙ ap (range_with_len from) count,
    )

-- how many branches the chunks have
abbrev total : List Chunk → ℕ
total chunks = sum_by (λ (c : Chunk). c.length) chunks

follow_total : (from to : ℕ) (chunks : List Chunk) → Follow from chunks to → from + total chunks ≡ to
follow_total from to [] same = omega arith
follow_total from to (c ∷ chunks) follow =
    let rest = follow_total (from + c.length) to chunks follow.1 in
    let first = sum_by-cons (λ (d : Chunk). d.length) c chunks in
    omega arith

-- chunks behind one that is as large
behind_total : (c : Chunk) (chunks : List Chunk) → AllByRecursion (IsAsLarge c) chunks
    → (total chunks ≤ length chunks * c.length) × (length chunks * c.length ≤ total chunks + length chunks)
behind_total c [] all = (omega arith, omega arith)
behind_total c (d ∷ chunks) all =
    let rest = behind_total c chunks all.1 in
    let first = sum_by-cons (λ (e : Chunk). e.length) d chunks in
    let large = all.0.0 in
    let small = all.0.1 in
    let a = rest.0 in
    let b = rest.1 in
    (omega arith, omega arith)

-- The size of the first of r + 1 chunks: q, or q + 1 where some are left over. s is the size of the others together.
first_size : (q m r size s : ℕ) → size + s ≡ q + r * q + m → m < 1 + r → s ≤ r * size → r * size ≤ s + r → size ≡ q + min 1 m
first_size q m r size s whole few most least = by (dec_lt size q) (dec_lt (q + 1) size) (dec_lt q size)
  where
    by : Dec (size < q) → Dec (q + 1 < size) → Dec (q < size) → size ≡ q + min 1 m
    by (yes small) two more = let times = mul-le-mul_left r (let up : size + 1 ≤ q = omega arith in up) in absurd (omega arith)
    by (no small) (yes large) more = let times = mul-le-mul_left r (let up : q + 2 ≤ size = omega arith in up) in absurd (omega arith)
    by (no small) (no large) (yes more) = let same : size ≡ q + 1 = omega arith in let times = ap (λ n. r * n) same in omega arith
    by (no small) (no large) (no more) = let same : size ≡ q = omega arith in let times = ap (λ n. r * n) same in omega arith

-- where the chunk with a number begins, and how large it is, where m of them have one more than q
abbrev pub start_at : (q m number : ℕ) → ℕ
start_at q m number = number * q + min number m

abbrev pub size_at : (q m number : ℕ) → ℕ
size_at q m number = q + (min (number + 1) m - min number m)

pub same_chunk : (a b first length : ℕ) → a ≡ first → b ≡ length → Some (chunk a b) ≡ Some (chunk first length)
same_chunk a b first length p q = λ i. Some (chunk (p i) (q i))

chunk_at : (q m from to : ℕ) (chunks : List Chunk) → Follow from chunks to → AllPairs IsAsLarge chunks → to ≡ from + (length chunks * q + m) → m < length chunks
    → (number : ℕ) → number < length chunks → slice_get chunks number ≡ Some (chunk (from + start_at q m number) (size_at q m number))
chunk_at q m from to [] follow even whole few number inside = absurd (omega arith)
chunk_at q m from to (c ∷ chunks) follow even whole few number inside =
    let pairs = first_pairs IsAsLarge c chunks even in
    let bounds = behind_total c chunks pairs.0 in
    let a = bounds.0 in
    let b = bounds.1 in
    let sum = follow_total (from + c.length) to chunks follow.1 in
    let first = first_size q m (length chunks) c.length (total chunks) (omega arith) (omega arith) a b in
    by first (λ below. chunk_at q (m - 1) (from + c.length) to chunks follow.1 pairs.1 (omega arith) below) number inside
  where
    by : c.length ≡ q + min 1 m
        → (m - 1 < length chunks → (k : ℕ) → k < length chunks → slice_get chunks k ≡ Some (chunk (from + c.length + start_at q (m - 1) k) (size_at q (m - 1) k)))
        → (k : ℕ) → k < length (c ∷ chunks) → slice_get (c ∷ chunks) k ≡ Some (chunk (from + start_at q m k) (size_at q m k))
    by first rest zero low = same_chunk c.first c.length (from + start_at q m 0) (size_at q m 0) (let begins = follow.0 in omega arith) (omega arith)
    by first rest (suc k) low =
        rest (omega arith) k (omega arith)
        ∙ same_chunk (from + c.length + start_at q (m - 1) k) (size_at q (m - 1) k) (from + start_at q m (suc k)) (size_at q m (suc k)) (omega arith) (omega arith)

-- the chunks of a fork
pub chunk_of : (n most count : ℕ) (chunks : List Chunk) → AreChunks n most chunks → count ≡ min n most → 0 < count → (number : ℕ) → number < count
    → slice_get chunks number ≡ Some (chunk (start_at (n / count) (n % count) number) (size_at (n / count) (n % count) number))
chunk_of n most count chunks are is some number inside =
    let long = are.count in
    let at =
    chunk_at (n / count) (n % count) 0 n chunks are.whole are.even
    (let same : length chunks ≡ count = omega arith in let times = ap (λ k. k * (n / count)) same in omega arith)
    (omega arith) number (omega arith) in
    at ∙ same_chunk (0 + start_at (n / count) (n % count) number) (size_at (n / count) (n % count) number) (start_at (n / count) (n % count) number) (size_at (n / count) (n % count) number) (omega arith) refl
