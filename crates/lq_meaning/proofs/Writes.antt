-- A word written at one address, and what the memory has at the others.
use Rattle.std.proofs.Common.{◌≡◌, ◌≢◌, ℕ, zero, suc, ◌+◌, ◌-◌, ◌*◌, ◌<◌, ℤ, pos, negsuc, ◌+ℤ◌, Bool, true, false, if◌then◌else◌, length, get_or, set, None, Some, slice_set, refl, sym, ap, ◌∙◌, subst, ⊎_elim, arith}
use Rattle.std.proofs.lemmas.Bool.{and_parts, ltb-true, cases_eq, cases_lt}
use Rattle.std.proofs.lemmas.List.{length-set, get_or-set_same, get_or-set_other, get_or_past, set-set, set_comm}
use Rattle.std.proofs.lemmas.Nat.{same_from_place}
use Rattle.lq_meaning.specs.declared.memory.Block.{Block}
use Rattle.lq_meaning.specs.Word.{block_of, offset_of}
use Rattle.lq_meaning.specs.declared.memory.Address.{Address}
use Rattle.lq_meaning.proofs.Positions.{position_within}
use Rattle.lq_meaning.specs.Memory.{Blocks, elements, no_words, block_at, lies, position, word_at, with_word, reach_element, reach}

-- the address lies in its block
pub record Lies (m : Blocks) (a : Address) : Type 0 where
  pub element : a.element < elements (block_at m a.block)
  pub field : a.field < (block_at m a.block).fields

-- what the test of an address tells
pub Lies-lies : (m : Blocks) (a : Address) → lies m a ≡ true → Lies m a
Lies-lies m a h =
    let parts = and_parts _ _ h in
    record { element = ltb-true _ _ parts.0; field = ltb-true _ _ parts.1 }

-- an address that passed the test lies in its block
Lies-if_lies : (m : Blocks) (x a : Address) (t : Bool) → lies m x ≡ t → (if t then Some x else None) ≡ Some a → Lies m a
Lies-if_lies m x a true h e =
    let same : x ≡ a = cc in subst (λ y. Lies m y) same (Lies-lies m x h)
Lies-if_lies m x a false h e = cc

-- so does one that is reached by an element
Lies-reach_element : (m : Blocks) (block : ℕ) (element : ℤ) (field : ℕ) (a : Address) → reach_element m block element field ≡ Some a → Lies m a
Lies-reach_element m block (pos e) field a h = Lies-if_lies m (record { block = block; element = e; field = field }) a _ refl h
Lies-reach_element m block (negsuc n) field a h = cc

-- an address that is reached lies in its block
pub Lies-reach : (m : Blocks) (p i : ℤ) (field : ℕ) (a : Address) → reach m p i field ≡ Some a → Lies m a
Lies-reach m p i field a h = Lies-reach_element m (block_of p) (pos (offset_of p) +ℤ i) field a h

-- the block of an address that lies in it is one of the memory's
block_exists : (m : Blocks) (block element field : ℕ) → Lies m (record { block = block; element = element; field = field }) →
    (k : ℕ) × (block ≡ suc k) × (k < length m)
block_exists m zero element field l = absurd (omega (arith, l.field))
block_exists m (suc k) element field l =
    let exists : k < length m = ⊎_elim (λ h. h) (λ h. absurd (omega (arith, rw (get_or_past m k no_words h) at l.field))) (cases_lt k (length m)) in
    (k, refl, exists)

-- the block of an address after a write there
abbrev written : Blocks → Address → ℤ → Block
written m a word = record { fields = (block_at m a.block).fields; words = slice_set (block_at m a.block).words (position m a) word }

-- a write sets the block of its number
with_word-at : (m : Blocks) (a : Address) (word : ℤ) (k : ℕ) → a.block ≡ suc k → with_word m a word ≡ set m k (written m a word)
with_word-at m a word k e =
    let place : a.block - 1 ≡ k = omega (arith, e) in ap (λ n. set m n (written m a word)) place

-- behind a write, the block of the address is the written one
block_at-with_word : (m : Blocks) (a : Address) (word : ℤ) → Lies m a → block_at (with_word m a word) a.block ≡ written m a word
block_at-with_word m a word l =
    let found = block_exists m a.block a.element a.field l in
    ap (λ n. block_at (with_word m a word) n) found.1
    ∙ (ap (λ all. block_at all (suc found.0)) (with_word-at m a word found.0 found.1)
    ∙ get_or-set_same m found.0 (written m a word) no_words found.2)

-- the blocks of other numbers are as before
block_at-set_other : (m : Blocks) (k : ℕ) (block : Block) (n : ℕ) → n ≢ suc k → block_at (set m k block) n ≡ block_at m n
block_at-set_other m k block zero other = refl
block_at-set_other m k block (suc n) other = get_or-set_other m k n block no_words (λ e. other (ap suc e))

-- behind a write, the other blocks are as before
block_at-with_word_other : (m : Blocks) (a : Address) (word : ℤ) (n : ℕ) → Lies m a → n ≢ a.block → block_at (with_word m a word) n ≡ block_at m n
block_at-with_word_other m a word n l other =
    let found = block_exists m a.block a.element a.field l in
    ap (λ all. block_at all n) (with_word-at m a word found.0 found.1) ∙ block_at-set_other m found.0 (written m a word) n (λ e. other (e ∙ sym found.1))

-- a block keeps its shape when a word is written
pub record SameShape (b c : Block) : Type 0 where
  pub fields : b.fields ≡ c.fields
  pub words : length b.words ≡ length c.words

-- the written block has the shape of the block before
SameShape-written : (m : Blocks) (a : Address) (word : ℤ) → SameShape (written m a word) (block_at m a.block)
SameShape-written m a word = record { fields = refl; words = length-set _ _ _ }

-- the shape of an equal block
SameShape-same : (b c d : Block) → b ≡ c → SameShape c d → SameShape b d
SameShape-same b c d e s = record { fields = ap (λ x. x.fields) e ∙ s.fields; words = ap (λ x. length x.words) e ∙ s.words }

-- behind a write every block has the shape that it had
pub SameShape-with_word : (m : Blocks) (a : Address) (word : ℤ) (n : ℕ) → Lies m a → SameShape (block_at (with_word m a word) n) (block_at m n)
SameShape-with_word m a word n l =
    ⊎_elim
    (λ e.
    subst (λ k. SameShape (block_at (with_word m a word) k) (block_at m k)) (sym e)
    (SameShape-same _ _ _ (block_at-with_word m a word l) (SameShape-written m a word)))
    (λ other. SameShape-same _ _ _ (block_at-with_word_other m a word n l other) (record { fields = refl; words = refl }))
    (cases_eq n a.block)

-- so every address lies in its block as before
lies-with_word : (m : Blocks) (a : Address) (word : ℤ) (b : Address) → Lies m a → lies (with_word m a word) b ≡ lies m b
lies-with_word m a word b l =
    let s = SameShape-with_word m a word b.block l in
    rw (s.fields, s.words) refl

-- and has its word at the same position
position-with_word : (m : Blocks) (a : Address) (word : ℤ) (b : Address) → Lies m a → position (with_word m a word) b ≡ position m b
position-with_word m a word b l = ap (λ n. b.element * n + b.field) (SameShape-with_word m a word b.block l).fields

-- a write moves nothing: each pointer and index reach what they reached before
reach_element-with_word : (m : Blocks) (a : Address) (word : ℤ) (block : ℕ) (element : ℤ) (field : ℕ) → Lies m a →
    reach_element (with_word m a word) block element field ≡ reach_element m block element field
reach_element-with_word m a word block (pos e) field l =
    let b : Address = record { block = block; element = e; field = field } in
    ap (λ t. if t then Some b else None) (lies-with_word m a word b l)
reach_element-with_word m a word block (negsuc n) field l = refl

-- the same by a pointer word and an index
pub reach-with_word : (m : Blocks) (a : Address) (word : ℤ) (p i : ℤ) (field : ℕ) → Lies m a → reach (with_word m a word) p i field ≡ reach m p i field
reach-with_word m a word p i field l = reach_element-with_word m a word (block_of p) (pos (offset_of p) +ℤ i) field l

-- two addresses of equal parts are one
pub Address-same : (a b : Address) → a.block ≡ b.block → a.element ≡ b.element → a.field ≡ b.field → a ≡ b
Address-same a b block element field = λ i. record { block = block i; element = element i; field = field i }

-- two addresses of one block have two positions
position-apart : (m : Blocks) (a b : Address) → Lies m a → Lies m b → a ≢ b → a.block ≡ b.block → position m a ≢ position m b
position-apart m a b l h other same e =
    let fields : (block_at m b.block).fields ≡ (block_at m a.block).fields = ap (λ n. (block_at m n).fields) (sym same) in
    let within : b.field < (block_at m a.block).fields = rw (← fields) h.field in
    let at : a.element * (block_at m a.block).fields + a.field ≡ b.element * (block_at m a.block).fields + b.field =
    e ∙ ap (λ n. b.element * n + b.field) fields in
    let place = same_from_place a.element a.field b.element b.field (block_at m a.block).fields l.field within at in
    other (Address-same a b same place.0 place.1)

-- after a write at one address, the block of another address in the same block
written-again : (m : Blocks) (a b : Address) (u v : ℤ) → Lies m a → a.block ≡ b.block →
    written (with_word m a u) b v
    ≡ record { fields = (block_at m a.block).fields; words = set (set (block_at m a.block).words (position m a) u) (position m b) v }
written-again m a b u v l same =
    let block : block_at (with_word m a u) b.block ≡ written m a u = ap (block_at (with_word m a u)) (sym same) ∙ block_at-with_word m a u l in
    λ i. record { fields = (block i).fields; words = set (block i).words (position-with_word m a u b l i) v }

-- and of an address in another block
written-elsewhere : (m : Blocks) (a b : Address) (u v : ℤ) → Lies m a → b.block ≢ a.block → written (with_word m a u) b v ≡ written m b v
written-elsewhere m a b u v l other =
    let block = block_at-with_word_other m a u b.block l other in
    λ i. record { fields = (block i).fields; words = set (block i).words (position-with_word m a u b l i) v }

-- a load from one address does not see a write at another
pub word_at-with_word_other : (m : Blocks) (a b : Address) (u : ℤ) → Lies m a → Lies m b → a ≢ b → word_at (with_word m a u) b ≡ word_at m b
word_at-with_word_other m a b u l h other =
    ⊎_elim
    (λ same.
    let block : block_at (with_word m a u) b.block ≡ written m a u = ap (block_at (with_word m a u)) (sym same) ∙ block_at-with_word m a u l in
    (λ i. get_or (block i).words (position-with_word m a u b l i) (pos 0))
    ∙ (get_or-set_other (block_at m a.block).words (position m a) (position m b) u (pos 0) (λ e. position-apart m a b l h other same (sym e))
    ∙ ap (λ n. get_or (block_at m n).words (position m b) (pos 0)) same))
    (λ differ.
    let block = block_at-with_word_other m a u b.block l (λ e. differ (sym e)) in
    λ i. get_or (block i).words (position-with_word m a u b l i) (pos 0))
    (cases_eq a.block b.block)

-- a load from the address of a write sees the word that was written
pub word_at-with_word_same : (m : Blocks) (a : Address) (u : ℤ) → Lies m a → word_at (with_word m a u) a ≡ u
word_at-with_word_same m a u l =
    let block = block_at-with_word m a u l in
    let within = position_within a.element a.field (block_at m a.block).fields (length (block_at m a.block).words) l.element l.field in
    (λ i. get_or (block i).words (position-with_word m a u a l i) (pos 0))
    ∙ get_or-set_same (block_at m a.block).words (position m a) u (pos 0) within

-- both writes in one block, at its number k
written_both : (m : Blocks) (a b : Address) (u v : ℤ) (k : ℕ) → Lies m a → a.block ≡ suc k → a.block ≡ b.block →
    with_word (with_word m a u) b v
    ≡ set m k (record { fields = (block_at m a.block).fields; words = set (set (block_at m a.block).words (position m a) u) (position m b) v })
written_both m a b u v k l e same =
    with_word-at (with_word m a u) b v k (sym same ∙ e)
    ∙ ((λ i. set (with_word-at m a u k e i) k (written-again m a b u v l same i))
    ∙ set-set m k (written m a u) _)

-- writes in two blocks, at their numbers j and k
written_apart : (m : Blocks) (a b : Address) (u v : ℤ) (j k : ℕ) → Lies m a → a.block ≡ suc j → b.block ≡ suc k → b.block ≢ a.block →
    with_word (with_word m a u) b v ≡ set (set m j (written m a u)) k (written m b v)
written_apart m a b u v j k l at_a at_b differ =
    with_word-at (with_word m a u) b v k at_b ∙ (λ i. set (with_word-at m a u j at_a i) k (written-elsewhere m a b u v l differ i))

-- writes at two addresses, in either order
pub with_word_comm : (m : Blocks) (a b : Address) (u v : ℤ) → Lies m a → Lies m b → a ≢ b → with_word (with_word m a u) b v ≡ with_word (with_word m b v) a u
with_word_comm m a b u v l h other =
    let at_a = block_exists m a.block a.element a.field l in
    let at_b = block_exists m b.block b.element b.field h in
    ⊎_elim
    (λ same.
    written_both m a b u v at_a.0 l at_a.1 same
    ∙ ((λ i.
    let words = set_comm (block_at m (same i)).words (position m a) (position m b) u v (position-apart m a b l h other same) in
    set m at_a.0 (record { fields = (block_at m (same i)).fields; words = words i }))
    ∙ sym (written_both m b a v u at_a.0 h (sym same ∙ at_a.1) (sym same))))
    (λ differ.
    written_apart m a b u v at_a.0 at_b.0 l at_a.1 at_b.1 (λ e. differ (sym e))
    ∙ (set_comm m at_a.0 at_b.0 (written m a u) (written m b v) (λ e. differ (at_a.1 ∙ (ap suc e ∙ sym at_b.1)))
    ∙ sym (written_apart m b a v u at_b.0 at_a.0 h at_b.1 at_a.1 differ)))
    (cases_eq a.block b.block)
