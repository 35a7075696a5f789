-- Memories that are alike where they are looked at stay so behind the same writes.
use Rattle.std.proofs.Common.{◌≡◌, ◌≢◌, ℕ, ℤ, pos, negsuc, ◌+ℤ◌, if◌then◌else◌, List, [], ◌∷◌, ◌++◌, Option, None, Some, refl, sym, ap, ◌∙◌, subst, ⊎_elim, ◌⊎◌, inl, inr}
use Rattle.std.specs.Prelude.{Contains}
use Rattle.std.proofs.lemmas.Bool.{cases_eq}
use Rattle.lq_meaning.specs.declared.memory.Address.{Address}
use Rattle.lq_meaning.specs.declared.memory.Block.{Block}
use Rattle.lq_meaning.specs.Word.{block_of, offset_of}
use Rattle.lq_meaning.specs.Memory.{Blocks, block_at, lies, word_at, with_word, reach_element, reach}
use Rattle.lq_meaning.proofs.Writes.{Lies, SameShape, SameShape-with_word, Address-same, word_at-with_word_same, word_at-with_word_other}
use Rattle.lq_alone.specs.Alone.{Access, write, after}
use Rattle.lq_alone.proofs.Marks.{Contains-first, Contains-others}

-- what holds of each access
abbrev pub Each : (Access → Type 0) → List Access → Type 0
Each P accesses = (a : Access) → Contains accesses a → P a

-- the address lies in its block in the one memory, and has the same word in both
pub record HasSame (m m' : Blocks) (a : Access) : Type 0 where
  pub lies : Lies m a.address
  pub word : word_at m' a.address ≡ word_at m a.address

-- blocks of the same shapes, and the same word at each address that is accessed
pub record IsAlike (accesses : List Access) (m m' : Blocks) : Type 0 where
  pub shape : (n : ℕ) → SameShape (block_at m' n) (block_at m n)
  pub same : Each (HasSame m m') accesses

-- two addresses are one, or two
which_address : (a b : Address) → (a ≡ b) ⊎ (a ≢ b)
which_address a b =
    ⊎_elim
    (λ block.
    ⊎_elim (λ element. ⊎_elim (λ field. inl (Address-same a b block element field)) (λ other. inr (λ e. other (ap (λ (x : Address). x.field) e))) (cases_eq a.field b.field))
    (λ other. inr (λ e. other (ap (λ (x : Address). x.element) e))) (cases_eq a.element b.element))
    (λ other. inr (λ e. other (ap (λ (x : Address). x.block) e))) (cases_eq a.block b.block)

-- ---- shapes

pub shape-trans : {b c d : Block} → SameShape b c → SameShape c d → SameShape b d
shape-trans s t = record { fields = s.fields ∙ t.fields; words = s.words ∙ t.words }

pub shape-sym : {b c : Block} → SameShape b c → SameShape c b
shape-sym s = record { fields = sym s.fields; words = sym s.words }

-- all blocks have the same shapes
abbrev pub Shaped : Blocks → Blocks → Type 0
Shaped m m' = (n : ℕ) → SameShape (block_at m' n) (block_at m n)

-- an address lies in memories of the same shapes alike
pub Lies-shaped : (m m' : Blocks) (a : Address) → Shaped m m' → Lies m a → Lies m' a
Lies-shaped m m' a shape l = record { element = rw ((shape a.block).words, (shape a.block).fields) l.element; field = rw ((shape a.block).fields) l.field }

-- an access writes in the memory's shape
pub Shaped-write : (m : Blocks) (a : Address) (written : Option ℤ) → Lies m a → Shaped m (write m a written)
Shaped-write m a None l = λ n. record { fields = refl; words = refl }
Shaped-write m a (Some u) l = λ n. SameShape-with_word m a u n l

-- so do all that lie there
pub Shaped-after : (m : Blocks) (accesses : List Access) → Each (λ a. Lies m a.address) accesses → Shaped m (after m accesses)
Shaped-after m [] lie = λ n. record { fields = refl; words = refl }
Shaped-after m (a ∷ accesses) lie =
    let here = Shaped-write m a.address a.written (lie a (Contains-first a accesses)) in
    let rest = Shaped-after (write m a.address a.written) accesses (λ b c. Lies-shaped m _ b.address here (lie b (Contains-others a b accesses c))) in
    λ n. shape-trans (rest n) (here n)

-- ---- the same write in two memories

same_word : (m m' : Blocks) (a : Address) (written : Option ℤ) (b : Access) → Shaped m m' → Lies m a → word_at m' a ≡ word_at m a → HasSame m m' b →
    word_at (write m' a written) b.address ≡ word_at (write m a written) b.address
same_word m m' a None b shape l same h = h.word
same_word m m' a (Some u) b shape l same h =
    let l' = Lies-shaped m m' a shape l in
    ⊎_elim
    (λ e. subst (λ x. word_at (with_word m' a u) x ≡ word_at (with_word m a u) x) e (word_at-with_word_same m' a u l' ∙ sym (word_at-with_word_same m a u l)))
    (λ other. word_at-with_word_other m' a b.address u l' (Lies-shaped m m' b.address shape h.lies) other ∙ (h.word ∙ sym (word_at-with_word_other m a b.address u l h.lies other)))
    (which_address a b.address)

-- behind the same access memories are alike at the others
pub IsAlike-write : (m m' : Blocks) (a : Access) (accesses : List Access) → IsAlike (a ∷ accesses) m m' →
    IsAlike accesses (write m a.address a.written) (write m' a.address a.written)
IsAlike-write m m' a accesses alike =
    let here = alike.same a (Contains-first a accesses) in
    let shape = Shaped-write m a.address a.written here.lies in
    let shape' = Shaped-write m' a.address a.written (Lies-shaped m m' a.address alike.shape here.lies) in
    record {
      shape = λ n. shape-trans (shape' n) (shape-trans (alike.shape n) (shape-sym (shape n)));
      same = λ b c.
          let h = alike.same b (Contains-others a b accesses c) in
          record { lies = Lies-shaped m _ b.address shape h.lies; word = same_word m m' a.address a.written b alike.shape here.lies here.word h };
    }

-- behind the same accesses
pub IsAlike-after : (m m' : Blocks) (accesses others : List Access) → IsAlike (accesses ++ others) m m' → IsAlike others (after m accesses) (after m' accesses)
IsAlike-after m m' [] others alike = alike
IsAlike-after m m' (a ∷ accesses) others alike =
    IsAlike-after (write m a.address a.written) (write m' a.address a.written) accesses others (IsAlike-write m m' a (accesses ++ others) alike)

-- at fewer accesses
pub IsAlike-within : (m m' : Blocks) (accesses others : List Access) → ((a : Access) → Contains others a → Contains accesses a) → IsAlike accesses m m' → IsAlike others m m'
IsAlike-within m m' accesses others within alike = record { shape = alike.shape; same = λ a c. alike.same a (within a c) }

-- ---- writes elsewhere

-- an address has its word behind accesses that don't write it
word-unwritten : (m : Blocks) (a : Address) (written : Option ℤ) (x : Address) → (a ≡ x → written ≡ None) → Lies m a → Lies m x → word_at (write m a written) x ≡ word_at m x
word-unwritten m a None x unwritten l h = refl
word-unwritten m a (Some u) x unwritten l h = word_at-with_word_other m a x u l h (λ e. let s = unwritten e in cc)

pub word_at-after : (m : Blocks) (accesses : List Access) (x : Address) → Each (λ a. a.address ≡ x → a.written ≡ None) accesses → Each (λ a. Lies m a.address) accesses → Lies m x →
    word_at (after m accesses) x ≡ word_at m x
word_at-after m [] x unwritten lie l = refl
word_at-after m (a ∷ accesses) x unwritten lie l =
    let here = lie a (Contains-first a accesses) in
    let shape = Shaped-write m a.address a.written here in
    word_at-after (write m a.address a.written) accesses x (λ b c. unwritten b (Contains-others a b accesses c)) (λ b c. Lies-shaped m _ b.address shape (lie b (Contains-others a b accesses c)))
    (Lies-shaped m _ x shape l)
    ∙ word-unwritten m a.address a.written x (unwritten a (Contains-first a accesses)) here l

-- ---- reach

-- memories of the same shapes reach the same addresses
reach_element-shaped : (m m' : Blocks) (block : ℕ) (element : ℤ) (field : ℕ) → Shaped m m' → reach_element m' block element field ≡ reach_element m block element field
reach_element-shaped m m' block (pos e) field shape =
    let a : Address = record { block = block; element = e; field = field } in
    let same : lies m' a ≡ lies m a = rw ((shape block).fields, (shape block).words) refl in
    ap (λ t. if t then Some a else None) same
reach_element-shaped m m' block (negsuc n) field shape = refl

pub reach-shaped : (m m' : Blocks) (p i : ℤ) (field : ℕ) → Shaped m m' → reach m' p i field ≡ reach m p i field
reach-shaped m m' p i field shape = reach_element-shaped m m' (block_of p) (pos (offset_of p) +ℤ i) field shape
