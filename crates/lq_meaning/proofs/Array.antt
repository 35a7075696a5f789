-- A memory whose first block is an array of words.
use Rattle.std.proofs.Common.{◌≡◌, ◌≢◌, ℕ, ◌+◌, ◌<◌, ℤ, pos, true, length, None, Some, sym, ap, ◌∙◌, arith}
use Rattle.std.proofs.lemmas.Bool.{and_from, lt-ltb, cond-true}
use Rattle.std.proofs.Math.Nat.{div-one}
use Rattle.std.proofs.Math.IntN.{+ℤ_idl}
use Rattle.lq_meaning.specs.Word.{pointer}
use Rattle.lq_meaning.specs.declared.memory.Address.{Address}
use Rattle.lq_meaning.specs.Memory.{Blocks, elements, block_at, lies, word_at, with_word, reach_element, reach}
use Rattle.lq_meaning.specs.declared.action.Action.{Action}
use Rattle.lq_meaning.specs.declared.action.Action.TheVariants.{Load, Store}
use Rattle.lq_meaning.specs.World.{World, Answers, counted, loaded, stored, act}
use Rattle.lq_meaning.proofs.Writes.{Lies-reach, SameShape-with_word}

-- the pointer to its first element
abbrev pub array : ℤ
array = pointer 1 0

-- block 1 has so many elements of one field
pub record IsArray (count : ℕ) (m : Blocks) : Type 0 where
  pub fields : (block_at m 1).fields ≡ 1
  pub words : length (block_at m 1).words ≡ count

-- the address of an element of the array
abbrev pub cell : ℕ → Address
cell index = record { block = 1; element = index; field = 0 }

-- an element below the count lies in the array
pub lies-cell : (count index : ℕ) (m : Blocks) → IsArray count m → index < count → lies m (cell index) ≡ true
lies-cell count index m a h =
    let element : index < elements (block_at m 1) = rw (a.words, a.fields, div-one) h in
    let field : 0 < (block_at m 1).fields = omega (arith, a.fields) in
    and_from _ _ (lt-ltb _ _ element) (lt-ltb _ _ field)

-- an index below the count reaches its element
pub reach-array : (count index : ℕ) (m : Blocks) → IsArray count m → index < count → reach m array (pos index) 0 ≡ Some (cell index)
reach-array count index m a h =
    ap (λ e. reach_element m 1 e 0) (+ℤ_idl (pos index)) ∙ cond-true (lies m (cell index)) (Some (cell index)) None (lies-cell count index m a h)

-- a store to an element leaves the array
pub IsArray-with_word : (count index : ℕ) (word : ℤ) (m : Blocks) → IsArray count m → index < count → IsArray count (with_word m (cell index) word)
IsArray-with_word count index word m a h =
    let s = SameShape-with_word m (cell index) word 1 (Lies-reach m array (pos index) 0 (cell index) (reach-array count index m a h)) in
    record { fields = s.fields ∙ a.fields; words = s.words ∙ a.words }

-- an action that answers and leaves the array in its place
pub record Keeps (count : ℕ) (action : Action) (w : World) : Type 0 where
  pub word : ℤ
  pub after : World
  pub answers : act action w ≡ Answers word after
  pub array_stays : IsArray count after.memory

-- a store to an element below the count answers its word
pub store_keeps : (count index : ℕ) (value : ℤ) (w : World) → IsArray count w.memory → index < count → Keeps count (Store array (pos index) 0 value) w
store_keeps count index value w a h =
    record {
      word = value;
      after = record { memory = with_word w.memory (cell index) value; left = w.left; cost = w.cost + 1; printed = w.printed };
      answers = ap (λ r. stored (counted w) r value) (reach-array count index w.memory a h);
      array_stays = IsArray-with_word count index value w.memory a h;
    }

-- a load from an element below the count answers the word there
pub load_keeps : (count index : ℕ) (w : World) → IsArray count w.memory → index < count → Keeps count (Load array (pos index) 0) w
load_keeps count index w a h =
    record {
      word = word_at w.memory (cell index);
      after = counted w;
      answers = ap (loaded (counted w)) (reach-array count index w.memory a h);
      array_stays = a;
    }

-- one address, one index
pub cell-index : (i j : ℕ) → Some (cell i) ≡ Some (cell j) → i ≡ j
cell-index i j e = let same : cell i ≡ cell j = cc in ap (λ (a : Address). a.element) same

-- two indexes below the count reach two elements
pub reach-array-apart : (count i j : ℕ) (m : Blocks) → IsArray count m → i < count → j < count → i ≢ j → reach m array (pos i) 0 ≢ reach m array (pos j) 0
reach-array-apart count i j m a in_i in_j differ e =
    differ (cell-index i j (sym (reach-array count i m a in_i) ∙ (e ∙ reach-array count j m a in_j)))
