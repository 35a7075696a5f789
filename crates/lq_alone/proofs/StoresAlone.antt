-- Branches of stores to elements of an array, alone: how they end, and that their accesses are apart where they store to
-- different elements.
use Rattle.std.proofs.Common.{◌≡◌, ◌≢◌, ℕ, ◌<◌, Bool, true, false, not, ◌⊎◌, inl, inr, ℤ, pos, List, [], ◌∷◌, map, Option, Some, None, refl, sym, ap, subst}
use Rattle.std.specs.Prelude.{nat_lt}
use Rattle.std.specs.List.{All, AllByRecursion, list_any}
use Rattle.std.proofs.lemmas.List.Elements.{All-nil, All-cons, All-head, All-tail, All-weaker}
use Rattle.std.proofs.lemmas.Bool.{ne_eqb}
use Rattle.lq_meaning.specs.declared.memory.Address.{Address}
use Rattle.lq_meaning.specs.Memory.{Blocks, reach}
use Rattle.lq_meaning.specs.declared.action.Action.TheVariants.{Store as StoreWord}
use Rattle.lq_meaning.specs.World.{World, act}
use Rattle.lq_meaning.specs.Ending.{Done, Spent}
use Rattle.lq_meaning.specs.Control.{answered}
use Rattle.lq_meaning.specs.PlainMeaning.{Slots, word_of}
use Rattle.lq_meaning.specs.Task.{Task}
use Rattle.lq_meaning.specs.TaskControl.{leaf}
use Rattle.lq_meaning.specs.Behaviour.{Context, exec_all}
use Rattle.lq_meaning.proofs.Array.{array, IsArray, cell, store_keeps, reach-array, IsArray-with_word}
use Rattle.lq_alone.specs.declared.slice.Store.{Store}
use Rattle.lq_alone.specs.Alone.{Access, Alone, clash, are_apart, access, write, after, alone_behind, behind, within, alone}
use Rattle.lq_alone.proofs.SlicePlain.{plain_store}

-- an access to an element of the array with this property
pub record At (P : ℕ → Type 0) (x : Access) : Type 0 where
  pub element : ℕ
  pub address : x.address ≡ cell element
  pub holds : P element

-- What a branch of stores comes to: it is done or has spent its fuel, and it accesses elements with this property alone.
pub record StoresAlone (P : ℕ → Type 0) (a : Alone) : Type 0 where
  pub ending : (a.ending ≡ Done) ⊎ (a.ending ≡ Spent)
  pub apart : a.apart ≡ true
  pub accesses : AllByRecursion (At P) a.accesses

-- a branch of stores in progress
abbrev pub stores_task : Context → Slots → List Store → Task
stores_task d slots stores = leaf (exec_all d (map plain_store stores) slots)

module _ (count : ℕ) (P : ℕ → Type 0) (d : Context) (slots : Slots) (pointer : word_of slots 0 ≡ array) where
  -- behind a store
  one_store : (s : Store) (fuel : ℕ) (w : World) (next : World → Alone) → IsArray count w.memory → s.index < count → P s.index →
      ((w : World) → IsArray count w.memory → StoresAlone P (next w)) →
      StoresAlone P (behind (access (reach w.memory (word_of slots 0) (pos s.index) 0) (Some s.value)) (alone_behind (answered s.at (act (StoreWord (word_of slots 0) (pos s.index) 0 s.value) w)) (λ word w. next w)))
  one_store s fuel w next a below holds rest =
      let k = store_keeps count s.index s.value w a below in
      let r = rest k.after k.array_stays in
      let at : At P (record { address = cell s.index; written = Some s.value }) = record { element = s.index; address = refl; holds = holds } in
      rw (pointer, k.answers, reach-array count s.index w.memory a below)
      (record { ending = r.ending; apart = r.apart; accesses = (at, r.accesses) })

  -- where the fuel serves for it, and where it doesn't
  within_stores : (fuels : Bool) (w : World) (next : World → Alone) → StoresAlone P (next w) → StoresAlone P (within fuels w next)
  within_stores true w next goes = goes
  within_stores false w next goes = record { ending = inr refl; apart = refl; accesses = tt }

  -- stores below the count
  pub stores_alone : (stores : List Store) → All (λ (s : Store). s.index < count) stores → All (λ (s : Store). P s.index) stores →
      (fuel : ℕ) (w : World) → IsArray count w.memory → StoresAlone P (alone fuel (stores_task d slots stores) w)
  stores_alone [] below hold fuel w a = record { ending = inl refl; apart = refl; accesses = tt }
  stores_alone (s ∷ stores) below hold fuel w a =
      within_stores (nat_lt w.cost fuel) w _
      (one_store s fuel w (λ w. alone fuel (stores_task d slots stores) w) a (All-head (λ (t : Store). t.index < count) s stores below) (All-head (λ (t : Store). P t.index) s stores hold)
      (λ w a. stores_alone stores (All-tail (λ (t : Store). t.index < count) s stores below) (All-tail (λ (t : Store). P t.index) s stores hold) fuel w a))

-- ---- apart

-- an access clashes with none to another element
none_clashes : (x : Access) (i : ℕ) → x.address ≡ cell i → (others : List Access) → AllByRecursion (At (λ j. i ≢ j)) others → list_any (clash x) others ≡ false
none_clashes x i at [] all = refl
none_clashes x i at (y ∷ others) all = rw (at, all.0.address, ne_eqb i all.0.element all.0.holds, none_clashes x i at others all.1) refl

-- accesses whose elements others don't access
abbrev pub IsFree : List Access → ℕ → Type 0
IsFree others i = AllByRecursion (At (λ j. i ≢ j)) others

none_clash : (accesses others : List Access) → AllByRecursion (At (IsFree others)) accesses → list_any (λ a. list_any (clash a) others) accesses ≡ false
none_clash [] others all = refl
none_clash (x ∷ accesses) others all = rw (none_clashes x all.0.element all.0.address others all.0.holds, none_clash accesses others all.1) refl

pub apart_accesses : (accesses others : List Access) → AllByRecursion (At (IsFree others)) accesses → are_apart accesses others ≡ true
apart_accesses accesses others all = ap not (none_clash accesses others all)

-- what holds of each of these with each of those, the other way round
pub All-swap : {X Y : Type 0} (R : X → Y → Type 0) (xs : List X) (ys : List Y) → All (λ y. All (λ x. R x y) xs) ys → All (λ x. All (λ y. R x y) ys) xs
All-swap R [] ys all = All-nil _
All-swap R (x ∷ xs) ys all =
    All-cons (λ x. All (λ y. R x y) ys) x xs
    (All-weaker (λ y. All (λ x. R x y) (x ∷ xs)) (λ y. R x y) (λ y. All-head (λ x. R x y) x xs) ys all)
    (All-swap R xs ys (All-weaker (λ y. All (λ x. R x y) (x ∷ xs)) (λ y. All (λ x. R x y) xs) (λ y. All-tail (λ x. R x y) x xs) ys all))

-- ---- the memory

IsArray-write : (count i : ℕ) (written : Option ℤ) (m : Blocks) → IsArray count m → i < count → IsArray count (write m (cell i) written)
IsArray-write count i None m a below = a
IsArray-write count i (Some word) m a below = IsArray-with_word count i word m a below

-- accesses to elements below the count leave the array
pub IsArray-after : (count : ℕ) (accesses : List Access) (m : Blocks) → IsArray count m → AllByRecursion (At (λ i. i < count)) accesses → IsArray count (after m accesses)
IsArray-after count [] m a all = a
IsArray-after count (x ∷ accesses) m a all =
    IsArray-after count accesses (write m x.address x.written)
    (subst (λ (b : Address). IsArray count (write m b x.written)) (sym all.0.address) (IsArray-write count all.0.element x.written m a all.0.holds)) all.1
