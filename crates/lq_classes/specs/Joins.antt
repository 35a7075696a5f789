-- Which numbers are joined: those of variables, and behind them the places of fields.
use Rattle.std.specs.Prelude.{◌≡◌, ℕ, ◌+◌, ◌*◌, ◌<◌, ◌≤◌, ◌++◌, ◌⊎◌, ◌&&◌, length, List, [], ◌∷◌, sum, slice_index, Contains, if◌then◌else◌}
use Rattle.lq_tree.specs.declared.plain.PProgram.{PProgram}
use Rattle.lq_classes.specs.declared.links.Link.{Link}
use Rattle.lq_classes.specs.declared.links.Link.TheVariants.{Flow, Access}
use Rattle.lq_classes.specs.declared.joins.Pair.{Pair}
use Rattle.lq_classes.specs.Classes.{is_variable}
use Rattle.lq_classes.specs.Layout.{number}
use Rattle.lq_classes.specs.Forest.{IsForest, Respects}

-- where there are so many numbers of variables: the place of a field behind one of them
abbrev pub place : (count number field : ℕ) → ℕ
place count number field = (field + 1) * count + number

-- two numbers that are to be joined
abbrev pub pair : (a b : ℕ) → Pair
pair a b = record { a = a; b = b }

-- what a link asks to be joined
abbrev pub pairs_of : PProgram → (count : ℕ) → Link → List Pair
pairs_of p count (Flow from to) = if is_variable p from && is_variable p to then pair (number p from) (number p to) ∷ [] else []
pairs_of p count (Access base field value) =
    if is_variable p base && is_variable p value then pair (place count (number p base) field) (number p value) ∷ [] else []

-- the least equivalence that joins these pairs, and with two variables the places behind them
pub data Joined (pairs : List Pair) (count fields : ℕ) : ℕ → ℕ → Type 0 where
  itself : {a : ℕ} → Joined pairs count fields a a
  turned : {a b : ℕ} → Joined pairs count fields a b → Joined pairs count fields b a
  chained : {a b c : ℕ} → Joined pairs count fields a b → Joined pairs count fields b c → Joined pairs count fields a c
  asked : {a b : ℕ} → Contains pairs (pair a b) → Joined pairs count fields a b
  behind : {a b field : ℕ} → a < count → b < count → field < fields → Joined pairs count fields a b → Joined pairs count fields (place count a field) (place count b field)

-- the labels of the two of each pair are the same
abbrev pub Agrees : (label : ℕ → ℕ) → List Pair → Type 0
Agrees label waiting = (a b : ℕ) → Contains waiting (pair a b) → label a ≡ label b

-- two numbers are in one set, once what waits is joined
abbrev pub Alike : (parents : List ℕ) → (waiting : List Pair) → (a b : ℕ) → Type 0
Alike parents waiting a b = (label : ℕ → ℕ) → Respects label parents → Agrees label waiting → label a ≡ label b

-- the sets are of the numbers that there are, and so is what waits
pub record AreSets (count fields : ℕ) (parents : List ℕ) (waiting : List Pair) : Type 0 where
  pub forest : IsForest parents
  pub size : length parents ≡ count * (fields + 1)
  pub inside : (a b : ℕ) → Contains waiting (pair a b) → (a < count * (fields + 1)) × (b < count * (fields + 1))

-- they are on the way to what the pairs ask for
pub record AreOnWay (pairs : List Pair) (count fields : ℕ) (parents : List ℕ) (waiting : List Pair) : Type 0 where
  pub right : (i : ℕ) → i < length parents → Joined pairs count fields i (slice_index parents i)
  pub wanted : (a b : ℕ) → Contains waiting (pair a b) → Joined pairs count fields a b
  pub kept : (a b : ℕ) → Contains pairs (pair a b) → Alike parents waiting a b
  pub behind : (i field : ℕ) → i < count → field < fields → Alike parents waiting (place count i field) (place count (slice_index parents i) field)

-- what is left to do
abbrev pub work : (fields : ℕ) → List ℕ → List Pair → ℕ
work fields parents waiting = sum parents * (fields + 1) + length waiting

-- a step behind which there is less to do
pub record IsStep (count fields : ℕ) (a b : ℕ) (old : List ℕ) (before : List Pair) (new : List ℕ) (after : List Pair) : Type 0 where
  pub sets : AreSets count fields new after
  pub onward : (pairs : List Pair) → AreOnWay pairs count fields old (before ++ pair a b ∷ []) → AreOnWay pairs count fields new after
  pub less : work fields new after < work fields old (before ++ pair a b ∷ [])

-- the places behind one variable wait to be joined with those behind another
pub record PutsFields (count fields first second : ℕ) (old new : List Pair) : Type 0 where
  pub longer : length new ≡ length old + fields
  pub before : (a b : ℕ) → Contains old (pair a b) → Contains new (pair a b)
  pub asked : (field : ℕ) → field < fields → Contains new (pair (place count first field) (place count second field))
  pub only : (a b : ℕ) → Contains new (pair a b) → Contains old (pair a b) ⊎ ((field : ℕ) × (field < fields) × (a ≡ place count first field) × (b ≡ place count second field))

-- the labels say which numbers are joined
pub record AreLabelsOf (pairs : List Pair) (count fields : ℕ) (labels : List ℕ) : Type 0 where
  pub size : length labels ≡ count * (fields + 1)
  pub within : (i : ℕ) → slice_index labels i ≤ i
  pub right : (i : ℕ) → i < count → Joined pairs count fields i (slice_index labels i)
  pub kept : (a b : ℕ) → Contains pairs (pair a b) → slice_index labels a ≡ slice_index labels b
  pub behind : (a b field : ℕ) → a < count → b < count → field < fields → slice_index labels a ≡ slice_index labels b → slice_index labels (place count a field) ≡ slice_index labels (place count b field)
