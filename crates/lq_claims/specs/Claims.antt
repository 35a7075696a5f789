-- The rule of the claims (docs/THREADS.md, "Claims"). Claims, returns, splits and joins are to keep it (specs/Steps.antt).
use Rattle.std.specs.Prelude.{◌≡◌, ◌⊎◌, ℕ, ◌+◌, ◌*◌, ◌<◌, ◌≤◌, min, true, false, List, [], length, slice_index, sum_by}
use mathlib.Core.Option.{none, some}
use lib.ListN.{get_elem?}
use Rattle.atomic_table.specs.Table.{State}
use Rattle.lq_claims.specs.declared.view.Round.{Round}
use Rattle.lq_claims.specs.declared.view.View.{View}
use Rattle.lq_claims.specs.View.{times, claimed, spent}

-- how many stakes there are
abbrev pub all_stakes : ℕ
all_stakes = 1024

-- the numbers that were drawn are those below this one
abbrev pub next_number : List ℕ → ℕ
next_number words = slice_index words 1

-- how many chunks were given back
abbrev pub back_count : List ℕ → ℕ
back_count words = slice_index words 2

-- how many views hold a number; how many gave it back
abbrev pub holders : List View → (number : ℕ) → ℕ
holders views number = sum_by (λ v. times number v.held) views

abbrev pub returners : List View → (number : ℕ) → ℕ
returners views number = sum_by (λ v. times number v.returned) views

-- a view with a stake knows how many chunks there are, and is marked only where all their numbers were drawn, and one more
pub record IsRight (chunks next : ℕ) (v : View) : Type 0 where
  pub stake : 0 < v.stakes
  pub knows : v.chunks ≡ chunks
  pub past : v.past ≡ true → chunks < next

-- There is one word for the next number and one for the chunks that are back, and a slot for each chunk. What was drawn and what may be drawn is fixed from
-- the beginning, and so are the stakes.
pub record AreCounted (round : Round) (words : List ℕ) (views : List View) : Type 0 where
  pub size : length words ≡ 3
  pub draws : next_number words + sum_by (λ v. v.draws) views ≡ round.workers * (round.chunks + 1)
  pub stakes : sum_by (λ v. v.stakes) views ≡ all_stakes
  pub right : (seat : ℕ) (v : View) → get_elem? views seat ≡ some v → (v ≡ spent) ⊎ IsRight round.chunks (next_number words) v

-- the numbers of chunks that were drawn were claimed, each once and no other, and word 2 counts those that were given back
pub record AreClaimed (round : Round) (words : List ℕ) (views : List View) : Type 0 where
  pub once : (number : ℕ) → number < min (next_number words) round.chunks → holders views number + returners views number ≡ 1
  pub no_other : (number : ℕ) → min (next_number words) round.chunks ≤ number → holders views number + returners views number ≡ 0
  pub many : sum_by (λ v. length (claimed v)) views ≡ min (next_number words) round.chunks
  pub back : back_count words ≡ sum_by (λ v. length v.returned) views

-- the slot of a number is at home, with a value that is such a one
abbrev pub IsHome : {S : Type 0} → (such : ℕ → S → Type 0) → State S View → (number : ℕ) → Type 0
IsHome {S} such state number = (x : S) × (get_elem? state.homes number ≡ some (some x)) × such number x

module _ {S : Type 0} (waiting finished : ℕ → S → Type 0) where
  -- The slot of a number that nobody claimed is at home, with its chunk waiting. It is out while a view holds the number. It is
  -- home again, with the chunk finished, when the number was given back.
  pub record HasSlots (round : Round) (state : State S View) : Type 0 where
    pub count : length state.homes ≡ round.chunks
    pub unclaimed : (number : ℕ) → number < round.chunks → next_number state.words ≤ number → IsHome waiting state number
    pub out : (number : ℕ) → 0 < holders state.views number → get_elem? state.homes number ≡ some none
    pub back : (number : ℕ) → 0 < returners state.views number → IsHome finished state number

  pub record IsKept (round : Round) (state : State S View) : Type 0 where
    pub counted : AreCounted round state.words state.views
    pub claimed : AreClaimed round state.words state.views
    pub slots : HasSlots round state

-- the first seat has all stakes and all draws, and no number
abbrev pub opening_view : Round → View
opening_view round = record { chunks = round.chunks; draws = round.workers * (round.chunks + 1); stakes = all_stakes; past = false; held = []; returned = [] }
