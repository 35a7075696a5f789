-- What each kind of step does to the one view, and what it tells (docs/THREADS.md, "Claims").
use Rattle.std.specs.Prelude.{◌≡◌, ℕ, ◌+◌, ◌-◌, ◌≤◌, Bool, true, false, ◌||◌, nat_lt, List, [], ◌∷◌, ◌++◌, length}
use Rattle.atomic_table.specs.Table.{Step, Me, rest}
use Rattle.lq_claims.specs.declared.view.View.{View}
use Rattle.lq_claims.specs.View.{claimed}

-- the view with one draw less, and one number more
abbrev pub with_number : View → (number : ℕ) → View
with_number v number = record v { draws = v.draws - 1; held = number ∷ v.held }

-- the view with one draw less, and the mark
abbrev pub marked : View → View
marked v = record v { draws = v.draws - 1; past = true }

module _ {S : Type 0} (waiting : ℕ → S → Type 0) where
  -- the number is one of a chunk, or it is past the last one
  abbrev pub Draws : Bool → Me S View → (number : ℕ) → Me S View → Type 0
  Draws true old number new = (x : S) × waiting number x × (new ≡ (with_number old.0 number, (number, x) ∷ old.1))
  Draws false old number new = new ≡ (marked old.0, old.1)

  -- A claim. Where the number found is one of a chunk, it is the view's, and its slot goes out to the seat with the chunk waiting in
  -- it; otherwise the view is marked. No view has more numbers than there are chunks.
  pub record Claims (step : Step S) (old : Me S View) (found : ℕ) (new : Me S View) : Type 0 where
    pub drawn : Draws (nat_lt found old.0.chunks) old found new
    pub within : length (claimed new.0) ≤ new.0.chunks

-- the number that was claimed last is one that was given back
abbrev pub given_back : View → List ℕ → View
given_back v [] = v
given_back v (number ∷ held) = record v { held = held; returned = number ∷ v.returned }

-- a return: the slot that was claimed last goes home
abbrev pub GivesBack : {S : Type 0} → Step S → Me S View → ℕ → Me S View → Type 0
GivesBack step old found new = new ≡ (given_back old.0 old.0.held, rest old.1)

-- of a split, what stays with the seat
abbrev pub kept_part : (draws : ℕ) → View → View
kept_part draws v = record v { draws = v.draws - draws; stakes = v.stakes - 1 }

-- and what goes to the new one: draws, a stake, and no number
abbrev pub given_part : (draws : ℕ) → View → View
given_part draws v = record { chunks = v.chunks; draws = draws; stakes = 1; past = false; held = []; returned = [] }

-- a join puts the numbers together, adds draws and stakes, and keeps a mark that either has
abbrev pub joined_view : View → View → View
joined_view v w = record {
  chunks = v.chunks;
  draws = v.draws + w.draws;
  stakes = v.stakes + w.stakes;
  past = v.past || w.past;
  held = v.held ++ w.held;
  returned = v.returned ++ w.returned;
}
