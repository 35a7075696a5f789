-- The rule of the shared words, which is this project's own. Loads, stores, splits and joins are to keep it (specs/Steps.antt).
use Rattle.std.specs.Prelude.{◌≡◌, ◌⊎◌, ℕ, ◌+◌, ◌<◌, ◌≤◌, List, length, replicate, slice_index, sum_by}
use mathlib.Core.Option.{some}
use lib.ListN.{get_elem?}
use Rattle.atomic_table.specs.Table.{State}
use Rattle.lq_rule.specs.declared.view.Held.{Held}
use Rattle.lq_rule.specs.declared.view.Supply.{Supply}
use Rattle.lq_rule.specs.declared.view.View.{View}
use Rattle.lq_rule.specs.View.{units_at, word_at, units_of, nothing, spent}

-- the word of each cell of which a unit is held is the table's: cell c is word c + 1
abbrev pub HasWords : List ℕ → Held → Type 0
HasWords words h = (cell : ℕ) → 0 < units_at h cell → word_at h cell ≡ slice_index words (cell + 1)

-- a view that isn't spent knows how many all units are, and each view has the words of its cells
pub record IsRight (all : ℕ) (words : List ℕ) (v : View) : Type 0 where
  pub number : (v ≡ spent) ⊎ (v.all ≡ all)
  pub own : HasWords words v.own
  pub joined : HasWords words v.joined

-- of each cell no more units are held than there are, and each view is right
pub record IsKept (supply : Supply) (state : State (Unit {0}) View) : Type 0 where
  pub size : length state.words ≡ supply.cells + 1
  pub units : (cell : ℕ) → sum_by (λ v. units_of v cell) state.views ≤ supply.units
  pub views : (seat : ℕ) (v : View) → get_elem? state.views seat ≡ some v → IsRight supply.units state.words v

-- the first seat has all units of each cell, and each word is 0
abbrev pub opening_view : Supply → View
opening_view supply = record { all = supply.units; own = record { units = replicate supply.cells supply.units; words = replicate supply.cells 0 }; joined = nothing }
