-- What each kind of step does to the one view, and what it tells. The kinds are load, store, split and join; a join is two loads of word 0.
use Rattle.std.specs.Prelude.{◌≡◌, ℕ, ◌+◌, ◌-◌, ◌<◌, ◌≤◌, List, length, map, nat_lt, if◌then◌else◌, slice_set}
use Rattle.std.specs.List.{range_with_len}
use Rattle.atomic_table.specs.Table.{Step, Me}
use Rattle.lq_rule.specs.declared.view.Held.{Held}
use Rattle.lq_rule.specs.declared.view.View.{View}
use Rattle.lq_rule.specs.View.{units_at, word_at, units_of, nothing}

-- what a seat knows, and the slots that it holds (a table of words has none)
abbrev pub Seated : Type 0
Seated = Me (Unit {0}) View

-- the cell of a step's word: cell c is word c + 1
abbrev pub cell_of : Step (Unit {0}) → ℕ
cell_of step = step.word - 1

-- the word found is the view's, and the view stays
abbrev pub Loads : Step (Unit {0}) → Seated → ℕ → Seated → Type 0
Loads step old found new = (found ≡ word_at old.0.own (cell_of step)) × (new ≡ old)

-- the view, with another word of the cell
abbrev pub with_word : View → ℕ → ℕ → View
with_word v cell word = record { all = v.all; own = record { units = v.own.units; words = slice_set v.own.words cell word }; joined = v.joined }

-- the word that was written is the view's
abbrev pub Stores : Step (Unit {0}) → Seated → ℕ → Seated → Type 0
Stores step old word new = new ≡ (with_word old.0 (cell_of step) word, old.1)

-- the list of f at each cell below n
abbrev pub each_cell : ℕ → (ℕ → ℕ) → List ℕ
each_cell n f = map f (range_with_len 0 n)

-- the view with these units of each cell, and its words
abbrev pub with_units : View → (ℕ → ℕ) → View
with_units v f = record { all = v.all; own = record { units = each_cell (length v.own.units) f; words = v.own.words }; joined = nothing }

-- of a split, the part with the units of the foot
abbrev pub foot_part : (ℕ → ℕ) → View → View
foot_part foot v = with_units v foot

-- and the part with the others
abbrev pub rest_part : (ℕ → ℕ) → View → View
rest_part foot v = with_units v (λ cell. units_at v.own cell - foot cell)

-- a join takes what another view has in beside the view's own
abbrev pub joined_view : View → View → View
joined_view v w = record { all = v.all; own = v.own; joined = w.own }

-- the units of both, and of each cell the word of the one that has a unit
abbrev pub put_together : Held → Held → Held
put_together h k = record {
  units = each_cell (length h.units) (λ cell. units_at h cell + units_at k cell);
  words = each_cell (length h.units) (λ cell. if nat_lt 0 (units_at h cell) then word_at h cell else word_at k cell);
}

-- where both have a unit of a cell they have one word
abbrev pub Agree : Held → Held → Type 0
Agree h k = (cell : ℕ) → 0 < units_at h cell → 0 < units_at k cell → word_at h cell ≡ word_at k cell

-- what came in is the view's own now. Both agreed, and their units were no more than there are
pub record Looks (step : Step (Unit {0})) (old : Seated) (found : ℕ) (new : Seated) : Type 0 where
  pub view : new ≡ (record { all = old.0.all; own = put_together old.0.own old.0.joined; joined = nothing }, old.1)
  pub agree : Agree old.0.own old.0.joined
  pub units : (cell : ℕ) → units_of old.0 cell ≤ old.0.all
