-- What a seat knows: its units of each cell, and the word of each cell of which it has a unit. Units are a rule of this project's own.
use Rattle.std.specs.Prelude.{ℕ, ◌+◌, [], slice_index}
use Rattle.lq_rule.specs.declared.view.Held.{Held}
use Rattle.lq_rule.specs.declared.view.View.{View}

-- the units of the cell that are held, none past the last cell
abbrev pub units_at : Held → ℕ → ℕ
units_at h cell = slice_index h.units cell

-- the word of the cell, where a unit of it is held
abbrev pub word_at : Held → ℕ → ℕ
word_at h cell = slice_index h.words cell

-- no units and no words
abbrev pub nothing : Held
nothing = record { units = []; words = [] }

-- a view with no units
abbrev pub spent : View
spent = record { all = 0; own = nothing; joined = nothing }

-- the units of the cell that a view has
abbrev pub units_of : View → ℕ → ℕ
units_of v cell = units_at v.own cell + units_at v.joined cell
