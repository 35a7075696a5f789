-- What a part has. Units are a rule of this project's own: a unit lets a cell be read, and all its units let it be written.
use Rattle.std.specs.Prelude.{◌≡◌, ℕ, ℤ, ◌+◌, ◌<◌, ◌≤◌, List, [], length, map, pos, nat_lt, if◌then◌else◌, slice_index, slice_index_or}
use Rattle.std.specs.Int.{w64, cast_signed}
use Rattle.atomic_table.specs.Seated.{TableId}
use Rattle.lq_rule.specs.View.{units_at as held_units, nothing}
use Rattle.lq_rule.specs.Steps.{Seated}

-- which memory a part is of, how many units of a cell all units are, and the part's units and value of each cell
pub record Holding : Type 0 where
  pub home : TableId
  pub all : ℕ
  pub units : List ℕ
  pub values : List ℤ

-- the part's units of the cell
abbrev pub units_at : Holding → ℕ → ℕ
units_at part cell = slice_index part.units cell

-- the part's value of the cell, which is 0 where it has no unit
abbrev pub value_at : Holding → ℕ → ℤ
value_at part cell = if nat_lt 0 (units_at part cell) then slice_index_or part.values cell (pos 0) else pos 0

-- the part may read the cell
abbrev pub HasUnit : Holding → ℕ → Type 0
HasUnit part cell = 0 < units_at part cell

-- the part may write the cell
abbrev pub HasAll : Holding → ℕ → Type 0
HasAll part cell = units_at part cell ≡ part.all

-- it has all units of each cell below this number
abbrev pub HasAllOf : Holding → ℕ → Type 0
HasAllOf part cells = (cell : ℕ) → cell < cells → HasAll part cell

-- the piece's value of each cell of which it has a unit is the whole's
abbrev pub KeepsValues : Holding → Holding → Type 0
KeepsValues whole piece = (cell : ℕ) → HasUnit piece cell → value_at piece cell ≡ value_at whole cell

-- the two are parts of one memory, and of one number of units
abbrev pub IsBeside : Holding → Holding → Type 0
IsBeside one other = (other.home ≡ one.home) × (other.all ≡ one.all)

-- the units of each cell stay, and the memory
abbrev pub KeepsUnits : Holding → Holding → Type 0
KeepsUnits old new = IsBeside old new × (new.units ≡ old.units)

-- what the part on a seat of this table has
abbrev pub holding_of : TableId → Seated → Holding
holding_of table me = record { home = table; all = me.0.all; units = me.0.own.units; values = map (cast_signed w64) me.0.own.words }

-- the seat holds no slot, is not spent, has looked at what came in, and knows each cell of the table
pub record IsSettled (table : TableId) (me : Seated) : Type 0 where
  pub slots : me.1 ≡ []
  pub joined : me.0.joined ≡ nothing
  pub unspent : 0 < me.0.all
  pub cells : length me.0.own.units + 1 ≡ table.words
  pub words : length me.0.own.words ≡ length me.0.own.units
  pub within : (cell : ℕ) → held_units me.0.own cell ≤ me.0.all
