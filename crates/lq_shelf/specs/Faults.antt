-- Counts of faults (docs/ARCHITECTURE.md, "Traits of the outside").
use Rattle.std.specs.Prelude.{ℕ, ◌+◌, ◌-◌, ◌^◌, ◌≤◌, min}

-- the next value of a count, which stands still at its last, 2^64 - 1
abbrev pub next_count : ℕ → ℕ
next_count count = min (count + 1) (2 ^ 64 - 1)

-- The count rose from old to new. One that stands at its last value passes for one that rose.
abbrev pub Rose : ℕ → ℕ → Type 0
Rose old new = next_count old ≤ new
