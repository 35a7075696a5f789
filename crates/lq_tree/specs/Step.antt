-- The step of a `foreach` (docs/LANGUAGE.md, "Name rules").
use Rattle.std.specs.Prelude.{Bool, ◌&&◌, ℤ, pos, int_le}

-- a step is from 1 to 65,536
abbrev pub is_step : ℤ → Bool
is_step step = int_le (pos 1) step && int_le step (pos 65536)
