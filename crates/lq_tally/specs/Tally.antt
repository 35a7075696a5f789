-- Conditions that are asked one after the other (docs/CHECKING.md, "Conditions").
use Rattle.std.specs.Prelude.{ℕ, ◌+◌, ◌-◌, List, ◌++◌, length, take}
use Rattle.lq_templates.specs.declared.condition.Condition.{Condition}
use Rattle.lq_tally.specs.declared.tally.Tally.{Tally}

-- so many conditions are kept: no program may have more
abbrev pub most : ℕ
most = 4096

-- these are asked too: all are counted, and the first are kept
abbrev pub tallied : List Condition → Tally → Tally
tallied conditions t = record { kept = t.kept ++ take (most - length t.kept) conditions; count = t.count + length conditions }
