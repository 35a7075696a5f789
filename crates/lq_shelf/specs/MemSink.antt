-- A sink in memory, as contracts see it.
use Rattle.std.specs.Prelude.{ℕ, List, find, Option, option_map, ◌==◌}
use Rattle.lq_shelf.specs.Faults.{next_count}

-- what is written, the calls that fail with the bytes that each writes first, and what has happened
pub record MemSinkState : Type 0 where
  pub written : List ℕ
  pub fails : List (ℕ × ℕ)
  pub calls : ℕ
  pub faults : ℕ

-- how many bytes the next call writes before it fails, where its number is listed; of entries with
-- one number the first counts
abbrev pub bytes_before_failure : MemSinkState → Option ℕ
bytes_before_failure sink =
    option_map (λ entry. entry.1) (find (λ entry. entry.0 == next_count sink.calls) sink.fails)
