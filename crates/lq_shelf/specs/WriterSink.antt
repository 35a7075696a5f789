-- A sink over a writer, as contracts see it.
use Rattle.std.specs.Prelude.{◌<◌, ℕ, List, take, length, Option}
use Rattle.lq_shelf.specs.Sink.{Appends}

-- the bytes that the writer holds, where it tells them, and the count of faults
pub record WriterSinkState : Type 0 where
  pub written : Option (List ℕ)
  pub faults : ℕ

-- the first ones of these bytes came behind what is written, but not all of them
abbrev pub AppendsPart : Option (List ℕ) → Option (List ℕ) → List ℕ → Type 0
AppendsPart old new bytes = (count : ℕ) × (count < length bytes) × Appends old new (take count bytes)
