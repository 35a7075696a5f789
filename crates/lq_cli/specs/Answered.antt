-- How a command answers by its table of answers (docs/COMMANDS.md, "Statuses").
use Rattle.std.specs.Prelude.{◌≡◌, ◌≢◌, ◌⊎◌, ℕ, List, Option}
use Rattle.lq_shelf.specs.Faults.{Rose}
use Rattle.lq_shelf.specs.Sink.{Appends, AppendsPrefix}
use Rattle.lq_cli.specs.Answer.{IsLost}
use Rattle.lq_cli.specs.Seen.{ShelfState, SinkState, Seen, seen}

-- a status and the bytes that were written with it are an answer
abbrev pub Tells : (answers : ℕ → List ℕ → Type 0) → (written now : Option (List ℕ)) → ℕ → Type 0
Tells answers written now status = (bytes : List ℕ) × Appends written now bytes × answers status bytes

-- the first ones of the bytes of an answer were written
abbrev pub Begins : (answers : ℕ → List ℕ → Type 0) → (written now : Option (List ℕ)) → Type 0
Begins answers written now = (status : ℕ) × (bytes : List ℕ) × AppendsPrefix written now bytes × answers status bytes

-- what a sink is told by a table of answers, and the status
pub record Told (answers : ℕ → List ℕ → Type 0) (old new : SinkState) (status : ℕ) : Type 0 where
  -- the status and the bytes that were written are an answer, unless the sink failed or memory ran out
  pub told : IsLost status ⊎ Tells answers old.written new.written status
  -- whatever the status is, only first ones of the bytes of an answer were written
  pub prefix : (new.written ≡ old.written) ⊎ Begins answers old.written new.written
  -- that the sink failed is told only where it did
  pub sink_fault : status ≡ 10 → Rose old.faults new.faults
  pub no_sink_fault : status ≢ 10 → new.faults ≡ old.faults

-- what a command answers by its table: all that a sink is told, and what is left of the shelf
pub record Answered (answers : Seen → ℕ → List ℕ → Type 0) (shelf left : ShelfState) (old new : SinkState) (status : ℕ) : Type 0 where
  pub answer : Told (answers (seen shelf left)) old new status
  -- where a fetch failed, the status says so, unless what came behind it was lost
  pub no_read_fault : status ≢ 9 → status ≢ 10 → status ≢ 11 → left.faults ≡ shelf.faults
  -- nothing that is held changes
  pub held : (name : List ℕ) → left.held name ≡ shelf.held name
