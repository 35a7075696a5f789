-- The files of a command, each of a size that has a limit (docs/COMMANDS.md, "Order of refusals" and "Limits").
use Rattle.std.specs.Prelude.{ℕ, ◌+◌, ◌<◌, ◌≤◌, List, length}
use Rattle.lq_shelf.specs.Shelf.{Holding, AreFirstOf}
use Rattle.lq_tree.specs.declared.limit.Quantity.{Quantity}
use Rattle.lq_tree.specs.Limit.{passed}
use Rattle.lq_cli.specs.Lines.{most, read_fault, limit}
use Rattle.lq_cli.specs.Seen.{Seen, Failed}

-- these bytes were fetched: all that is held under the name, or one more than is allowed
pub record Fetched (held : List ℕ → Holding) (size : Quantity) (name bytes : List ℕ) : Type 0 where
  pub first : AreFirstOf (held name) (most size + 1) bytes
  pub within : length bytes ≤ most size + 1

-- these bytes are the file of this name, which keeps its limit
pub record IsFile (held : List ℕ → Holding) (size : Quantity) (name bytes : List ℕ) : Type 0 where
  pub fetched : Fetched held size name bytes
  pub within : length bytes ≤ most size

-- the answers where there is no such file
pub data FileAnswers (size : Quantity) (name : List ℕ) (s : Seen) : ℕ → List ℕ → Type 0 where
  -- it can't be read
  unread : Failed s name → FileAnswers size name s 9 (read_fault name)
  -- it is larger
  larger : (bytes : List ℕ) → Fetched s.held size name bytes → most size < length bytes →
      FileAnswers size name s 7 (limit (passed size (length bytes)))
