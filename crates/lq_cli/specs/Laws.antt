-- What is claimed of answers (docs/COMMANDS.md, "Statuses").
use Rattle.std.specs.Prelude.{◌≡◌, ◌≢◌, ◌⊎◌, ℕ, List, []}
use Rattle.lq_shelf.specs.Shelf.{Untold}
use Rattle.lq_cli.specs.Lines.{read_fault}
use Rattle.lq_cli.specs.Seen.{Seen, Failed}
use Rattle.lq_cli.specs.Liquid.{Answers}

-- the shelf tells what it holds under each name
abbrev pub TellsFiles : Seen → Type 0
TellsFiles s = (name : List ℕ) → s.held name ≢ Untold

-- no name passes for one whose fetch failed
abbrev pub NoneFailed : Seen → Type 0
NoneFailed s = (name : List ℕ) → ¬ Failed s name

-- at most one status with its bytes is an answer
abbrev pub AtMostOne : (ℕ → List ℕ → Type 0) → Type 0
AtMostOne answers = (status other : ℕ) (bytes others : List ℕ) → answers status bytes → answers other others → (status ≡ other) × (bytes ≡ others)

-- what was seen, had no fetch failed
abbrev pub unfailed : Seen → Seen
unfailed s = record { held = s.held; before = 0; behind = 0; failed = [] }

-- Words have at most one answer where the shelf tells its files and no fetch failed. Where the fetch of a name failed,
-- an answer is either the read fault of this name, or one that is due had no fetch failed.
pub record OneAnswer : Type 0 where
  pub one : (words : List (List ℕ)) (s : Seen) → TellsFiles s → NoneFailed s → AtMostOne (Answers words s)
  pub fault : (words : List (List ℕ)) (s : Seen) (name : List ℕ) → Failed s name → (status : ℕ) (bytes : List ℕ) → Answers words s status bytes →
      Answers words (unfailed s) status bytes ⊎ ((status ≡ 9) × (bytes ≡ read_fault name))
