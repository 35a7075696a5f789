-- A shelf over what opens files, as contracts see it.
use Rattle.std.specs.Prelude.{◌≡◌, ℕ, List, Option, Some, ⊤}
use Rattle.lq_shelf.specs.Shelf.{Holding, Untold, Missing, Contents}

-- what it opens files by, the count of faults, and the name of the last fetch that failed
pub record ReaderShelfState (O : Type 0) : Type 0 where
  pub opener : O
  pub faults : ℕ
  pub failed_name : List ℕ

-- a file that was opened has all of what is held left to give; where nothing is told, it may be any
abbrev pub GivesHeld : Holding → (left : Option (List ℕ)) → Type 0
GivesHeld Untold left = ⊤
GivesHeld Missing left = ⊥
GivesHeld (Contents held) left = left ≡ Some held
