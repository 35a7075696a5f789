-- What a shelf holds, and what a fetch gives (docs/ARCHITECTURE.md, "Traits of the outside").
use Rattle.std.specs.Prelude.{◌≡◌, ℕ, List, take, ⊤}

-- what a shelf tells of a name: nothing, that no file has it, or the bytes of its file
pub data Holding : Type 0 where
  Untold : Holding
  Missing : Holding
  Contents : List ℕ → Holding

-- these are the first `most` bytes of what is held, where that is told; a missing file gives none
abbrev pub AreFirstOf : Holding → ℕ → List ℕ → Type 0
AreFirstOf Untold most bytes = ⊤
AreFirstOf Missing most bytes = ⊥
AreFirstOf (Contents held) most bytes = bytes ≡ take most held
