-- What a call saw of its shelf and of its sink (docs/ARCHITECTURE.md, "Traits of the outside").
use Rattle.std.specs.Prelude.{◌≡◌, ℕ, List, Option}
use Rattle.lq_shelf.specs.Faults.{Rose}
use Rattle.lq_shelf.specs.Shelf.{Holding}

-- a shelf: what it holds under each name, how often fetches have failed, and the name of the last that did
pub record ShelfState : Type 0 where
  pub held : List ℕ → Holding
  pub faults : ℕ
  pub failed : List ℕ

-- a sink: what is written, where it tells that, and how often puts have failed
pub record SinkState : Type 0 where
  pub written : Option (List ℕ)
  pub faults : ℕ

-- a shelf, by what its trait tells of it
abbrev pub shelf_state : {H : Type 0} → (holding : H → List ℕ → Holding) → (faults : H → ℕ) → (failed_name : H → List ℕ) → H → ShelfState
shelf_state holding faults failed_name shelf = record { held = holding shelf; faults = faults shelf; failed = failed_name shelf }

-- a sink, by what its trait tells of it
abbrev pub sink_state : {K : Type 0} → (written : K → Option (List ℕ)) → (faults : K → ℕ) → K → SinkState
sink_state written faults sink = record { written = written sink; faults = faults sink }

-- what a call saw of its shelf: what is held under each name, the counts of faults before and behind it, and the name of
-- the last fetch that failed
pub record Seen : Type 0 where
  pub held : List ℕ → Holding
  pub before : ℕ
  pub behind : ℕ
  pub failed : List ℕ

-- what was seen from one state of a shelf to another
abbrev pub seen : (old new : ShelfState) → Seen
seen old new = record { held = old.held; before = old.faults; behind = new.faults; failed = new.failed }

-- a fetch of this name failed: the count of faults rose, and this is the last name that failed
abbrev pub Failed : Seen → (name : List ℕ) → Type 0
Failed s name = Rose s.before s.behind × (s.failed ≡ name)
