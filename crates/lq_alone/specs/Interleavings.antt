-- What every run of a clean program comes to (docs/CHECKING.md, "What acceptance promises").
use Rattle.std.specs.Prelude.{◌≡◌, ◌≢◌, ℕ, ℤ, List}
use Rattle.lq_tree.specs.declared.place.Place.{Place}
use Rattle.lq_tree.specs.declared.plain.PProgram.{PProgram}
use Rattle.lq_meaning.specs.Ending.{Strayed, Spent, Outcome}
use Rattle.lq_log.specs.Race.{IsRaceFree}
use Rattle.lq_machine.specs.Replay.{replay, replay_log}

-- the run of a plain program under these picks meets no stray and no race, and comes to this outcome, with its memory unless
-- the fuel is spent
pub record RunsAs (p : PProgram) (input : List ℤ) (words fuel : ℕ) (picks : List ℕ) (o : Outcome) : Type 0 where
  pub no_stray : (at : Place) → (replay fuel words p input picks).ending ≢ Strayed at
  pub no_race : IsRaceFree (replay_log fuel words p input picks)
  pub printed : (replay fuel words p input picks).world.printed ≡ o.world.printed
  pub ending : (replay fuel words p input picks).ending ≡ o.ending
  pub cost : (replay fuel words p input picks).world.cost ≡ o.world.cost
  pub memory : o.ending ≢ Spent → (replay fuel words p input picks).world.memory ≡ o.world.memory
