-- The replays of sources that are clean on their input (docs/CHECKING.md, "What acceptance promises").
use Rattle.std.specs.Prelude.{◌≢◌, ℕ, ℤ, pos, List, map}
use Rattle.lq_tree.specs.declared.program.Program.{Program}
use Rattle.lq_shelf.specs.Shelf.{Holding}
use Rattle.lq_plain.specs.Plain.{plain_program}
use Rattle.lq_meaning.specs.Meaning.{sequential}
use Rattle.lq_alone.specs.Clean.{IsClean}
use Rattle.lq_cli.specs.declared.numbers.NumbersFile.TheVariants.{Input, Picks}
use Rattle.lq_cli.specs.Answered.{Told}
use Rattle.lq_cli.specs.Ends.{Ends}
use Rattle.lq_cli.specs.Numbers.{AreNumbers}
use Rattle.lq_cli.specs.Seen.{SinkState, Seen}
use Rattle.lq_cli.specs.Text.{IsSource}
use Rattle.lq_cli.specs.Laws.{TellsFiles, NoneFailed}
use Rattle.lq_cli.specs.commands.Replay.{Replay, Spells}

-- the words ask to replay a source that is clean on the input and with the words of the run
pub record AsksForClean (words : List (List ℕ)) (held : List ℕ → Holding) (c : Replay) (tree : Program) (given : List ℤ) : Type 0 where
  pub spelled : Spells words c
  pub source : IsSource held c.source tree
  pub input : AreNumbers held Input c.input given
  pub clean : IsClean (plain_program tree) given c.words

-- what a call tells where its words ask for that, by what the files hold
pub record TellsClean (words : List (List ℕ)) (s : Seen) (old new : SinkState) (status : ℕ) : Type 0 where
  -- neither a stray nor a race
  pub no_race : TellsFiles s → (c : Replay) (tree : Program) (given : List ℤ) → AsksForClean words s.held c tree given → (status ≢ 13) × (status ≢ 14)
  -- where the picks are read too, the sequential execution of the source, whatever they are
  pub in_order : TellsFiles s → NoneFailed s → (c : Replay) (tree : Program) (given : List ℤ) (picked : List ℕ) → AsksForClean words s.held c tree given →
      AreNumbers s.held Picks c.picks (map pos picked) → Told (Ends (sequential c.fuel c.words tree given)) old new status
