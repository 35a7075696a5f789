-- `replay SRC INPUT PICKS FUEL WORDS`: the run of a source under picks (docs/COMMANDS.md, "replay").
use Rattle.std.specs.Prelude.{◌≡◌, ◌≢◌, ℕ, ◌+◌, ℤ, pos, List, ◌∷◌, ◌++◌, map, codes}
use Rattle.lq_tree.specs.declared.place.Place.{Place}
use Rattle.lq_tree.specs.declared.program.Program.{Program}
use Rattle.lq_shelf.specs.Shelf.{Holding}
use Rattle.lq_plain.specs.Plain.{plain_program}
use Rattle.lq_meaning.specs.Ending.{Strayed, Outcome}
use Rattle.lq_meaning.specs.Printed.{number_lines}
use Rattle.lq_log.specs.declared.entry.Entry.{Entry}
use Rattle.lq_log.specs.Race.{IsRace, IsLeastRace, IsRaceFree}
use Rattle.lq_machine.specs.Replay.{replay, replay_log}
use Rattle.lq_cli.specs.declared.commands.replay.ReplayWords.{ReplayWords}
use Rattle.lq_cli.specs.declared.numbers.NumbersFile.TheVariants.{Input, Picks}
use Rattle.lq_cli.specs.Lines.{stray, race}
use Rattle.lq_cli.specs.Words.{AreRoom}
use Rattle.lq_cli.specs.Seen.{Seen}
use Rattle.lq_cli.specs.Text.{IsSource, SourceAnswers}
use Rattle.lq_cli.specs.Numbers.{AreNumbers, NumbersAnswers}
use Rattle.lq_cli.specs.Ends.{Ends}

-- the names of a source, of its input and of the picks, the fuel and the words of the run
pub record Replay : Type 0 where
  pub source : List ℕ
  pub input : List ℕ
  pub picks : List ℕ
  pub fuel : ℕ
  pub words : ℕ

-- the words ask for it
pub record Spells (asked : List (List ℕ)) (c : Replay) : Type 0 where
  pub last : List (List ℕ)
  pub form : asked ≡ codes "replay" ∷ c.source ∷ c.input ∷ c.picks ∷ last
  pub room : AreRoom 4194304 last c.fuel c.words

-- the source, the input and the picks that are read
pub record AreReplayed (held : List ℕ → Holding) (c : Replay) (tree : Program) (given : List ℤ) (picked : List ℕ) : Type 0 where
  pub source : IsSource held c.source tree
  pub input : AreNumbers held Input c.input given
  pub picks : AreNumbers held Picks c.picks (map pos picked)

-- the run of the plain form of a source under the picks, and its log
abbrev pub outcome_of : Replay → Program → (given : List ℤ) → (picked : List ℕ) → Outcome
outcome_of c tree given picked = replay c.fuel c.words (plain_program tree) given picked

abbrev pub log_of : Replay → Program → (given : List ℤ) → (picked : List ℕ) → List Entry
log_of c tree given picked = replay_log c.fuel c.words (plain_program tree) given picked

-- no stray is met
abbrev pub MeetsNoStray : Outcome → Type 0
MeetsNoStray o = (at : Place) → o.ending ≢ Strayed at

-- the line of a race: its entries by their numbers, from 1, and their places
abbrev pub race_line : {log : List Entry} → (i j : ℕ) → IsRace log i j → List ℕ
race_line i j r = race (i + 1) (j + 1) r.first.at r.second.at

-- the answers to a run with this outcome and this log
pub data ReplayEnds (o : Outcome) (log : List Entry) : ℕ → List ℕ → Type 0 where
  -- it met a stray
  met_stray : {at : Place} → o.ending ≡ Strayed at → ReplayEnds o log 13 (number_lines o.world.printed ++ stray at)
  -- it met none, and its log has a race, whatever its end was
  raced : (i j : ℕ) (least : IsLeastRace log i j) → MeetsNoStray o → ReplayEnds o log 14 (number_lines o.world.printed ++ race_line i j least.race)
  -- neither, and this is its end
  ended : {status : ℕ} {bytes : List ℕ} → MeetsNoStray o → IsRaceFree log → Ends o status bytes → ReplayEnds o log status bytes

-- its answers
pub data ReplayAnswers (c : Replay) (s : Seen) : ℕ → List ℕ → Type 0 where
  -- the source is refused
  source : {status : ℕ} {bytes : List ℕ} → SourceAnswers c.source s status bytes → ReplayAnswers c s status bytes
  -- the input is refused, whether `main` takes it or not
  input : (tree : Program) {status : ℕ} {bytes : List ℕ} → IsSource s.held c.source tree → NumbersAnswers Input c.input s status bytes →
      ReplayAnswers c s status bytes
  -- the picks are refused
  picks : (tree : Program) (given : List ℤ) {status : ℕ} {bytes : List ℕ} → IsSource s.held c.source tree → AreNumbers s.held Input c.input given →
      NumbersAnswers Picks c.picks s status bytes → ReplayAnswers c s status bytes
  -- the run under the picks meets a stray, has a race or comes to its end
  ran : (tree : Program) (given : List ℤ) (picked : List ℕ) {status : ℕ} {bytes : List ℕ} → AreReplayed s.held c tree given picked →
      ReplayEnds (outcome_of c tree given picked) (log_of c tree given picked) status bytes → ReplayAnswers c s status bytes

-- what words that were read ask for
abbrev pub command_of : ReplayWords → Replay
command_of w = record { source = w.source.now; input = w.input.now; picks = w.picks.now; fuel = w.fuel; words = w.words }
