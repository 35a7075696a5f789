-- `seq SRC INPUT FUEL WORDS`: the sequential execution of a source (docs/COMMANDS.md, "seq").
use Rattle.std.specs.Prelude.{◌≡◌, ℕ, ◌^◌, ℤ, List, ◌∷◌, codes}
use Rattle.lq_tree.specs.declared.program.Program.{Program}
use Rattle.lq_meaning.specs.Meaning.{sequential}
use Rattle.lq_cli.specs.declared.commands.seq.SeqWords.{SeqWords}
use Rattle.lq_cli.specs.declared.numbers.NumbersFile.TheVariants.{Input}
use Rattle.lq_cli.specs.Words.{AreRoom}
use Rattle.lq_cli.specs.Seen.{Seen}
use Rattle.lq_cli.specs.Text.{IsSource, SourceAnswers}
use Rattle.lq_cli.specs.Numbers.{AreNumbers, NumbersAnswers}
use Rattle.lq_cli.specs.Ends.{Ends}

-- the names of a source and of its input, the fuel and the words of the run
pub record Seq : Type 0 where
  pub source : List ℕ
  pub input : List ℕ
  pub fuel : ℕ
  pub words : ℕ

-- the words ask for it
pub record Spells (asked : List (List ℕ)) (c : Seq) : Type 0 where
  pub last : List (List ℕ)
  pub form : asked ≡ codes "seq" ∷ c.source ∷ c.input ∷ last
  pub room : AreRoom (2 ^ 40) last c.fuel c.words

-- its answers
pub data SeqAnswers (c : Seq) (s : Seen) : ℕ → List ℕ → Type 0 where
  -- the source is refused
  source : {status : ℕ} {bytes : List ℕ} → SourceAnswers c.source s status bytes → SeqAnswers c s status bytes
  -- the input is refused, whether `main` takes it or not
  input : (tree : Program) {status : ℕ} {bytes : List ℕ} → IsSource s.held c.source tree → NumbersAnswers Input c.input s status bytes →
      SeqAnswers c s status bytes
  -- the sequential execution of the source on the input has this end
  ran : (tree : Program) (numbers : List ℤ) {status : ℕ} {bytes : List ℕ} → IsSource s.held c.source tree → AreNumbers s.held Input c.input numbers →
      Ends (sequential c.fuel c.words tree numbers) status bytes → SeqAnswers c s status bytes

-- what words that were read ask for
abbrev pub command_of : SeqWords → Seq
command_of w = record { source = w.source.now; input = w.input.now; fuel = w.fuel; words = w.words }
