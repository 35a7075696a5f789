-- What the readers of files give, and what their stops tell.
use Rattle.std.specs.Prelude.{ℕ, ◌≤◌, pos, List, length, map}
use Rattle.lq_tree.specs.declared.limit.Quantity.TheVariants.{SourceBytes}
use Rattle.lq_tree.specs.declared.program.Program.{Program}
use Rattle.lq_shelf.specs.Shelf.{Holding}
use Rattle.lq_lexer.specs.Tokens.{Tokens}
use Rattle.lq_cli.specs.declared.answer.Answer.{Answer}
use Rattle.lq_cli.specs.declared.numbers.NumbersFile.{NumbersFile}
use Rattle.lq_cli.specs.declared.numbers.NumbersFile.TheVariants.{Input, Picks}
use Rattle.lq_cli.specs.declared.text.Source.{Source}
use Rattle.lq_cli.specs.declared.commands.seq.Files.{Files}
use Rattle.lq_cli.specs.declared.commands.replay.Ready.{Ready}
use Rattle.lq_cli.specs.Answer.{status_of, line_of}
use Rattle.lq_cli.specs.Lines.{most}
use Rattle.lq_cli.specs.Seen.{Seen}
use Rattle.lq_cli.specs.Files.{IsFile}
use Rattle.lq_cli.specs.Numbers.{size_of, AreNumbers, NumbersAnswers}
use Rattle.lq_cli.specs.Text.{Reads, SourceAnswers}
use Rattle.lq_cli.specs.commands.Seq.{Seq}
use Rattle.lq_cli.specs.commands.Replay.{Replay}

-- an answer to a text that is no file of numbers, by whatever name it was fetched
abbrev pub TellsNumbers : NumbersFile → (text : List ℕ) → Answer → Type 0
TellsNumbers kind text answer = (name : List ℕ) (s : Seen) → IsFile s.held (size_of kind) name text → NumbersAnswers kind name s (status_of answer) (line_of answer)

-- an answer to a text that is no source
abbrev pub TellsText : (text : List ℕ) → Answer → Type 0
TellsText text answer = (name : List ℕ) (s : Seen) → IsFile s.held SourceBytes name text → SourceAnswers name s (status_of answer) (line_of answer)

-- a source that was read by this name: its text, the tokens of this, and its tree
pub record IsRead (held : List ℕ → Holding) (name : List ℕ) (source : Source) : Type 0 where
  pub file : IsFile held SourceBytes name source.text.items
  pub tokens : Tokens source.text.items source.tokens.items
  pub reads : Reads source.text.items source.tree

-- the tree of some source
pub record IsTree (tree : Program) : Type 0 where
  pub text : List ℕ
  pub within : length text ≤ most SourceBytes
  pub reads : Reads text tree

-- the files that `seq` runs
pub record AreFiles (held : List ℕ → Holding) (c : Seq) (files : Files) : Type 0 where
  pub source : IsRead held c.source files.source
  pub input : AreNumbers held Input c.input files.input.items

-- what `replay` runs
pub record IsReady (held : List ℕ → Holding) (c : Replay) (ready : Ready) : Type 0 where
  pub source : IsRead held c.source ready.source
  pub input : AreNumbers held Input c.input ready.input.items
  pub picks : AreNumbers held Picks c.picks (map pos ready.picks.items)
