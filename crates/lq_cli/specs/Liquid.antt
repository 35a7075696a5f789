-- The answers of the program: the status and the bytes that are written, with the cause of each
-- (docs/COMMANDS.md, "The commands" and "Statuses").
use Rattle.std.specs.Prelude.{ℕ, List, codes}
use Rattle.lq_cli.specs.Lines.{line}
use Rattle.lq_cli.specs.Seen.{Seen}
use Rattle.lq_cli.specs.commands.Seq.{Seq, SeqAnswers, Spells as SpellsSeq}
use Rattle.lq_cli.specs.commands.Replay.{Replay, ReplayAnswers, Spells as SpellsReplay}

-- no command is asked for
pub record AreBadWords (words : List (List ℕ)) : Type 0 where
  pub no_seq : (c : Seq) → ¬ SpellsSeq words c
  pub no_replay : (c : Replay) → ¬ SpellsReplay words c

-- the answers to the words of a command line: those of the command that they ask for
pub data Answers (words : List (List ℕ)) (s : Seen) : ℕ → List ℕ → Type 0 where
  bad_words : AreBadWords words → Answers words s 12 (line (codes "bad words"))
  seq : (c : Seq) {status : ℕ} {bytes : List ℕ} → SpellsSeq words c → SeqAnswers c s status bytes → Answers words s status bytes
  replay : (c : Replay) {status : ℕ} {bytes : List ℕ} → SpellsReplay words c → ReplayAnswers c s status bytes → Answers words s status bytes
