-- Proof files, and where a text is none.
use Rattle.std.specs.Prelude.{◌≡◌, ◌≢◌, ℕ, ◌+◌, ◌≤◌, List, [], ◌∷◌, ◌++◌, length, map}
use Rattle.std.specs.List.{AllByRecursion, flat_map}
use Rattle.lq_text.specs.Numbers.{lines_of}
use Rattle.lq_cert.specs.Line.{IsLine, fact_count, line_text}
use Rattle.lq_cert.specs.declared.line.FileVersion.TheVariants.{One}
use Rattle.lq_cert.specs.declared.line.Line.{Line}
use Rattle.lq_cert.specs.declared.line.Line.TheVariants.{Version}

-- how many facts a line may combine, where this line begins the file: `proof 1` makes it one of version 1 (docs/PROOF-FILE.md, "Versions")
abbrev pub most_facts_by : Line → ℕ
most_facts_by (Version One) = 64
most_facts_by _ = 256

-- the same, where these lines begin the file
abbrev pub most_facts : List Line → ℕ
most_facts [] = 256
most_facts (first ∷ later) = most_facts_by first

-- a line that may stand in a file that these lines begin
abbrev pub IsLineOf : List Line → Line → Type 0
IsLineOf lines line = IsLine line × (fact_count line ≤ most_facts lines)

-- the lines of a proof file, in whatever order they stand (docs/PROOF-FILE.md, "Lines")
abbrev pub AreLines : List Line → Type 0
AreLines lines = AllByRecursion (IsLineOf lines) lines

-- the text of lines, each ended by a line feed
abbrev pub lines_text : List Line → List ℕ
lines_text lines = flat_map (λ line. line_text line ++ 10 ∷ []) lines

-- the text is that of these lines, and they are those of a proof file
pub record IsProofText (text : List ℕ) (lines : List Line) : Type 0 where
  pub formed : AreLines lines
  pub spelled : text ≡ lines_text lines

-- the bytes between line feeds spell a line that may stand behind these
abbrev pub IsLineText : List Line → List ℕ → Type 0
IsLineText before bytes = (line : Line) × IsLineOf before line × (bytes ≡ line_text line)

-- what stands between line feeds, behind these lines and with this behind it, is a bad line: it spells none, or no line feed ends it
abbrev pub IsBadLine : List Line → List ℕ → List (List ℕ) → Type 0
IsBadLine before bytes [] = bytes ≢ []
IsBadLine before bytes (next ∷ later) = ¬ IsLineText before bytes

-- `entry` is the number, from 1, of the first bad line: those before it are lines of a proof file (docs/PROOF-FILE.md, "What makes an entry bad")
pub record IsFirstBadLine (text : List ℕ) (entry : ℕ) : Type 0 where
  pub before : List Line
  pub bad : List ℕ
  pub after : List (List ℕ)
  pub split : lines_of text ≡ map line_text before ++ bad ∷ after
  pub counted : entry ≡ length before + 1
  pub good_before : AreLines before
  pub is_bad : IsBadLine before bad after
