-- The files of numbers of a command (docs/COMMANDS.md, "Files of numbers").
use Rattle.std.specs.Prelude.{ℕ, ◌<◌, ◌≤◌, ℤ, pos, negsuc, List, ◌++◌, length, codes, decimal}
use Rattle.lq_tree.specs.declared.limit.Quantity.{Quantity}
use Rattle.lq_tree.specs.declared.limit.Quantity.TheVariants.{InputBytes, InputNumbers, PickBytes, PickNumbers}
use Rattle.lq_tree.specs.Limit.{passed}
use Rattle.lq_text.specs.Numbers.{IsNumbersFile, IsFirstBadLine}
use Rattle.lq_shelf.specs.Shelf.{Holding}
use Rattle.lq_cli.specs.declared.numbers.NumbersFile.{NumbersFile}
use Rattle.lq_cli.specs.declared.numbers.NumbersFile.TheVariants.{Input, Picks}
use Rattle.lq_cli.specs.Lines.{most, line, limit}
use Rattle.lq_cli.specs.Seen.{Seen}
use Rattle.lq_cli.specs.Files.{IsFile, FileAnswers}

-- what one of its numbers is called
abbrev pub word_of : NumbersFile → List ℕ
word_of Input = codes "input"
word_of Picks = codes "pick"

-- the least number that may stand in it: an input may have any word
abbrev pub least_of : NumbersFile → ℤ
least_of Input = negsuc 9223372036854775807
least_of Picks = pos 0

-- its size
abbrev pub size_of : NumbersFile → Quantity
size_of Input = InputBytes
size_of Picks = PickBytes

-- how many numbers stand in it
abbrev pub count_of : NumbersFile → Quantity
count_of Input = InputNumbers
count_of Picks = PickNumbers

-- the first bad line, by its number from 1
abbrev pub bad_line_of : NumbersFile → ℕ → List ℕ
bad_line_of kind number = line (codes "bad " ++ word_of kind ++ codes " line " ++ decimal number)

-- these numbers are the file of this name, which keeps its limits
pub record AreNumbers (held : List ℕ → Holding) (kind : NumbersFile) (name : List ℕ) (numbers : List ℤ) : Type 0 where
  pub text : List ℕ
  pub file : IsFile held (size_of kind) name text
  pub said : IsNumbersFile (least_of kind) text numbers
  pub within : length numbers ≤ most (count_of kind)

-- the answers where there is no such file of numbers
pub data NumbersAnswers (kind : NumbersFile) (name : List ℕ) (s : Seen) : ℕ → List ℕ → Type 0 where
  -- there is no such file
  file : {status : ℕ} {bytes : List ℕ} → FileAnswers (size_of kind) name s status bytes → NumbersAnswers kind name s status bytes
  -- a line is bad
  bad_line : (text : List ℕ) (number : ℕ) → IsFile s.held (size_of kind) name text → IsFirstBadLine (least_of kind) text number →
      NumbersAnswers kind name s 6 (bad_line_of kind number)
  -- there are more numbers
  more : (text : List ℕ) (numbers : List ℤ) → IsFile s.held (size_of kind) name text → IsNumbersFile (least_of kind) text numbers →
      most (count_of kind) < length numbers → NumbersAnswers kind name s 7 (limit (passed (count_of kind) (length numbers)))
