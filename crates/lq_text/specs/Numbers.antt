-- Files of numbers, and where one is faulty.
use Rattle.std.specs.Prelude.{◌≡◌, ℕ, ◌+◌, ◌==◌, List, [], ◌∷◌, ◌++◌, length, ℤ, ◌≤ℤ◌, Some, None}
use Rattle.std.specs.List.{AllByRecursion, slice_split}
use Rattle.lq_text.specs.Line.{Says, IsGoodLine}

-- what stands between line feeds; behind a last one this is one more line, which is empty (docs/COMMANDS.md, "Files of numbers")
abbrev pub lines_of : List ℕ → List (List ℕ)
lines_of text = slice_split (λ byte. byte == 10) text

-- the lines say these numbers, in their order, and none is below `least`
pub data SayAll (least : ℤ) : List (List ℕ) → List ℤ → Type 0 where
  done : SayAll least [] []
  blank : {line : List ℕ} {lines : List (List ℕ)} {numbers : List ℤ} → Says line None → SayAll least lines numbers → SayAll least (line ∷ lines) numbers
  number : {line : List ℕ} {z : ℤ} {lines : List (List ℕ)} {numbers : List ℤ} → Says line (Some z) → least ≤ℤ z → SayAll least lines numbers → SayAll least (line ∷ lines) (z ∷ numbers)

-- the text is a file of exactly these numbers (docs/COMMANDS.md, "Files of numbers")
abbrev pub IsNumbersFile : ℤ → List ℕ → List ℤ → Type 0
IsNumbersFile least text numbers = SayAll least (lines_of text) numbers

-- `line` is the number, from 1, of the first line that is not good
pub record IsFirstBadLine (least : ℤ) (text : List ℕ) (line : ℕ) : Type 0 where
  pub before : List (List ℕ)
  pub bad : List ℕ
  pub after : List (List ℕ)
  pub lines : lines_of text ≡ before ++ bad ∷ after
  pub counted : line ≡ length before + 1
  pub good_before : AllByRecursion (IsGoodLine least) before
  pub not_good : ¬ IsGoodLine least bad
