-- Right proofs of the conditions of a program, and the first bad entry of a file that is none (docs/PROOF-FILE.md, "What makes an entry
-- bad"). What stands before a line is a list of lines, the last one first.
use Rattle.std.specs.Prelude.{◌≡◌, ℕ, zero, suc, ◌+◌, ◌<◌, ◌≤◌, Bool, true, false, nat_lt, if◌then◌else◌, Option, None, Some, List, [], ◌∷◌, ◌++◌, map, length, reverse, drop, slice_get}
use Rattle.std.specs.List.{AllByRecursion}
use Rattle.lq_tree.specs.declared.plain.PProgram.{PProgram}
use Rattle.lq_text.specs.Numbers.{lines_of}
use Rattle.lq_linear.specs.Row.{Inequality, IsBounded}
use Rattle.lq_linear.specs.Item.{rows, row_numbered}
use Rattle.lq_linear.specs.Derivation.{Combination}
use Rattle.lq_linear.specs.Certificate.{Exactness}
use Rattle.lq_linear.specs.declared.item.Item.{Item}
use Rattle.lq_cert.specs.Right.{IsRight, IsRightEntry}
use Rattle.lq_cert.specs.Line.{line_text}
use Rattle.lq_cert.specs.ProofFile.{IsLineOf, AreLines, IsProofText}
use Rattle.lq_cert.specs.declared.line.Part.{Part}
use Rattle.lq_cert.specs.declared.line.FileVersion.{FileVersion}
use Rattle.lq_cert.specs.declared.line.FileVersion.TheVariants.{One, Two}
use Rattle.lq_cert.specs.declared.line.Line.{Line}
use Rattle.lq_cert.specs.declared.line.Line.TheVariants.{Version, Row, Condition as Begins, Exact, Goal, Void, End}
use Rattle.lq_templates.specs.declared.condition.Condition.{Condition}
use Rattle.lq_templates.specs.declared.condition.Conditions.{Conditions}
use Rattle.lq_templates.specs.declared.condition.Assign.{Assign}
use Rattle.lq_templates.specs.Conditions.{facts_of, goals_of}
use Rattle.lq_verdict.specs.Verdict.{AreConditions}
use Rattle.lq_verdict.specs.Claims.{assign_of, MayHaveRow, IsClaim}

-- ---- combinations of lines

-- the multiples of facts, as a combination takes them
abbrev pub pairs : List Part → List (ℕ × ℕ)
pairs parts = map (λ (part : Part). (part.multiplier, part.fact)) parts

-- a goal as a consequence
abbrev pub consequence : (divisor : ℕ) → List Part → Combination
consequence divisor parts = record { void = false; divisor = divisor; parts = pairs parts }

-- a goal by a contradiction, which has the divisor 1
abbrev pub contradiction : List Part → Combination
contradiction parts = record { void = true; divisor = 1; parts = pairs parts }

-- the entry for a division or remainder
abbrev pub exactness : (item divisor : ℕ) → List Part → Exactness
exactness item divisor parts = record { item = item; combination = consequence divisor parts }

-- ---- what the lines before say

-- the version of the file
abbrev pub version_of : List Line → FileVersion
version_of [] = Two
version_of (Version version ∷ before) = version
version_of (line ∷ before) = version_of before

-- the number of the condition that is at work, which is the last that began; 0 where none has
abbrev pub begun : List Line → ℕ
begun [] = 0
begun (Begins number ∷ before) = number
begun (line ∷ before) = begun before

-- the entries of its `exact` lines
abbrev pub entries : List Line → List Exactness
entries [] = []
entries (Begins number ∷ before) = []
entries (Exact item divisor parts ∷ before) = entries before ++ exactness item divisor parts ∷ []
entries (line ∷ before) = entries before

-- how many of its goals have their line
abbrev pub goals_told : List Line → ℕ
goals_told [] = 0
goals_told (Begins number ∷ before) = 0
goals_told (Goal goal divisor parts ∷ before) = suc (goals_told before)
goals_told (Void goal parts ∷ before) = suc (goals_told before)
goals_told (line ∷ before) = goals_told before

-- ---- conditions of a file

-- the condition with this number, from 1
abbrev pub condition_at : List Condition → (number : ℕ) → Option Condition
condition_at list zero = None
condition_at list (suc number) = slice_get list number

-- the facts of a condition, in their order; none where there is no condition
abbrev pub facts_at : Assign → Option Condition → List Item
facts_at assign None = []
facts_at assign (Some c) = reverse (facts_of assign c)

-- its goals
abbrev pub goals_at : Assign → Option Condition → List Inequality
goals_at assign None = []
goals_at assign (Some c) = goals_of assign c

-- a file of this version has lines for a condition: in version 2 only where it has a goal
abbrev pub has_lines : FileVersion → Assign → Condition → Bool
has_lines One assign c = true
has_lines Two assign c = nat_lt 0 (length (goals_of assign c))

-- the first of the conditions from this number on that has lines, and its number
abbrev pub first_with_lines : FileVersion → Assign → (number : ℕ) → List Condition → Option (ℕ × Condition)
first_with_lines version assign number [] = None
first_with_lines version assign number (c ∷ list) = if has_lines version assign c then Some (number, c) else first_with_lines version assign (suc number) list

-- ---- which lines are right behind others

-- the line says the version
abbrev pub IsVersion : Line → Type 0
IsVersion (Version version) = Unit {0}
IsVersion line = ⊥

module _ (asked : Conditions) where
  -- the rows that were claimed
  abbrev pub assign : List Line → Assign
  assign before = assign_of asked.templates (reverse before)

  -- the facts of the condition at work
  abbrev pub facts : List Line → List Item
  facts before = facts_at (assign before) (condition_at asked.list (begun before))

  -- its goals
  abbrev pub goals : List Line → List Inequality
  goals before = goals_at (assign before) (condition_at asked.list (begun before))

  -- the next condition that has lines, and its number
  abbrev pub next : List Line → Option (ℕ × Condition)
  next before = first_with_lines (version_of before) (assign before) (suc (begun before)) (drop (begun before) asked.list)

  -- each goal of the condition at work has its line
  abbrev pub IsComplete : List Line → Type 0
  IsComplete before = goals_told before ≡ length (goals before)

  -- the next condition begins here; it has at most 512 facts
  pub record IsNext (before : List Line) (number : ℕ) : Type 0 where
    pub complete : IsComplete before
    pub condition : Condition
    pub is_next : next before ≡ Some (number, condition)
    pub few : length (rows (facts_of (assign before) condition)) ≤ 512

  -- an `exact` line is right: it comes before the goals, the entries ascend, and it is shown that the dividend isn't negative
  pub record IsRightExact (before : List Line) (entry : Exactness) : Type 0 where
    pub no_goals : goals_told before ≡ 0
    pub ascending : AllByRecursion (λ earlier. earlier.item < entry.item) (entries before)
    pub right : IsRightEntry (entries before) (facts before) entry

  -- the line of a goal is right: the goal is the next one, is within the bounds of a row, and is shown
  pub record IsRightGoal (before : List Line) (goal : ℕ) (combination : Combination) : Type 0 where
    pub is_next : goal ≡ suc (goals_told before)
    pub there : goal ≤ length (goals before)
    pub bounded : IsBounded (row_numbered (goals before) goal)
    pub right : IsRight (entries before) (facts before) (row_numbered (goals before) goal) combination

  -- `end` is right: no condition is left that has lines
  pub record IsRightEnd (before : List Line) : Type 0 where
    pub complete : IsComplete before
    pub none_left : next before ≡ None

  -- a line may stand behind others, of which this is the last
  abbrev pub IsDue : (last : Line) → (before : List Line) → Line → Type 0
  IsDue last before (Version version) = ⊥
  IsDue last before (Row template terms most) = MayHaveRow last template × IsClaim asked.templates (assign before) template terms most
  IsDue last before (Begins number) = IsNext before number
  IsDue last before (Exact item divisor parts) = IsRightExact before (exactness item divisor parts)
  IsDue last before (Goal goal divisor parts) = IsRightGoal before goal (consequence divisor parts)
  IsDue last before (Void goal parts) = IsRightGoal before goal (contradiction parts)
  IsDue last before End = IsRightEnd before

  -- a line is right behind others: first stands the version, and nothing behind `end`
  abbrev pub IsRightBehind : (before : List Line) → Line → Type 0
  IsRightBehind [] line = IsVersion line
  IsRightBehind (End ∷ before) line = ⊥
  IsRightBehind (last ∷ before) line = IsDue last (last ∷ before) line

  -- each of the lines, the last one first, is right behind those before it
  abbrev pub AreRight : List Line → Type 0
  AreRight [] = Unit {0}
  AreRight (line ∷ before) = IsRightBehind before line × AreRight before

-- `end` is the last line
abbrev pub HasEnded : (before : List Line) → Type 0
HasEnded (End ∷ before) = Unit {0}
HasEnded before = ⊥

-- ---- right proofs, and where a file goes wrong

-- the text is a right proof: its lines are right, and `end` is the last
pub record IsRightFor (asked : Conditions) (text : List ℕ) : Type 0 where
  pub lines : List Line
  pub is_text : IsProofText text lines
  pub right : AreRight asked (reverse lines)
  pub ended : HasEnded (reverse lines)

-- what stands between line feeds, behind right lines and with this behind it, is bad: no right line is spelled so, or no line feed ends it. Where
-- nothing is left, that is bad unless `end` was the last line
abbrev pub IsBad : Conditions → (lines : List Line) → (bytes : List ℕ) → (after : List (List ℕ)) → Type 0
IsBad asked lines bytes [] = bytes ≡ [] → ¬ HasEnded (reverse lines)
IsBad asked lines bytes (next ∷ later) = (line : Line) → IsLineOf lines line → bytes ≡ line_text line → ¬ IsRightBehind asked (reverse lines) line

-- `entry` is the number, from 1, of the first bad line: those before it are right
pub record IsFirstBadFor (asked : Conditions) (text : List ℕ) (entry : ℕ) : Type 0 where
  pub lines : List Line
  pub bad : List ℕ
  pub after : List (List ℕ)
  pub split : lines_of text ≡ map line_text lines ++ bad ∷ after
  pub counted : entry ≡ length lines + 1
  pub formed : AreLines lines
  pub right : AreRight asked (reverse lines)
  pub is_bad : IsBad asked lines bad after

-- ---- of a program

-- the text is a right proof of a program: it is right for the conditions of the program
pub record IsRightProof (p : PProgram) (text : List ℕ) : Type 0 where
  pub asked : Conditions
  pub are_conditions : AreConditions p asked
  pub right : IsRightFor asked text

-- `entry` is the number of the first bad line of a text as a proof of a program
pub record IsFirstBadEntry (p : PProgram) (text : List ℕ) (entry : ℕ) : Type 0 where
  pub asked : Conditions
  pub are_conditions : AreConditions p asked
  pub first_bad : IsFirstBadFor asked text entry
