-- Where the reading of files stops, and what it leaves of the shelf.
use Rattle.std.specs.Prelude.{◌≡◌, ℕ, List, ⊤, Result, MatchResult}
use Rattle.lq_tree.specs.declared.limit.Limit.{Limit as PassedLimit}
use Rattle.lq_cli.specs.declared.answer.Answer.{Answer}
use Rattle.lq_cli.specs.declared.answer.Answer.TheVariants.{ReadFault, Limit}
use Rattle.lq_cli.specs.declared.stop.Stop.{Stop}
use Rattle.lq_cli.specs.declared.stop.Stop.TheVariants.{Told, NoMemory}
use Rattle.lq_cli.specs.Answer.{status_of, line_of, LineAnswers}
use Rattle.lq_cli.specs.Seen.{ShelfState, Seen, seen}

-- how a limit that is passed stops a command
abbrev pub stop_of_limit : PassedLimit → Stop
stop_of_limit l = Told (Limit l)

-- what a stop tells, where it tells an answer
abbrev pub OnTold : Stop → (Answer → Type 0) → Type 0
OnTold (Told answer) P = P answer
OnTold NoMemory P = ⊤

-- a stop that is no read fault
abbrev pub OnOther : Stop → Type 0 → Type 0
OnOther (Told (ReadFault name)) P = ⊤
OnOther _ P = P

-- a stop tells an answer of this table
abbrev pub IsToldBy : (answers : ℕ → List ℕ → Type 0) → Stop → Type 0
IsToldBy answers stop = OnTold stop (λ answer. answers (status_of answer) (line_of answer))

-- the answers that a stop tells: that of its line, or none
abbrev pub StopAnswers : Stop → ℕ → List ℕ → Type 0
StopAnswers (Told answer) = LineAnswers answer
StopAnswers NoMemory = λ status bytes. ⊥

-- what was read is such, and the shelf is left as it was
pub record Had (Fact : Type 0) (shelf left : ShelfState) : Type 0 where
  pub fact : Fact
  pub count : left.faults ≡ shelf.faults
  pub held : (name : List ℕ) → left.held name ≡ shelf.held name

-- nothing was read, as an answer of this table tells, and the shelf is left as it was but for a fetch that failed
pub record Stopped (answers : Seen → ℕ → List ℕ → Type 0) (shelf left : ShelfState) (stop : Stop) : Type 0 where
  pub told : IsToldBy (answers (seen shelf left)) stop
  pub count : OnOther stop (left.faults ≡ shelf.faults)
  pub held : (name : List ℕ) → left.held name ≡ shelf.held name

-- what a reading of files comes to: something, of which a fact holds, or a stop by a table of answers
abbrev pub Reading : {T : Type 0} → (Fact : T → Type 0) → (answers : Seen → ℕ → List ℕ → Type 0) → (shelf left : ShelfState) → Result T Stop → Type 0
Reading Fact answers shelf left result = MatchResult result (λ value. Had (Fact value) shelf left) (Stopped answers shelf left)
