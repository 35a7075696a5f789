-- What a sink is told, and how a command answers.
use Rattle.std.proofs.Common.{inl, inr, ⊎_elim, ℕ, List, refl, sym, subst}
use Rattle.lq_cli.specs.declared.answer.Answer.{Answer}
use Rattle.lq_cli.specs.Answer.{status_of, line_of, LineAnswers}
use Rattle.lq_cli.specs.Answered.{Told, Answered}
use Rattle.lq_cli.specs.Seen.{ShelfState, SinkState, Seen, seen}
use Rattle.lq_cli.specs.Stop.{Had}
use Rattle.lq_cli.proofs.Readings.{Table, IsWithin}

-- what is told by one table is told by each that has its answers
pub told_more : {A B : ℕ → List ℕ → Type 0} (old new : SinkState) (status : ℕ) → ((s : ℕ) (bytes : List ℕ) → A s bytes → B s bytes) → Told A old new status → Told B old new status
told_more old new status more told =
    record {
      told = ⊎_elim inl (λ t. inr (t.0, t.1, more status t.0 t.2)) told.told;
      prefix = ⊎_elim inl (λ b. inr (b.0, b.1, b.2, more b.0 b.1 b.3)) told.prefix;
      sink_fault = told.sink_fault;
      no_sink_fault = told.no_sink_fault;
    }

-- a command that had its files answers by what it does with them
pub answered_had : {F : Type 0} {A : Table} {E : ℕ → List ℕ → Type 0} (shelf left : ShelfState) (old new : SinkState) (status : ℕ) →
    Had F shelf left → (F → (s : ℕ) (bytes : List ℕ) → E s bytes → A (seen shelf left) s bytes) → Told E old new status → Answered A shelf left old new status
answered_had shelf left old new status had more told =
    record { answer = told_more old new status (more had.fact) told; no_read_fault = λ _ _ _. had.count; held = had.held }

-- a table that has all answers of a command's has those of the command
pub answered_more : {A B : Table} (shelf left : ShelfState) (old new : SinkState) (status : ℕ) → IsWithin A B → Answered A shelf left old new status → Answered B shelf left old new status
answered_more shelf left old new status more answered =
    record { answer = told_more old new status (more (seen shelf left)) answered.answer; no_read_fault = answered.no_read_fault; held = answered.held }

-- an answer of a line is one of each table that tells the line
by_line : (B : ℕ → List ℕ → Type 0) (answer : Answer) → B (status_of answer) (line_of answer) → (s : ℕ) (bytes : List ℕ) → LineAnswers answer s bytes → B s bytes
by_line B answer told s bytes is = subst (λ (n : ℕ). B n bytes) (sym is.0) (subst (λ (b : List ℕ). B (status_of answer) b) (sym is.1) told)

-- one that reads nothing answers by a line
pub answered_line : {A : Table} (shelf : ShelfState) (answer : Answer) (old new : SinkState) (status : ℕ) → A (seen shelf shelf) (status_of answer) (line_of answer) → Told (LineAnswers answer) old new status →
    Answered A shelf shelf old new status
answered_line {A} shelf answer old new status is told =
    record { answer = told_more old new status (by_line (A (seen shelf shelf)) answer is) told; no_read_fault = λ _ _ _. refl; held = λ _. refl }
