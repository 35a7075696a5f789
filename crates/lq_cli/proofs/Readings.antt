-- Readings of files, one behind the other.
use Rattle.std.proofs.Common.{◌≡◌, ℕ, List, sym, ◌∙◌, subst}
use Rattle.lq_shelf.specs.Shelf.{Holding}
use Rattle.lq_cli.specs.declared.answer.Answer.{Answer}
use Rattle.lq_cli.specs.declared.answer.Answer.TheVariants.{BadWords, ReadFault, Limit, Lexical, Annotation, Syntax, Names, BadLine, Trap, Stray, Race, Fuel}
use Rattle.lq_cli.specs.declared.stop.Stop.{Stop}
use Rattle.lq_cli.specs.declared.stop.Stop.TheVariants.{Told, NoMemory}
use Rattle.lq_cli.specs.Answer.{status_of, line_of}
use Rattle.lq_cli.specs.Seen.{ShelfState, Seen, seen}
use Rattle.lq_cli.specs.Stop.{OnTold, OnOther, IsToldBy, Had, Stopped}

-- tables of answers, and one that has all answers of another
abbrev pub Table : Type 1
Table = Seen → ℕ → List ℕ → Type 0

abbrev pub IsWithin : Table → Table → Type 0
IsWithin A B = (s : Seen) (status : ℕ) (bytes : List ℕ) → A s status bytes → B s status bytes

-- a fact for the answer of a stop
pub on_told : {P Q : Answer → Type 0} (stop : Stop) → ((answer : Answer) → P answer → Q answer) → OnTold stop P → OnTold stop Q
on_told (Told answer) more told = more answer told
on_told NoMemory more told = tt

-- a fact for a stop that is no read fault
pub on_other : {P Q : Type 0} (stop : Stop) → (P → Q) → OnOther stop P → OnOther stop Q
on_other NoMemory more p = more p
on_other (Told (ReadFault name)) more p = tt
on_other (Told BadWords) more p = more p
on_other (Told (Limit l)) more p = more p
on_other (Told (Lexical at)) more p = more p
on_other (Told (Annotation at)) more p = more p
on_other (Told (Syntax at)) more p = more p
on_other (Told (Names rule at)) more p = more p
on_other (Told (BadLine kind number)) more p = more p
on_other (Told (Trap kind at)) more p = more p
on_other (Told (Stray at)) more p = more p
on_other (Told (Race i j first second)) more p = more p
on_other (Told Fuel) more p = more p

pub always_other : {P : Type 0} (stop : Stop) → P → OnOther stop P
always_other NoMemory p = p
always_other (Told (ReadFault name)) p = tt
always_other (Told BadWords) p = p
always_other (Told (Limit l)) p = p
always_other (Told (Lexical at)) p = p
always_other (Told (Annotation at)) p = p
always_other (Told (Syntax at)) p = p
always_other (Told (Names rule at)) p = p
always_other (Told (BadLine kind number)) p = p
always_other (Told (Trap kind at)) p = p
always_other (Told (Stray at)) p = p
always_other (Told (Race i j first second)) p = p
always_other (Told Fuel) p = p

-- of what was seen in a call, the answers of one table are those of another
abbrev pub Leads : Table → Table → Seen → Type 0
Leads A B s = (status : ℕ) (bytes : List ℕ) → A s status bytes → B s status bytes

-- what stops by one table stops by one that has its answers
pub stopped_more : {A B : Table} (shelf left : ShelfState) (stop : Stop) → Leads A B (seen shelf left) → Stopped A shelf left stop → Stopped B shelf left stop
stopped_more {A} {B} shelf left stop more stopped =
    record {
      told = on_told {P = λ answer. A (seen shelf left) (status_of answer) (line_of answer)} {Q = λ answer. B (seen shelf left) (status_of answer) (line_of answer)} stop
          (λ answer. more (status_of answer) (line_of answer)) stopped.told;
      count = stopped.count;
      held = stopped.held;
    }

-- something was had, and the shelf is as it was
module _ {F : Type 0} (shelf middle : ShelfState) (had : Had F shelf middle) where
  same_held : middle.held ≡ shelf.held
  same_held = λ j. λ name. had.held name j

  same_seen : (left : ShelfState) → seen middle left ≡ seen shelf left
  same_seen left = λ j. record { held = same_held j; before = had.count j; behind = left.faults; failed = left.failed }

  -- so what stops behind it stops as from the start
  pub stopped_behind : {A B : Table} (left : ShelfState) (stop : Stop) → Leads A B (seen shelf left) → Stopped A middle left stop → Stopped B shelf left stop
  stopped_behind {A} {B} left stop more stopped =
      stopped_more {A = A} {B = B} shelf left stop more
      (record {
        told = subst (λ (s : Seen). IsToldBy (A s) stop) (same_seen left) stopped.told;
        count = on_other {P = left.faults ≡ middle.faults} {Q = left.faults ≡ shelf.faults} stop (λ e. e ∙ had.count) stopped.count;
        held = λ name. stopped.held name ∙ had.held name;
      })

  -- what is told without reading stops as well
  pub told_behind : {A : Table} (answer : Answer) → A (seen shelf middle) (status_of answer) (line_of answer) → Stopped A shelf middle (Told answer)
  told_behind answer told = record { told = told; count = always_other {P = middle.faults ≡ shelf.faults} (Told answer) had.count; held = had.held }

  pub lost_behind : {A : Table} → Stopped A shelf middle NoMemory
  lost_behind = record { told = tt; count = had.count; held = had.held }

  -- and what is had behind it is had from the start
  pub had_behind : {X : Type 0} (G : (List ℕ → Holding) → Type 0) (left : ShelfState) → Had (G middle.held) middle left → (F → G shelf.held → X) → Had X shelf left
  had_behind G left more both =
      record {
        fact = both had.fact (subst G same_held more.fact);
        count = more.count ∙ had.count;
        held = λ name. more.held name ∙ had.held name;
      }

-- what was had is had by a weaker fact
pub had_more : {F X : Type 0} (shelf left : ShelfState) → (F → X) → Had F shelf left → Had X shelf left
had_more shelf left more had = record { fact = more had.fact; count = had.count; held = had.held }
