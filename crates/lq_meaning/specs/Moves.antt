-- What the free moves of a line keep: its task, how many turns it has made, and that there are ever fewer of them.
use Rattle.std.specs.Prelude.{◌≡◌, ℕ, suc, ◌<◌, ◌≤◌, ℤ, Bool, true, false, List, [], ◌∷◌, ◌++◌, Option, None, Some, All, sum_by}
use Rattle.lq_tree.specs.declared.place.Place.{Place}
use Rattle.lq_tree.specs.declared.plain.PKind.{PKind}
use Rattle.lq_tree.specs.declared.plain.PProgram.{PProgram}
use Rattle.lq_meaning.specs.declared.line.Line.{Line}
use Rattle.lq_meaning.specs.declared.line.Frame.{Frame}
use Rattle.lq_meaning.specs.declared.line.Repeat.{Repeat}
use Rattle.lq_meaning.specs.declared.line.Part.TheVariants.{Test, Again}
use Rattle.lq_meaning.specs.declared.line.Stop.{Stop}
use Rattle.lq_meaning.specs.Control.{Flow, GoesOn, Returns}
use Rattle.lq_meaning.specs.PlainMeaning.{Slots}
use Rattle.lq_meaning.specs.Task.{Task}
use Rattle.lq_meaning.specs.TaskControl.{Next}
use Rattle.lq_meaning.specs.Behaviour.{Context, exec}
use Rattle.lq_meaning.specs.Line.{context_from, context_of, onward, beneath, last_end, part, then_next, through, rest_of, stopped, task_of, IsBelow, FewTurns, FewAtStop}
use Rattle.lq_meaning.specs.Weight.{weight_part, weight_frame, weight_of}

-- a task for each bound on turns, branch and number of forks that were passed
abbrev pub Tasked : Type 0
Tasked = (turns : ℕ) → (branch : List ℕ) → (passed : ℕ) → Task

-- the task of a line that goes on with the statements in hand
abbrev pub moving : PProgram → Line → Tasked
moving p line turns branch passed = onward p turns branch line (GoesOn line.frame.slots) passed

-- the task of a line that goes on with a statement in front of those in hand
abbrev pub doing : PProgram → Line → Place → PKind → Tasked
doing p line at kind turns branch passed = exec (context_of p turns branch line) at kind line.frame.slots (onward p turns branch line) passed

-- the task of a line that stands, or that goes on
abbrev pub came_to : (stands : Bool) → PProgram → Line → Tasked
came_to true p line turns branch passed = task_of p turns branch passed line
came_to false p line turns branch passed = moving p line turns branch passed

-- a line has moved on from this task, to one with fewer moves than this where it doesn't stand
pub record Moved (p : PProgram) (before : Line) (task : Tasked) (moves : ℕ) (stands : Bool) (after : Line) : Type 0 where
  pub same : (turns : ℕ) (branch : List ℕ) (passed : ℕ) → IsBelow turns before → came_to stands p after turns branch passed ≡ task turns branch passed
  pub below : (turns : ℕ) → IsBelow turns before → IsBelow turns after
  pub lighter : stands ≡ false → weight_of after < moves

-- a line in front of a statement stands for this reason
pub record StandsFor (p : PProgram) (at : Place) (kind : PKind) (slots : Slots) (stop : Stop) : Type 0 where
  pub same : (turns : ℕ) (branch : List ℕ) (left : ℕ) (next : Next (Flow Slots)) (passed : ℕ)
      → stopped p turns branch left slots next passed stop ≡ exec (context_from p turns branch left) at kind slots next passed
  pub few : (turns : ℕ) → FewAtStop turns stop

-- a line in front of the test of a loop, of which so many turns were made, stands for this reason
pub record TestsFor (p : PProgram) (repeat : Repeat) (made : ℕ) (slots : Slots) (stop : Stop) : Type 0 where
  pub same : (turns : ℕ) (branch : List ℕ) (left : ℕ) (next : Next (Flow Slots)) (passed : ℕ)
      → stopped p turns branch left slots next passed stop ≡ part (context_from p turns branch left) (Test repeat made) slots next passed
  pub few : (turns : ℕ) → made < turns → FewAtStop turns stop

-- a line in front of a statement goes on behind it, with nothing done
abbrev pub Passes : PProgram → Place → PKind → Slots → Type 0
Passes p at kind slots = (turns : ℕ) (branch : List ℕ) (left : ℕ) (next : Next (Flow Slots)) (passed : ℕ)
    → next (GoesOn slots) passed ≡ exec (context_from p turns branch left) at kind slots next passed

-- how the body of a function ends: it returns a word, or reaches its end
abbrev pub flow_of : Option ℤ → Slots → Flow Slots
flow_of None slots = GoesOn slots
flow_of (Some word) slots = Returns word

-- the task of a line whose active function ends
abbrev pub ending : PProgram → Line → Option ℤ → Tasked
ending p line word turns branch passed = beneath p turns branch line (flow_of word line.frame.slots) passed

-- a line whose lowest function ends so stands for this reason
pub record EndsFor (p : PProgram) (in_branch : Bool) (word : Option ℤ) (stop : Stop) : Type 0 where
  pub same : (turns : ℕ) (branch : List ℕ) (left : ℕ) (slots : Slots) (next : Next (Flow Slots)) (passed : ℕ)
      → stopped p turns branch left slots next passed stop ≡ last_end in_branch (flow_of word slots) passed
  pub few : (turns : ℕ) → FewAtStop turns stop

-- the statements in hand of a function have become a part of it
pub record SetsAside (before after : Frame) : Type 0 where
  pub slots : after.slots ≡ before.slots
  pub parts : (c : Context) (next : Next (Flow Slots)) → through c after.parts next ≡ rest_of c before next
  pub few : (turns : ℕ) → All (FewTurns turns) before.parts → All (FewTurns turns) after.parts
  pub lighter : sum_by weight_part after.parts ≤ suc (weight_frame before)

-- a function is in front of a turn of a loop, of which so many were made
pub record Turns (repeat : Repeat) (made : ℕ) (before after : Frame) : Type 0 where
  pub slots : after.slots ≡ before.slots
  pub row : after.row ≡ repeat.head
  pub parts : after.parts ≡ before.parts ++ Test repeat made ∷ []

-- a function goes on with the body of a loop, of which so many turns were made before
pub record Repeats (repeat : Repeat) (made : ℕ) (before after : Frame) : Type 0 where
  pub slots : after.slots ≡ before.slots
  pub row : after.row ≡ repeat.body
  pub parts : (c : Context) (next : Next (Flow Slots)) → through c after.parts next ≡ then_next (part c (Again repeat (suc made))) (rest_of c before next)
  pub few : (turns : ℕ) → All (FewTurns turns) before.parts → made < turns → All (FewTurns (suc turns)) after.parts

-- a line is this branch of the fork behind so many
abbrev pub Branching : PProgram → (turns : ℕ) → (branch : List ℕ) → (passed number : ℕ) → Line → Task → Type 0
Branching p turns branch passed number line task = task_of p turns (branch ++ passed ∷ number ∷ []) 0 line ≡ task
