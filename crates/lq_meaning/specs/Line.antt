-- A line of execution on a stack, as the task that it is (docs/LANGUAGE.md, "Task tree").
use Rattle.std.specs.Prelude.{◌≡◌, ℕ, zero, suc, ◌-◌, ◌<◌, ℤ, Bool, true, false, List, [], ◌∷◌, ◌++◌, length, slice_get, slice_set, All}
use Rattle.lq_tree.specs.declared.place.Place.{Place}
use Rattle.lq_tree.specs.declared.plain.Branch.{Branch}
use Rattle.lq_tree.specs.declared.plain.PProgram.{PProgram}
use Rattle.lq_meaning.specs.declared.action.Action.TheVariants.{Enter, Test as TestAction, Start}
use Rattle.lq_meaning.specs.declared.line.Line.{Line}
use Rattle.lq_meaning.specs.declared.line.Frame.{Frame}
use Rattle.lq_meaning.specs.declared.line.Caller.{Caller}
use Rattle.lq_meaning.specs.declared.line.Repeat.{Repeat}
use Rattle.lq_meaning.specs.declared.line.Part.{Part}
use Rattle.lq_meaning.specs.declared.line.Part.TheVariants.{Row, Test, Again}
use Rattle.lq_meaning.specs.declared.line.Stop.{Stop}
use Rattle.lq_meaning.specs.declared.line.Stop.TheVariants.{Done as DoneStop, Trapped as TrappedStop, Unruled as UnruledStop, Word, Call, Test as TestStop, Branches, Iterations}
use Rattle.lq_meaning.specs.declared.line.Standing.{Standing}
use Rattle.lq_meaning.specs.declared.line.Standing.TheVariants.{Done as IsDone, Trapped as IsTrapped, Unruled as IsUnruled, Due as IsDue, Fork as IsFork}
use Rattle.lq_meaning.specs.Ending.{Done, Unruled}
use Rattle.lq_meaning.specs.Control.{trapped, by_truth, Flow, GoesOn}
use Rattle.lq_meaning.specs.PlainMeaning.{Slots, into}
use Rattle.lq_meaning.specs.Task.{Task, Ended, Due, Tasks, none, more, forked}
use Rattle.lq_meaning.specs.TaskControl.{Next, Line as LineOf, give, ◌⨾◌, due, Statement, done_with, unless_returned, ◌then_do◌, tested, loop, returned, ends, leaf}
use Rattle.lq_meaning.specs.Behaviour.{Context, child, eval, iterations, exec_all, exec_branch, in_function, called}

-- the context of a function in this branch, above which so many more may become active
abbrev pub context_from : PProgram → (turns : ℕ) → (branch : List ℕ) → (left : ℕ) → Context
context_from p turns branch left = record { program = p; turns = turns; branch = branch; call = called p turns left }

-- a loop with so many turns left
abbrev pub repeated : Context → Repeat → (left : ℕ) → Statement Slots
repeated c loop' left = loop left (exec_all c loop'.head.now) (λ slots. tested c.branch loop'.at (eval loop'.at slots loop'.condition.now)) (exec_all c loop'.body.now)

-- behind a test that came to this word: a turn, with so many turns left behind it, or the end of the loop
abbrev pub by_test : Context → Repeat → (left : ℕ) → (word : ℤ) → Statement Slots
by_test c loop' left word slots = by_truth word (exec_all c loop'.body.now slots then_do repeated c loop' left) (done_with slots)

-- the part of a line that is a part of the stack; what is left of a loop goes by how many turns were made
abbrev pub part : Context → Part → Statement Slots
part c (Row row) slots = exec_all c row.now slots
part c (Test loop' made) slots = tested c.branch loop'.at (eval loop'.at slots loop'.condition.now) ⨾ λ word. by_test c loop' (c.turns - suc made) word slots
part c (Again loop' made) slots = repeated c loop' (c.turns - made) slots

-- goes on with this statement, unless the one before it returned
abbrev pub then_next : Statement Slots → Next (Flow Slots) → Next (Flow Slots)
then_next statement next flow passed = unless_returned statement flow next passed

-- through the parts of a function, of which the last comes first
abbrev pub through : Context → List Part → Next (Flow Slots) → Next (Flow Slots)
through c [] next = next
through c (x ∷ parts) next = through c parts (then_next (part c x) next)

-- through the statements in hand of a function, and then its parts
abbrev pub rest_of : Context → Frame → Next (Flow Slots) → Next (Flow Slots)
rest_of c frame next = then_next (exec_all c frame.row.now) (through c frame.parts next)

-- the end of a function gives a word to its caller, which goes on
abbrev pub back_to : Context → Caller → Next (Flow Slots) → Next (Flow Slots)
back_to c caller next flow = returned flow (λ word. rest_of c caller.frame next (GoesOn (into caller.to caller.frame.slots word)))

-- back to callers, of which the last comes first; so many functions more may become active above the first
abbrev pub back_through : PProgram → (turns : ℕ) → (branch : List ℕ) → (left : ℕ) → List Caller → Next (Flow Slots) → Next (Flow Slots)
back_through p turns branch left [] next = next
back_through p turns branch left (caller ∷ callers) next = back_through p turns branch (left - 1) callers (back_to (context_from p turns branch left) caller next)

-- the end of the lowest function of a line is its end
abbrev pub last_end : (in_branch : Bool) → Next (Flow Slots)
last_end true flow passed = ends flow passed
last_end false flow passed = returned flow (λ word passed. Ended Done) passed

-- how many functions more may become active
abbrev pub left_of : Line → ℕ
left_of line = line.most - length line.callers

-- the context of the active function of a line
abbrev pub context_of : PProgram → (turns : ℕ) → (branch : List ℕ) → Line → Context
context_of p turns branch line = context_from p turns branch (left_of line)

-- the line behind its active function, by how this ends
abbrev pub beneath : PProgram → (turns : ℕ) → (branch : List ℕ) → Line → Next (Flow Slots)
beneath p turns branch line = back_through p turns branch line.most line.callers (last_end line.in_branch)

-- the line behind the statement that is done, by what this does
abbrev pub onward : PProgram → (turns : ℕ) → (branch : List ℕ) → Line → Next (Flow Slots)
onward p turns branch line = rest_of (context_of p turns branch line) line.frame (beneath p turns branch line)

-- a call that was answered: where no more functions may become active, the word is what it gives
abbrev pub inside_call : PProgram → (turns : ℕ) → (branch : List ℕ) → (left : ℕ) → (function : ℕ) → (words : List ℤ) → (word : ℤ) → LineOf ℤ
inside_call p turns branch zero function words word = give word
inside_call p turns branch (suc left) function words word = in_function (context_from p turns branch left) (slice_get p.funcs function) words

-- the branches of a `cobegin`, from this number on
abbrev pub all_branches : Context → (passed number : ℕ) → List Branch → Slots → Tasks
all_branches c passed number [] slots = none
all_branches c passed number (body ∷ blocks) slots = more (leaf (exec_branch (child c passed number) body slots)) (all_branches c passed (suc number) blocks slots)

-- an iteration of a `foreach`, whose start is due
abbrev pub iteration : Context → (passed : ℕ) → Place → (slot : ℕ) → Branch → Slots → (number : ℕ) → ℤ → Task
iteration c passed at slot body slots number index =
    leaf (due (child c passed number).branch at Start ⨾ λ _. exec_branch (child c passed number) body (slice_set slots slot index))

-- the branches in front of which a line stands
abbrev pub forks : Context → (passed : ℕ) → Slots → Stop → Tasks
forks c passed slots (Branches blocks) = all_branches c passed 0 blocks.now slots
forks c passed slots (Iterations at slot low step count body) = iterations count 0 low step (iteration c passed at slot body.now slots)
forks c passed slots stop = none

-- what a line becomes by the word of the action that is due
abbrev pub continued : PProgram → (turns : ℕ) → (branch : List ℕ) → (left : ℕ) → Slots → Next (Flow Slots) → Stop → (word : ℤ) → (passed : ℕ) → Task
continued p turns branch left slots next (Word action at to) word passed = next (GoesOn (into to slots word)) passed
continued p turns branch left slots next (Call at function words to) word passed =
    inside_call p turns branch left function words word (λ word. next (GoesOn (into to slots word))) passed
continued p turns branch left slots next (TestStop loop' made true) word passed =
    (exec_all (context_from p turns branch left) loop'.body.now slots then_do repeated (context_from p turns branch left) loop' (turns - suc made)) next passed
continued p turns branch left slots next (TestStop loop' made false) word passed = next (GoesOn slots) passed
continued p turns branch left slots next stop word passed = Ended Unruled

-- the task of a line, by why it makes no free move
abbrev pub stopped : PProgram → (turns : ℕ) → (branch : List ℕ) → (left : ℕ) → Slots → Next (Flow Slots) → (passed : ℕ) → Stop → Task
stopped p turns branch left slots next passed DoneStop = Ended Done
stopped p turns branch left slots next passed UnruledStop = Ended Unruled
stopped p turns branch left slots next passed (TrappedStop kind at) = Ended (trapped kind at)
stopped p turns branch left slots next passed (Word action at to) =
    due branch at action (λ word. continued p turns branch left slots next (Word action at to) word) passed
stopped p turns branch left slots next passed (Call at function words to) =
    due branch at (Enter left) (λ word. continued p turns branch left slots next (Call at function words to) word) passed
stopped p turns branch left slots next passed (TestStop loop' made holds) =
    due branch loop'.at TestAction (λ word. continued p turns branch left slots next (TestStop loop' made holds) word) passed
stopped p turns branch left slots next passed (Branches blocks) =
    forked (forks (context_from p turns branch left) passed slots (Branches blocks)) (next (GoesOn slots) (suc passed))
stopped p turns branch left slots next passed (Iterations at slot low step count body) =
    forked (forks (context_from p turns branch left) passed slots (Iterations at slot low step count body)) (next (GoesOn slots) (suc passed))

-- the task of a line that stands
unfoldable pub task_of : PProgram → (turns : ℕ) → (branch : List ℕ) → (passed : ℕ) → Line → Task
task_of p turns branch passed line =
    stopped p turns branch (left_of line) line.frame.slots (onward p turns branch line) passed line.stop

-- what the line becomes by the word of the action that is due
unfoldable pub answered : PProgram → (turns : ℕ) → (branch : List ℕ) → (passed : ℕ) → Line → (word : ℤ) → Task
answered p turns branch passed line word =
    continued p turns branch (left_of line) line.frame.slots (onward p turns branch line) line.stop word passed

-- the branches of the fork in front of which the line stands
unfoldable pub children_of : PProgram → (turns : ℕ) → (branch : List ℕ) → (passed : ℕ) → Line → Tasks
children_of p turns branch passed line = forks (context_of p turns branch line) passed line.frame.slots line.stop

-- what the line becomes behind that fork
unfoldable pub behind_of : PProgram → (turns : ℕ) → (branch : List ℕ) → (passed : ℕ) → Line → Task
behind_of p turns branch passed line = onward p turns branch line (GoesOn line.frame.slots) (suc passed)

-- the task with this number, from 0
abbrev pub task_at : Tasks → ℕ → Task
task_at none number = Ended Unruled
task_at (more task tasks) zero = task
task_at (more task tasks) (suc number) = task_at tasks number

-- how many tasks there are
abbrev pub size_of : Tasks → ℕ
size_of none = 0
size_of (more task tasks) = suc (size_of tasks)

-- where a line stands
abbrev pub standing_at : (left : ℕ) → Stop → Standing
standing_at left DoneStop = IsDone
standing_at left UnruledStop = IsUnruled
standing_at left (TrappedStop kind at) = IsTrapped kind at
standing_at left (Word action at to) = IsDue action at
standing_at left (Call at function words to) = IsDue (Enter left) at
standing_at left (TestStop loop' made holds) = IsDue TestAction loop'.at
standing_at left (Branches blocks) = IsFork
standing_at left (Iterations at slot low step count body) = IsFork

unfoldable pub standing_of : Line → Standing
standing_of line = standing_at (left_of line) line.stop

-- what this standing says of the task of a line
abbrev pub StandsAt : Standing → PProgram → (turns : ℕ) → (branch : List ℕ) → (passed : ℕ) → Line → Type 0
StandsAt IsDone p turns branch passed line = task_of p turns branch passed line ≡ Ended Done
StandsAt IsUnruled p turns branch passed line = task_of p turns branch passed line ≡ Ended Unruled
StandsAt (IsTrapped kind at) p turns branch passed line = task_of p turns branch passed line ≡ Ended (trapped kind at)
StandsAt (IsDue action at) p turns branch passed line =
    task_of p turns branch passed line ≡ Due (record { path = branch ++ passed ∷ []; place = at }) action (answered p turns branch passed line)
StandsAt IsFork p turns branch passed line = task_of p turns branch passed line ≡ forked (children_of p turns branch passed line) (behind_of p turns branch passed line)

-- the turns that were made of a loop are fewer than this
abbrev pub FewTurns : (turns : ℕ) → Part → Type 0
FewTurns turns (Row row) = Unit {0}
FewTurns turns (Test loop' made) = made < turns
FewTurns turns (Again loop' made) = made < turns

abbrev pub FewAtStop : (turns : ℕ) → Stop → Type 0
FewAtStop turns (TestStop loop' made holds) = made < turns
FewAtStop turns stop = Unit {0}

-- of each loop that is under way, fewer turns than this were made
pub record IsBelow (turns : ℕ) (line : Line) : Type 0 where
  pub positive : 0 < turns
  pub here : All (FewTurns turns) line.frame.parts
  pub callers : All (λ (caller : Caller). All (FewTurns turns) caller.frame.parts) line.callers
  pub stop : FewAtStop turns line.stop
