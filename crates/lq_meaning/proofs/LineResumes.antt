-- How a line goes on from where it stands.
use Rattle.std.proofs.Common.{◌≡◌, ℕ, suc, ◌+◌, ◌-◌, ◌<◌, ℤ, Bool, true, false, List, [], ◌∷◌, ◌++◌, length, Option, None, Some, All, refl, ap, ◌∙◌, sym, subst, arith, length-append}
use Rattle.std.specs.Prelude.{slice_get}
use Rattle.std.specs.Borrow.{Bor}
use Rattle.std.proofs.lemmas.List.Elements.{All-push, All-nil, All-weaker}
use Rattle.lq_tree.specs.declared.place.Place.{Place}
use Rattle.lq_tree.specs.declared.plain.PStmt.{PStmt}
use Rattle.lq_tree.specs.declared.plain.PFunc.{PFunc}
use Rattle.lq_tree.specs.declared.plain.PProgram.{PProgram}
use Rattle.lq_meaning.specs.declared.action.Action.{Action}
use Rattle.lq_meaning.specs.declared.line.Line.{Line}
use Rattle.lq_meaning.specs.declared.line.Frame.{Frame}
use Rattle.lq_meaning.specs.declared.line.Caller.{Caller}
use Rattle.lq_meaning.specs.declared.line.Repeat.{Repeat}
use Rattle.lq_meaning.specs.declared.line.Part.{Part}
use Rattle.lq_meaning.specs.declared.line.Part.TheVariants.{Row, Test, Again}
use Rattle.lq_meaning.specs.declared.line.Stop.{Stop}
use Rattle.lq_meaning.specs.declared.line.Stop.TheVariants.{Done as DoneStop, Trapped as TrappedStop, Unruled as UnruledStop, Word, Call, Test as TestStop, Branches, Iterations}
use Rattle.lq_meaning.specs.declared.line.Standing.TheVariants.{Due as IsDue}
use Rattle.lq_meaning.specs.Control.{Flow, GoesOn}
use Rattle.lq_meaning.specs.PlainMeaning.{Slots, bound, into}
use Rattle.lq_meaning.specs.TaskControl.{Next}
use Rattle.lq_meaning.specs.Behaviour.{Context, exec_all, in_function}
use Rattle.lq_meaning.specs.Line.{context_from, context_of, onward, beneath, part, then_next, through, back_through, last_end, inside_call, task_of, answered, left_of, standing_at, standing_of, IsBelow, FewTurns, FewAtStop}
use Rattle.lq_meaning.specs.Moves.{moving, came_to, SetsAside, Repeats}
use Rattle.lq_meaning.proofs.Stacks.{through-push, back_through-push}

-- a loop that is under way with few turns is with more
pub few-more : (turns : ℕ) (x : Part) → FewTurns turns x → FewTurns (suc turns) x
few-more turns (Row row) few = tt
few-more turns (Test repeat made) few = omega arith
few-more turns (Again repeat made) few = omega arith

pub all_few-more : (turns : ℕ) (parts : List Part) → All (FewTurns turns) parts → All (FewTurns (suc turns)) parts
all_few-more turns parts few = All-weaker (FewTurns turns) (FewTurns (suc turns)) (few-more turns) parts few

-- the body of a loop is taken in hand
pub repeats : (before middle after : Frame) (repeat : Repeat) (made more : ℕ) → SetsAside before middle → more ≡ suc made
    → after.slots ≡ middle.slots → after.row ≡ repeat.body → after.parts ≡ middle.parts ++ Again repeat more ∷ [] → Repeats repeat made before after
repeats before middle after repeat made more aside one slots row parts = record {
  slots = slots ∙ aside.slots;
  row = row;
  parts = λ c next.
      ap (λ parts. through c parts next) parts ∙ through-push c middle.parts (Again repeat more) next
      ∙ ap (λ n. then_next (part c (Again repeat n)) (through c middle.parts next)) one
      ∙ ap (λ (next : Next (Flow Slots)). then_next (part c (Again repeat (suc made))) next) (aside.parts c next);
  few = λ turns few below.
      let all : All (FewTurns (suc turns)) middle.parts = all_few-more turns middle.parts (aside.few turns few) in
      subst (All (FewTurns (suc turns))) (sym parts) (All-push (FewTurns (suc turns)) middle.parts (Again repeat more) all (omega (arith, one)));
}

-- a line goes on inside a call
entered_at : (p : PProgram) (line : Line) (function : ℕ) (words : List ℤ) (to : Option ℕ) (word : ℤ) (callee : PFunc) (row : Bor (List PStmt)) (slots : Slots) (callers : List Caller) (n : ℕ)
    → left_of line ≡ suc n → line.most - length callers ≡ n → slice_get p.funcs function ≡ Some callee → row.now ≡ callee.body → slots ≡ bound callee words → callers ≡ line.callers ++ record { frame = line.frame; to = to } ∷ []
    → (turns : ℕ) (branch : List ℕ) (passed : ℕ)
    → moving p (record line { callers = callers; frame = record { row = row; parts = []; slots = slots } }) turns branch passed
    ≡ inside_call p turns branch (left_of line) function words word (λ word. onward p turns branch line (GoesOn (into to line.frame.slots word))) passed
entered_at p line function words to word callee row slots callers n left fewer found body bind is turns branch passed =
    let next : Next ℤ = λ word. onward p turns branch line (GoesOn (into to line.frame.slots word)) in
    let last : Next (Flow Slots) = last_end line.in_branch in
    ap (λ (k : ℕ). exec_all (context_from p turns branch k) row.now slots (back_through p turns branch line.most callers last) passed) fewer
    ∙ ap (λ (list : List PStmt). exec_all (context_from p turns branch n) list slots (back_through p turns branch line.most callers last) passed) body
    ∙ ap (λ (slots : Slots). exec_all (context_from p turns branch n) callee.body slots (back_through p turns branch line.most callers last) passed) bind
    ∙ ap (λ (next : Next (Flow Slots)). exec_all (context_from p turns branch n) callee.body (bound callee words) next passed)
    (ap (λ (callers : List Caller). back_through p turns branch line.most callers last) is ∙ back_through-push p turns branch line.most line.callers (record { frame = line.frame; to = to }) last)
    ∙ sym (ap (λ (k : ℕ). inside_call p turns branch k function words word next passed) left
    ∙ ap (λ (f : Option PFunc). in_function (context_from p turns branch n) f words next passed) found)

pub entered : (p : PProgram) (line : Line) (function : ℕ) (words : List ℤ) (to : Option ℕ) (word : ℤ) (callee : PFunc) (row : Bor (List PStmt)) (slots : Slots) (callers : List Caller)
    → (left_of line ≡ 0 → ⊥) → slice_get p.funcs function ≡ Some callee → row.now ≡ callee.body → slots ≡ bound callee words → callers ≡ line.callers ++ record { frame = line.frame; to = to } ∷ []
    → (turns : ℕ) (branch : List ℕ) (passed : ℕ)
    → moving p (record line { callers = callers; frame = record { row = row; parts = []; slots = slots } }) turns branch passed
    ≡ inside_call p turns branch (left_of line) function words word (λ word. onward p turns branch line (GoesOn (into to line.frame.slots word))) passed
entered p line function words to word callee row slots callers some found body bind is =
    let long : length callers ≡ length line.callers + 1 = ap length is ∙ length-append line.callers (record { frame = line.frame; to = to } ∷ []) in
    entered_at p line function words to word callee row slots callers (left_of line - 1) (omega (arith, some)) (omega (arith, long)) found body bind is

-- with turns as few
pub entered_below : (line : Line) (to : Option ℕ) (row : Bor (List PStmt)) (slots : Slots) (callers : List Caller) → callers ≡ line.callers ++ record { frame = line.frame; to = to } ∷ [] → (turns : ℕ)
    → IsBelow turns line → IsBelow turns (record line { callers = callers; frame = record { row = row; parts = []; slots = slots } })
entered_below line to row slots callers is turns below =
    let P : Caller → Type 0 = λ caller. All (FewTurns turns) caller.frame.parts in
    record {
      positive = below.positive;
      here = All-nil (FewTurns turns);
      callers = subst (All P) (sym is) (All-push P line.callers (record { frame = line.frame; to = to }) below.callers below.here);
      stop = below.stop;
    }

-- a call of no function has no rule
pub entered_nowhere : (p : PProgram) (line : Line) (function : ℕ) (words : List ℤ) (to : Option ℕ) (word : ℤ) (stands : Bool) (after : Line) → (left_of line ≡ 0 → ⊥) → slice_get p.funcs function ≡ None
    → stands ≡ true → after ≡ record line { stop = UnruledStop } → (turns : ℕ) (branch : List ℕ) (passed : ℕ)
    → came_to stands p after turns branch passed ≡ inside_call p turns branch (left_of line) function words word (λ word. onward p turns branch line (GoesOn (into to line.frame.slots word))) passed
unfolding task_of
entered_nowhere p line function words to word stands after some found true' changed turns branch passed =
    let next : Next ℤ = λ word. onward p turns branch line (GoesOn (into to line.frame.slots word)) in
    let left : left_of line ≡ suc (left_of line - 1) = omega (arith, some) in
    rw (true', changed) (sym (ap (λ (k : ℕ). inside_call p turns branch k function words word next passed) left ∙ ap (λ (f : Option PFunc). in_function (context_from p turns branch (left_of line - 1)) f words next passed) found))

-- a line goes on behind an action whose word goes into a slot
pub resumed-word : (p : PProgram) (line : Line) (action : Action) (at : Place) (to : Option ℕ) (word : ℤ) (slots : Slots) → line.stop ≡ Word action at to → slots ≡ into to line.frame.slots word
    → (turns : ℕ) (branch : List ℕ) (passed : ℕ)
    → moving p (record line { frame = record line.frame { slots = slots } }) turns branch passed ≡ answered p turns branch passed line word
unfolding answered
resumed-word p line action at to word slots is put turns branch passed = rw (is, put) refl

-- into a call
pub resumed-call : (p : PProgram) (line : Line) (at : Place) (function : ℕ) (words : List ℤ) (to : Option ℕ) (word : ℤ) → line.stop ≡ Call at function words to
    → (turns : ℕ) (branch : List ℕ) (passed : ℕ)
    → inside_call p turns branch (left_of line) function words word (λ word. onward p turns branch line (GoesOn (into to line.frame.slots word))) passed ≡ answered p turns branch passed line word
unfolding answered
resumed-call p line at function words to word is turns branch passed = rw is refl

-- into a turn of a loop
pub resumed-turn : (p : PProgram) (line : Line) (repeat : Repeat) (made : ℕ) (word : ℤ) (frame : Frame) → line.stop ≡ TestStop repeat made true → Repeats repeat made line.frame frame
    → (turns : ℕ) (branch : List ℕ) (passed : ℕ)
    → moving p (record line { frame = frame }) turns branch passed ≡ answered p turns branch passed line word
unfolding answered
resumed-turn p line repeat made word frame is repeats turns branch passed =
    let c : Context = context_of p turns branch line in
    let next : Next (Flow Slots) = beneath p turns branch line in
    ap (λ (row : Bor (List PStmt)). exec_all c row.now frame.slots (through c frame.parts next) passed) repeats.row
    ∙ ap (λ (slots : Slots). exec_all c repeat.body.now slots (through c frame.parts next) passed) repeats.slots
    ∙ ap (λ (next : Next (Flow Slots)). exec_all c repeat.body.now line.frame.slots next passed) (repeats.parts c next)
    ∙ rw is refl

-- or behind a loop
pub resumed-end : (p : PProgram) (line : Line) (repeat : Repeat) (made : ℕ) (word : ℤ) → line.stop ≡ TestStop repeat made false → (turns : ℕ) (branch : List ℕ) (passed : ℕ)
    → moving p line turns branch passed ≡ answered p turns branch passed line word
unfolding answered
resumed-end p line repeat made word is turns branch passed = rw is refl

-- no action is due on a line that stands for another reason
not_due : (left : ℕ) (stop : Stop) (action : Action) (at : Place) → ((a : Action) (at : Place) (to : Option ℕ) → stop ≡ Word a at to → ⊥)
    → ((at : Place) (function : ℕ) (words : List ℤ) (to : Option ℕ) → stop ≡ Call at function words to → ⊥) → ((repeat : Repeat) (made : ℕ) (holds : Bool) → stop ≡ TestStop repeat made holds → ⊥)
    → standing_at left stop ≡ IsDue action at → ⊥
not_due left DoneStop action at no_word no_call no_test due = cc
not_due left UnruledStop action at no_word no_call no_test due = cc
not_due left (TrappedStop kind place) action at no_word no_call no_test due = cc
not_due left (Word a place to) action at no_word no_call no_test due = no_word a place to refl
not_due left (Call place function words to) action at no_word no_call no_test due = no_call place function words to refl
not_due left (TestStop repeat made holds) action at no_word no_call no_test due = no_test repeat made holds refl
not_due left (Branches blocks) action at no_word no_call no_test due = cc
not_due left (Iterations place slot low step count body) action at no_word no_call no_test due = cc

pub not_resumed : (line : Line) (action : Action) (at : Place) → ((a : Action) (at : Place) (to : Option ℕ) → line.stop ≡ Word a at to → ⊥)
    → ((at : Place) (function : ℕ) (words : List ℤ) (to : Option ℕ) → line.stop ≡ Call at function words to → ⊥) → ((repeat : Repeat) (made : ℕ) (holds : Bool) → line.stop ≡ TestStop repeat made holds → ⊥)
    → standing_of line ≡ IsDue action at → ⊥
unfolding standing_of
not_resumed line action at no_word no_call no_test due = not_due (left_of line) line.stop action at no_word no_call no_test due

-- the turns of a line, however it stands
pub below-stop : (turns : ℕ) (line : Line) (stop : Stop) → FewAtStop turns stop → IsBelow turns line → IsBelow turns (record line { stop = stop })
below-stop turns line stop few below = record { positive = below.positive; here = below.here; callers = below.callers; stop = few }

-- and with a bound of one more
few_stop-more : (turns : ℕ) (stop : Stop) → FewAtStop turns stop → FewAtStop (suc turns) stop
few_stop-more turns DoneStop few = tt
few_stop-more turns UnruledStop few = tt
few_stop-more turns (TrappedStop kind at) few = tt
few_stop-more turns (Word action at to) few = tt
few_stop-more turns (Call at function words to) few = tt
few_stop-more turns (TestStop repeat made holds) few = omega arith
few_stop-more turns (Branches blocks) few = tt
few_stop-more turns (Iterations at slot low step count body) few = tt

pub below-more : (turns : ℕ) (line : Line) → IsBelow turns line → IsBelow (suc turns) line
below-more turns line below = record {
  positive = omega arith;
  here = all_few-more turns line.frame.parts below.here;
  callers = All-weaker (λ (caller : Caller). All (FewTurns turns) caller.frame.parts) (λ (caller : Caller). All (FewTurns (suc turns)) caller.frame.parts)
      (λ caller few. all_few-more turns caller.frame.parts few) line.callers below.callers;
  stop = few_stop-more turns line.stop below.stop;
}

-- a line that begins has made no turns
pub below-fresh : (turns : ℕ) (line : Line) → line.callers ≡ [] → line.frame.parts ≡ [] → FewAtStop turns line.stop → 0 < turns → IsBelow turns line
below-fresh turns line callers parts few some = record {
  positive = some;
  here = subst (All (FewTurns turns)) (sym parts) (All-nil (FewTurns turns));
  callers = subst (All (λ (caller : Caller). All (FewTurns turns) caller.frame.parts)) (sym callers) (All-nil (λ (caller : Caller). All (FewTurns turns) caller.frame.parts));
  stop = few;
}
