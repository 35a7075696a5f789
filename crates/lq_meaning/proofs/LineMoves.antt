-- How the free moves of a line keep its task.
use Rattle.std.proofs.Common.{◌≡◌, ℕ, zero, suc, ◌+◌, ◌-◌, ◌<◌, ◌≤◌, ℤ, pos, negsuc, Bool, true, false, List, [], ◌∷◌, ◌++◌, length, Option, None, Some, All, refl, ap, ◌∙◌, sym, subst, arith}
use Rattle.std.specs.Prelude.{sum_by}
use Rattle.std.specs.Option.{unwrap_or}
use Rattle.std.proofs.lemmas.List.Sums.{sum_by-append}
use Rattle.std.proofs.lemmas.List.Elements.{All-push, All-pop}
use Rattle.std.specs.Borrow.{Bor}
use Rattle.lq_tree.specs.declared.place.Place.{Place}
use Rattle.lq_tree.specs.declared.plain.PExpr.{PExpr}
use Rattle.lq_tree.specs.declared.plain.PKind.{PKind, If, While, Cobegin}
use Rattle.lq_tree.specs.declared.plain.PStmt.{PStmt}
use Rattle.lq_tree.specs.declared.plain.Branch.{Branch}
use Rattle.lq_tree.specs.declared.plain.PProgram.{PProgram}
use Rattle.lq_meaning.specs.declared.line.Line.{Line}
use Rattle.lq_meaning.specs.declared.line.Frame.{Frame}
use Rattle.lq_meaning.specs.declared.line.Caller.{Caller}
use Rattle.lq_meaning.specs.declared.line.Repeat.{Repeat}
use Rattle.lq_meaning.specs.declared.line.Part.{Part}
use Rattle.lq_meaning.specs.declared.line.Part.TheVariants.{Row, Test, Again}
use Rattle.lq_meaning.specs.declared.line.Stop.{Stop}
use Rattle.lq_meaning.specs.declared.line.Stop.TheVariants.{Branches}
use Rattle.lq_meaning.specs.Operators.{Computes}
use Rattle.lq_meaning.specs.Control.{by_truth, Flow, GoesOn, Returns}
use Rattle.lq_meaning.specs.PlainMeaning.{Slots, value, into}
use Rattle.lq_meaning.specs.Task.{Task, Tasks, forked}
use Rattle.lq_meaning.specs.TaskControl.{Next, Line as LineOf}
use Rattle.lq_meaning.specs.Behaviour.{Context, exec_all}
use Rattle.lq_meaning.specs.Line.{context_from, context_of, onward, beneath, repeated, part, then_next, through, rest_of, back_to, back_through, last_end, stopped, task_of, left_of, IsBelow, FewTurns, FewAtStop}
use Rattle.lq_meaning.specs.Weight.{weight, weight_all, weight_part, weight_frame, weight_caller, weight_of}
use Rattle.lq_meaning.specs.Moves.{Tasked, Moved, moving, doing, came_to, StandsFor, TestsFor, EndsFor, SetsAside, Turns, Passes, flow_of, ending}
use Rattle.lq_meaning.proofs.LineRows.{exec-if, exec-while, branches-list, weight-if, weight-while}
use Rattle.lq_meaning.proofs.Stacks.{then_next-none, through-push, through-returns, back_through-push, repeated-turn}

-- a line that stands, behind another that keeps its turns
pub stood : (p : PProgram) (before line : Line) (stop : Stop) (task : Tasked) (moves : ℕ) (stands : Bool) (after : Line) → stands ≡ true → after ≡ record line { stop = stop }
    → ((turns : ℕ) → IsBelow turns before → IsBelow turns line)
    → ((turns : ℕ) (branch : List ℕ) (passed : ℕ) → IsBelow turns before → stopped p turns branch (left_of line) line.frame.slots (onward p turns branch line) passed stop ≡ task turns branch passed)
    → ((turns : ℕ) → IsBelow turns before → FewAtStop turns stop)
    → Moved p before task moves stands after
unfolding task_of
stood p before line stop task moves stands after is changed keeps same few =
    rw (is, changed) (record {
      same = same;
      below = λ turns below. let kept : IsBelow turns line = keeps turns below in record { positive = kept.positive; here = kept.here; callers = kept.callers; stop = few turns below };
      lighter = λ moves. absurd (cc moves);
    })

-- one that stands in front of a statement
pub stood_for : (p : PProgram) (line : Line) (stop : Stop) (at : Place) (kind : PKind) (moves : ℕ) (stands : Bool) (after : Line) → stands ≡ true → after ≡ record line { stop = stop }
    → StandsFor p at kind line.frame.slots stop → Moved p line (doing p line at kind) moves stands after
stood_for p line stop at kind moves stands after is changed reason =
    stood p line line stop (doing p line at kind) moves stands after is changed (λ turns below. below)
    (λ turns branch passed below. reason.same turns branch (left_of line) (onward p turns branch line) passed) (λ turns below. reason.few turns)

-- a line that moved from a task moved from an equal one
pub moved_as : (p : PProgram) (before : Line) (task other : Tasked) (moves most : ℕ) (stands : Bool) (after : Line)
    → ((turns : ℕ) (branch : List ℕ) (passed : ℕ) → task turns branch passed ≡ other turns branch passed) → moves ≤ most
    → Moved p before task moves stands after → Moved p before other most stands after
moved_as p before task other moves most stands after same fewer moved = record {
  same = λ turns branch passed below. moved.same turns branch passed below ∙ same turns branch passed;
  below = moved.below;
  lighter = λ moves. omega (arith, moved.lighter moves, fewer);
}

-- the statements in hand, where there are some, become a part
pub set_aside : (frame : Frame) (parts : List Part) → parts ≡ frame.parts ++ Row frame.row ∷ [] → SetsAside frame (record frame { parts = parts })
set_aside frame parts is = record {
  slots = refl;
  parts = λ c next. ap (λ parts. through c parts next) is ∙ through-push c frame.parts (Row frame.row) next;
  few = λ turns few. subst (All (FewTurns turns)) (sym is) (All-push (FewTurns turns) frame.parts (Row frame.row) few tt);
  lighter = omega (arith, ap (sum_by weight_part) is, sum_by-append weight_part frame.parts (Row frame.row ∷ []));
}

chosen : (c : Context) (word : ℤ) (body other : List PStmt) (slots : Slots) → exec_all c (by_truth word body other) slots ≡ by_truth word (exec_all c body slots) (exec_all c other slots)
chosen c (pos zero) body other slots = refl
chosen c (pos (suc n)) body other slots = refl
chosen c (negsuc n) body other slots = refl

chosen_weight : (word : ℤ) (body other : List PStmt) → weight_all (by_truth word body other) ≤ weight_all body + weight_all other
chosen_weight (pos zero) body other = omega arith
chosen_weight (pos (suc n)) body other = omega arith
chosen_weight (negsuc n) body other = omega arith

-- a line goes on with one of two lists of statements
pub chose : (p : PProgram) (line : Line) (frame : Frame) (row : Bor (List PStmt)) (at : Place) (e : PExpr) (body other : List PStmt) (word : ℤ)
    → SetsAside line.frame frame → value line.frame.slots e ≡ Computes word → row.now ≡ by_truth word body other
    → Moved p line (doing p line at (If e body other)) (weight_of line + suc (weight (If e body other))) false (record line { frame = record frame { row = row } })
chose p line frame row at e body other word aside computes is = record {
  same = λ turns branch passed below.
      let c : Context = context_of p turns branch line in
      ap (λ (list : List PStmt). exec_all c list frame.slots (through c frame.parts (beneath p turns branch line)) passed) is
      ∙ ap (λ (slots : Slots). exec_all c (by_truth word body other) slots (through c frame.parts (beneath p turns branch line)) passed) aside.slots
      ∙ ap (λ (next : Next (Flow Slots)). exec_all c (by_truth word body other) line.frame.slots next passed) (aside.parts c (beneath p turns branch line))
      ∙ ap (λ (run : LineOf (Flow Slots)). run (onward p turns branch line) passed) (chosen c word body other line.frame.slots)
      ∙ sym (ap (λ (run : LineOf (Flow Slots)). run (onward p turns branch line) passed) (exec-if c at e body other line.frame.slots) ∙ rw computes refl);
  below = λ turns below. record { positive = below.positive; here = aside.few turns below.here; callers = below.callers; stop = below.stop };
  lighter = λ moves.
      let e : weight (If e body other) ≡ suc (weight_all body + weight_all other) = weight-if e body other in
      let r : weight_all row.now ≡ weight_all (by_truth word body other) = ap weight_all is in
      omega (arith, e, r, chosen_weight word body other, aside.lighter);
}

-- where it has no statements to go on with, it is as it was
pub chose_nothing : (p : PProgram) (line : Line) (at : Place) (e : PExpr) (body other : List PStmt) (word : ℤ) → value line.frame.slots e ≡ Computes word → by_truth word body other ≡ []
    → Moved p line (doing p line at (If e body other)) (weight_of line + suc (weight (If e body other))) false line
chose_nothing p line at e body other word computes none = record {
  same = λ turns branch passed below.
      let c : Context = context_of p turns branch line in
      let next : Next (Flow Slots) = onward p turns branch line in
      ap (λ (list : List PStmt). exec_all c list line.frame.slots next passed) (sym none)
      ∙ ap (λ (run : LineOf (Flow Slots)). run next passed) (chosen c word body other line.frame.slots)
      ∙ sym (ap (λ (run : LineOf (Flow Slots)). run next passed) (exec-if c at e body other line.frame.slots) ∙ rw computes refl);
  below = λ turns below. below;
  lighter = λ moves. omega arith;
}

-- a function in front of a turn does what is left of its loop
turned : (c : Context) (frame last : Frame) (repeat : Repeat) (made : ℕ) (next : Next (Flow Slots)) (passed : ℕ) → Turns repeat made frame last → made < c.turns
    → exec_all c last.row.now last.slots (through c last.parts next) passed ≡ repeated c repeat (c.turns - made) frame.slots (through c frame.parts next) passed
turned c frame last repeat made next passed turns few =
    ap (λ (row : Bor (List PStmt)). exec_all c row.now last.slots (through c last.parts next) passed) turns.row
    ∙ ap (λ (slots : Slots). exec_all c repeat.head.now slots (through c last.parts next) passed) turns.slots
    ∙ ap (λ (parts : List Part). exec_all c repeat.head.now frame.slots (through c parts next) passed) turns.parts
    ∙ ap (λ (next : Next (Flow Slots)). exec_all c repeat.head.now frame.slots next passed) (through-push c frame.parts (Test repeat made) next)
    ∙ sym (repeated-turn c repeat made frame.slots (through c frame.parts next) passed few)

-- its weight
turned_weight : (frame last : Frame) (repeat : Repeat) (made : ℕ) → Turns repeat made frame last → weight_frame last ≡ weight_all repeat.head.now + (sum_by weight_part frame.parts + 1)
turned_weight frame last repeat made turns =
    ap (λ (row : Bor (List PStmt)). weight_all row.now + sum_by weight_part last.parts) turns.row
    ∙ ap (λ (parts : List Part). weight_all repeat.head.now + sum_by weight_part parts) turns.parts
    ∙ ap (λ n. weight_all repeat.head.now + n) (sum_by-append weight_part frame.parts (Test repeat made ∷ []))

turned_few : (frame last : Frame) (repeat : Repeat) (made turns : ℕ) → Turns repeat made frame last → All (FewTurns turns) frame.parts → made < turns → All (FewTurns turns) last.parts
turned_few frame last repeat made turns turned few below =
    subst (All (FewTurns turns)) (sym turned.parts) (All-push (FewTurns turns) frame.parts (Test repeat made) few below)

-- a loop begins
pub began : (p : PProgram) (line : Line) (frame last : Frame) (repeat : Repeat) → SetsAside line.frame frame → Turns repeat 0 frame last
    → Moved p line (doing p line repeat.at (While repeat.head.now repeat.condition.now repeat.body.now)) (weight_of line + suc (weight (While repeat.head.now repeat.condition.now repeat.body.now))) false (record line { frame = last })
began p line frame last repeat aside turns = record {
  same = λ bound branch passed below.
      let c : Context = context_of p bound branch line in
      let next : Next (Flow Slots) = beneath p bound branch line in
      let whole : bound - 0 ≡ bound = omega arith in
      turned c frame last repeat 0 next passed turns below.positive
      ∙ ap (λ n. repeated c repeat n frame.slots (through c frame.parts next) passed) whole
      ∙ ap (λ (slots : Slots). repeated c repeat bound slots (through c frame.parts next) passed) aside.slots
      ∙ ap (λ (next : Next (Flow Slots)). repeated c repeat bound line.frame.slots next passed) (aside.parts c next)
      ∙ sym (ap (λ (run : LineOf (Flow Slots)). run (onward p bound branch line) passed) (exec-while c repeat.at repeat.head.now repeat.condition.now repeat.body.now line.frame.slots));
  below = λ bound below. record {
    positive = below.positive;
    here = turned_few frame last repeat 0 bound turns (aside.few bound below.here) below.positive;
    callers = below.callers;
    stop = below.stop;
  };
  lighter = λ moves. omega (arith, turned_weight frame last repeat 0 turns, aside.lighter, weight-while repeat.head.now repeat.condition.now repeat.body.now);
}

-- a line with no statements in hand does its part on top
popped : (p : PProgram) (line : Line) (parts : List Part) (x : Part) → line.frame.row.now ≡ [] → line.frame.parts ≡ parts ++ x ∷ [] → (turns : ℕ) (branch : List ℕ) (passed : ℕ)
    → moving p line turns branch passed ≡ part (context_of p turns branch line) x line.frame.slots (through (context_of p turns branch line) parts (beneath p turns branch line)) passed
popped p line parts x none is turns branch passed =
    let c : Context = context_of p turns branch line in
    let next : Next (Flow Slots) = beneath p turns branch line in
    ap (λ (row : List PStmt). exec_all c row line.frame.slots (through c line.frame.parts next) passed) none
    ∙ ap (λ (parts : List Part). through c parts next (GoesOn line.frame.slots) passed) is
    ∙ ap (λ (next : Next (Flow Slots)). next (GoesOn line.frame.slots) passed) (through-push c parts x next)

-- its turns are as few without that part
popped_below : (line : Line) (parts : List Part) (x : Part) (turns : ℕ) → line.frame.parts ≡ parts ++ x ∷ [] → IsBelow turns line
    → IsBelow turns (record line { frame = record line.frame { parts = parts } }) × FewTurns turns x
popped_below line parts x turns is below =
    let few : All (FewTurns turns) parts × FewTurns turns x = All-pop (FewTurns turns) line.frame.parts parts (Some x) is below.here in
    (record { positive = below.positive; here = few.0; callers = below.callers; stop = below.stop }, few.1)

popped_weight : (line : Line) (parts : List Part) (x : Part) → line.frame.parts ≡ parts ++ x ∷ [] → sum_by weight_part line.frame.parts ≡ sum_by weight_part parts + weight_part x
popped_weight line parts x is = omega (arith, ap (sum_by weight_part) is, sum_by-append weight_part parts (x ∷ []))

-- statements on top are taken in hand
pub went_on : (p : PProgram) (line : Line) (parts : List Part) (row : Bor (List PStmt)) → line.frame.row.now ≡ [] → line.frame.parts ≡ parts ++ Row row ∷ []
    → Moved p line (moving p line) (weight_of line) false (record line { frame = record line.frame { row = row; parts = parts } })
went_on p line parts row none is = record {
  same = λ turns branch passed below. sym (popped p line parts (Row row) none is turns branch passed);
  below = λ turns below. let kept = (popped_below line parts (Row row) turns is below).0 in record { positive = kept.positive; here = kept.here; callers = kept.callers; stop = kept.stop };
  lighter = λ moves. omega (arith, popped_weight line parts (Row row) is);
}

-- a part on top that begins with a test stands in front of it
tested_by : (p : PProgram) (line : Line) (parts : List Part) (x : Part) (repeat : Repeat) (made : ℕ) (stop : Stop) (stands : Bool) (after : Line)
    → line.frame.row.now ≡ [] → line.frame.parts ≡ parts ++ x ∷ [] → ((turns : ℕ) → FewTurns turns x → made < turns)
    → ((c : Context) (next : Next (Flow Slots)) (passed : ℕ) → made < c.turns → part c (Test repeat made) line.frame.slots next passed ≡ part c x line.frame.slots next passed)
    → TestsFor p repeat made line.frame.slots stop
    → stands ≡ true → after ≡ record line { frame = record line.frame { parts = parts }; stop = stop }
    → Moved p line (moving p line) (weight_of line) stands after
tested_by p line parts x repeat made stop stands after none is few begins tests true' changed =
    let last : Line = record line { frame = record line.frame { parts = parts } } in
    stood p line last stop (moving p line) (weight_of line) stands after true' changed (λ turns below. (popped_below line parts x turns is below).0)
    (λ turns branch passed below.
    let c : Context = context_of p turns branch line in
    let next : Next (Flow Slots) = through c parts (beneath p turns branch line) in
    ap (λ (next : Next (Flow Slots)). stopped p turns branch (left_of line) line.frame.slots next passed stop) (ap (λ (row : List PStmt). then_next (exec_all c row) next) none ∙ then_next-none c next)
    ∙ tests.same turns branch (left_of line) next passed
    ∙ begins c next passed (few turns (popped_below line parts x turns is below).1)
    ∙ sym (popped p line parts x none is turns branch passed))
    (λ turns below. tests.few turns (few turns (popped_below line parts x turns is below).1))

-- a test on top is due
pub tested : (p : PProgram) (line : Line) (parts : List Part) (repeat : Repeat) (made : ℕ) (stop : Stop) (stands : Bool) (after : Line)
    → line.frame.row.now ≡ [] → line.frame.parts ≡ parts ++ Test repeat made ∷ [] → TestsFor p repeat made line.frame.slots stop
    → stands ≡ true → after ≡ record line { frame = record line.frame { parts = parts }; stop = stop }
    → Moved p line (moving p line) (weight_of line) stands after
tested p line parts repeat made stop stands after none is =
    tested_by p line parts (Test repeat made) repeat made stop stands after none is (λ turns few. few) (λ c next passed few. refl)

-- and that of a loop on top whose condition has no statements
pub tested_again : (p : PProgram) (line : Line) (parts : List Part) (repeat : Repeat) (made : ℕ) (stop : Stop) (stands : Bool) (after : Line)
    → line.frame.row.now ≡ [] → line.frame.parts ≡ parts ++ Again repeat made ∷ [] → repeat.head.now ≡ [] → TestsFor p repeat made line.frame.slots stop
    → stands ≡ true → after ≡ record line { frame = record line.frame { parts = parts }; stop = stop }
    → Moved p line (moving p line) (weight_of line) stands after
tested_again p line parts repeat made stop stands after none is no_head =
    tested_by p line parts (Again repeat made) repeat made stop stands after none is (λ turns few. few)
    (λ c next passed few.
    ap (λ (head : List PStmt). exec_all c head line.frame.slots (then_next (part c (Test repeat made)) next) passed) (sym no_head)
    ∙ sym (repeated-turn c repeat made line.frame.slots next passed few))

-- a loop on top goes on
pub repeated_on : (p : PProgram) (line : Line) (parts : List Part) (repeat : Repeat) (made : ℕ) (last : Frame)
    → line.frame.row.now ≡ [] → line.frame.parts ≡ parts ++ Again repeat made ∷ [] → Turns repeat made (record line.frame { parts = parts }) last
    → Moved p line (moving p line) (weight_of line) false (record line { frame = last })
repeated_on p line parts repeat made last none is turns =
    let frame : Frame = record line.frame { parts = parts } in
    record {
      same = λ bound branch passed below.
          turned (context_of p bound branch line) frame last repeat made (beneath p bound branch line) passed turns (popped_below line parts (Again repeat made) bound is below).1
          ∙ sym (popped p line parts (Again repeat made) none is bound branch passed);
      below = λ bound below.
          let kept = popped_below line parts (Again repeat made) bound is below in
          record { positive = below.positive; here = turned_few frame last repeat made bound turns kept.0.here kept.1; callers = below.callers; stop = below.stop };
      lighter = λ moves. omega (arith, popped_weight line parts (Again repeat made) is, turned_weight frame last repeat made turns);
    }

-- a return passes by what is left of its function
pub returned_past : (p : PProgram) (line : Line) (word : ℤ) (turns : ℕ) (branch : List ℕ) (passed : ℕ) → ending p line (Some word) turns branch passed ≡ onward p turns branch line (Returns word) passed
returned_past p line word turns branch passed = sym (through-returns (context_of p turns branch line) line.frame.parts (beneath p turns branch line) word passed)

-- a caller goes on with the word, or 0
back_with : (c : Context) (caller : Caller) (next : Next (Flow Slots)) (word : Option ℤ) (slots : Slots) (passed : ℕ)
    → back_to c caller next (flow_of word slots) passed ≡ rest_of c caller.frame next (GoesOn (into caller.to caller.frame.slots (unwrap_or word (pos 0)))) passed
back_with c caller next None slots passed = refl
back_with c caller next (Some word) slots passed = refl

-- a function ends, and its caller goes on
pub left : (p : PProgram) (line : Line) (callers : List Caller) (caller : Caller) (word : Option ℤ) (slots : Slots) → line.callers ≡ callers ++ caller ∷ [] → slots ≡ into caller.to caller.frame.slots (unwrap_or word (pos 0))
    → Moved p line (ending p line word) (weight_of line) false (record line { callers = callers; frame = record caller.frame { slots = slots } })
left p line callers caller word slots is put = record {
  same = λ turns branch passed below.
      let c : Context = context_from p turns branch (line.most - length callers) in
      let next : Next (Flow Slots) = back_through p turns branch line.most callers (last_end line.in_branch) in
      ap (λ (slots : Slots). rest_of c caller.frame next (GoesOn slots) passed) put
      ∙ sym (ap (λ (callers : List Caller). back_through p turns branch line.most callers (last_end line.in_branch) (flow_of word line.frame.slots) passed) is
      ∙ ap (λ (next : Next (Flow Slots)). next (flow_of word line.frame.slots) passed) (back_through-push p turns branch line.most callers caller (last_end line.in_branch))
      ∙ back_with c caller next word line.frame.slots passed);
  below = λ turns below.
      let few = All-pop (λ (caller : Caller). All (FewTurns turns) caller.frame.parts) line.callers callers (Some caller) is below.callers in
      record { positive = below.positive; here = few.1; callers = few.0; stop = below.stop };
  lighter = λ moves. omega (arith, ap (sum_by weight_caller) is, sum_by-append weight_caller callers (caller ∷ []));
}

-- the lowest function ends, and the line with it
pub ended : (p : PProgram) (line : Line) (callers : List Caller) (word : Option ℤ) (stop : Stop) (stands : Bool) (after : Line) → line.callers ≡ [] → callers ≡ [] → EndsFor p line.in_branch word stop
    → stands ≡ true → after ≡ record line { callers = callers; stop = stop } → Moved p line (ending p line word) (weight_of line) stands after
ended p line callers word stop stands after none still ends true' changed =
    let same : callers ≡ line.callers = still ∙ sym none in
    stood p line line stop (ending p line word) (weight_of line) stands after true' (changed ∙ ap (λ (callers : List Caller). record line { callers = callers; stop = stop }) same) (λ turns below. below)
    (λ turns branch passed below.
    ends.same turns branch (left_of line) line.frame.slots (onward p turns branch line) passed
    ∙ sym (ap (λ (callers : List Caller). back_through p turns branch line.most callers (last_end line.in_branch) (flow_of word line.frame.slots) passed) none))
    (λ turns below. ends.few turns)

-- a line does its first statement in hand
pub stepped : (p : PProgram) (line : Line) (s : PStmt) (rest : Bor (List PStmt)) (stands : Bool) (after : Line) → line.frame.row.now ≡ s ∷ rest.now
    → let last : Line = record line { frame = record line.frame { row = rest } } in
    Moved p last (doing p last s.at s.kind) (weight_of last + suc (weight s.kind)) stands after → Moved p line (moving p line) (weight_of line) stands after
stepped p line s rest stands after is moved =
    let same_weight : weight_all line.frame.row.now ≡ suc (weight s.kind + weight_all rest.now) = ap weight_all is in
    record {
      same = λ turns branch passed below.
          moved.same turns branch passed (record { positive = below.positive; here = below.here; callers = below.callers; stop = below.stop })
          ∙ sym (ap (λ (row : List PStmt). exec_all (context_of p turns branch line) row line.frame.slots (through (context_of p turns branch line) line.frame.parts (beneath p turns branch line)) passed) is);
      below = λ turns below. moved.below turns (record { positive = below.positive; here = below.here; callers = below.callers; stop = below.stop });
      lighter = λ moves. omega (arith, moved.lighter moves, same_weight);
    }

-- a line does nothing
pub passed_by : (p : PProgram) (line : Line) (at : Place) (kind : PKind) → Passes p at kind line.frame.slots
    → Moved p line (doing p line at kind) (weight_of line + suc (weight kind)) false line
passed_by p line at kind passes = record {
  same = λ turns branch passed below. passes turns branch (left_of line) (onward p turns branch line) passed;
  below = λ turns below. below;
  lighter = λ moves. omega arith;
}

-- a line with nothing left of its active function is at the end of it
pub at_end : (p : PProgram) (line : Line) (parts : List Part) (stands : Bool) (after : Line) → line.frame.row.now ≡ [] → line.frame.parts ≡ [] → parts ≡ []
    → let last : Line = record line { frame = record line.frame { parts = parts } } in
    Moved p last (ending p last None) (weight_of last) stands after → Moved p line (moving p line) (weight_of line) stands after
at_end p line parts stands after none nothing still moved =
    let same : parts ≡ line.frame.parts = still ∙ sym nothing in
    let there : (λ (parts : List Part). let last : Line = record line { frame = record line.frame { parts = parts } } in Moved p last (ending p last None) (weight_of last) stands after) line.frame.parts =
    subst (λ (parts : List Part). let last : Line = record line { frame = record line.frame { parts = parts } } in Moved p last (ending p last None) (weight_of last) stands after) same moved in
    moved_as p line (ending p line None) (moving p line) (weight_of line) (weight_of line) stands after
    (λ turns branch passed.
    let c : Context = context_of p turns branch line in
    let next : Next (Flow Slots) = beneath p turns branch line in
    sym (ap (λ (row : List PStmt). exec_all c row line.frame.slots (through c line.frame.parts next) passed) none ∙ ap (λ (parts : List Part). through c parts next (GoesOn line.frame.slots) passed) nothing))
    (omega arith) there

-- a line that stands in front of a `cobegin`
pub cobegins : (p : PProgram) (at : Place) (blocks : Bor (List Branch)) (slots : Slots) → StandsFor p at (Cobegin blocks.now) slots (Branches blocks)
cobegins p at blocks slots = record {
  same = λ turns branch left next passed. ap (λ (children : Tasks). forked children (next (GoesOn slots) (suc passed))) (sym (branches-list (context_from p turns branch left) passed blocks.now slots));
  few = λ turns. tt;
}

-- where a line came to that stands
pub came-stands : (p : PProgram) (line : Line) (stands : Bool) (turns : ℕ) (branch : List ℕ) (passed : ℕ) (task : Task) → stands ≡ true
    → came_to stands p line turns branch passed ≡ task → task_of p turns branch passed line ≡ task
came-stands p line stands turns branch passed task is came = rw is at came

-- and where one came to that goes on
pub came-moves : (p : PProgram) (line : Line) (stands : Bool) (turns : ℕ) (branch : List ℕ) (passed : ℕ) (task : Task) → stands ≡ false
    → came_to stands p line turns branch passed ≡ task → moving p line turns branch passed ≡ task
came-moves p line stands turns branch passed task is came = rw is at came
