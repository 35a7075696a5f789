-- What a turn of a run in order makes of a run under way.
use Rattle.std.proofs.Common.{◌≡◌, ℕ, suc, ◌+◌, ◌<◌, ℤ, Bool, true, false, nat_lt, if◌then◌else◌, List, [], ◌∷◌, ◌++◌, Option, Some, refl, sym, ap, ◌∙◌, subst, add-one, arith}
use Rattle.std.specs.Prelude.{option_map}
use Rattle.std.proofs.lemmas.List.{append-nil}
use Rattle.std.proofs.lemmas.List.Concat.{flat_map-append}
use Rattle.lq_tree.specs.declared.place.Place.{Place}
use Rattle.lq_tree.specs.declared.trap.TrapKind.{TrapKind}
use Rattle.lq_tree.specs.declared.plain.PProgram.{PProgram}
use Rattle.lq_shelf.specs.declared.sink.Put.{Put}
use Rattle.lq_shelf.specs.declared.sink.Put.TheVariants.{Failed, NoMemory as NoMemoryPut}
use Rattle.lq_shelf.specs.Sink.{Appends, AppendsPrefix}
use Rattle.lq_shelf.proofs.Pieces.{Appends-append, AppendsPrefix-all, AppendsPrefix-append, AppendsPrefix-more}
use Rattle.lq_meaning.specs.declared.action.Action.{Action}
use Rattle.lq_meaning.specs.declared.action.Action.TheVariants.{Allocate, Load, Store, Print, Enter, Test, Start}
use Rattle.lq_meaning.specs.declared.heap.Acted.{Acted}
use Rattle.lq_meaning.specs.declared.heap.Acted.TheVariants.{Answer, Trap as TrapActed, Stray}
use Rattle.lq_meaning.specs.declared.heap.Heap.{Heap}
use Rattle.lq_meaning.specs.declared.line.Line.{Line}
use Rattle.lq_meaning.specs.declared.line.Standing.{Standing}
use Rattle.lq_meaning.specs.declared.line.Standing.TheVariants.{Due as IsDue}
use Rattle.lq_meaning.specs.declared.lines.Caught.{Caught}
use Rattle.lq_meaning.specs.declared.lines.Turn.{Turn}
use Rattle.lq_meaning.specs.declared.lines.Turn.TheVariants.{Run as RunTurn, Leave}
use Rattle.lq_meaning.specs.declared.run.Runner.{Runner}
use Rattle.lq_meaning.specs.World.{World, act}
use Rattle.lq_meaning.specs.Ending.{Trap, Ending, Strayed, Spent, Unruled, Outcome}
use Rattle.lq_meaning.specs.Control.{trapped, Came, Gives, Stops, Run, give, go_on, due}
use Rattle.lq_meaning.specs.Control as control
use Rattle.lq_meaning.specs.Laws.{Grows}
use Rattle.lq_meaning.specs.Laws as law
use Rattle.lq_meaning.specs.Task.{Task, Ended, Due}
use Rattle.lq_meaning.specs.InOrder.{answers, in_order, come_to}
use Rattle.lq_meaning.specs.Printed.{number_line, number_lines}
use Rattle.lq_meaning.specs.Heap.{heap_world, comes, printed_by}
use Rattle.lq_meaning.specs.Line.{IsBelow, task_of, answered, standing_of, StandsAt}
use Rattle.lq_meaning.specs.Lines.{trap_of}
use Rattle.lq_meaning.specs.Runner.{IsUnderWay, HasEnded, Halts, halt_of, world_of}
use Rattle.lq_meaning.proofs.Stands.{stands}
use Rattle.lq_meaning.proofs.OpenForks.{IsBelow-more, Waits-more}
use Rattle.lq_meaning.proofs.OrderGrows.{answers_grows, in_order_grows, rest_grows, behind_grows}
use Rattle.lq_meaning.proofs.Growing.{grows_not}
use Rattle.std.proofs.lemmas.Bool.Decides.{nat_tests}

pub number_lines-append : (xs ys : List ℤ) → number_lines (xs ++ ys) ≡ number_lines xs ++ number_lines ys
number_lines-append xs ys = flat_map-append number_line xs ys

-- an action's number stands behind those before it
printed_behind : (action : Action) (printed : List ℤ) → printed_by action printed ≡ printed ++ printed_by action []
printed_behind (Print number) printed = refl
printed_behind (Allocate count fields) printed = sym (append-nil printed)
printed_behind (Load pointer index field) printed = sym (append-nil printed)
printed_behind (Store pointer index field word) printed = sym (append-nil printed)
printed_behind (Enter more) printed = sym (append-nil printed)
printed_behind Test printed = sym (append-nil printed)
printed_behind Start printed = sym (append-nil printed)

-- the lines of the first numbers are a front of those of all
first_numbers : (begun now : Option (List ℕ)) (first all added : List ℤ) → all ≡ first ++ added → AppendsPrefix begun now (number_lines first) → AppendsPrefix begun now (number_lines all)
first_numbers begun now first all added is front =
    subst (λ (numbers : List ℤ). AppendsPrefix begun now (number_lines numbers)) (sym is)
    (subst (AppendsPrefix begun now) (sym (number_lines-append first added)) (AppendsPrefix-more begun now (number_lines first) (number_lines added) front))

-- a run under way that breaks off has written the first of its lines
pub broken_off : (p : PProgram) (fuel : ℕ) (begun now : Option (List ℕ)) (r : Runner) (turn : Turn) (o : Outcome) → IsUnderWay p fuel begun now r turn o → AppendsPrefix begun now (number_lines o.world.printed)
broken_off p fuel begun now r turn o under =
    let grows = rest_grows fuel p r.lines turn (world_of r under.printed) o under.rest in
    first_numbers begun now under.printed o.world.printed grows.added grows.printed (AppendsPrefix-all begun now (number_lines under.printed) under.written)

-- a line that wasn't put whole
pub put_halts : (put : Put) (r : Runner) (begun now : Option (List ℕ)) (o : Outcome) → AppendsPrefix begun now (number_lines o.world.printed) → Halts (halt_of put) r begun now o
put_halts Failed r begun now o front = front
put_halts NoMemoryPut r begun now o front = front

-- the whole run has ended with its lowest line
pub whole_done : (p : PProgram) (fuel : ℕ) (begun now : Option (List ℕ)) (r new : Runner) (trap : Option Caught) (o : Outcome) (printed : List ℤ) → Appends begun now (number_lines printed)
    → o ≡ come_to (Gives (option_map trap_of trap) (world_of r printed)) → new.heap ≡ r.heap → new.cost ≡ r.cost → (left : Ending) → (come_to (Gives (option_map trap_of trap) (world_of r printed))).ending ≡ left
    → (come_to (Gives (option_map trap_of trap) (world_of r printed))).world ≡ world_of r printed → HasEnded begun now left new o
whole_done p fuel begun now r new trap o printed written is heap cost left ends world =
    let same : o.world ≡ world_of r printed = ap (λ (o : Outcome). o.world) is ∙ world in
    record {
      leaves = record {
        ending = ap (λ (o : Outcome). o.ending) is ∙ ends;
        memory = ap (λ (w : World). w.memory) same ∙ sym (ap (λ (h : Heap). h.memory) heap);
        cost = ap (λ (w : World). w.cost) same ∙ sym cost;
      };
      written = subst (λ (w : World). Appends begun now (number_lines w.printed)) (sym same) written;
    }

-- the line on top has ended
pub ended_turn : (p : PProgram) (fuel : ℕ) (begun now : Option (List ℕ)) (r : Runner) (o : Outcome) (ending : Ending) (trap : Option Caught)
    → ((branch : List ℕ) (passed : ℕ) → task_of p (suc fuel) branch passed r.lines.top ≡ Ended ending) → ((w : World) → in_order fuel (Ended ending) w ≡ Gives (option_map trap_of trap) w)
    → IsUnderWay p fuel begun now r RunTurn o → IsUnderWay p fuel begun now r (Leave trap) o
ended_turn p fuel begun now r o ending trap task gives under = record {
  printed = under.printed;
  written = under.written;
  rest = record {
    within = under.rest.within;
    next = under.rest.next;
    waits = under.rest.waits;
    came = under.rest.came;
    top = under.rest.top.3 ∙ ap (λ (task : Task). in_order fuel task (world_of r under.printed)) (task under.rest.top.0 under.rest.top.1) ∙ gives (world_of r under.printed);
    outcome = under.rest.outcome;
  };
}

-- the line on top stands at a form without a rule
pub unruled_turn : (p : PProgram) (fuel : ℕ) (begun now : Option (List ℕ)) (r : Runner) (o : Outcome)
    → ((branch : List ℕ) (passed : ℕ) → task_of p (suc fuel) branch passed r.lines.top ≡ Ended Unruled) → IsUnderWay p fuel begun now r RunTurn o → (o.ending ≡ Unruled) × Appends begun now (number_lines o.world.printed)
unruled_turn p fuel begun now r o task under =
    let w = world_of r under.printed in
    let came : under.rest.came ≡ Stops Unruled w = under.rest.top.3 ∙ ap (λ (task : Task). in_order fuel task w) (task under.rest.top.0 under.rest.top.1) in
    let is : o ≡ record { ending = Unruled; world = w } = under.rest.outcome ∙ ap (λ (came : Came (Option Trap)). come_to (go_on came under.rest.next)) came in
    (ap (λ (o : Outcome). o.ending) is, subst (λ (o : Outcome). Appends begun now (number_lines o.world.printed)) (sym is) under.written)

-- where the fuel is spent and an action is due
due_spent : (fuel : ℕ) (at : Place) (action : Action) (w : World) → w.cost ≡ fuel → due fuel at action w ≡ Stops Spent w
due_spent fuel at action w spent =
    let test : nat_lt w.cost fuel ≡ false = grind (arith, nat_tests) in
    ap (λ (b : Bool). if b then control.answered at (act action w) else Stops Spent w) test

due_left : (fuel : ℕ) (at : Place) (action : Action) (w : World) → w.cost < fuel → due fuel at action w ≡ control.answered at (act action w)
due_left fuel at action w left =
    let test : nat_lt w.cost fuel ≡ true = grind (arith, nat_tests) in
    ap (λ (b : Bool). if b then control.answered at (act action w) else Stops Spent w) test

-- the world behind an action, whatever comes of it
acted_world : (acted : Acted) (at : Place) (w : World) → law.world_of (control.answered at (comes acted w)) ≡ w
acted_world (Answer word) at w = refl
acted_world (TrapActed kind) at w = refl
acted_world Stray at w = refl

module _ (p : PProgram) (fuel : ℕ) (begun now : Option (List ℕ)) (r : Runner) (o : Outcome) (action : Action) (at : Place) (stands_at : standing_of r.lines.top ≡ IsDue action at) (under : IsUnderWay p fuel begun now r RunTurn o) where
  abbrev here : World
  here = world_of r under.printed

  abbrev branch : List ℕ
  branch = under.rest.top.0

  abbrev passed : ℕ
  passed = under.rest.top.1

  -- what the run in order goes on with, by the word
  abbrev goes : ℤ → Run (Option Trap)
  goes word w = in_order fuel (answered p (suc fuel) branch passed r.lines.top word) w

  came_is : under.rest.came ≡ answers (due fuel at action here) goes
  came_is =
      let task : task_of p (suc fuel) branch passed r.lines.top ≡ Due (record { path = branch ++ passed ∷ []; place = at }) action (answered p (suc fuel) branch passed r.lines.top) =
      subst (λ (standing : Standing). StandsAt standing p (suc fuel) branch passed r.lines.top) stands_at (stands p (suc fuel) branch passed r.lines.top) in
      under.rest.top.3 ∙ ap (λ (task : Task). in_order fuel task here) task

  -- the fuel is spent
  pub spent_turn : r.cost ≡ fuel → (o.ending ≡ Spent) × Appends begun now (number_lines o.world.printed)
  spent_turn spent =
      let came : under.rest.came ≡ Stops Spent here = came_is ∙ ap (λ (a : Came ℤ). answers a goes) (due_spent fuel at action here spent) in
      let is : o ≡ record { ending = Spent; world = here } = under.rest.outcome ∙ ap (λ (came : Came (Option Trap)). come_to (go_on came under.rest.next)) came in
      (ap (λ (o : Outcome). o.ending) is, subst (λ (o : Outcome). Appends begun now (number_lines o.world.printed)) (sym is) under.written)

  module _ (now' : Option (List ℕ)) (heap : Heap) (acted : Acted) (left : r.cost < fuel)
      (acts : (cost : ℕ) (printed : List ℤ) → act action (heap_world r.heap cost printed) ≡ comes acted (heap_world heap (cost + 1) (printed_by action printed))) where
    abbrev after : World
    after = heap_world heap (r.cost + 1) (printed_by action under.printed)

    came_after : under.rest.came ≡ answers (control.answered at (comes acted after)) goes
    came_after =
        came_is ∙ ap (λ (a : Came ℤ). answers a goes) (due_left fuel at action here left ∙ ap (control.answered at) (acts r.cost under.printed))

    outcome_after : o ≡ come_to (go_on (answers (control.answered at (comes acted after)) goes) under.rest.next)
    outcome_after = under.rest.outcome ∙ ap (λ (came : Came (Option Trap)). come_to (go_on came under.rest.next)) came_after

    written_after : Appends now now' (number_lines (printed_by action [])) → Appends begun now' (number_lines (printed_by action under.printed))
    written_after more =
        subst (λ (numbers : List ℤ). Appends begun now' (number_lines numbers)) (sym (printed_behind action under.printed))
        (subst (Appends begun now') (sym (number_lines-append under.printed (printed_by action [])))
        (Appends-append begun now now' (number_lines under.printed) (number_lines (printed_by action [])) under.written more))

    -- the action was done, and the run breaks off before it goes on
    pub acted_broken_off : AppendsPrefix now now' (number_lines (printed_by action [])) → AppendsPrefix begun now' (number_lines o.world.printed)
    acted_broken_off front =
        let answer : Grows fuel after (law.world_of (answers (control.answered at (comes acted after)) goes)) =
        answers_grows fuel (control.answered at (comes acted after)) goes (rw (acted_world acted at after) (grows_not fuel after)) (λ word w. in_order_grows fuel (answered p (suc fuel) branch passed r.lines.top word) w) in
        let grows : Grows fuel after o.world = rw outcome_after (behind_grows fuel p r.lines RunTurn here after o under.rest (answers (control.answered at (comes acted after)) goes) answer) in
        first_numbers begun now' (under.printed ++ printed_by action []) o.world.printed grows.added (grows.printed ∙ ap (λ (numbers : List ℤ). numbers ++ grows.added) (printed_behind action under.printed))
        (subst (AppendsPrefix begun now') (sym (number_lines-append under.printed (printed_by action []))) (AppendsPrefix-append begun now now' (number_lines under.printed) (number_lines (printed_by action [])) under.written front))

    -- the action is answered
    pub answered_turn : (line : Line) (word : ℤ) → acted ≡ Answer word → Appends now now' (number_lines (printed_by action []))
        → ((action : Action) (at : Place) (turns : ℕ) (branch : List ℕ) (passed : ℕ) → standing_of r.lines.top ≡ IsDue action at → IsBelow turns r.lines.top
        → task_of p (suc turns) branch passed line ≡ answered p (suc turns) branch passed r.lines.top word)
        → ((turns : ℕ) → IsBelow turns r.lines.top → IsBelow (suc turns) line)
        → IsUnderWay p fuel begun now' (record { heap = heap; cost = r.cost + 1; lines = record r.lines { top = line } }) RunTurn o
    answered_turn line word is more task below =
        let one : suc r.cost ≡ r.cost + 1 = sym (add-one r.cost) in
        record {
          printed = printed_by action under.printed;
          written = written_after more;
          rest = record {
            within = omega arith;
            next = under.rest.next;
            waits = Waits-more p fuel (suc r.cost) (suc (r.cost + 1)) (omega arith) r.lines.forks.items give under.rest.next under.rest.waits;
            came = in_order fuel (task_of p (suc fuel) branch passed line) after;
            top = (branch, passed, subst (λ (n : ℕ). IsBelow (suc n) line) one (below (suc r.cost) under.rest.top.2), refl);
            outcome =
                outcome_after
                ∙ ap (λ (a : Acted). come_to (go_on (answers (control.answered at (comes a after)) goes) under.rest.next)) is
                ∙ ap (λ (task : Task). come_to (go_on (in_order fuel task after) under.rest.next)) (sym (task action at fuel branch passed stands_at (IsBelow-more (suc r.cost) fuel (omega arith) r.lines.top under.rest.top.2)));
          };
        }

    -- the action traps
    pub trapped_turn : (kind : TrapKind) → acted ≡ TrapActed kind → Appends now now' (number_lines (printed_by action []))
        → IsUnderWay p fuel begun now' (record { heap = heap; cost = r.cost + 1; lines = r.lines }) (Leave (Some (record { kind = kind; at = at }))) o
    trapped_turn kind is more = record {
      printed = printed_by action under.printed;
      written = written_after more;
      rest = record {
        within = omega arith;
        next = under.rest.next;
        waits = Waits-more p fuel (suc r.cost) (suc (r.cost + 1)) (omega arith) r.lines.forks.items give under.rest.next under.rest.waits;
        came = Gives (Some (record { kind = kind; at = at })) after;
        top = refl;
        outcome = outcome_after ∙ ap (λ (a : Acted). come_to (go_on (answers (control.answered at (comes a after)) goes) under.rest.next)) is;
      };
    }

    -- the action leaves its block
    pub strayed_turn : acted ≡ Stray → Appends now now' (number_lines (printed_by action [])) → (o.ending ≡ Strayed at) × Appends begun now' (number_lines o.world.printed)
    strayed_turn is more =
        let ends : o ≡ record { ending = Strayed at; world = after } = outcome_after ∙ ap (λ (a : Acted). come_to (go_on (answers (control.answered at (comes a after)) goes) under.rest.next)) is in
        (ap (λ (o : Outcome). o.ending) ends, subst (λ (o : Outcome). Appends begun now' (number_lines o.world.printed)) (sym ends) (written_after more))
