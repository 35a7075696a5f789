-- How a run in order begins, and what its end tells.
use Rattle.std.proofs.Common.{◌≡◌, ◌≢◌, ℕ, zero, suc, ◌<◌, ◌≤◌, ℤ, pos, Bool, true, false, nat_lt, if◌then◌else◌, List, [], ◌∷◌, length, Option, None, Some, refl, sym, ap, ◌∙◌, subst, arith}
use Rattle.std.specs.Prelude.{slice_get, IfSome, IfNone, IsSomeAnd}
use Rattle.std.proofs.lemmas.Bool.{cond_both}
use Rattle.std.proofs.lemmas.Bool.Decides.{nat_tests}
use Rattle.lq_tree.specs.declared.place.Place.{Place}
use Rattle.lq_tree.specs.declared.trap.TrapKind.TheVariants.{Words}
use Rattle.lq_tree.specs.declared.plain.PFunc.{PFunc}
use Rattle.lq_tree.specs.declared.plain.PProgram.{PProgram}
use Rattle.lq_shelf.specs.Sink.{Appends, AppendsPrefix}
use Rattle.lq_shelf.proofs.Pieces.{Appends-nil, AppendsPrefix-all}
use Rattle.lq_meaning.specs.declared.heap.Heap.{Heap}
use Rattle.lq_meaning.specs.declared.lines.OpenFork.{OpenFork}
use Rattle.lq_meaning.specs.declared.lines.Turn.TheVariants.{Run as RunTurn}
use Rattle.lq_meaning.specs.declared.run.Halt.{Halt}
use Rattle.lq_meaning.specs.declared.run.Halt.TheVariants.{Done as DoneHalt, Trapped as TrappedHalt, Strayed as StrayedHalt, Spent as SpentHalt, Unruled as UnruledHalt, SinkFault, NoMemory}
use Rattle.lq_meaning.specs.declared.run.Runner.{Runner}
use Rattle.lq_meaning.specs.declared.run.Opening.{Opening}
use Rattle.lq_meaning.specs.declared.run.Opening.TheVariants.{Ready, Refused, Missing}
use Rattle.lq_meaning.specs.World.{World}
use Rattle.lq_meaning.specs.Ending.{Trap, Unruled, Outcome}
use Rattle.lq_meaning.specs.Control.{trapped, Came, Gives, Stops, give, go_on}
use Rattle.lq_meaning.specs.Entry.{input_pointer, start, start_on, arguments, enter}
use Rattle.lq_meaning.specs.Task.{Task, Ended}
use Rattle.lq_meaning.specs.Behaviour.{context, main_task, Beginning, begins, enter_main, bounded}
use Rattle.lq_meaning.specs.PlainMeaning.{sequential}
use Rattle.lq_meaning.specs.Tasks.{IsRegular}
use Rattle.lq_meaning.specs.InOrder.{in_order, come_to, run_in_order}
use Rattle.lq_meaning.specs.Printed.{number_lines}
use Rattle.lq_meaning.specs.End.{Tells, IsOfRun, IsSinkFault}
use Rattle.lq_meaning.specs.Heap.{heap_world}
use Rattle.lq_meaning.specs.Line.{task_of}
use Rattle.lq_meaning.specs.Lines.{Waits}
use Rattle.lq_meaning.specs.Runner.{IsUnderWay, Halts, IsBegun, begins_with, Opens, end_of, world_of}
use Rattle.lq_meaning.proofs.OrderGrows.{regular_rules}

-- nothing comes behind the whole run
go_on-give : (came : Came (Option Trap)) → go_on came give ≡ came
go_on-give (Gives trap w) = refl
go_on-give (Stops ending w) = refl

-- a run that has begun is under way
under_way : (p : PProgram) (fuel : ℕ) (main : PFunc) (words : List ℤ) (heap : Heap) (r : Runner) (w : World) (o : Outcome) → IsBegun p main words heap r → heap_world heap 0 [] ≡ w
    → o ≡ come_to (in_order fuel (main_task (context p (suc fuel)) (Some main) words) w) → (begun : Option (List ℕ)) → IsUnderWay p fuel begun begun r RunTurn o
under_way p fuel main words heap r w o is opens ends begun =
    let here : World = world_of r [] in
    let same : here ≡ w = ap (λ (h : Heap). heap_world h r.cost []) is.same_heap ∙ ap (λ (cost : ℕ). heap_world heap cost []) is.no_cost ∙ opens in
    let some : 0 < suc fuel = omega arith in
    record {
      printed = [];
      written = Appends-nil begun;
      rest = record {
        within = omega (arith, is.no_cost);
        next = give;
        waits = subst (λ (forks : List OpenFork). Waits p fuel (suc r.cost) forks give give) (sym is.no_forks) refl;
        came = in_order fuel (task_of p (suc fuel) [] 0 r.lines.top) here;
        top = ([], 0, is.below (suc r.cost) (omega arith), refl);
        outcome =
            ends
            ∙ ap (λ (v : World). come_to (in_order fuel (main_task (context p (suc fuel)) (Some main) words) v)) (sym same)
            ∙ ap (λ (task : Task). come_to (in_order fuel task here)) (sym (is.task (suc fuel) [] 0 some))
            ∙ ap come_to (sym (go_on-give (in_order fuel (task_of p (suc fuel) [] 0 r.lines.top) here)));
      };
    }

pub opens_with : (p : PProgram) (fuel room : ℕ) (main : PFunc) (words : List ℤ) (heap : Heap) (w : World) (o : Outcome) → heap_world heap 0 [] ≡ w
    → o ≡ come_to (in_order fuel (main_task (context p (suc fuel)) (Some main) words) w) → (opening : Opening) → begins_with p main words heap opening → Opens p fuel room o opening
opens_with p fuel room main words heap w o opens ends (Ready r) is = (is.no_cost, under_way p fuel main words heap r w o is opens ends)
opens_with p fuel room main words heap w o opens ends (Refused at) is = absurd is
opens_with p fuel room main words heap w o opens ends Missing is = absurd is

-- the two arguments of `main`
pub pair_is : (first second : ℤ) (input : List ℤ) → first ≡ input_pointer input → second ≡ pos (length input) → first ∷ second ∷ [] ≡ arguments input
pair_is first second input = λ one two. ap (λ (x : ℤ). x ∷ second ∷ []) one ∙ ap (λ (y : ℤ). input_pointer input ∷ y ∷ []) two

-- a program without `main`
pub no_main : (p : PProgram) (fuel room : ℕ) (input : List ℤ) → slice_get p.funcs p.main ≡ None → run_in_order fuel (bounded (suc fuel) room p input) ≡ record { ending = Unruled; world = start room }
no_main p fuel room input none = ap (λ (f : Option PFunc). run_in_order fuel (enter_main (context p (suc fuel)) f room input)) none

-- `main` by the number of its parameters
module _ (p : PProgram) (fuel room : ℕ) (input : List ℤ) (main : PFunc) (is_main : slice_get p.funcs p.main ≡ Some main) where
  abbrev entered : Beginning
  entered = enter_main (context p (suc fuel)) (Some main) room input

  whole : run_in_order fuel (bounded (suc fuel) room p input) ≡ run_in_order fuel entered
  whole = ap (λ (f : Option PFunc). run_in_order fuel (enter_main (context p (suc fuel)) f room input)) is_main

  abbrev entering : ℕ → Beginning
  entering params = enter (begins (Ended (trapped Words main.at))) (λ words. begins (main_task (context p (suc fuel)) (Some main) words)) params room input

  pub without_input : main.params ≡ 0 → run_in_order fuel (bounded (suc fuel) room p input) ≡ come_to (in_order fuel (main_task (context p (suc fuel)) (Some main) []) (start room))
  without_input none = whole ∙ ap (λ (params : ℕ). run_in_order fuel (entering params)) none

  by_room : (params : ℕ) → (params ≢ 0) → run_in_order fuel (entering params) ≡ run_in_order fuel (if nat_lt room (length input) then begins (Ended (trapped Words main.at)) (start room) else begins (main_task (context p (suc fuel)) (Some main) (arguments input)) (start_on room input))
  by_room zero some = absurd (some refl)
  by_room (suc n) some = refl

  pub refused : main.params ≢ 0 → room < length input → run_in_order fuel (bounded (suc fuel) room p input) ≡ record { ending = trapped Words main.at; world = start room }
  refused some more =
      let test : nat_lt room (length input) ≡ true = grind (arith, nat_tests) in
      whole ∙ by_room main.params some ∙ ap (λ (b : Bool). run_in_order fuel (if b then begins (Ended (trapped Words main.at)) (start room) else begins (main_task (context p (suc fuel)) (Some main) (arguments input)) (start_on room input))) test

  pub on_input : main.params ≢ 0 → length input ≤ room
      → run_in_order fuel (bounded (suc fuel) room p input) ≡ come_to (in_order fuel (main_task (context p (suc fuel)) (Some main) (arguments input)) (start_on room input))
  on_input some fits =
      let test : nat_lt room (length input) ≡ false = grind (arith, nat_tests) in
      whole ∙ by_room main.params some ∙ ap (λ (b : Bool). run_in_order fuel (if b then begins (Ended (trapped Words main.at)) (start room) else begins (main_task (context p (suc fuel)) (Some main) (arguments input)) (start_on room input))) test

-- the end of a run tells of its outcome
pub end_tells : (halt : Halt) (r : Runner) (begun now : Option (List ℕ)) (o : Outcome) → Halts halt r begun now o → IfSome (end_of r halt) (λ e. Tells e o)
end_tells DoneHalt r begun now o halts = halts.leaves
end_tells (TrappedHalt caught) r begun now o halts = halts.leaves
end_tells (StrayedHalt at) r begun now o halts = halts.0
end_tells SpentHalt r begun now o halts = halts.0
end_tells UnruledHalt r begun now o halts = tt
end_tells SinkFault r begun now o halts = tt
end_tells NoMemory r begun now o halts = tt

pub end_all : (halt : Halt) (r : Runner) (begun now : Option (List ℕ)) (o : Outcome) → Halts halt r begun now o → IfSome (end_of r halt) (λ e. IsOfRun e → Appends begun now (number_lines o.world.printed))
end_all DoneHalt r begun now o halts = λ _. halts.written
end_all (TrappedHalt caught) r begun now o halts = λ _. halts.written
end_all (StrayedHalt at) r begun now o halts = λ _. halts.1
end_all SpentHalt r begun now o halts = λ _. halts.1
end_all UnruledHalt r begun now o halts = tt
end_all SinkFault r begun now o halts = λ of_run. absurd of_run
end_all NoMemory r begun now o halts = λ of_run. absurd of_run

pub end_prefix : (halt : Halt) (r : Runner) (begun now : Option (List ℕ)) (o : Outcome) → Halts halt r begun now o → AppendsPrefix begun now (number_lines o.world.printed)
end_prefix DoneHalt r begun now o halts = AppendsPrefix-all begun now (number_lines o.world.printed) halts.written
end_prefix (TrappedHalt caught) r begun now o halts = AppendsPrefix-all begun now (number_lines o.world.printed) halts.written
end_prefix (StrayedHalt at) r begun now o halts = AppendsPrefix-all begun now (number_lines o.world.printed) halts.1
end_prefix SpentHalt r begun now o halts = AppendsPrefix-all begun now (number_lines o.world.printed) halts.1
end_prefix UnruledHalt r begun now o halts = AppendsPrefix-all begun now (number_lines o.world.printed) halts.1
end_prefix SinkFault r begun now o halts = halts
end_prefix NoMemory r begun now o halts = halts

pub end_none : (halt : Halt) (r : Runner) (begun now : Option (List ℕ)) (o : Outcome) → Halts halt r begun now o → IfNone (end_of r halt) (o.ending ≡ Unruled)
end_none DoneHalt r begun now o halts = tt
end_none (TrappedHalt caught) r begun now o halts = tt
end_none (StrayedHalt at) r begun now o halts = tt
end_none SpentHalt r begun now o halts = tt
end_none UnruledHalt r begun now o halts = halts.0
end_none SinkFault r begun now o halts = tt
end_none NoMemory r begun now o halts = tt

-- the end is that of a sink that failed where the run halted at one
pub end_failed : (halt : Halt) (r : Runner) → IsSomeAnd (end_of r halt) IsSinkFault → halt ≡ SinkFault
end_failed DoneHalt r fault = absurd fault
end_failed (TrappedHalt caught) r fault = absurd fault
end_failed (StrayedHalt at) r fault = absurd fault
end_failed SpentHalt r fault = absurd fault
end_failed UnruledHalt r fault = absurd fault
end_failed SinkFault r fault = refl
end_failed NoMemory r fault = absurd fault

-- a run begins at no cost
opens_free : (turns room : ℕ) (p : PProgram) (input : List ℤ) → (bounded turns room p input).world.cost ≡ 0
opens_free turns room p input = of_main (slice_get p.funcs p.main) where
  by_params : (main : PFunc) (params : ℕ) → (enter (begins (Ended (trapped Words main.at))) (λ words. begins (main_task (context p turns) (Some main) words)) params room input).world.cost ≡ 0
  by_params main zero = refl
  by_params main (suc n) = cond_both (nat_lt room (length input)) _ _ (λ (b : Beginning). b.world.cost ≡ 0) (λ _. refl) (λ _. refl)

  of_main : (main : Option PFunc) → (enter_main (context p turns) main room input).world.cost ≡ 0
  of_main None = refl
  of_main (Some main) = by_params main main.params

-- a formed program never comes to a form without a rule
pub formed_ruled : (p : PProgram) (fuel room : ℕ) (input : List ℤ) → run_in_order fuel (bounded (suc fuel) room p input) ≡ sequential fuel room p input
    → IsRegular (bounded (suc fuel) room p input).task (suc fuel) false → (sequential fuel room p input).ending ≢ Unruled
formed_ruled p fuel room input order regular =
    let b = bounded (suc fuel) room p input in
    let free = opens_free (suc fuel) room p input in
    subst (λ (o : Outcome). o.ending ≢ Unruled) order (regular_rules fuel (suc fuel) b.task false b.world regular (omega (arith, free)) (omega (arith, free)))

module _ (p : PProgram) (fuel room : ℕ) (input : List ℤ) (order : run_in_order fuel (bounded (suc fuel) room p input) ≡ sequential fuel room p input) where
  abbrev ordered : Outcome
  ordered = run_in_order fuel (bounded (suc fuel) room p input)

  -- what is made of an opened run tells of the sequential execution
  pub ready_halts : (opening : Opening) (runner : Runner) → opening ≡ Ready runner → Opens p fuel room ordered opening
      → (halt : Halt) (new : Runner) (begun now : Option (List ℕ)) → ((o : Outcome) → IsUnderWay p fuel begun begun runner RunTurn o → Halts halt new begun now o) → Halts halt new begun now (sequential fuel room p input)
  ready_halts opening runner is opens halt new begun now halts =
      let ready : Opens p fuel room ordered (Ready runner) = subst (Opens p fuel room ordered) is opens in
      subst (λ (o : Outcome). Halts halt new begun now o) order (halts ordered (ready.1 begun))

  pub ready_free : (opening : Opening) (runner : Runner) → opening ≡ Ready runner → Opens p fuel room ordered opening → runner.cost ≡ 0
  ready_free opening runner is opens =
      let ready : Opens p fuel room ordered (Ready runner) = subst (Opens p fuel room ordered) is opens in ready.0

  pub refused_is : (opening : Opening) (at : Place) → opening ≡ Refused at → Opens p fuel room ordered opening → sequential fuel room p input ≡ record { ending = trapped Words at; world = start room }
  refused_is opening at is opens = sym order ∙ subst (Opens p fuel room ordered) is opens

  pub missing_is : (opening : Opening) → opening ≡ Missing → Opens p fuel room ordered opening → sequential fuel room p input ≡ record { ending = Unruled; world = start room }
  missing_is opening is opens = sym order ∙ subst (Opens p fuel room ordered) is opens
