-- How a replay goes on, step by step.
use Rattle.std.proofs.Common.{◌≡◌, ℕ, zero, suc, ℤ, ◌+◌, ◌-◌, ◌%◌, ◌<◌, ◌≤◌, true, List, [], ◌∷◌, ◌++◌, drop, Option, None, Some, refl, sym, ap, ◌∙◌, subst, arith, append_assoc, append-nil, add-one}
use Rattle.std.specs.Prelude.{option_map, Result, Ok, Err, OnOk}
use Rattle.lq_tree.specs.declared.place.Place.{Place}
use Rattle.lq_tree.specs.declared.plain.PProgram.{PProgram}
use Rattle.lq_log.specs.declared.entry.Entry.{Entry}
use Rattle.lq_shelf.specs.Sink.{Appends, AppendsPrefix}
use Rattle.lq_shelf.proofs.Pieces.{Appends-nil, Appends-append, AppendsPrefix-all, AppendsPrefix-append, AppendsPrefix-more}
use Rattle.lq_meaning.specs.declared.end.End.{End}
use Rattle.lq_meaning.specs.End.{Tells}
use Rattle.lq_meaning.specs.Printed.{number_line, number_lines}
use Rattle.std.proofs.lemmas.Grind.{flat_map-append}
use Rattle.lq_meaning.specs.World.{World}
use Rattle.lq_meaning.specs.Ending.{Ending, Trap, Done, Trapped, Strayed, Spent, Unruled}
use Rattle.lq_meaning.specs.Task.{Task, Ended, Due, Fork, none, more, all_ended, first_trap}
use Rattle.lq_meaning.specs.Behaviour.{Beginning, bounded}
use Rattle.lq_machine.specs.declared.machine.Machine.{Machine}
use Rattle.lq_machine.specs.declared.machine.forest.Caught.{Caught}
use Rattle.lq_machine.specs.declared.machine.forest.Counts.{Counts}
use Rattle.lq_machine.specs.Forest.{trap_of, over_by, counts_at, counts_of, no_branch}
use Rattle.lq_machine.specs.Step.{runnable, ending_of, Stepped, Moves, Leaves, step}
use Rattle.lq_machine.specs.Run.{Ran, first_pick, other_picks, ran, behind_entries, stopped, while_runnable, then_run}
use Rattle.lq_machine.specs.Machine.{Stands, Starts, Follows, Makes, Tries, printed_behind, machine_world, runnable_in}
use Rattle.lq_machine.proofs.Printed.{run_adds}
use Rattle.lq_machine.proofs.Machines.{runnable_told}
use Rattle.lq_machine.proofs.Trees.{Told, told, counts_root}

-- the task that has ended
over_task : (task : Task) (trap : Option Caught) → all_ended (more task none) ≡ true → first_trap (more task none) ≡ option_map trap_of trap → task ≡ over_by trap
over_task (Ended Done) None ended first = refl
over_task (Ended Done) (Some caught) ended first = absurd cc
over_task (Ended (Trapped t)) None ended first = absurd cc
over_task (Ended (Trapped t)) (Some caught) ended first = let e : t ≡ trap_of caught = cc in ap (λ (t : Trap). Ended (Trapped t)) e
over_task (Ended (Strayed at)) trap ended first = absurd cc
over_task (Ended Spent) trap ended first = absurd cc
over_task (Ended Unruled) trap ended first = absurd cc
over_task (Due at action next) trap ended first = absurd cc
over_task (Fork children behind) trap ended first = absurd cc

pub ended_told : (m : Machine) (p : PProgram) (turns : ℕ) (task : Task) (counts : Counts) → counts ≡ counts_at m.forest.nodes.items 0 → counts.ended ≡ true → Stands p turns m task → task ≡ over_by counts.trap
ended_told m p turns task counts is ended (tree, is_tree, tasks) =
    let at : counts_of tree ≡ counts = sym (counts_root m.forest.nodes.items _ tree is_tree.fits) ∙ ap (counts_at m.forest.nodes.items) is_tree.first ∙ sym is in
    let here : Told counts (more task none) = subst (λ (c : Counts). Told c (more task none)) at (subst (Told (counts_of tree)) tasks (told m.forest.nodes.items _ p turns no_branch tree is_tree.fits)) in
    over_task task counts.trap (here.ended ∙ ended) here.trap

pub on_ok : {T E : Type 0} (r : Result T E) (P : Type 0) → P → OnOk r P
on_ok (Ok x) P holds = holds
on_ok (Err e) P holds = tt

-- a run before the rest of it
pub record Replays (p : PProgram) (fuel : ℕ) (picks : List ℕ) (b : Beginning) (begun now : Option (List ℕ)) (m : Machine) : Type 0 where
  pub numbers : List ℤ
  pub written : Appends begun now (number_lines numbers)
  pub within : m.cost ≤ fuel
  pub task : Task
  pub stands : Stands p (suc fuel) m task
  pub unstrayed : m.stray ≡ None
  pub so_far : ran fuel picks b.task b.world ≡ behind_entries m.log.items (ran (fuel - m.cost) (drop m.cost picks) task (machine_world m numbers))

-- a run that has come to its end
pub record Replayed (fuel : ℕ) (picks : List ℕ) (b : Beginning) (begun now : Option (List ℕ)) (ending : Ending) (m : Machine) : Type 0 where
  pub numbers : List ℤ
  pub written : Appends begun now (number_lines numbers)
  pub whole : ran fuel picks b.task b.world ≡ behind_entries m.log.items (stopped ending (machine_world m numbers))

number_lines-append : (xs ys : List ℤ) → number_lines (xs ++ ys) ≡ number_lines xs ++ number_lines ys
number_lines-append xs ys = flat_map-append number_line xs ys

behind-behind : (a b : List Entry) (r : Ran) → behind_entries a (behind_entries b r) ≡ behind_entries (a ++ b) r
behind-behind a b r = ap (λ (log : List Entry). record { outcome = r.outcome; log = log }) (sym (append_assoc a b r.log))

rest_of_picks : (picks : List ℕ) (n : ℕ) → other_picks (drop n picks) ≡ drop (n + 1) picks
rest_of_picks picks n = rw add-one (rest n picks) where
  rest : (n : ℕ) (picks : List ℕ) → other_picks (drop n picks) ≡ drop (suc n) picks
  rest zero [] = refl
  rest (suc n) [] = refl
  rest zero (pick ∷ picks) = refl
  rest (suc n) (pick ∷ picks) = rest n picks

goes_while : (n : ℕ) (task : Task) (w : World) (next : Task → World → Ran) → 0 < n → while_runnable n task w next ≡ next task w
goes_while zero task w next runs = absurd (omega (arith, runs))
goes_while (suc n) task w next runs = refl

stops_while : (n : ℕ) (task : Task) (w : World) (next : Task → World → Ran) → n ≡ 0 → while_runnable n task w next ≡ stopped (ending_of task) w
stops_while zero task w next still = refl
stops_while (suc n) task w next still = absurd (omega (arith, still))

ran_still : (fuel : ℕ) (picks : List ℕ) (task : Task) (w : World) → runnable task ≡ 0 → ran fuel picks task w ≡ stopped (ending_of task) w
ran_still zero picks task w still = stops_while (runnable task) task w _ still
ran_still (suc fuel) picks task w still = stops_while (runnable task) task w _ still

ran_spent : (fuel : ℕ) (picks : List ℕ) (task : Task) (w : World) → fuel ≡ 0 → 0 < runnable task → ran fuel picks task w ≡ stopped Spent w
ran_spent zero picks task w none' runs = goes_while (runnable task) task w _ runs
ran_spent (suc fuel) picks task w none' runs = absurd (omega (arith, none'))

ran_step : (fuel more' : ℕ) (picks : List ℕ) (task : Task) (w : World) → fuel ≡ suc more' → 0 < runnable task
    → ran fuel picks task w ≡ then_run (step task (first_pick picks % runnable task) w) (ran more' (other_picks picks))
ran_step fuel more' picks task w is runs = ap (λ (f : ℕ). ran f picks task w) is ∙ goes_while (runnable task) task w _ runs

-- behind a step a run only adds to what was printed
then_adds : (s : Stepped Task) (fuel : ℕ) (picks : List ℕ) → (others : List ℤ) × ((then_run s (ran fuel picks)).outcome.world.printed ≡ printed_behind s ++ others)
then_adds (Moves entries task w) fuel picks = run_adds fuel picks task w
then_adds (Leaves at w) fuel picks = ([], sym (append-nil w.printed))

regroup : (a b c d : List ℤ) → (a ++ (b ++ c)) ++ d ≡ (a ++ b) ++ (c ++ d)
regroup a b c d = simp append_assoc

-- a replay begins
pub replay_begins : (p : PProgram) (fuel words : ℕ) (input : List ℤ) (picks : List ℕ) (m : Machine) (begun : Option (List ℕ)) → Starts p words input m → Replays p fuel picks (bounded (suc fuel) words p input) begun begun m
replay_begins p fuel words input picks m begun starts =
    let b = bounded (suc fuel) words p input in
    record {
      numbers = [];
      written = Appends-nil begun;
      within = omega (arith, starts.cost);
      task = b.task;
      stands = starts.task (suc fuel) (omega arith);
      unstrayed = starts.stray;
      so_far =
          sym (ap (λ (log : List Entry). behind_entries log (ran (fuel - m.cost) (drop m.cost picks) b.task (machine_world m []))) starts.log
          ∙ ap (λ (w : World). behind_entries [] (ran (fuel - m.cost) (drop m.cost picks) b.task w)) (starts.world (suc fuel))
          ∙ ap (λ (k : ℕ). behind_entries [] (ran (fuel - k) (drop k picks) b.task b.world)) starts.cost
          ∙ ap (λ (f : ℕ). ran f picks b.task b.world) (let e : fuel - 0 ≡ fuel = omega arith in e));
    }

module _ (p : PProgram) (fuel : ℕ) (picks : List ℕ) (b : Beginning) (begun now : Option (List ℕ)) (old : Machine) (under : Replays p fuel picks b begun now old) where
  -- no leaf is runnable
  pub replay_ends : runnable_in old ≡ 0 → Replayed fuel picks b begun now (ending_of under.task) old
  replay_ends still = record {
    numbers = under.numbers;
    written = under.written;
    whole = under.so_far ∙ ap (behind_entries old.log.items) (ran_still (fuel - old.cost) (drop old.cost picks) under.task (machine_world old under.numbers) (sym (runnable_told old p (suc fuel) under.task under.stands) ∙ still));
  }

  -- the fuel is spent
  pub replay_spent : 0 < runnable_in old → fuel ≤ old.cost → Replayed fuel picks b begun now Spent old
  replay_spent runs spent = record {
    numbers = under.numbers;
    written = under.written;
    whole = under.so_far ∙ ap (behind_entries old.log.items) (ran_spent (fuel - old.cost) (drop old.cost picks) under.task (machine_world old under.numbers) (omega (arith, spent)) (omega (arith, runs, runnable_told old p (suc fuel) under.task under.stands)));
  }

  -- a step was made
  abbrev pub After : (next : Option (List ℕ)) → (new : Machine) → Option Place → Type 0
  After next new None = Replays p fuel picks b begun next new
  After next new (Some at) = Replayed fuel picks b begun next (Strayed at) new

  module _ (new : Machine) (next : Option (List ℕ)) (runs : 0 < runnable_in old) (left : old.cost < fuel) (cost : new.cost ≡ old.cost + 1) (added : List ℤ) (wrote : Appends now next (number_lines added)) where
    abbrev stepped : Stepped Task
    stepped = step under.task (first_pick (drop old.cost picks) % runnable under.task) (machine_world old under.numbers)

    rest : ran (fuel - old.cost) (drop old.cost picks) under.task (machine_world old under.numbers) ≡ then_run stepped (ran (fuel - new.cost) (drop new.cost picks))
    rest =
        ran_step (fuel - old.cost) (fuel - new.cost) (drop old.cost picks) under.task (machine_world old under.numbers) (omega (arith, left, cost)) (omega (arith, runs, runnable_told old p (suc fuel) under.task under.stands))
        ∙ ap (λ (others : List ℕ). then_run stepped (ran (fuel - new.cost) others)) (rest_of_picks picks old.cost ∙ ap (λ (k : ℕ). drop k picks) (sym cost))

    all_written : Appends begun next (number_lines (under.numbers ++ added))
    all_written = subst (Appends begun next) (sym (number_lines-append under.numbers added)) (Appends-append begun now next (number_lines under.numbers) (number_lines added) under.written wrote)

    after_by : (s : Stepped Task) → stepped ≡ s → Follows p (suc fuel) old new (under.numbers ++ added) s → (o : Option Place) → new.stray ≡ o → After next new o
    after_by (Moves entries task w) is (stands, world, log, stray) (Some at) here = absurd (let e : Some at ≡ None = sym here ∙ stray ∙ under.unstrayed in cc)
    after_by (Leaves at' w) is (stray, world, log) None here = absurd (let e : None ≡ Some at' = sym here ∙ stray in cc)
    after_by (Moves entries task w) is (stands, world, log, stray) None here = record {
      numbers = under.numbers ++ added;
      written = all_written;
      within = omega (arith, left, cost);
      task = task;
      stands = stands;
      unstrayed = here;
      so_far =
          under.so_far ∙ ap (behind_entries old.log.items) (rest ∙ ap (λ (s : Stepped Task). then_run s (ran (fuel - new.cost) (drop new.cost picks))) is)
          ∙ behind-behind old.log.items entries (ran (fuel - new.cost) (drop new.cost picks) task w)
          ∙ ap (λ (log : List Entry). behind_entries log (ran (fuel - new.cost) (drop new.cost picks) task w)) (sym log)
          ∙ ap (λ (w : World). behind_entries new.log.items (ran (fuel - new.cost) (drop new.cost picks) task w)) world;
    }
    after_by (Leaves at' w) is (stray, world, log) (Some at) here = record {
      numbers = under.numbers ++ added;
      written = all_written;
      whole =
          let places : at' ≡ at = let e : Some at' ≡ Some at = sym stray ∙ here in cc in
          under.so_far ∙ ap (behind_entries old.log.items) (rest ∙ ap (λ (s : Stepped Task). then_run s (ran (fuel - new.cost) (drop new.cost picks))) is)
          ∙ ap (λ (at : Place). behind_entries old.log.items (stopped (Strayed at) w)) places
          ∙ ap (λ (log : List Entry). behind_entries log (stopped (Strayed at) w)) (sym log)
          ∙ ap (λ (w : World). behind_entries new.log.items (stopped (Strayed at) w)) world;
    }

  pub replay_after : (new : Machine) (next : Option (List ℕ)) → 0 < runnable_in old → old.cost < fuel → Makes now next p old new (first_pick (drop old.cost picks)) → After next new new.stray
  replay_after new next runs left (added, wrote, cost, follows) =
      after_by new next runs left cost added wrote (step under.task (first_pick (drop old.cost picks) % runnable under.task) (machine_world old under.numbers)) refl
      (follows (suc fuel) under.task under.numbers (omega (arith, left, cost)) under.stands) new.stray refl

  -- what was written where a step failed
  pub replay_broken : (next : Option (List ℕ)) → 0 < runnable_in old → old.cost < fuel → Tries now next p old (first_pick (drop old.cost picks)) → AppendsPrefix begun next (number_lines (ran fuel picks b.task b.world).outcome.world.printed)
  replay_broken next runs left (added, prefix, prints) =
      let s = step under.task (first_pick (drop old.cost picks) % runnable under.task) (machine_world old under.numbers) in
      let printed = prints (suc fuel) under.task under.numbers (omega (arith, left)) under.stands in
      let rest = ran_step (fuel - old.cost) (fuel - (old.cost + 1)) (drop old.cost picks) under.task (machine_world old under.numbers) (omega (arith, left)) (omega (arith, runs, runnable_told old p (suc fuel) under.task under.stands)) in
      let grows = then_adds s (fuel - (old.cost + 1)) (other_picks (drop old.cost picks)) in
      let all : (ran fuel picks b.task b.world).outcome.world.printed ≡ (under.numbers ++ added) ++ (printed.0 ++ grows.0)
      = ap (λ (r : Ran). r.outcome.world.printed) under.so_far ∙ ap (λ (r : Ran). r.outcome.world.printed) rest ∙ grows.1 ∙ ap (λ (l : List ℤ). l ++ grows.0) printed.1 ∙ regroup under.numbers added printed.0 grows.0 in
      let lines : number_lines (ran fuel picks b.task b.world).outcome.world.printed ≡ (number_lines under.numbers ++ number_lines added) ++ number_lines (printed.0 ++ grows.0)
      = ap number_lines all ∙ number_lines-append (under.numbers ++ added) (printed.0 ++ grows.0) ∙ ap (λ (l : List ℕ). l ++ number_lines (printed.0 ++ grows.0)) (number_lines-append under.numbers added) in
      subst (AppendsPrefix begun next) (sym lines)
      (AppendsPrefix-more begun next (number_lines under.numbers ++ number_lines added) (number_lines (printed.0 ++ grows.0))
      (AppendsPrefix-append begun now next (number_lines under.numbers) (number_lines added) under.written prefix))

-- the end of a replay, what it tells and what was written
module _ (fuel : ℕ) (picks : List ℕ) (b : Beginning) (begun now : Option (List ℕ)) (ending : Ending) (m : Machine) (done : Replayed fuel picks b begun now ending m) where
  pub done_tells : (end : End) → ((printed : List ℤ) → Tells end (record { ending = ending; world = machine_world m printed })) → Tells end (ran fuel picks b.task b.world).outcome
  done_tells end tells = subst (Tells end) (sym (ap (λ (r : Ran). r.outcome) done.whole)) (tells done.numbers)

  pub done_log : m.log.items ≡ (ran fuel picks b.task b.world).log
  done_log = sym (ap (λ (r : Ran). r.log) done.whole ∙ append-nil m.log.items)

  pub done_all : Appends begun now (number_lines (ran fuel picks b.task b.world).outcome.world.printed)
  done_all = subst (λ (l : List ℤ). Appends begun now (number_lines l)) (sym (ap (λ (r : Ran). r.outcome.world.printed) done.whole)) done.written

  pub done_prefix : AppendsPrefix begun now (number_lines (ran fuel picks b.task b.world).outcome.world.printed)
  done_prefix = AppendsPrefix-all begun now (number_lines (ran fuel picks b.task b.world).outcome.world.printed) done_all
