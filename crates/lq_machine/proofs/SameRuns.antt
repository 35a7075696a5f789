-- Tasks that are the same for more actions than there is fuel run alike.
use Rattle.std.proofs.Common.{◌≡◌, ℕ, zero, suc, ◌+◌, ◌-◌, ◌%◌, ℤ, nat_lt, if◌then◌else◌, List, refl, ap, subst}
use Rattle.lq_tree.specs.declared.place.Place.{Place}
use Rattle.lq_meaning.specs.World.{World, Acted, Answers, Traps, Strays, act}
use Rattle.lq_meaning.specs.Ending.{Trapped, Spent}
use Rattle.lq_log.specs.declared.entry.Entry.{Entry}
use Rattle.lq_meaning.specs.Task.{Spot, Task, Tasks, more, forked}
use Rattle.lq_meaning.proofs.Kept.{either}
use Rattle.lq_meaning.proofs.TaskBounds.{SameFor, both_ended, both_due, both_fork, AllSameFor, both_none, both_more, same_for_fewer, all_same_for_fewer, same_has_ended, forked_same}
use Rattle.lq_machine.specs.Step.{runnable, all_runnable, ending_of, ending_among, Stepped, Moves, Leaves, moved, logged, resumed, step, step_in}
use Rattle.lq_machine.specs.Run.{first_pick, other_picks, Ran, stopped, behind_entries, then_run, while_runnable, ran}

-- they have as many runnable leaves
mutual
  same_runnable : {n : ℕ} {task other : Task} → SameFor (suc n) task other → runnable task ≡ runnable other
  same_runnable (both_ended ending) = refl
  same_runnable (both_due same) = refl
  same_runnable (both_fork all same) = same_all_runnable all

  same_all_runnable : {n : ℕ} {tasks others : Tasks} → AllSameFor (suc n) tasks others → all_runnable tasks ≡ all_runnable others
  same_all_runnable both_none = refl
  same_all_runnable (both_more same all) = λ i. same_runnable same i + same_all_runnable all i

-- and end alike
mutual
  same_ending : {n : ℕ} {task other : Task} → SameFor (suc n) task other → ending_of task ≡ ending_of other
  same_ending (both_ended ending) = refl
  same_ending (both_due same) = refl
  same_ending (both_fork all same) = same_ending_among all

  same_ending_among : {n : ℕ} {tasks others : Tasks} → AllSameFor (suc n) tasks others → ending_among tasks ≡ ending_among others
  same_ending_among both_none = refl
  same_ending_among (both_more same all) = λ i. if same_has_ended same i then same_ending_among all i else same_ending same i

-- two steps make the same entries and the same world, and leave what a relation holds of
data SameStep {T : Type 0} (R : T → T → Type 0) : Stepped T → Stepped T → Type 0 where
  both_move : {entries : List Entry} {task other : T} {w : World} → R task other → SameStep R (Moves entries task w) (Moves entries other w)
  both_leave : {at : Place} {w : World} → SameStep R (Leaves at w) (Leaves at w)

moved_same : {S T : Type 0} {Q : S → S → Type 0} {R : T → T → Type 0} (f g : S → T) → ((x y : S) → Q x y → R (f x) (g y)) → {s t : Stepped S} → SameStep Q s t → SameStep R (moved f s) (moved g t)
moved_same f g keeps (both_move {task = task} {other = other} same) = both_move (keeps task other same)
moved_same f g keeps both_leave = both_leave

resumed_same : (n : ℕ) (at : Spot) (entries : List Entry) (next next' : ℤ → Task) → ((word : ℤ) → SameFor n (next word) (next' word)) → (r : Acted) → SameStep (SameFor n) (resumed at entries next r) (resumed at entries next' r)
resumed_same n at entries next next' same (Answers word w) = both_move (same word)
resumed_same n at entries next next' same (Traps kind w) = both_move (both_ended (Trapped (record { kind = kind; at = at.place })))
resumed_same n at entries next next' same (Strays w) = both_leave

-- the same leaf makes the same step
mutual
  step_same : {n : ℕ} {task other : Task} → SameFor (suc n) task other → (leaf : ℕ) (w : World) → SameStep (SameFor n) (step task leaf w) (step other leaf w)
  step_same (both_ended ending) leaf w = both_move (both_ended ending)
  step_same {n} (both_due {at = at} {action} {next} {next'} same) leaf w = resumed_same n at (logged at action w) next next' same (act action w)
  step_same {n} (both_fork {children = children} {children'} {behind} {behind'} all same) leaf w =
      moved_same (λ children. forked children behind) (λ children. forked children behind') (λ x y fewer. forked_same n x y behind behind' fewer (same_for_fewer same)) (step_in_same all leaf w)

  step_in_same : {n : ℕ} {tasks others : Tasks} → AllSameFor (suc n) tasks others → (leaf : ℕ) (w : World) → SameStep (AllSameFor n) (step_in tasks leaf w) (step_in others leaf w)
  step_in_same both_none leaf w = both_move both_none
  step_in_same {n} (both_more {task = task} {other} {tasks} {others} same all) leaf w =
      subst (λ count. SameStep (AllSameFor n) (step_in (more task tasks) leaf w) (if nat_lt leaf count then moved (λ task. more task others) (step other leaf w) else moved (more other) (step_in others (leaf - count) w)))
      (same_runnable same)
      (either (SameStep (AllSameFor n)) (nat_lt leaf (runnable task))
      (moved_same (λ task. more task tasks) (λ task. more task others) (λ x y fewer. both_more fewer (all_same_for_fewer all)) (step_same same leaf w))
      (moved_same (more task) (more other) (λ x y fewer. both_more (same_for_fewer same) fewer) (step_in_same all (leaf - runnable task) w)))

-- a run goes on alike, where as many leaves are runnable
goes_on_same : (count : ℕ) (task other : Task) (w : World) (next next' : Task → World → Ran) → ending_of task ≡ ending_of other → next task w ≡ next' other w → while_runnable count task w next ≡ while_runnable count other w next'
goes_on_same zero task other w next next' same goes = ap (λ ending. stopped ending w) same
goes_on_same (suc n) task other w next next' same goes = goes

-- and behind the same step
then_same : {n : ℕ} {s t : Stepped Task} → SameStep (SameFor n) s t → (next : Task → World → Ran) → ((task other : Task) → SameFor n task other → (w : World) → next task w ≡ next other w) → then_run s next ≡ then_run t next
then_same (both_move {entries} {task} {other} {w} same) next nexts = ap (behind_entries entries) (nexts task other same w)
then_same both_leave next nexts = refl

-- whatever is picked
pub ran_same : (fuel : ℕ) (picks : List ℕ) (task other : Task) → SameFor (suc fuel) task other → (w : World) → ran fuel picks task w ≡ ran fuel picks other w
ran_same zero picks task other same w =
    subst (λ count. ran zero picks task w ≡ while_runnable count other w (λ task w. stopped Spent w)) (same_runnable same) (goes_on_same (runnable task) task other w _ _ (same_ending same) refl)
ran_same (suc fuel) picks task other same w =
    let behind = ran fuel (other_picks picks) in
    let stepped : then_run (step task (first_pick picks % runnable task) w) behind ≡ then_run (step other (first_pick picks % runnable other) w) behind =
    subst (λ count. then_run (step task (first_pick picks % runnable task) w) behind ≡ then_run (step other (first_pick picks % count) w) behind) (same_runnable same)
    (then_same (step_same same (first_pick picks % runnable task) w) behind (λ task other fewer w. ran_same fuel (other_picks picks) task other fewer w)) in
    subst (λ count. ran (suc fuel) picks task w ≡ while_runnable count other w (λ task w. then_run (step task (first_pick picks % runnable task) w) behind)) (same_runnable same)
    (goes_on_same (runnable task) task other w _ _ (same_ending same) stepped)
