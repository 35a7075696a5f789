-- A task whose leaves stay apart runs alike under all lists of picks.
use Rattle.std.proofs.Common.{◌≡◌, ◌≢◌, ℕ, zero, suc, ◌<◌, true, List, [], ◌∷◌, refl, subst, ⊎_elim, arith}
use Rattle.std.proofs.lemmas.Bool.{cases_lt, cases_eq}
use Rattle.lq_tree.specs.declared.place.Place.{Place}
use Rattle.lq_meaning.specs.World.{World}
use Rattle.lq_meaning.specs.Agree.{Agree}
use Rattle.lq_meaning.proofs.Agree.{Agree-refl, Agree-trans}
use Rattle.lq_meaning.specs.Ending.{Trap, Ending, Done, Trapped, Strayed, Spent, Unruled}
use Rattle.lq_log.specs.declared.entry.Entry.{Entry}
use Rattle.lq_meaning.specs.Task.{Task, Ended, Due, Fork, has_ended}
use Rattle.lq_machine.specs.Step.{runnable, ending_of, Stepped, Moves, Leaves, step}
use Rattle.lq_machine.specs.Run.{first_pick, other_picks, run}
use Rattle.lq_machine.proofs.Leaves.{LeafAt, leaf_at, Leaf-number}
use Rattle.lq_machine.proofs.Commute.{StillLeads, Meeting, leaves_commute}
use Rattle.lq_machine.proofs.Runs.{outcome_behind, leaf_of, run-step, run-spent, run-still, run-picked, leaf_of-is_leaf}
use Rattle.lq_machine.proofs.StayApart.{AreApart, EndsWell, Leads, StayApart}

-- a task in which a leaf is still there, and is picked next, runs as from where its step leads
run-still_there : {task : Task} {n : ℕ} {l : LeafAt task n} {after : Task} {w : World} {last : Task} {w_last : World} (fuel : ℕ) (still : StillLeads l after w last w_last) →
    run (suc fuel) (still.number ∷ []) after w ≡ run fuel [] last w_last
run-still_there {after = after} {w} {last} {w_last} fuel still = run-picked fuel still.number after w still.entries last w_last (Leaf-number still.leaf.leaf) still.leads

-- a task in which a leaf is still there has a runnable leaf
still_due : {task : Task} {n : ℕ} {l : LeafAt task n} {after : Task} {w : World} {last : Task} {w_last : World} → StillLeads l after w last w_last →
    0 < runnable after
still_due still = omega (arith, Leaf-number still.leaf.leaf)

-- what two steps leave that meet again runs alike, where each goes on with the other's leaf
meeting_alike : {task : Task} {i j : ℕ} {one : LeafAt task i} {other : LeafAt task j} (fuel : ℕ) (after_one after_other : Task) (w_one w_other : World)
    (m : Meeting one other after_one after_other w_one w_other) →
    Agree (run fuel (m.other_behind_one.number ∷ []) after_one w_one) (run fuel (m.one_behind_other.number ∷ []) after_other w_other)
meeting_alike zero after_one after_other w_one w_other m =
    let other_next = m.other_behind_one in
    let one_next = m.one_behind_other in
    rw (run-spent (other_next.number ∷ []) after_one w_one (still_due other_next), run-spent (one_next.number ∷ []) after_other w_other (still_due one_next))
    (record { ending = refl; printed = m.printed; cost = m.cost; memory = λ unspent. absurd (unspent refl) })
meeting_alike (suc fuel) after_one after_other w_one w_other m =
    rw (run-still_there fuel m.other_behind_one, run-still_there fuel m.one_behind_other) (Agree-refl _)

-- a step that leads to what has a property moves there
record MovesTo (property : Task → World → Type 0) (s : Stepped Task) : Type 0 where
  entries : List Entry
  task : Task
  world : World
  moves : s ≡ Moves entries task world
  has : property task world

moves_to : (property : Task → World → Type 0) (s : Stepped Task) → Leads property s → MovesTo property s
moves_to property (Moves entries task w) has = record { entries = entries; task = task; world = w; moves = refl; has = has }
moves_to property (Leaves at w) has = absurd has

-- one step more, where what stays apart for the fuel runs alike
module _ (fuel : ℕ) (alike : (p q : List ℕ) (task : Task) (w : World) → StayApart fuel task w → Agree (run fuel p task w) (run fuel q task w)) where
  -- behind one and the same step
  one_step : (p q : List ℕ) (s : Stepped Task) → Leads (StayApart fuel) s → Agree (outcome_behind s (run fuel p)) (outcome_behind s (run fuel q))
  one_step p q (Moves entries task w) apart = alike p q task w apart
  one_step p q (Leaves at w) apart = absurd apart

  -- two different leaves: by way of the meeting
  two_steps : (p q : List ℕ) (task : Task) (w : World) (i j : ℕ) → i < runnable task → j < runnable task → i ≢ j → AreApart task w →
      Leads (StayApart fuel) (step task i w) → Leads (StayApart fuel) (step task j w) →
      Agree (outcome_behind (step task i w) (run fuel p)) (outcome_behind (step task j w) (run fuel q))
  two_steps p q task w i j is_i is_j differ apart leads_i leads_j =
      let at_i = leaf_at task i is_i in
      let at_j = leaf_at task j is_j in
      let one = moves_to (StayApart fuel) (step task i w) leads_i in
      let other = moves_to (StayApart fuel) (step task j w) leads_j in
      let m = leaves_commute w task i j at_i at_j differ (apart i j at_i at_j differ) one.entries other.entries one.task other.task one.world other.world one.moves other.moves in
      let one_first = alike p (m.other_behind_one.number ∷ []) one.task one.world one.has in
      let other_first = alike (m.one_behind_other.number ∷ []) q other.task other.world other.has in
      rw (one.moves, other.moves) (Agree-trans _ _ _ one_first (Agree-trans _ _ _ (meeting_alike fuel one.task other.task one.world other.world m) other_first))

  -- behind the steps of any two picks
  next_alike : (p q : List ℕ) (task : Task) (w : World) → 0 < runnable task → StayApart (suc fuel) task w →
      Agree (outcome_behind (step task (leaf_of (first_pick p) task) w) (run fuel (other_picks p)))
      (outcome_behind (step task (leaf_of (first_pick q) task) w) (run fuel (other_picks q)))
  next_alike p q task w due apart =
      let i : ℕ = leaf_of (first_pick p) task in
      let j : ℕ = leaf_of (first_pick q) task in
      let leads_i = apart.steps (first_pick p) due in
      let leads_j = apart.steps (first_pick q) due in
      ⊎_elim
      (λ same.
      subst (λ n. Agree (outcome_behind (step task i w) (run fuel (other_picks p))) (outcome_behind (step task n w) (run fuel (other_picks q)))) same
      (one_step (other_picks p) (other_picks q) (step task i w) leads_i))
      (λ differ.
      let is_i = leaf_of-is_leaf (first_pick p) task due in
      let is_j = leaf_of-is_leaf (first_pick q) task due in
      two_steps (other_picks p) (other_picks q) task w i j is_i is_j differ apart.apart leads_i leads_j)
      (cases_eq i j)

-- where no leaf is runnable, the picks have no part
still_alike : (fuel : ℕ) (p q : List ℕ) (task : Task) (w : World) → runnable task ≡ 0 → Agree (run fuel p task w) (run fuel q task w)
still_alike fuel p q task w still = rw (run-still fuel p task w still, run-still fuel q task w still) (Agree-refl _)

-- A task whose leaves stay apart runs alike under any two lists of picks.
pub runs_alike : (fuel : ℕ) (p q : List ℕ) (task : Task) (w : World) → StayApart fuel task w → Agree (run fuel p task w) (run fuel q task w)
runs_alike zero p q task w apart = Agree-refl _
runs_alike (suc fuel) p q task w apart =
    ⊎_elim
    (λ due. rw (run-step fuel p task w due, run-step fuel q task w due) (next_alike fuel (runs_alike fuel) p q task w due apart))
    (λ still. still_alike (suc fuel) p q task w (omega arith))
    (cases_lt 0 (runnable task))

-- done, trapped or out of fuel
pub data IsSettled : Ending → Type 0 where
  done : IsSettled Done
  trapped : {trap : Trap} → IsSettled (Trapped trap)
  spent : IsSettled Spent

-- how a task that has ended is
ended_settles : (task : Task) → has_ended task ≡ true → IsSettled (ending_of task)
ended_settles (Ended Done) ended = done
ended_settles (Ended (Trapped trap)) ended = trapped
ended_settles (Ended (Strayed at)) ended = absurd cc
ended_settles (Ended Spent) ended = spent
ended_settles (Ended Unruled) ended = absurd cc
ended_settles (Due at action next) ended = absurd cc
ended_settles (Fork children behind) ended = absurd cc

-- where no leaf is runnable, the run is as the task
still_settles : (fuel : ℕ) (p : List ℕ) (task : Task) (w : World) → EndsWell task → runnable task ≡ 0 → IsSettled (run fuel p task w).ending
still_settles fuel p task w well still = rw (run-still fuel p task w still) (ended_settles task (well still))

-- what comes of a step is settled, if what is behind it is
step_settles : (fuel : ℕ) (p : List ℕ) → ((task : Task) (w : World) → StayApart fuel task w → IsSettled (run fuel p task w).ending) →
    (s : Stepped Task) → Leads (StayApart fuel) s → IsSettled (outcome_behind s (run fuel p)).ending
step_settles fuel p behind (Moves entries task w) apart = behind task w apart
step_settles fuel p behind (Leaves at w) apart = absurd apart

-- The run of a task whose leaves stay apart is done, trapped or out of fuel.
pub run_settles : (fuel : ℕ) (p : List ℕ) (task : Task) (w : World) → StayApart fuel task w → IsSettled (run fuel p task w).ending
run_settles zero p task w well =
    ⊎_elim (λ due. rw (run-spent p task w due) spent) (λ still. still_settles zero p task w well (omega arith)) (cases_lt 0 (runnable task))
run_settles (suc fuel) p task w apart =
    ⊎_elim
    (λ due.
    rw (run-step fuel p task w due)
    (step_settles fuel (other_picks p) (run_settles fuel (other_picks p)) (step task (leaf_of (first_pick p) task) w) (apart.steps (first_pick p) due)))
    (λ still. still_settles (suc fuel) p task w apart.ends_well (omega arith))
    (cases_lt 0 (runnable task))

-- So it never strays.
pub never_strays : (at : Place) (ending : Ending) → IsSettled ending → ending ≢ Strayed at
never_strays at _ done e = cc
never_strays at _ trapped e = cc
never_strays at _ spent e = cc
