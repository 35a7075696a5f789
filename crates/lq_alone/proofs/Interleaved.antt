-- Under any picks a task that goes by a track runs as the track says.
use Rattle.std.proofs.Common.{◌≡◌, ℕ, zero, suc, ◌+◌, ◌<◌, ◌≤◌, ℤ, Bool, true, false, List, [], Option, None, Some, is_some, refl, sym, ap, ◌∙◌, subst, inl, inr, ◌⊎◌, ⊎_elim, arith}
use Rattle.std.specs.Prelude.{Contains}
use Rattle.std.proofs.lemmas.Bool.{cases_Bool, and_cases}
use Rattle.std.proofs.lemmas.List.Elements.{Contains-append_cases}
use Rattle.lq_meaning.specs.declared.memory.Address.{Address}
use Rattle.lq_meaning.specs.Memory.{reach}
use Rattle.lq_meaning.specs.declared.action.Action.{Action}
use Rattle.lq_meaning.specs.declared.action.Action.TheVariants.{Allocate, Load, Store, Print, Enter, Test, Start}
use Rattle.lq_meaning.specs.World.{World, Acted}
use Rattle.lq_meaning.specs.Ending.{Trap, Ending, Done, Trapped, Strayed, Spent, Unruled, Outcome}
use Rattle.lq_meaning.specs.Task.{Spot, Task, Ended, Tasks, has_ended, all_ended, trap_of}
use Rattle.lq_meaning.proofs.Costs.{left_by, act-cost}
use Rattle.lq_log.specs.declared.entry.Entry.{Entry}
use Rattle.lq_machine.specs.Step.{runnable, all_runnable, Moves, moved, logged, resumed, step, access as logged_access}
use Rattle.lq_machine.specs.Run.{first_pick, other_picks, Ran, stopped, behind_entries, while_runnable, then_run, ran}
use Rattle.lq_machine.proofs.Leaves.{leaf_at, step-Leaf}
use Rattle.lq_machine.proofs.Runs.{leaf_of, leaf_of-is_leaf}
use Rattle.lq_alone.specs.Alone.{access}
use Rattle.lq_alone.proofs.Marks.{Mark, marks_at, marks_of, entry_of, Contains-first, Contains-none, Contains-cases}
use Rattle.lq_alone.proofs.Tracks.{Track, total, Becomes, by_answer, by_trap, Goes, ended, spent, acts, fork_spent, forks, AllGo, no_more, and_more}
use Rattle.lq_alone.proofs.Keeps.{Keeps, keeps}

-- ---- where a leaf is runnable

-- a task that has not ended has a runnable leaf
mutual
  due_unended : {n : ℕ} {parallel : Bool} {task : Task} {w : World} {t : Track} {last : World} → Goes n parallel task w t last → has_ended task ≡ false → 0 < runnable task
  due_unended (ended e) h = absurd cc
  due_unended spent h = omega arith
  due_unended (acts q b g) h = omega arith
  due_unended (fork_spent go apart unended over) h = all_due go unended
  due_unended (forks go apart unended e g) h = all_due go unended

  all_due : {n : ℕ} {tasks : Tasks} {w : World} {tracks : List Track} → AllGo n tasks w tracks → all_ended tasks ≡ false → 0 < all_runnable tasks
  all_due no_more h = absurd cc
  all_due (and_more {task = task} {tasks} g go) h =
      ⊎_elim (λ first. omega (arith, due_unended g first)) (λ others. omega (arith, all_due go others)) (and_cases (has_ended task) (all_ended tasks) h)

-- and needs an action
mutual
  needs_due : {n : ℕ} {parallel : Bool} {task : Task} {w : World} {t : Track} {last : World} → Goes n parallel task w t last → 0 < runnable task → 0 < t.need
  needs_due (ended e) h = absurd (omega (arith, h))
  needs_due spent h = omega arith
  needs_due (acts q b g) h = omega arith
  needs_due (fork_spent go apart unended over) h = omega arith
  needs_due (forks go apart unended e g) h = omega (arith, all_need go h)

  all_need : {n : ℕ} {tasks : Tasks} {w : World} {tracks : List Track} → AllGo n tasks w tracks → 0 < all_runnable tasks → 0 < total tracks
  all_need no_more h = absurd (omega (arith, h))
  all_need (and_more {task = task} {tasks} g go) h =
      ⊎_elim (λ none. omega (arith, all_need go (omega (arith, h)))) (λ first. omega (arith, needs_due g first)) (first_or_none (runnable task)) where
        first_or_none : (n : ℕ) → (n ≡ 0) ⊎ (0 < n)
        first_or_none zero = inl refl
        first_or_none (suc n) = inr (omega arith)

-- without an action left the world stays
stays : {parallel : Bool} {task : Task} {w : World} {t : Track} {last : World} → Goes 0 parallel task w t last → 0 < runnable task → last ≡ w
stays (ended e) h = refl
stays spent h = refl
stays (fork_spent go apart unended over) h = refl
stays (forks go apart unended e g) h = absurd (omega (arith, all_need go h))

-- ---- what a run is compared with

abbrev pub trap_end : Option Trap → Ending
trap_end None = Done
trap_end (Some trap) = Trapped trap

-- the fuel is spent; what was printed is what the track leaves
pub record RunsOut (n : ℕ) (w last : World) (o : Outcome) : Type 0 where
  pub spent : o.ending ≡ Spent
  pub printed : o.world.printed ≡ last.printed
  pub cost : o.world.cost ≡ w.cost + n

-- a run with so much fuel that goes by a track, and its log
pub record RunsBy (n : ℕ) (w : World) (t : Track) (last : World) (r : Ran) : Type 0 where
  pub fits : t.need ≤ n → r.outcome ≡ record { ending = trap_end t.trap; world = last }
  pub over : n < t.need → RunsOut n w last r.outcome
  pub log : (e : Entry) → Contains r.log e → (m : Mark) × Contains t.marks m × (e ≡ entry_of m)

-- ---- one step

-- a run goes on where a leaf is runnable
while_due : (n : ℕ) (task : Task) (w : World) (next : Task → World → Ran) → 0 < n → while_runnable n task w next ≡ next task w
while_due zero task w next due = absurd (omega arith)
while_due (suc n) task w next due = refl

-- a leaf that becomes something leaves the world of its action
pub becomes_left : {at : Spot} {next : ℤ → Task} {r : Acted} {task : Task} {after : World} → Becomes at next r task after → left_by r ≡ after
becomes_left by_answer = refl
becomes_left by_trap = refl

becomes_resumed : {at : Spot} {next : ℤ → Task} {r : Acted} {task : Task} {after : World} (entries : List Entry) → Becomes at next r task after →
    resumed at entries next r ≡ Moves entries task after
becomes_resumed entries by_answer = refl
becomes_resumed entries by_trap = refl

-- the entries of an action are those of its marks
reached_entry : (at : Spot) (writes : Bool) (written : Option ℤ) (r : Option Address) (e : Entry) → writes ≡ is_some written → Contains (logged_access at writes r) e →
    (m : Mark) × Contains (marks_at at (access r written)) m × (e ≡ entry_of m)
reached_entry at writes written None e same c = absurd (Contains-none e c)
reached_entry at writes written (Some a) e same c =
    let m : Mark = record { spot = at; access = record { address = a; written = written } } in
    let is : e ≡ entry_of m =
    ⊎_elim (λ here. here ∙ (λ i. record { path = at.path; write = same i; block = a.block; element = a.element; field = a.field; at = at.place })) (λ none. absurd (Contains-none e none))
    (Contains-cases _ e [] c) in
    (m, Contains-first m [], is)

logged_mark : (at : Spot) (action : Action) (w : World) (e : Entry) → Contains (logged at action w) e → (m : Mark) × Contains (marks_of at action w) m × (e ≡ entry_of m)
logged_mark at (Load p i field) w e c = reached_entry at false None (reach w.memory p i field) e refl c
logged_mark at (Store p i field word) w e c = reached_entry at true (Some word) (reach w.memory p i field) e refl c
logged_mark at (Allocate count fields) w e c = absurd (Contains-none e c)
logged_mark at (Print number) w e c = absurd (Contains-none e c)
logged_mark at (Enter n) w e c = absurd (Contains-none e c)
logged_mark at Test w e c = absurd (Contains-none e c)
logged_mark at Start w e c = absurd (Contains-none e c)

-- a run behind a step goes by the track in front of it
runs_behind : {n : ℕ} {w : World} {t : Track} {last : World} {at : Spot} {action : Action} {next : ℤ → Task} {put : Task → Task} (k : Keeps n false w t last at action next put)
    (r : Ran) → RunsBy n k.after k.track k.last_kept r → RunsBy (suc n) w t last (behind_entries (logged at action w) r)
runs_behind {n} {w} {t} {last} {at} {action} {next} {put} k r by =
    record {
      fits = λ h.
          by.fits (omega (arith, k.need, h))
          ∙ (λ i. record { ending = trap_end (sym (k.trap h) i); world = sym (k.same_last h) i });
      over = λ h.
          let o = by.over (omega (arith, k.need, h)) in
          let cost : k.after.cost ≡ w.cost + 1 = sym (ap (λ (v : World). v.cost) (becomes_left k.becomes)) ∙ act-cost action w in
          record { spent = o.spent; printed = o.printed ∙ sym k.printed; cost = omega (arith, o.cost) };
      log = λ e c.
          ⊎_elim
          (λ own. let m = logged_mark at action w e own in (m.0, k.own m.0 m.1, m.2))
          (λ later. let m = by.log e later in (m.0, k.others m.0 m.1, m.2))
          (Contains-append_cases (logged at action w) r.log e c);
    }

-- a leaf that has ended ends as its trap says
ending_by_trap : (ending : Ending) → has_ended (Ended ending) ≡ true → ending ≡ trap_end (trap_of (Ended ending))
ending_by_trap Done h = refl
ending_by_trap (Trapped trap) h = refl
ending_by_trap (Strayed at) h = cc
ending_by_trap Spent h = cc
ending_by_trap Unruled h = cc

-- a task that has ended
runs_ended : (n : ℕ) (picks : List ℕ) {task : Task} {w : World} {t : Track} {last : World} → Goes n false task w t last → has_ended task ≡ true → RunsBy n w t last (ran n picks task w)
runs_ended zero picks (ended {ending = ending} {w} h) e =
    record { fits = λ _. ap (λ (x : Ending). record { ending = x; world = w }) (ending_by_trap ending h); over = λ more. absurd (omega (arith, more)); log = λ x c. absurd (Contains-none x c) }
runs_ended (suc n) picks (ended {ending = ending} {w} h) e =
    record { fits = λ _. ap (λ (x : Ending). record { ending = x; world = w }) (ending_by_trap ending h); over = λ more. absurd (omega (arith, more)); log = λ x c. absurd (Contains-none x c) }
runs_ended n picks spent e = absurd cc
runs_ended n picks (acts q b g) e = absurd cc
runs_ended n picks (fork_spent go apart unended over) e = absurd cc
runs_ended n picks (forks go apart unended f g) e = absurd cc

-- Under any picks a task runs by its track.
pub runs : (n : ℕ) (picks : List ℕ) (task : Task) {w : World} {t : Track} {last : World} → Goes n false task w t last → RunsBy n w t last (ran n picks task w)
runs zero picks task {w} {t} {last} g =
    ⊎_elim (runs_ended zero picks g)
    (λ unended.
    let due = due_unended g unended in
    let stops : ran zero picks task w ≡ stopped Spent w = while_due (runnable task) task w _ due in
    let last_same : last ≡ w = stays g due in
    let needs : 0 < t.need = needs_due g due in
    rw stops
    (record {
      fits = λ h. absurd (omega arith);
      over = λ h. record { spent = refl; printed = ap (λ (v : World). v.printed) (sym last_same); cost = omega arith };
      log = λ e c. absurd (Contains-none e c);
    }))
    (cases_Bool (has_ended task))
runs (suc n) picks task {w} {t} {last} g =
    ⊎_elim (runs_ended (suc n) picks g)
    (λ unended.
    let due = due_unended g unended in
    let number = leaf_of (first_pick picks) task in
    let l = leaf_at task number (leaf_of-is_leaf (first_pick picks) task due) in
    let k = keeps n g l.leaf in
    let steps : step task number w ≡ Moves (logged l.at l.action w) (l.put k.became) k.after =
    step-Leaf l.leaf w ∙ ap (moved l.put) (becomes_resumed (logged l.at l.action w) k.becomes) in
    let goes_on : ran (suc n) picks task w ≡ behind_entries (logged l.at l.action w) (ran n (other_picks picks) (l.put k.became) k.after) =
    while_due (runnable task) task w _ due ∙ ap (λ s. then_run s (ran n (other_picks picks))) steps in
    subst (λ r. RunsBy (suc n) w t last r) (sym goes_on) (runs_behind k _ (runs n (other_picks picks) (l.put k.became) k.goes)))
    (cases_Bool (has_ended task))
