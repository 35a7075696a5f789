-- A step of a task keeps its track, up to the order of the accesses: the step's own come first.
use Rattle.std.proofs.Common.{◌≡◌, ℕ, suc, ◌+◌, ◌<◌, ◌≤◌, ℤ, Bool, true, false, List, [], ◌∷◌, ◌++◌, refl, sym, ap, ◌∙◌, subst, ⊎_elim, arith}
use Rattle.std.specs.Option.{option_or}
use Rattle.std.proofs.lemmas.Bool.{cases_lt, cases_Bool, and_parts}
use Rattle.std.proofs.lemmas.List.Elements.{Contains-append_left, Contains-append_right}
use Rattle.lq_meaning.specs.declared.action.Action.{Action}
use Rattle.lq_meaning.specs.Memory.{Blocks}
use Rattle.lq_meaning.specs.World.{World, act}
use Rattle.lq_meaning.specs.Task.{Spot, Task, Tasks, has_ended, all_ended, trap_of, first_trap, behind_all, forked}
use Rattle.lq_machine.proofs.Leaves.{Leaf, here, inside, LeafIn, first, later}
use Rattle.lq_alone.proofs.Marks.{Mark, marks_of, past, Within, Apart, AllLie, past-append, past-past, Within-both, Apart-sym}
use Rattle.lq_alone.proofs.Tracks.{Track, total, all_marks, trap_among, AllApart, still, spent_by, behind_branches, world_behind, Becomes, IsQuiet, Goes, ended, spent, acts, fork_spent, forks, AllGo, no_more, and_more}
use Rattle.lq_alone.proofs.Frames.{quiet_world, act_lies, marks_lie, all_lie, frame, frame_all}
use Rattle.lq_alone.proofs.Cuts.{cut, cut_all, Apart-within}

-- ---- a fork whose branches have all ended goes on behind them

ended_track : {n : ℕ} {task : Task} {w : World} {t : Track} {last : World} → Goes n true task w t last → has_ended task ≡ true → t ≡ still (trap_of task)
ended_track (ended e) h = refl
ended_track spent h = absurd cc
ended_track (acts q b g) h = absurd cc
ended_track (fork_spent go apart unended over) h = absurd cc
ended_track (forks go apart unended e g) h = absurd cc

-- branches that have ended need nothing and access nothing
record AllStill (tasks : Tasks) (tracks : List Track) : Type 0 where
  need : total tracks ≡ 0
  marks : all_marks tracks ≡ []
  trap : trap_among tracks ≡ first_trap tasks

all_still : {n : ℕ} {tasks : Tasks} {w : World} {tracks : List Track} → AllGo n tasks w tracks → all_ended tasks ≡ true → AllStill tasks tracks
all_still no_more h = record { need = refl; marks = refl; trap = refl }
all_still (and_more {task = task} {tasks} {t = t} {tracks = tracks} g go) h =
    let parts = and_parts _ _ h in
    let first : t ≡ still (trap_of task) = ended_track g parts.0 in
    let others = all_still go parts.1 in
    let need : t.need ≡ 0 = ap (λ (x : Track). x.need) first in
    record {
      need = omega (arith, others.need);
      marks = λ i. (first i).marks ++ others.marks i;
      trap = λ i. option_or (first i).trap (others.trap i);
    }

refork_spent : {n : ℕ} {parallel : Bool} {children : Tasks} (parent : Task) {w : World} {tracks : List Track} → AllGo n children w tracks → AllApart tracks → n < total tracks →
    Goes n parallel (forked children parent) w (spent_by n tracks) w
refork_spent {children = children} parent go apart over =
    ⊎_elim (λ all. absurd (omega (arith, (all_still go all).need))) (λ unended. rw unended (fork_spent go apart unended over)) (cases_Bool (all_ended children))

refork : {n rest : ℕ} {parallel : Bool} {children : Tasks} (parent : Task) {w : World} {tracks : List Track} {t : Track} {last : World} →
    AllGo n children w tracks → AllApart tracks → rest + total tracks ≡ n →
    Goes rest parallel (behind_all (trap_among tracks) parent) (world_behind w tracks) t last →
    Goes n parallel (forked children parent) w (behind_branches tracks t) last
refork {n} {rest} {parallel} {children} parent {w} {tracks} {t} {last} go apart e g =
    ⊎_elim
    (λ all.
    let s = all_still go all in
    let cost : w.cost + total tracks ≡ w.cost = omega (arith, s.need) in
    let need : total tracks + t.need ≡ t.need = omega (arith, s.need) in
    let world : world_behind w tracks ≡ w = λ i. record { memory = past w.memory (s.marks i); left = w.left; cost = cost i; printed = w.printed } in
    let track : behind_branches tracks t ≡ t = λ i. record { need = need i; trap = t.trap; marks = s.marks i ++ t.marks } in
    let left : rest ≡ n = omega (arith, s.need) in
    let goes : Goes n parallel (behind_all (first_trap children) parent) w t last =
    subst (λ k. Goes k parallel (behind_all (first_trap children) parent) w t last) left
    (subst (λ trap. Goes rest parallel (behind_all trap parent) w t last) s.trap
    (subst (λ v. Goes rest parallel (behind_all (trap_among tracks) parent) v t last) world g)) in
    rw all (subst (λ x. Goes n parallel (behind_all (first_trap children) parent) w x last) (sym track) goes))
    (λ unended. rw unended (forks go apart unended e g))
    (cases_Bool (all_ended children))

-- ---- what a step keeps

-- What the step of a leaf keeps of a task that goes for one action more: what is left goes by a track that needs one action
-- less, has the same trap, leaves the same world, and has the same accesses but for those of the step.
pub record Keeps (n : ℕ) (parallel : Bool) (w : World) (t : Track) (last : World) (at : Spot) (action : Action) (next : ℤ → Task) (put : Task → Task) : Type 0 where
  pub became : Task
  pub after : World
  pub becomes : Becomes at next (act action w) became after
  pub quiet : IsQuiet parallel action
  pub track : Track
  pub last_kept : World
  pub goes : Goes n parallel (put became) after track last_kept
  pub need : t.need ≡ suc track.need
  pub printed : last.printed ≡ last_kept.printed
  pub trap : t.need ≤ suc n → t.trap ≡ track.trap
  pub same_last : t.need ≤ suc n → last ≡ last_kept
  pub memory : t.need ≤ suc n → past w.memory t.marks ≡ past (past w.memory (marks_of at action w)) track.marks
  pub own : Within (marks_of at action w) t.marks
  pub others : Within track.marks t.marks

-- branches that have enough actions need one less, have the same trap and leave the same memory
record Fits (memory : Blocks) (marks : List Mark) (tracks kept : List Track) : Type 0 where
  need : total tracks ≡ suc (total kept)
  trap : trap_among tracks ≡ trap_among kept
  left : past memory (all_marks tracks) ≡ past (past memory marks) (all_marks kept)

record KeepsIn (n : ℕ) (w : World) (tracks : List Track) (at : Spot) (action : Action) (next : ℤ → Task) (put : Task → Tasks) : Type 0 where
  became : Task
  after : World
  becomes : Becomes at next (act action w) became after
  quiet : IsQuiet true action
  kept : List Track
  go : AllGo n (put became) after kept
  apart : AllApart kept
  own : Within (marks_of at action w) (all_marks tracks)
  others : Within (all_marks kept) (all_marks tracks)
  fits : total tracks ≤ suc n → Fits w.memory (marks_of at action w) tracks kept
  over : suc n < total tracks → n < total kept

-- an action that is quiet within branches is quiet anywhere
quiet_in : (parallel : Bool) (action : Action) → IsQuiet true action → IsQuiet parallel action
quiet_in true action q = q
quiet_in false action q = refl

-- a fork whose branches need too many actions
keeps_spent : {n : ℕ} {parallel : Bool} {w : World} {tracks : List Track} {at : Spot} {action : Action} {next : ℤ → Task} {put : Task → Tasks} (parent : Task) →
    KeepsIn n w tracks at action next put → suc n < total tracks →
    Keeps n parallel w (spent_by (suc n) tracks) w at action next (λ task. forked (put task) parent)
keeps_spent {n} {parallel} {w} {tracks} {at} {action} {next} {put} parent k over =
    record {
      became = k.became;
      after = k.after;
      becomes = k.becomes;
      quiet = quiet_in parallel action k.quiet;
      track = spent_by n k.kept;
      last_kept = k.after;
      goes = refork_spent parent k.go k.apart (k.over over);
      need = refl;
      printed = sym (ap (λ (v : World). v.printed) (quiet_world at next action w k.quiet k.becomes));
      trap = λ h. absurd (omega (arith, h));
      same_last = λ h. absurd (omega (arith, h));
      memory = λ h. absurd (omega (arith, h));
      own = k.own;
      others = k.others;
    }

-- a fork whose branches have enough actions
keeps_forks : {n rest : ℕ} {parallel : Bool} {w : World} {tracks : List Track} {t : Track} {last : World} {at : Spot} {action : Action} {next : ℤ → Task} {put : Task → Tasks}
    (parent : Task) → KeepsIn n w tracks at action next put → rest + total tracks ≡ suc n →
    Goes rest parallel (behind_all (trap_among tracks) parent) (world_behind w tracks) t last →
    Keeps n parallel w (behind_branches tracks t) last at action next (λ task. forked (put task) parent)
keeps_forks {n} {rest} {parallel} {w} {tracks} {t} {last} {at} {action} {next} {put} parent k e g =
    let f = k.fits (omega arith) in
    let marks = marks_of at action w in
    let cost : w.cost + total tracks ≡ w.cost + 1 + total k.kept = omega (arith, f.need) in
    let world : world_behind w tracks ≡ world_behind k.after k.kept =
    (λ i. record { memory = f.left i; left = w.left; cost = cost i; printed = w.printed })
    ∙ ap (λ v. world_behind v k.kept) (sym (quiet_world at next action w k.quiet k.becomes)) in
    record {
      became = k.became;
      after = k.after;
      becomes = k.becomes;
      quiet = quiet_in parallel action k.quiet;
      track = behind_branches k.kept t;
      last_kept = last;
      goes =
          refork parent k.go k.apart (omega (arith, f.need))
          (subst (λ trap. Goes rest parallel (behind_all trap parent) (world_behind k.after k.kept) t last) f.trap
          (subst (λ v. Goes rest parallel (behind_all (trap_among tracks) parent) v t last) world g));
      need = omega (arith, f.need);
      printed = refl;
      trap = λ _. refl;
      same_last = λ _. refl;
      memory = λ _.
          past-append w.memory (all_marks tracks) t.marks
          ∙ (ap (λ m. past m t.marks) f.left ∙ sym (past-append (past w.memory marks) (all_marks k.kept) t.marks));
      own = λ m c. Contains-append_left (all_marks tracks) t.marks m (k.own m c);
      others = Within-both (all_marks k.kept) t.marks (all_marks tracks) t.marks k.others (λ m c. c);
    }

-- a step of the first branch, with the others cut short
keeps_first : {n : ℕ} {w : World} {t : Track} {last : World} {tasks : Tasks} {tracks : List Track} {at : Spot} {action : Action} {next : ℤ → Task} {put : Task → Task} →
    Keeps n true w t last at action next put → AllGo (suc n) tasks w tracks → AllApart (t ∷ tracks) →
    KeepsIn n w (t ∷ tracks) at action next (λ task. Tasks.more (put task) tasks)
keeps_first {n} {w} {t} {last} {tasks} {tracks} {at} {action} {next} {put} k go apart =
    let c = cut_all n go in
    let marks = marks_of at action w in
    let memory : k.after.memory ≡ past w.memory marks = ap (λ (v : World). v.memory) (quiet_world at next action w k.quiet k.becomes) in
    record {
      became = k.became;
      after = k.after;
      becomes = k.becomes;
      quiet = k.quiet;
      kept = k.track ∷ c.cut;
      go = and_more k.goes (frame_all c.go k.after marks memory (act_lies at action w) (Apart-within t.marks (all_marks tracks) marks (all_marks c.cut) k.own c.within apart.0));
      apart = (Apart-within t.marks (all_marks tracks) k.track.marks (all_marks c.cut) k.others c.within apart.0, c.apart apart.1);
      own = λ m d. Contains-append_left t.marks (all_marks tracks) m (k.own m d);
      others = Within-both k.track.marks (all_marks c.cut) t.marks (all_marks tracks) k.others c.within;
      fits = λ h.
          let same : c.cut ≡ tracks = c.same (omega (arith, k.need, h)) in
          let needs : total c.cut ≡ total tracks = ap total same in
          let enough : t.need ≤ suc n = omega (arith, h) in
          record {
            need = omega (arith, k.need);
            trap = λ i. option_or (k.trap enough i) (trap_among (sym same i));
            left =
                past-append w.memory t.marks (all_marks tracks)
                ∙ ((λ i. past (k.memory enough i) (all_marks (sym same i)))
                ∙ sym (past-append (past w.memory marks) k.track.marks (all_marks c.cut)));
          };
      over = λ h.
          ⊎_elim (λ many. omega (arith, c.over many))
          (λ few. let needs : total c.cut ≡ total tracks = ap total (c.same few) in omega (arith, k.need, h))
          (cases_lt n (total tracks));
    }

-- a step of a later branch, with the first one cut short
keeps_later : {n : ℕ} {w : World} {task : Task} {t : Track} {last : World} {tasks : Tasks} {tracks : List Track} {at : Spot} {action : Action} {next : ℤ → Task} {put : Task → Tasks} →
    Goes (suc n) true task w t last → AllGo (suc n) tasks w tracks → KeepsIn n w tracks at action next put → AllApart (t ∷ tracks) →
    KeepsIn n w (t ∷ tracks) at action next (λ x. Tasks.more task (put x))
keeps_later {n} {w} {task} {t} {last} {tracks} {at} {action} {next} {put} g go k apart =
    let c = cut n g in
    let marks = marks_of at action w in
    let memory : k.after.memory ≡ past w.memory marks = ap (λ (v : World). v.memory) (quiet_world at next action w k.quiet k.becomes) in
    let other = frame c.goes k.after marks memory (act_lies at action w) (Apart-sym c.track.marks marks (Apart-within t.marks (all_marks tracks) c.track.marks marks c.within k.own apart.0)) in
    let here_apart : Apart c.track.marks (all_marks k.kept) = Apart-within t.marks (all_marks tracks) c.track.marks (all_marks k.kept) c.within k.others apart.0 in
    record {
      became = k.became;
      after = k.after;
      becomes = k.becomes;
      quiet = k.quiet;
      kept = c.track ∷ k.kept;
      go = and_more other.1 k.go;
      apart = (here_apart, k.apart);
      own = λ m d. Contains-append_right t.marks (all_marks tracks) m (k.own m d);
      others = Within-both c.track.marks (all_marks k.kept) t.marks (all_marks tracks) c.within k.others;
      fits = λ h.
          let f = k.fits (omega (arith, h)) in
          let same : c.track ≡ t = c.same (omega (arith, h, f.need)) in
          let needs : c.track.need ≡ t.need = ap (λ (x : Track). x.need) same in
          record {
            need = omega (arith, f.need);
            trap = λ i. option_or (sym same i).trap (f.trap i);
            left =
                past-append w.memory t.marks (all_marks tracks)
                ∙ (past-past w.memory t.marks (all_marks tracks) (marks_lie g) (all_lie go) apart.0
                ∙ ((λ i. past (f.left i) (sym same i).marks)
                ∙ (past-past (past w.memory marks) (all_marks k.kept) c.track.marks
                (subst (λ m. AllLie m (all_marks k.kept)) memory (all_lie k.go)) (subst (λ m. AllLie m c.track.marks) memory (marks_lie other.1))
                (Apart-sym c.track.marks (all_marks k.kept) here_apart)
                ∙ sym (past-append (past w.memory marks) c.track.marks (all_marks k.kept)))));
          };
      over = λ h.
          ⊎_elim (λ many. omega (arith, k.over many))
          (λ few.
          let f = k.fits few in
          ⊎_elim (λ many. omega (arith, c.over many))
          (λ enough. let needs : c.track.need ≡ t.need = ap (λ (x : Track). x.need) (c.same enough) in omega (arith, f.need, h))
          (cases_lt n t.need))
          (cases_lt (suc n) (total tracks));
    }

mutual
  pub keeps : (n : ℕ) {parallel : Bool} {task : Task} {w : World} {t : Track} {last : World} {k : ℕ} {at : Spot} {action : Action} {next : ℤ → Task} {put : Task → Task} →
      Goes (suc n) parallel task w t last → Leaf task k at action next put → Keeps n parallel w t last at action next put
  keeps n (acts {at = at} {action} {w = w} {task} {after} {t} {last} q b g) here =
      record {
        became = task;
        after = after;
        becomes = b;
        quiet = q;
        track = t;
        last_kept = last;
        goes = g;
        need = refl;
        printed = refl;
        trap = λ _. refl;
        same_last = λ _. refl;
        memory = λ _. past-append w.memory (marks_of at action w) t.marks;
        own = λ m c. Contains-append_left (marks_of at action w) t.marks m c;
        others = λ m c. Contains-append_right (marks_of at action w) t.marks m c;
      }
  keeps n (fork_spent {parent = parent} go apart unended over) (inside leaf) = keeps_spent parent (keeps_in n go leaf apart) over
  keeps n (forks {parent = parent} go apart unended e g) (inside leaf) = keeps_forks parent (keeps_in n go leaf apart) e g
  keeps n (ended e) leaf = elim leaf [ ]

  keeps_in : (n : ℕ) {tasks : Tasks} {w : World} {tracks : List Track} {k : ℕ} {at : Spot} {action : Action} {next : ℤ → Task} {put : Task → Tasks} →
      AllGo (suc n) tasks w tracks → LeafIn tasks k at action next put → AllApart tracks → KeepsIn n w tracks at action next put
  keeps_in n (and_more g go) (first leaf) apart = keeps_first (keeps n g leaf) go apart
  keeps_in n (and_more g go) (later leaf) apart = keeps_later g go (keeps_in n go leaf apart.1) apart
  keeps_in n no_more leaf apart = elim leaf [ ]
