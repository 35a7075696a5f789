-- With one action less a track is cut short: it is the same where it doesn't need the action, and needs too many otherwise.
use Rattle.std.proofs.Common.{◌≡◌, ℕ, zero, suc, ◌+◌, ◌<◌, ◌≤◌, Bool, false, List, [], ◌∷◌, refl, ap, subst, ⊎_elim, arith}
use Rattle.std.proofs.lemmas.Bool.{cases_lt}
use Rattle.std.proofs.lemmas.List.Elements.{Contains-append_left}
use Rattle.lq_meaning.specs.World.{World}
use Rattle.lq_meaning.specs.Task.{Task, Ended, Fork, Tasks, all_ended, trap_of}
use Rattle.lq_alone.proofs.Marks.{Mark, marks_of, Within, Apart, Contains-none, Within-both}
use Rattle.lq_alone.proofs.Tracks.{Track, total, all_marks, AllApart, out, still, behind, spent_by, behind_branches, Goes, ended, spent, acts, fork_spent, forks, AllGo, no_more, and_more}

-- a task goes for so many actions by a track that is cut from the one of one action more
pub record Cut (n : ℕ) (parallel : Bool) (task : Task) (w : World) (t : Track) : Type 0 where
  pub track : Track
  pub last : World
  pub goes : Goes n parallel task w track last
  pub same : t.need ≤ n → track ≡ t
  pub over : n < t.need → n < track.need
  pub within : Within track.marks t.marks

pub record CutAll (n : ℕ) (tasks : Tasks) (w : World) (tracks : List Track) : Type 0 where
  pub cut : List Track
  pub go : AllGo n tasks w cut
  pub same : total tracks ≤ n → cut ≡ tracks
  pub over : n < total tracks → n < total cut
  pub within : Within (all_marks cut) (all_marks tracks)
  pub apart : AllApart tracks → AllApart cut

-- what is among marks that are apart from others is apart from them
pub Apart-within : (marks others marks_in others_in : List Mark) → Within marks_in marks → Within others_in others → Apart marks others → Apart marks_in others_in
Apart-within marks others marks_in others_in first second apart m n c d = apart m n (first m c) (second n d)

-- where a track and others need too many actions, so do what is cut from them
over_either : (n : ℕ) (t : Track) (tracks : List Track) (track : Track) (cut : List Track) → (t.need ≤ n → track ≡ t) → (n < t.need → n < track.need) →
    (total tracks ≤ n → cut ≡ tracks) → (n < total tracks → n < total cut) → n < t.need + total tracks → n < track.need + total cut
over_either n t tracks track cut same over all_same all_over h =
    ⊎_elim (λ many. omega (arith, over many))
    (λ few.
    ⊎_elim (λ many. omega (arith, all_over many))
    (λ others_few. let need : track.need ≡ t.need = ap (λ (x : Track). x.need) (same few) in let needs : total cut ≡ total tracks = ap total (all_same others_few) in omega arith)
    (cases_lt n (total tracks)))
    (cases_lt n t.need)

-- a fork whose branches together need too many actions
cut_fork : {n : ℕ} {parallel : Bool} {children : Tasks} {parent : Task} {w : World} {tracks : List Track} (t : Track) (c : CutAll n children w tracks) → AllApart tracks →
    all_ended children ≡ false → n < total tracks → n < t.need → Within (all_marks tracks) t.marks → Cut n parallel (Fork children parent) w t
cut_fork {n} {w = w} {tracks} t c apart unended over needs within =
    record {
      track = spent_by n c.cut;
      last = w;
      goes = fork_spent c.go (c.apart apart) unended (c.over over);
      same = λ h. absurd (omega arith);
      over = λ _. omega arith;
      within = λ m d. within m (c.within m d);
    }

mutual
  pub cut : (n : ℕ) {parallel : Bool} {task : Task} {w : World} {t : Track} {last : World} → Goes (suc n) parallel task w t last → Cut n parallel task w t
  cut n (ended {ending = ending} {w} e) =
      record { track = still (trap_of (Ended ending)); last = w; goes = ended e; same = λ _. refl; over = λ h. absurd (omega (arith, h)); within = λ m c. c }
  cut zero (acts {w = w} q b g) =
      record { track = out; last = w; goes = spent; same = λ h. absurd (omega (arith, h)); over = λ _. omega arith; within = λ m c. absurd (Contains-none m c) }
  cut (suc n) (acts {at = at} {action} {w = w} {t = t} q b g) =
      let c = cut n g in
      let marks = marks_of at action w in
      record {
        track = behind marks c.track;
        last = c.last;
        goes = acts q b c.goes;
        same = λ h. ap (behind marks) (c.same (omega (arith, h)));
        over = λ h. omega (arith, c.over (omega (arith, h)));
        within = Within-both marks c.track.marks marks t.marks (λ m d. d) c.within;
      }
  cut n (fork_spent {tracks = tracks} go apart unended over) =
      cut_fork (spent_by (suc n) tracks) (cut_all n go) apart unended (omega arith) (omega arith) (λ m d. d)
  cut n (forks {rest = zero} {tracks = tracks} {t} go apart unended e g) =
      cut_fork (behind_branches tracks t) (cut_all n go) apart unended (omega arith) (omega arith) (λ m d. Contains-append_left (all_marks tracks) t.marks m d)
  cut n (forks {rest = suc rest} {parallel} {children} {parent} {w} {tracks} {t} go apart unended e g) =
      let all = cut_all n go in
      let c = cut rest g in
      let same : all.cut ≡ tracks = all.same (omega arith) in
      record {
        track = behind_branches tracks c.track;
        last = c.last;
        goes = forks (subst (λ (x : List Track). AllGo n children w x) same all.go) apart unended (omega arith) c.goes;
        same = λ h. ap (behind_branches tracks) (c.same (omega (arith, h)));
        over = λ h. omega (arith, c.over (omega (arith, h)));
        within = Within-both (all_marks tracks) c.track.marks (all_marks tracks) t.marks (λ m d. d) c.within;
      }

  pub cut_all : (n : ℕ) {tasks : Tasks} {w : World} {tracks : List Track} → AllGo (suc n) tasks w tracks → CutAll n tasks w tracks
  cut_all n no_more = record { cut = []; go = no_more; same = λ _. refl; over = λ h. absurd (omega (arith, h)); within = λ m c. c; apart = λ a. a }
  cut_all n (and_more {t = t} {tracks = tracks} g go) =
      let c = cut n g in
      let all = cut_all n go in
      record {
        cut = c.track ∷ all.cut;
        go = and_more c.goes all.go;
        same = λ h. let first : c.track ≡ t = c.same (omega (arith, h)) in let others : all.cut ≡ tracks = all.same (omega (arith, h)) in λ i. first i ∷ others i;
        over = λ h. over_either n t tracks c.track all.cut c.same c.over all.same all.over h;
        within = Within-both c.track.marks (all_marks all.cut) t.marks (all_marks tracks) c.within all.within;
        apart = λ a. (Apart-within t.marks (all_marks tracks) c.track.marks (all_marks all.cut) c.within all.within a.0, all.apart a.1);
      }
