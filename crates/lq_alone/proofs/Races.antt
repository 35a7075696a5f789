-- The accesses of a track don't race where each leaf has its path.
use Rattle.std.proofs.Common.{◌≡◌, ℕ, suc, ◌==◌, ◌≤◌, ℤ, Bool, true, false, not, ◌&&◌, ◌||◌, List, [], ◌∷◌, ◌++◌, Option, None, Some, refl, sym, ap, ◌∙◌, ⊎_elim, append_assoc, arith}
use Rattle.std.specs.Prelude.{Contains}
use Rattle.std.proofs.lemmas.Bool.{and_from, and_right, and_left, and_parts, eq-eqb, ne_eqb}
use Rattle.std.proofs.lemmas.Option.{slice_get_within, get_or_from_slice_get}
use Rattle.std.proofs.lemmas.List.Elements.{Contains-append_cases}
use Rattle.lq_meaning.specs.World.{World, Acted}
use Rattle.lq_meaning.specs.Ending.{Trap}
use Rattle.lq_meaning.specs.Task.{Spot, Task, Tasks, behind_all}
use Rattle.lq_meaning.specs.Placed.{IsPlacedFrom, ArePlacedFrom}
use Rattle.lq_log.specs.declared.entry.Entry.{Entry}
use Rattle.lq_log.specs.Race.{unordered, part, races, IsRaceFree}
use Rattle.lq_alone.specs.Alone.{Access, accesses_of, clash}
use Rattle.lq_alone.proofs.Marks.{Mark, marks_at, entry_of, Apart, eqb-sym, clash-sym, Contains-none, Contains-cases}
use Rattle.lq_alone.proofs.Tracks.{Track, all_marks, trap_among, AllApart, Becomes, by_answer, by_trap, Goes, ended, spent, acts, fork_spent, forks, AllGo, no_more, and_more}

-- ---- paths

-- a path of whole pairs: forks passed, and the branch taken
data Whole : List ℕ → Type 0 where
  whole_none : Whole []
  whole_more : {passed number : ℕ} {path : List ℕ} → Whole path → Whole (passed ∷ number ∷ path)

Whole-append : {path : List ℕ} (passed number : ℕ) → Whole path → Whole (path ++ passed ∷ number ∷ [])
Whole-append passed number whole_none = whole_more whole_none
Whole-append passed number (whole_more whole) = whole_more (Whole-append passed number whole)

-- what paths have in common in front makes no difference
unordered-front : {front : List ℕ} (path other : List ℕ) → Whole front → unordered (front ++ path) (front ++ other) ≡ unordered path other
unordered-front path other whole_none = refl
unordered-front path other (whole_more {passed} {number} {path = front} whole) =
    let same : (passed == passed) ≡ true = eq-eqb passed passed refl in
    let taken : (number == number) ≡ true = eq-eqb number number refl in
    (λ i. same i && (not (taken i) || unordered (front ++ path) (front ++ other))) ∙ unordered-front path other whole

-- whether two paths are unordered doesn't depend on which comes first
mutual
  unordered-sym : (path other : List ℕ) → unordered path other ≡ unordered other path
  unordered-sym [] [] = refl
  unordered-sym [] (gone ∷ other) = refl
  unordered-sym (passed ∷ path) [] = refl
  unordered-sym (passed ∷ path) (gone ∷ other) = λ i. eqb-sym passed gone i && part-sym path other i

  part-sym : (path other : List ℕ) → part path other ≡ part other path
  part-sym [] [] = refl
  part-sym [] (taken ∷ other) = refl
  part-sym (branch ∷ path) [] = refl
  part-sym (branch ∷ path) (taken ∷ other) = λ i. not (eqb-sym branch taken i) || unordered-sym path other i

-- ---- where marks stand

-- the mark's leaf has passed at least so many forks in this branch, or is in a branch behind them
record Stands (branch : List ℕ) (passed : ℕ) (m : Mark) : Type 0 where
  forks_passed : ℕ
  rest : List ℕ
  path : m.spot.path ≡ branch ++ forks_passed ∷ rest
  from : passed ≤ forks_passed

-- the mark's leaf stands on this line itself, or in a branch of this fork
record StandsAt (branch : List ℕ) (passed : ℕ) (m : Mark) : Type 0 where
  rest : List ℕ
  path : m.spot.path ≡ branch ++ passed ∷ rest

-- marks of unordered leaves don't clash
abbrev pub RaceFree : List Mark → Type 0
RaceFree marks = (m n : Mark) → Contains marks m → Contains marks n → unordered m.spot.path n.spot.path ≡ true → clash m.access n.access ≡ false

-- one way round is enough
RaceFree-append : (marks others : List Mark) → RaceFree marks → RaceFree others →
    ((m n : Mark) → Contains marks m → Contains others n → unordered m.spot.path n.spot.path ≡ true → clash m.access n.access ≡ false) → RaceFree (marks ++ others)
RaceFree-append marks others first second cross m n c d u =
    ⊎_elim
    (λ cm. ⊎_elim (λ cn. first m n cm cn u) (λ cn. cross m n cm cn u) (Contains-append_cases marks others n d))
    (λ cm.
    ⊎_elim (λ cn. clash-sym m.access n.access ∙ cross n m cn cm (unordered-sym n.spot.path m.spot.path ∙ u)) (λ cn. second m n cm cn u)
    (Contains-append_cases marks others n d))
    (Contains-append_cases marks others m c)

RaceFree-none : RaceFree []
RaceFree-none m n c d u = absurd (Contains-none m c)

-- what stands on the line in front of what stands behind is ordered
ordered_ahead : (branch : List ℕ) (passed : ℕ) (m n : Mark) → Whole branch → StandsAt branch passed m → Stands branch (suc passed) n → unordered m.spot.path n.spot.path ≡ false
ordered_ahead branch passed m n whole at s =
    let from = s.from in
    (λ i. unordered (at.path i) (s.path i))
    ∙ unordered-front (passed ∷ at.rest) (s.forks_passed ∷ s.rest) whole
    ∙ and_left (passed == s.forks_passed) (part at.rest s.rest) (ne_eqb passed s.forks_passed (λ e. omega (arith, e)))

-- so is what a leaf of the line itself does, and what is behind it
ordered_line : (branch : List ℕ) (passed : ℕ) (m n : Mark) → Whole branch → m.spot.path ≡ branch ++ passed ∷ [] → Stands branch passed n → unordered m.spot.path n.spot.path ≡ false
ordered_line branch passed m n whole at s =
    (λ i. unordered (at i) (s.path i))
    ∙ unordered-front (passed ∷ []) (s.forks_passed ∷ s.rest) whole
    ∙ and_right (passed == s.forks_passed) (part [] s.rest) refl

-- the marks of an action stand at its leaf
marks_at-spot : (at : Spot) (found : List Access) (m : Mark) → Contains (marks_at at found) m → m.spot ≡ at
marks_at-spot at [] m c = absurd (Contains-none m c)
marks_at-spot at (a ∷ found) m c = ⊎_elim (λ here. ap (λ (x : Mark). x.spot) here) (marks_at-spot at found m) (Contains-cases _ m (marks_at at found) c)

-- what a leaf becomes has the leaf's place
placed_becomes : {at : Spot} {next : ℤ → Task} {r : Acted} {task : Task} {after : World} (branch : List ℕ) (passed : ℕ) → Becomes at next r task after →
    ((word : ℤ) → IsPlacedFrom (next word) branch passed) → IsPlacedFrom task branch passed
placed_becomes branch passed (by_answer {word}) placed = placed word
placed_becomes branch passed by_trap placed = tt

placed_behind : (trap : Option Trap) (parent : Task) (branch : List ℕ) (passed : ℕ) → IsPlacedFrom parent branch passed → IsPlacedFrom (behind_all trap parent) branch passed
placed_behind None parent branch passed placed = placed
placed_behind (Some trap) parent branch passed placed = tt

-- where the marks of a track stand, and that they don't race
record Placed (branch : List ℕ) (passed : ℕ) (marks : List Mark) : Type 0 where
  stand : (m : Mark) → Contains marks m → Stands branch passed m
  free : RaceFree marks

record PlacedAt (branch : List ℕ) (passed : ℕ) (marks : List Mark) : Type 0 where
  stand : (m : Mark) → Contains marks m → StandsAt branch passed m
  free : RaceFree marks

placed_none : (branch : List ℕ) (passed : ℕ) → Placed branch passed []
placed_none branch passed = record { stand = λ m c. absurd (Contains-none m c); free = RaceFree-none }

-- the marks of a fork's branches, seen from its line
placed_fork : {branch : List ℕ} {passed : ℕ} {marks : List Mark} → PlacedAt branch passed marks → Placed branch passed marks
placed_fork {branch} {passed} p =
    record { stand = λ m c. let s = p.stand m c in record { forks_passed = passed; rest = s.rest; path = s.path; from = omega arith }; free = p.free }

placed_act : (at : Spot) (found : List Access) {branch : List ℕ} {passed : ℕ} {marks : List Mark} → Whole branch → at.path ≡ branch ++ passed ∷ [] → Placed branch passed marks →
    Placed branch passed (marks_at at found ++ marks)
placed_act at found {branch} {passed} {marks} whole path p =
    let here : (m : Mark) → Contains (marks_at at found) m → m.spot.path ≡ branch ++ passed ∷ [] = λ m c. ap (λ (x : Spot). x.path) (marks_at-spot at found m c) ∙ path in
    let stand_here : (m : Mark) → Contains (marks_at at found) m → Stands branch passed m =
    λ m c. record { forks_passed = passed; rest = []; path = here m c; from = omega arith } in
    let never : (m n : Mark) → Contains (marks_at at found) m → Stands branch passed n → unordered m.spot.path n.spot.path ≡ true → clash m.access n.access ≡ false =
    λ m n c s u. let ordered = ordered_line branch passed m n whole (here m c) s in absurd cc in
    record {
      stand = λ m c. ⊎_elim (stand_here m) (p.stand m) (Contains-append_cases (marks_at at found) marks m c);
      free = RaceFree-append (marks_at at found) marks (λ m n c d u. never m n c (stand_here n d) u) p.free (λ m n c d u. never m n c (p.stand n d) u);
    }

-- the marks behind a fork
placed_behind_fork : {branch : List ℕ} {passed : ℕ} (marks others : List Mark) → Whole branch → PlacedAt branch passed marks → Placed branch (suc passed) others →
    Placed branch passed (marks ++ others)
placed_behind_fork {branch} {passed} marks others whole p q =
    let first = placed_fork p in
    record {
      stand = λ m c.
          ⊎_elim (first.stand m)
          (λ later. let s = q.stand m later in let from = s.from in record { forks_passed = s.forks_passed; rest = s.rest; path = s.path; from = omega arith })
          (Contains-append_cases marks others m c);
      free = RaceFree-append marks others p.free q.free (λ m n c d u. let ordered = ordered_ahead branch passed m n whole (p.stand m c) (q.stand n d) in absurd cc);
    }

-- the marks of a branch, seen from the line of its fork, beside those of other branches
placed_branch : {branch : List ℕ} {passed : ℕ} (number : ℕ) (marks others : List Mark) → Placed (branch ++ passed ∷ number ∷ []) 0 marks → PlacedAt branch passed others →
    Apart marks others → PlacedAt branch passed (marks ++ others)
placed_branch {branch} {passed} number marks others p q apart =
    record {
      stand = λ m c.
          ⊎_elim
          (λ here.
          let s = p.stand m here in
          record { rest = number ∷ s.forks_passed ∷ s.rest; path = s.path ∙ append_assoc branch (passed ∷ number ∷ []) (s.forks_passed ∷ s.rest) })
          (q.stand m) (Contains-append_cases marks others m c);
      free = RaceFree-append marks others p.free q.free (λ m n c d u. apart m n c d);
    }

-- what stands behind more forks stands behind fewer
placed_later : {branch : List ℕ} {now : ℕ} (passed : ℕ) {marks : List Mark} → passed ≤ now → Placed branch now marks → Placed branch passed marks
placed_later passed later p =
    record {
      stand = λ m c. let s = p.stand m c in let from = s.from in record { forks_passed = s.forks_passed; rest = s.rest; path = s.path; from = omega arith };
      free = p.free;
    }

mutual
  track_placed : {n : ℕ} {parallel : Bool} {task : Task} {w : World} {t : Track} {last : World} (branch : List ℕ) (passed : ℕ) → Goes n parallel task w t last →
      Whole branch → IsPlacedFrom task branch passed → Placed branch passed t.marks
  track_placed branch passed (ended e) whole placed = placed_none branch passed
  track_placed branch passed spent whole placed = placed_none branch passed
  track_placed branch passed (acts {at = at} {action} {w = w} q b g) whole placed =
      placed_later passed placed.1
      (placed_act at (accesses_of action w) whole placed.2 (track_placed branch placed.0 g whole (placed_becomes branch placed.0 b placed.3)))
  track_placed branch passed (fork_spent go apart unended over) whole placed =
      placed_later passed placed.1 (placed_fork (tracks_placed branch placed.0 0 go apart whole placed.2))
  track_placed branch passed (forks {parent = parent} {tracks = tracks} {t} go apart unended e g) whole placed =
      placed_later passed placed.1
      (placed_behind_fork (all_marks tracks) t.marks whole (tracks_placed branch placed.0 0 go apart whole placed.2)
      (track_placed branch (suc placed.0) g whole (placed_behind (trap_among tracks) parent branch (suc placed.0) placed.3)))

  tracks_placed : {n : ℕ} {tasks : Tasks} {w : World} {tracks : List Track} (branch : List ℕ) (passed number : ℕ) → AllGo n tasks w tracks → AllApart tracks →
      Whole branch → ArePlacedFrom tasks branch passed number → PlacedAt branch passed (all_marks tracks)
  tracks_placed branch passed number no_more apart whole placed = record { stand = λ m c. absurd (Contains-none m c); free = RaceFree-none }
  tracks_placed branch passed number (and_more {t = t} {tracks = tracks} g go) apart whole placed =
      placed_branch number t.marks (all_marks tracks) (track_placed (branch ++ passed ∷ number ∷ []) 0 g (Whole-append passed number whole) placed.0)
      (tracks_placed branch passed (suc number) go apart.1 whole placed.1) apart.0

-- the marks of a track from the beginning don't race
pub track_race_free : {n : ℕ} {parallel : Bool} {task : Task} {w : World} {t : Track} {last : World} → Goes n parallel task w t last → IsPlacedFrom task [] 0 → RaceFree t.marks
track_race_free g placed = (track_placed [] 0 g whole_none placed).free

-- what races are of two marks
races_parts : (m n : Mark) → races (entry_of m) (entry_of n) ≡ true → (unordered m.spot.path n.spot.path ≡ true) × (clash m.access n.access ≡ true)
races_parts m n h =
    let all = and_parts _ _ h in
    let two = and_parts _ _ all.0 in
    (two.0, and_from _ _ two.1 all.1)

-- nor does a log of such accesses
pub log_race_free : (log : List Entry) (marks : List Mark) → ((e : Entry) → Contains log e → (m : Mark) × Contains marks m × (e ≡ entry_of m)) → RaceFree marks → IsRaceFree log
log_race_free log marks known free i j race =
    let first = known race.first (i, slice_get_within log i race.first race.at_i, get_or_from_slice_get log i race.first race.first race.at_i) in
    let second = known race.second (j, slice_get_within log j race.second race.at_j, get_or_from_slice_get log j race.second race.second race.at_j) in
    let m = first.0 in
    let n = second.0 in
    let both : races (entry_of m) (entry_of n) ≡ true = (λ k. races (sym first.2 k) (sym second.2 k)) ∙ race.race in
    let parts = races_parts m n both in
    let apart = free m n first.1 second.1 parts.0 in
    absurd cc
