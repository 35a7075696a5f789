-- What a track rests on: it stays as it is behind accesses that are apart from it, and with one action less it is cut short.
use Rattle.std.proofs.Common.{◌≡◌, ℕ, zero, suc, ◌+◌, ℤ, true, List, [], ◌∷◌, ◌++◌, Option, None, Some, refl, sym, ap, ◌∙◌, subst, ⊎_elim}
use Rattle.std.specs.Prelude.{Contains}
use Rattle.std.proofs.lemmas.List.Elements.{Contains-append_left, Contains-append_right, Contains-append_cases}
use Rattle.lq_meaning.specs.declared.memory.Address.{Address}
use Rattle.lq_meaning.specs.Memory.{Blocks, reach, word_at, with_word}
use Rattle.lq_meaning.specs.declared.action.Action.{Action}
use Rattle.lq_meaning.specs.declared.action.Action.TheVariants.{Allocate, Load, Store, Print, Enter, Test, Start}
use Rattle.lq_meaning.specs.World.{World, counted, loaded, stored, act}
use Rattle.lq_meaning.specs.Task.{Spot, Task, Due, Tasks}
use Rattle.lq_meaning.proofs.Writes.{Lies, Lies-reach}
use Rattle.lq_alone.specs.Alone.{Access, access, accesses_of}
use Rattle.lq_alone.proofs.Marks.{Mark, marks_at, marks_of, past, Apart, AllLie, Contains-first, Contains-none, Contains-cases, Lies-unpast, reach-past, word_at-past, past-write, past-past, AllLie-past}
use Rattle.lq_alone.proofs.Tracks.{Track, all_marks, behind, world_behind, Becomes, by_answer, by_trap, IsQuiet, Goes, ended, spent, acts, fork_spent, forks, AllGo, no_more, and_more}

-- ---- quiet actions

-- the world that an action leaves which neither prints nor allocates
abbrev pub acted_world : World → List Mark → World
acted_world w marks = record { memory = past w.memory marks; left = w.left; cost = w.cost + 1; printed = w.printed }

-- what a load that becomes something tells
record Loads (w : World) (r : Option Address) (next : ℤ → Task) (task : Task) (after : World) : Type 0 where
  at : Address
  found : r ≡ Some at
  goes_on : task ≡ next (word_at w.memory at)
  leaves : after ≡ counted w

loads : (at : Spot) (next : ℤ → Task) (w : World) (r : Option Address) {task : Task} {after : World} → Becomes at next (loaded (counted w) r) task after → Loads w r next task after
loads at next w None b = elim b [ ]
loads at next w (Some a) by_answer = record { at = a; found = refl; goes_on = refl; leaves = refl }

-- what a store that becomes something tells
record Stores (w : World) (r : Option Address) (word : ℤ) (next : ℤ → Task) (task : Task) (after : World) : Type 0 where
  at : Address
  found : r ≡ Some at
  goes_on : task ≡ next word
  leaves : after ≡ record { memory = with_word w.memory at word; left = w.left; cost = w.cost + 1; printed = w.printed }

stores : (at : Spot) (next : ℤ → Task) (w : World) (r : Option Address) (word : ℤ) {task : Task} {after : World} → Becomes at next (stored (counted w) r word) task after →
    Stores w r word next task after
stores at next w None word b = elim b [ ]
stores at next w (Some a) word by_answer = record { at = a; found = refl; goes_on = refl; leaves = refl }

-- the world behind a quiet action
pub quiet_world : (at : Spot) (next : ℤ → Task) (action : Action) (w : World) {task : Task} {after : World} → IsQuiet true action → Becomes at next (act action w) task after →
    after ≡ acted_world w (marks_of at action w)
quiet_world at next (Allocate count fields) w q b = absurd cc
quiet_world at next (Load p i field) w q b =
    let l = loads at next w (reach w.memory p i field) b in
    l.leaves ∙ ap (λ r. acted_world w (marks_at at (access r None))) (sym l.found)
quiet_world at next (Store p i field word) w q b =
    let s = stores at next w (reach w.memory p i field) word b in
    s.leaves ∙ ap (λ r. acted_world w (marks_at at (access r (Some word)))) (sym s.found)
quiet_world at next (Print number) w q b = absurd cc
quiet_world at next (Enter zero) w q by_trap = refl
quiet_world at next (Enter (suc n)) w q by_answer = refl
quiet_world at next Test w q by_answer = refl
quiet_world at next Start w q by_answer = refl

-- what an address has among the accesses that it was found for
one_mark : (at : Spot) (a : Address) (written : Option ℤ) → Mark
one_mark at a written = record { spot = at; access = record { address = a; written = written } }

found_mark : (at : Spot) (r : Option Address) (a : Address) (written : Option ℤ) → r ≡ Some a → Contains (marks_at at (access r written)) (one_mark at a written)
unfolding one_mark
found_mark at r a written e = subst (λ x. Contains (marks_at at (access x written)) (one_mark at a written)) (sym e) (Contains-first (one_mark at a written) [])

-- the marks of a reach that lies
reached_lie : (memory : Blocks) (at : Spot) (r : Option Address) (written : Option ℤ) → ((a : Address) → r ≡ Some a → Lies memory a) → AllLie memory (marks_at at (access r written))
reached_lie memory at None written lies m c = absurd (Contains-none m c)
reached_lie memory at (Some a) written lies m c =
    ⊎_elim (λ e. subst (λ (x : Mark). Lies memory x.access.address) (sym e) (lies a refl)) (λ none. absurd (Contains-none m none)) (Contains-cases _ m [] c)

-- the addresses of an action's accesses lie in the memory
pub act_lies : (at : Spot) (action : Action) (w : World) → AllLie w.memory (marks_of at action w)
act_lies at (Load p i field) w = reached_lie w.memory at (reach w.memory p i field) None (Lies-reach w.memory p i field)
act_lies at (Store p i field word) w = reached_lie w.memory at (reach w.memory p i field) (Some word) (Lies-reach w.memory p i field)
act_lies at (Allocate count fields) w = λ m c. absurd (Contains-none m c)
act_lies at (Print number) w = λ m c. absurd (Contains-none m c)
act_lies at (Enter n) w = λ m c. absurd (Contains-none m c)
act_lies at Test w = λ m c. absurd (Contains-none m c)
act_lies at Start w = λ m c. absurd (Contains-none m c)

-- an action does in another world what it does in the one, and the marks before it are still before it
record Framed (at : Spot) (next : ℤ → Task) (action : Action) (w other : World) (marks : List Mark) (task : Task) (after : World) : Type 0 where
  after_other : World
  becomes : Becomes at next (act action other) task after_other
  memory : after_other.memory ≡ past after.memory marks
  found : accesses_of action other ≡ accesses_of action w
  lie : AllLie after.memory marks

module _ (at : Spot) (next : ℤ → Task) (w other : World) (marks : List Mark) (same : other.memory ≡ past w.memory marks) (lie : AllLie w.memory marks) where
  -- each pointer reaches what it reached
  reaches : (p i : ℤ) (field : ℕ) → reach other.memory p i field ≡ reach w.memory p i field
  reaches p i field = ap (λ memory. reach memory p i field) same ∙ reach-past w.memory marks p i field lie

  -- an action that accesses nothing
  framed_counted : (action : Action) (task : Task) → Becomes at next (act action other) task (counted other) → accesses_of action other ≡ accesses_of action w →
      Framed at next action w other marks task (counted w)
  framed_counted action task becomes found = record { after_other = counted other; becomes = becomes; memory = same; found = found; lie = lie }

  load_framed : (p i : ℤ) (field : ℕ) {task : Task} {after : World} → Becomes at next (loaded (counted w) (reach w.memory p i field)) task after →
      Apart marks (marks_at at (access (reach w.memory p i field) None)) → Framed at next (Load p i field) w other marks task after
  unfolding one_mark
  load_framed p i field {task} b apart =
      let l = loads at next w (reach w.memory p i field) b in
      let word : word_at other.memory l.at ≡ word_at w.memory l.at =
      ap (λ memory. word_at memory l.at) same
      ∙ word_at-past w.memory marks l.at lie (Lies-reach w.memory p i field l.at l.found)
      (λ m c. apart m (one_mark at l.at None) c (found_mark at (reach w.memory p i field) l.at None l.found)) in
      let goes_on : next (word_at other.memory l.at) ≡ task = ap next word ∙ sym l.goes_on in
      let answer : Becomes at next (loaded (counted other) (Some l.at)) (next (word_at other.memory l.at)) (counted other) = by_answer in
      subst (λ v. Framed at next (Load p i field) w other marks task v) (sym l.leaves)
      (framed_counted (Load p i field) task
      (subst (λ r. Becomes at next (loaded (counted other) r) task (counted other)) (sym (reaches p i field ∙ l.found))
      (subst (λ x. Becomes at next (loaded (counted other) (Some l.at)) x (counted other)) goes_on answer))
      (ap (λ r. access r None) (reaches p i field)))

  store_framed : (p i : ℤ) (field : ℕ) (word : ℤ) {task : Task} {after : World} → Becomes at next (stored (counted w) (reach w.memory p i field) word) task after →
      Apart marks (marks_at at (access (reach w.memory p i field) (Some word))) → Framed at next (Store p i field word) w other marks task after
  unfolding one_mark
  store_framed p i field word {task} b apart =
      let s = stores at next w (reach w.memory p i field) word b in
      let lies = Lies-reach w.memory p i field s.at s.found in
      let left : World = record { memory = with_word other.memory s.at word; left = other.left; cost = other.cost + 1; printed = other.printed } in
      let answer : Becomes at next (stored (counted other) (Some s.at) word) (next word) left = by_answer in
      let one : Access = record { address = s.at; written = Some word } in
      subst (λ v. Framed at next (Store p i field word) w other marks task v) (sym s.leaves)
      (record {
        after_other = left;
        becomes =
            subst (λ r. Becomes at next (stored (counted other) r word) task left) (sym (reaches p i field ∙ s.found))
            (subst (λ x. Becomes at next (stored (counted other) (Some s.at) word) x left) (sym s.goes_on) answer);
        memory =
            ap (λ memory. with_word memory s.at word) same
            ∙ sym (past-write w.memory marks one lie lies (λ m c. apart m (one_mark at s.at (Some word)) c (found_mark at (reach w.memory p i field) s.at (Some word) s.found)));
        found = ap (λ r. access r (Some word)) (reaches p i field);
        lie = AllLie-past w.memory (record { spot = at; access = one } ∷ []) marks (reached_lie w.memory at (Some s.at) (Some word) (λ a e. let same_at : s.at ≡ a = cc in subst (λ x. Lies w.memory x) same_at lies)) lie;
      })

  act_framed : (action : Action) {task : Task} {after : World} → IsQuiet true action → Becomes at next (act action w) task after → Apart marks (marks_of at action w) →
      Framed at next action w other marks task after
  act_framed (Allocate count fields) q b apart = absurd cc
  act_framed (Load p i field) q b apart = load_framed p i field b apart
  act_framed (Store p i field word) q b apart = store_framed p i field word b apart
  act_framed (Print number) q b apart = absurd cc
  act_framed (Enter zero) q by_trap apart = framed_counted (Enter zero) _ by_trap refl
  act_framed (Enter (suc n)) q by_answer apart = framed_counted (Enter (suc n)) _ by_answer refl
  act_framed Test q by_answer apart = framed_counted Test _ by_answer refl
  act_framed Start q by_answer apart = framed_counted Start _ by_answer refl

-- ---- the addresses of a track lie in the memory

mutual
  pub marks_lie : {n : ℕ} {task : Task} {w : World} {t : Track} {last : World} → Goes n true task w t last → AllLie w.memory t.marks
  marks_lie (ended e) = λ m c. absurd (Contains-none m c)
  marks_lie spent = λ m c. absurd (Contains-none m c)
  marks_lie (acts {at = at} {action} {next} {w} {t = t} q b g) = λ m c.
      ⊎_elim (act_lies at action w m)
      (λ later.
      Lies-unpast w.memory (marks_of at action w) m.access.address (act_lies at action w)
      (subst (λ (v : World). Lies v.memory m.access.address) (quiet_world at next action w q b) (marks_lie g m later)))
      (Contains-append_cases (marks_of at action w) t.marks m c)
  marks_lie (fork_spent go apart un over) = all_lie go
  marks_lie (forks {w = w} {tracks} {t} go apart un e g) = λ m c.
      ⊎_elim (all_lie go m) (λ later. Lies-unpast w.memory (all_marks tracks) m.access.address (all_lie go) (marks_lie g m later))
      (Contains-append_cases (all_marks tracks) t.marks m c)

  pub all_lie : {n : ℕ} {tasks : Tasks} {w : World} {tracks : List Track} → AllGo n tasks w tracks → AllLie w.memory (all_marks tracks)
  all_lie no_more = λ m c. absurd (Contains-none m c)
  all_lie (and_more {t = t} {tracks = tracks} g go) = λ m c. ⊎_elim (marks_lie g m) (all_lie go m) (Contains-append_cases t.marks (all_marks tracks) m c)

-- ---- frame

pub Apart-left : (marks others later : List Mark) → Apart marks (others ++ later) → Apart marks others
Apart-left marks others later apart m n c d = apart m n c (Contains-append_left others later n d)

pub Apart-right : (marks others later : List Mark) → Apart marks (others ++ later) → Apart marks later
Apart-right marks others later apart m n c d = apart m n c (Contains-append_right others later n d)

-- A branch goes by the same track from a world whose memory is the same but for marks that are apart from the track.
mutual
  pub frame : {n : ℕ} {task : Task} {w : World} {t : Track} {last : World} → Goes n true task w t last →
      (other : World) (marks : List Mark) → other.memory ≡ past w.memory marks → AllLie w.memory marks → Apart marks t.marks →
      (last_other : World) × Goes n true task other t last_other
  frame (ended e) other marks same lie apart = (other, ended e)
  frame spent other marks same lie apart = (other, spent)
  frame (acts {n} {at = at} {action} {next} {w} {t = t} q b g) other marks same lie apart =
      let f = act_framed at next w other marks same lie action q b (Apart-left marks (marks_of at action w) t.marks apart) in
      let later = frame g f.after_other marks f.memory f.lie (Apart-right marks (marks_of at action w) t.marks apart) in (
        later.0,
        subst (λ found. Goes (suc n) true (Due at action next) other (behind (marks_at at found) t) later.0) f.found (acts q f.becomes later.1),
      )
  frame (fork_spent go apart_branches un over) other marks same lie apart = (other, fork_spent (frame_all go other marks same lie apart) apart_branches un over)
  frame (forks {w = w} {tracks} {t} go apart_branches un e g) other marks same lie apart =
      let here = Apart-left marks (all_marks tracks) t.marks apart in
      let memory : past other.memory (all_marks tracks) ≡ past (past w.memory (all_marks tracks)) marks =
      ap (λ memory. past memory (all_marks tracks)) same ∙ past-past w.memory marks (all_marks tracks) lie (all_lie go) here in
      let later = frame g (world_behind other tracks) marks memory (AllLie-past w.memory (all_marks tracks) marks (all_lie go) lie) (Apart-right marks (all_marks tracks) t.marks apart) in
      (later.0, forks (frame_all go other marks same lie here) apart_branches un e later.1)

  pub frame_all : {n : ℕ} {tasks : Tasks} {w : World} {tracks : List Track} → AllGo n tasks w tracks →
      (other : World) (marks : List Mark) → other.memory ≡ past w.memory marks → AllLie w.memory marks → Apart marks (all_marks tracks) →
      AllGo n tasks other tracks
  frame_all no_more other marks same lie apart = no_more
  frame_all (and_more {t = t} {tracks = tracks} g go) other marks same lie apart =
      and_more (frame g other marks same lie (Apart-left marks t.marks (all_marks tracks) apart)).1
      (frame_all go other marks same lie (Apart-right marks t.marks (all_marks tracks) apart))
