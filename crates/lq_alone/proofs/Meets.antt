-- Branches alone that are clean go by a track, and come to what it says.
use Rattle.std.proofs.Common.{◌≡◌, ℕ, zero, suc, ◌+◌, ◌-◌, ◌<◌, ◌≤◌, ℤ, Bool, true, false, not, ◌&&◌, ◌||◌, List, [], ◌∷◌, ◌++◌, Option, None, Some, refl, sym, ap, ◌∙◌, subst, inl, inr, ◌⊎◌, ⊎_elim, append-nil, arith}
use Rattle.std.specs.Prelude.{nat_lt, slice_get, Contains, sum_by}
use Rattle.std.specs.List.{list_any, list_all, filter_map, cons_option}
use Rattle.std.specs.Option.{option_or}
use Rattle.std.proofs.lemmas.Bool.{and_parts, or_parts, or_left, or_right, or_from, lt-ltb, le-ltb, cases_lt}
use Rattle.std.proofs.lemmas.List.Sums.{sum_by-cons}
use Rattle.std.proofs.lemmas.List.Elements.{Contains-append_cases}
use Rattle.lq_tree.specs.declared.place.Place.{Place}
use Rattle.lq_meaning.specs.declared.action.Action.{Action}
use Rattle.lq_meaning.specs.World.{World, Acted, Answers, Traps, Strays, act}
use Rattle.lq_meaning.specs.Ending.{Trap, Ending, Done, Trapped, Strayed, Spent, Unruled}
use Rattle.lq_meaning.specs.Control.{Came, Gives, Stops, answered}
use Rattle.lq_meaning.specs.Task.{Spot, Task, Ended, Due, Fork, Tasks, none, more, all_ended, behind_all}
use Rattle.lq_meaning.specs.Tasks.{IsRuled, IsRegular, AreRegular}
use Rattle.lq_meaning.proofs.Costs.{left_by, act-cost}
use Rattle.lq_meaning.proofs.TaskUnderWay.{IsUnderWay, AreUnderWay}
use Rattle.lq_alone.specs.Alone.{Access, Alone, clash, are_apart, pairwise_apart, accesses_of, after, all_accesses, merged, halting, trapping, is_spent, or_first, joined, ends, behind as found_behind, alone_behind, behind_fork, alone, alone_each}
use Rattle.lq_alone.proofs.Marks.{Mark, accesses, marks_of, Apart, accesses-append, accesses-marks_at, Contains-none, Contains-cases}
use Rattle.lq_alone.proofs.Tracks.{Track, total, all_marks, trap_among, AllApart, still, out, behind, spent_by, behind_branches, world_behind, Becomes, by_answer, by_trap, IsQuiet, Goes, ended, spent, acts, fork_spent, forks, AllGo, no_more, and_more}
use Rattle.lq_alone.proofs.Interleaved.{trap_end, becomes_left}

-- ---- what branches alone come to

-- where the fuel is enough
pub record Enough (t : Track) (w last : World) (a : Alone) : Type 0 where
  pub ending : a.ending ≡ trap_end t.trap
  pub world : a.world ≡ last
  pub cost : last.cost ≡ w.cost + t.need

-- where it isn't
pub record TooLittle (fuel : ℕ) (last : World) (a : Alone) : Type 0 where
  pub ending : a.ending ≡ Spent
  pub printed : a.world.printed ≡ last.printed
  pub cost : a.world.cost ≡ fuel

-- branches alone come to what a track says
pub record Agrees (fuel n : ℕ) (w : World) (t : Track) (last : World) (a : Alone) : Type 0 where
  pub found : a.accesses ≡ accesses t.marks
  pub enough : t.need ≤ n → Enough t w last a
  pub too_little : n < t.need → TooLittle fuel last a

pub record Good (fuel n : ℕ) (parallel : Bool) (task : Task) (w : World) (a : Alone) : Type 0 where
  pub track : Track
  pub last : World
  pub goes : Goes n parallel task w track last
  pub agrees : Agrees fuel n w track last a

-- a stray was met
abbrev HasStrayed : Alone → Type 0
HasStrayed a = (at : Place) × (a.ending ≡ Strayed at)

-- branches alone that are apart have met a stray, or go by a track
abbrev Met : (fuel n : ℕ) → (parallel : Bool) → Task → World → Alone → Type 0
Met fuel n parallel task w a = a.apart ≡ true → HasStrayed a ⊎ Good fuel n parallel task w a

-- ---- branches of a fork

-- the ending of the first branch that halts the run
abbrev first_such : (Ending → Option Ending) → List Alone → Option Ending
first_such such branches = slice_get (filter_map (λ (b : Alone). such b.ending) branches) 0

abbrev any_spent : List Alone → Bool
any_spent branches = list_any (λ (b : Alone). is_spent b.ending) branches

-- what branches alone cost, from this cost on
abbrev costs : ℕ → List Alone → ℕ
costs cost branches = sum_by (λ (b : Alone). b.world.cost - cost) branches

abbrev trapped_by : Option Trap → Option Ending
trapped_by None = None
trapped_by (Some trap) = Some (Trapped trap)

-- none has spent its fuel: then together they cost what the tracks need, and trap as these do
record NoneSpent (w : World) (tracks : List Track) (branches : List Alone) : Type 0 where
  unspent : any_spent branches ≡ false
  cost : costs w.cost branches ≡ total tracks
  traps : first_such trapping branches ≡ trapped_by (trap_among tracks)

-- one has spent its fuel
record OneSpent (n : ℕ) (tracks : List Track) (branches : List Alone) : Type 0 where
  spends : any_spent branches ≡ true
  needs : n < total tracks

-- branches that go by tracks
record GoodAll (fuel n : ℕ) (tasks : Tasks) (w : World) (branches : List Alone) : Type 0 where
  tracks : List Track
  go : AllGo n tasks w tracks
  found : all_accesses branches ≡ accesses (all_marks tracks)
  none_halts : first_such halting branches ≡ None
  apart : pairwise_apart branches ≡ true → AllApart tracks
  -- those of another branch are apart from all of these, where they are from each
  others_apart : (marks : List Mark) → list_all (λ (b : Alone). are_apart (accesses marks) b.accesses) branches ≡ true → Apart marks (all_marks tracks)
  either : OneSpent n tracks branches ⊎ NoneSpent w tracks branches

abbrev MetAll : (fuel n : ℕ) → Tasks → World → List Alone → Type 0
MetAll fuel n tasks w branches =
    list_all (λ (b : Alone). b.apart) branches ≡ true → ((at : Place) × (first_such halting branches ≡ Some (Strayed at))) ⊎ GoodAll fuel n tasks w branches

-- what the test of accesses tells
apart_one : (a : Access) (others : List Mark) → list_any (clash a) (accesses others) ≡ false → (n : Mark) → Contains others n → clash a n.access ≡ false
apart_one a [] h n c = absurd (Contains-none n c)
apart_one a (m ∷ others) h n c =
    let parts = or_parts _ _ h in
    ⊎_elim (λ here. ap (λ (x : Mark). clash a x.access) here ∙ parts.0) (apart_one a others parts.1 n) (Contains-cases m n others c)

apart_all : (marks others : List Mark) → list_any (λ a. list_any (clash a) (accesses others)) (accesses marks) ≡ false → Apart marks others
apart_all [] others h m n c d = absurd (Contains-none m c)
apart_all (x ∷ marks) others h m n c d =
    let parts = or_parts _ _ h in
    ⊎_elim (λ here. ap (λ (y : Mark). clash y.access n.access) here ∙ apart_one x.access others parts.0 n d) (λ later. apart_all marks others parts.1 m n later d)
    (Contains-cases x m marks c)

are_apart_marks : (marks others : List Mark) → are_apart (accesses marks) (accesses others) ≡ true → Apart marks others
are_apart_marks marks others h = apart_all marks others (not_true _ h) where
  not_true : (b : Bool) → not b ≡ true → b ≡ false
  not_true true h = cc
  not_true false h = refl

Apart-both : (marks others rest : List Mark) → Apart marks others → Apart marks rest → Apart marks (others ++ rest)
Apart-both marks others rest first second m n c d = ⊎_elim (first m n c) (second m n c) (Contains-append_cases others rest n d)

-- an ending that a track has halts nothing, and isn't spent
halting-trap_end : (trap : Option Trap) → halting (trap_end trap) ≡ None
halting-trap_end None = refl
halting-trap_end (Some trap) = refl

is_spent-trap_end : (trap : Option Trap) → is_spent (trap_end trap) ≡ false
is_spent-trap_end None = refl
is_spent-trap_end (Some trap) = refl

trapping-trap_end : (trap : Option Trap) (endings : List Ending) (others : Option Trap) → slice_get endings 0 ≡ trapped_by others →
    slice_get (cons_option (trapping (trap_end trap)) endings) 0 ≡ trapped_by (option_or trap others)
trapping-trap_end None endings others h = h
trapping-trap_end (Some trap) endings others h = refl

-- what a branch that goes by a track halts
good_halts : {fuel n : ℕ} {w : World} {t : Track} {last : World} {a : Alone} → Agrees fuel n w t last a → halting a.ending ≡ None
good_halts {n = n} {t = t} agrees =
    ⊎_elim (λ over. ap halting (agrees.too_little over).ending) (λ fits. ap halting (agrees.enough fits).ending ∙ halting-trap_end t.trap) (cases_lt n t.need)

good_more : {fuel n : ℕ} {task : Task} {tasks : Tasks} {w : World} {a : Alone} {branches : List Alone} → Good fuel n true task w a → GoodAll fuel n tasks w branches →
    GoodAll fuel n (more task tasks) w (a ∷ branches)
good_more {fuel} {n} {task} {tasks} {w} {a} {branches} g all =
    let t = g.track in
    record {
      tracks = t ∷ all.tracks;
      go = and_more g.goes all.go;
      found = (λ i. g.agrees.found i ++ all.found i) ∙ sym (accesses-append t.marks (all_marks all.tracks));
      none_halts = ap (λ (e : Option Ending). slice_get (cons_option e (filter_map (λ (b : Alone). halting b.ending) branches)) 0) (good_halts g.agrees) ∙ all.none_halts;
      apart = λ h.
          let parts = and_parts _ _ h in
          (all.others_apart t.marks (subst (λ (found : List Access). list_all (λ (b : Alone). are_apart found b.accesses) branches ≡ true) g.agrees.found parts.0), all.apart parts.1);
      others_apart = λ marks h.
          let parts = and_parts _ _ h in
          Apart-both marks t.marks (all_marks all.tracks)
          (are_apart_marks marks t.marks (subst (λ (found : List Access). are_apart (accesses marks) found ≡ true) g.agrees.found parts.0)) (all.others_apart marks parts.1);
      either =
          ⊎_elim (λ over. inl (record { spends = or_left _ _ (ap is_spent (g.agrees.too_little over).ending); needs = omega (arith, over) }))
          (λ fits.
          let e = g.agrees.enough fits in
          ⊎_elim (λ one. let needs = one.needs in inl (record { spends = or_right _ _ one.spends; needs = omega arith }))
          (λ unspent.
          let cost : a.world.cost - w.cost ≡ t.need = omega (arith, ap (λ (v : World). v.cost) e.world, e.cost) in
          inr
          (record {
            unspent = (λ i. is_spent (e.ending i) || unspent.unspent i) ∙ ap (λ b. b || false) (is_spent-trap_end t.trap);
            cost = sum_by-cons (λ (b : Alone). b.world.cost - w.cost) a branches ∙ (λ i. cost i + unspent.cost i);
            traps =
                ap (λ (ending : Ending). slice_get (cons_option (trapping ending) (filter_map (λ (b : Alone). trapping b.ending) branches)) 0) e.ending
                ∙ trapping-trap_end t.trap (filter_map (λ (b : Alone). trapping b.ending) branches) (trap_among all.tracks) unspent.traps;
          }))
          all.either)
          (cases_lt n t.need);
    }

-- ---- what a fork comes to

-- the first such ending stops
or_first-some : (such : Ending → Option Ending) (branches : List Alone) (w : World) (ending : Ending) → first_such such branches ≡ Some ending → or_first such branches w ≡ Stops ending w
or_first-some such branches w ending e = rw e refl

or_first-none : (such : Ending → Option Ending) (branches : List Alone) (w : World) → first_such such branches ≡ None → or_first such branches w ≡ Gives tt w
or_first-none such branches w e = rw e refl

joined_strayed : (fuel : ℕ) (branches : List Alone) (w : World) (at : Place) → first_such halting branches ≡ Some (Strayed at) → joined fuel branches w ≡ Stops (Strayed at) w
joined_strayed fuel branches w at e = rw e refl

joined_spent : (fuel : ℕ) (branches : List Alone) (w : World) → first_such halting branches ≡ None → (any_spent branches || nat_lt fuel (merged w branches).cost) ≡ true →
    joined fuel branches w ≡ Stops Spent (record w { cost = fuel })
joined_spent fuel branches w e short = rw (e, short) refl

joined_fits : (fuel : ℕ) (branches : List Alone) (w : World) → first_such halting branches ≡ None → (any_spent branches || nat_lt fuel (merged w branches).cost) ≡ false →
    joined fuel branches w ≡ or_first trapping branches (merged w branches)
joined_fits fuel branches w e fits = rw (e, fits) refl

-- ---- what comes of an action

agrees_still : {fuel n : ℕ} (w : World) (ending : Ending) (trap : Option Trap) → ending ≡ trap_end trap → Agrees fuel n w (still trap) w (ends ending w)
agrees_still w ending trap e =
    record { found = refl; enough = λ _. record { ending = e; world = refl; cost = omega arith }; too_little = λ h. absurd (omega (arith, h)) }

-- a leaf that has ended
met_ended : (fuel n : ℕ) (parallel : Bool) (ending : Ending) (w : World) → IsRuled ending → Met fuel n parallel (Ended ending) w (ends ending w)
met_ended fuel n parallel Done w ruled apart = inr (record { track = still None; last = w; goes = ended refl; agrees = agrees_still w Done None refl })
met_ended fuel n parallel (Trapped trap) w ruled apart =
    inr (record { track = still (Some trap); last = w; goes = ended refl; agrees = agrees_still w (Trapped trap) (Some trap) refl })
met_ended fuel n parallel (Strayed at) w ruled apart = inl (at, refl)
met_ended fuel n parallel Spent w ruled apart = absurd (ruled.unspent refl)
met_ended fuel n parallel Unruled w ruled apart = absurd (ruled.ruled refl)

trapped_ruled : (trap : Trap) → IsRuled (Trapped trap)
trapped_ruled trap = record { ruled = λ e. cc; unspent = λ e. cc }

-- a leaf with an action due, by what it becomes
met_step : {fuel n : ℕ} {parallel : Bool} {at : Spot} {action : Action} {next : ℤ → Task} {w : World} {task : Task} {after : World} {a : Alone} → IsQuiet parallel action →
    Becomes at next (act action w) task after → Met fuel n parallel task after a →
    Met fuel (suc n) parallel (Due at action next) w (found_behind (accesses_of action w) a)
met_step {fuel} {n} {parallel} {at} {action} {next} {w} {task} {after} {a} quiet becomes met apart =
    ⊎_elim inl
    (λ g.
    let t = g.track in
    let cost : after.cost ≡ w.cost + 1 = sym (ap (λ (v : World). v.cost) (becomes_left becomes)) ∙ act-cost action w in
    inr
    (record {
      track = behind (marks_of at action w) t;
      last = g.last;
      goes = acts quiet becomes g.goes;
      agrees =
          record {
            found = (λ i. sym (accesses-marks_at at (accesses_of action w)) i ++ g.agrees.found i) ∙ sym (accesses-append (marks_of at action w) t.marks);
            enough = λ h. let e = g.agrees.enough (omega (arith, h)) in record { ending = e.ending; world = e.world; cost = omega (arith, e.cost) };
            too_little = λ h. let e = g.agrees.too_little (omega (arith, h)) in record { ending = e.ending; printed = e.printed; cost = e.cost };
          };
    }))
    (met apart)

-- the same, by what the action does
met_acted : {fuel n : ℕ} {parallel : Bool} {at : Spot} {action : Action} {next : ℤ → Task} {w : World} → IsQuiet parallel action → w.cost + suc n ≡ fuel →
    ((word : ℤ) (after : World) → after.cost + n ≡ fuel → Met fuel n parallel (next word) after (alone fuel (next word) after)) →
    (r : Acted) → act action w ≡ r →
    Met fuel (suc n) parallel (Due at action next) w (found_behind (accesses_of action w) (alone_behind (answered at.place r) (λ word w. alone fuel (next word) w)))
met_acted {fuel} {n} {parallel} {at} {action} {next} {w} quiet e met (Answers word after) is =
    let cost : after.cost ≡ w.cost + 1 = sym (ap (λ (x : Acted). (left_by x).cost) is) ∙ act-cost action w in
    met_step quiet (subst (λ r. Becomes at next r (next word) after) (sym is) by_answer) (met word after (omega arith))
met_acted {fuel} {n} {parallel} {at} {action} {next} {w} quiet e met (Traps kind after) is =
    let trap : Trap = record { kind = kind; at = at.place } in
    met_step quiet (subst (λ r. Becomes at next r (Ended (Trapped trap)) after) (sym is) by_trap) (met_ended fuel n parallel (Trapped trap) after (trapped_ruled trap))
met_acted {at = at} quiet e met (Strays after) is = λ apart. inl (at.place, refl)

-- ---- forks

-- what branches are, and what is behind them, where all of it is apart
record ApartParts (branches : List Alone) (a : Alone) : Type 0 where
  each : list_all (λ (b : Alone). b.apart) branches ≡ true
  pairwise : pairwise_apart branches ≡ true
  behind_them : a.apart ≡ true

apart_parts : (branches : List Alone) (a : Alone) → (behind_fork branches a).apart ≡ true → ApartParts branches a
apart_parts branches a h =
    let each = list_all (λ (b : Alone). b.apart) branches in
    let both = and_parts (each && pairwise_apart branches) a.apart h in
    let first = and_parts each (pairwise_apart branches) both.0 in
    record { each = first.0; pairwise = first.1; behind_them = both.1 }

-- a fork whose branches need too many actions
met_spent : {fuel n : ℕ} {parallel : Bool} {children : Tasks} {parent : Task} {w : World} {branches : List Alone} → all_ended children ≡ false → (all : GoodAll fuel n children w branches) →
    n < total all.tracks → Met fuel n parallel (Fork children parent) w (behind_fork branches (ends Spent (record w { cost = fuel })))
met_spent {fuel} {n} {w = w} {branches} unended all over apart =
    let parts = apart_parts branches (ends Spent (record w { cost = fuel })) apart in
    inr
    (record {
      track = spent_by n all.tracks;
      last = w;
      goes = fork_spent all.go (all.apart parts.pairwise) unended over;
      agrees =
          record {
            found = append-nil (all_accesses branches) ∙ all.found;
            enough = λ h. absurd (omega (arith, h));
            too_little = λ _. record { ending = refl; printed = refl; cost = refl };
          };
    })

-- a fork whose branches have enough actions, by what is behind it
met_forks : {fuel n rest : ℕ} {parallel : Bool} {children : Tasks} {parent : Task} {w : World} {branches : List Alone} {a : Alone} → all_ended children ≡ false →
    (all : GoodAll fuel n children w branches) → rest + total all.tracks ≡ n →
    Met fuel rest parallel (behind_all (trap_among all.tracks) parent) (world_behind w all.tracks) a →
    Met fuel n parallel (Fork children parent) w (behind_fork branches a)
met_forks {fuel} {n} {rest} {w = w} {branches} {a} unended all e met apart =
    let parts = apart_parts branches a apart in
    ⊎_elim inl
    (λ g.
    let t = g.track in
    inr
    (record {
      track = behind_branches all.tracks t;
      last = g.last;
      goes = forks all.go (all.apart parts.pairwise) unended e g.goes;
      agrees =
          record {
            found = (λ i. all.found i ++ g.agrees.found i) ∙ sym (accesses-append (all_marks all.tracks) t.marks);
            enough = λ h. let x = g.agrees.enough (omega (arith, h)) in record { ending = x.ending; world = x.world; cost = omega (arith, x.cost) };
            too_little = λ h. let x = g.agrees.too_little (omega (arith, h)) in record { ending = x.ending; printed = x.printed; cost = x.cost };
          };
    }))
    (met parts.behind_them)

-- the world behind branches that have not spent their fuel
merged_world : {fuel n : ℕ} {children : Tasks} {w : World} {branches : List Alone} (all : GoodAll fuel n children w branches) → NoneSpent w all.tracks branches →
    merged w branches ≡ world_behind w all.tracks
merged_world {w = w} all unspent =
    λ i. record { memory = after w.memory (all.found i); left = w.left; cost = w.cost + unspent.cost i; printed = w.printed }

module _ (fuel n : ℕ) (parallel : Bool) (children : Tasks) (parent : Task) (w : World) (branches : List Alone) (next : World → Alone) (unended : all_ended children ≡ false)
    (e : w.cost + n ≡ fuel)
    (met : (after : World) (rest : ℕ) → rest ≤ n → after.cost + rest ≡ fuel → Met fuel rest parallel parent after (next after)) where
  -- what the fork comes to, where its branches come to this
  abbrev fork_of : Came (Unit {0}) → Alone
  fork_of came = behind_fork branches (alone_behind came (λ _ w. next w))

  met_trap : (all : GoodAll fuel n children w branches) → NoneSpent w all.tracks branches → total all.tracks ≤ n → (trap : Option Trap) → trap_among all.tracks ≡ trap →
      Met fuel n parallel (Fork children parent) w (fork_of (or_first trapping branches (merged w branches)))
  met_trap all unspent fits None none_traps =
      let rest = n - total all.tracks in
      let here : Met fuel rest parallel parent (world_behind w all.tracks) (next (world_behind w all.tracks)) = met (world_behind w all.tracks) rest (omega arith) (omega arith) in
      subst (λ came. Met fuel n parallel (Fork children parent) w (fork_of came))
      (sym (or_first-none trapping branches (merged w branches) (unspent.traps ∙ ap trapped_by none_traps)))
      (met_forks unended all (omega arith)
      (subst (λ trap. Met fuel rest parallel (behind_all trap parent) (world_behind w all.tracks) (next (merged w branches))) (sym none_traps)
      (subst (λ v. Met fuel rest parallel parent (world_behind w all.tracks) (next v)) (sym (merged_world all unspent)) here)))
  met_trap all unspent fits (Some trap) traps =
      let rest = n - total all.tracks in
      let here : Met fuel rest parallel (Ended (Trapped trap)) (world_behind w all.tracks) (ends (Trapped trap) (world_behind w all.tracks)) =
      met_ended fuel rest parallel (Trapped trap) (world_behind w all.tracks) (trapped_ruled trap) in
      subst (λ came. Met fuel n parallel (Fork children parent) w (fork_of came))
      (sym (or_first-some trapping branches (merged w branches) (Trapped trap) (unspent.traps ∙ ap trapped_by traps)))
      (met_forks unended all (omega arith)
      (subst (λ x. Met fuel rest parallel (behind_all x parent) (world_behind w all.tracks) (ends (Trapped trap) (merged w branches))) (sym traps)
      (subst (λ v. Met fuel rest parallel (Ended (Trapped trap)) (world_behind w all.tracks) (ends (Trapped trap) v)) (sym (merged_world all unspent)) here)))

  -- where the fuel is spent in the branches
  met_over : (all : GoodAll fuel n children w branches) → n < total all.tracks → (any_spent branches || nat_lt fuel (merged w branches).cost) ≡ true →
      Met fuel n parallel (Fork children parent) w (fork_of (joined fuel branches w))
  met_over all over short =
      subst (λ came. Met fuel n parallel (Fork children parent) w (fork_of came)) (sym (joined_spent fuel branches w all.none_halts short)) (met_spent unended all over)

  met_good : (all : GoodAll fuel n children w branches) → Met fuel n parallel (Fork children parent) w (fork_of (joined fuel branches w))
  met_good all =
      ⊎_elim (λ one. met_over all one.needs (or_left (any_spent branches) (nat_lt fuel (merged w branches).cost) one.spends))
      (λ unspent.
      let cost = unspent.cost in
      ⊎_elim
      (λ over.
      let more_than : nat_lt fuel (merged w branches).cost ≡ true = lt-ltb fuel (merged w branches).cost (omega arith) in
      met_over all over (or_right (any_spent branches) (nat_lt fuel (merged w branches).cost) more_than))
      (λ fits.
      let within : nat_lt fuel (merged w branches).cost ≡ false = le-ltb fuel (merged w branches).cost (omega arith) in
      subst (λ came. Met fuel n parallel (Fork children parent) w (fork_of came))
      (sym (joined_fits fuel branches w all.none_halts (or_from (any_spent branches) (nat_lt fuel (merged w branches).cost) unspent.unspent within)))
      (met_trap all unspent fits (trap_among all.tracks) refl))
      (cases_lt n (total all.tracks)))
      all.either

  met_fork : MetAll fuel n children w branches → Met fuel n parallel (Fork children parent) w (fork_of (joined fuel branches w))
  met_fork all apart =
      ⊎_elim (λ strayed. inl (strayed.0, ap (λ came. (fork_of came).ending) (joined_strayed fuel branches w strayed.0 strayed.1))) (λ good. met_good good apart)
      (all (apart_parts branches (alone_behind (joined fuel branches w) (λ _ w. next w)) apart).each)

-- ---- tasks

-- a branch beside others
met_more : {fuel n : ℕ} {task : Task} {tasks : Tasks} {w : World} {a : Alone} {branches : List Alone} → Met fuel n true task w a → MetAll fuel n tasks w branches →
    MetAll fuel n (more task tasks) w (a ∷ branches)
met_more {fuel} {n} {task} {tasks} {w} {a} {branches} met all apart =
    let parts = and_parts _ _ apart in
    let halts : List Ending = filter_map (λ (b : Alone). halting b.ending) branches in
    ⊎_elim (λ strayed. inl (strayed.0, ap (λ ending. slice_get (cons_option (halting ending) halts) 0) strayed.1))
    (λ good.
    ⊎_elim (λ strayed. inl (strayed.0, ap (λ (e : Option Ending). slice_get (cons_option e halts) 0) (good_halts good.agrees) ∙ strayed.1)) (λ others. inr (good_more good others)) (all parts.1))
    (met parts.0)

met_none : (fuel n : ℕ) (w : World) → MetAll fuel n none w []
met_none fuel n w apart =
    inr
    (record {
      tracks = [];
      go = no_more;
      found = refl;
      none_halts = refl;
      apart = λ _. tt;
      others_apart = λ marks h m k c d. absurd (Contains-none k d);
      either = inr (record { unspent = refl; cost = refl; traps = refl });
    })

-- Branches alone of a regular task that is under way: where they are apart, they have met a stray or go by a track.
mutual
  pub meets : (fuel actions n : ℕ) (parallel : Bool) (task : Task) (w : World) → IsRegular task (suc actions) parallel → IsUnderWay task → w.cost + n ≡ fuel → n ≤ actions →
      Met fuel n parallel task w (alone fuel task w)
  meets fuel actions n parallel (Ended ending) w regular under e within = met_ended fuel n parallel ending w regular
  meets fuel actions zero parallel (Due at action next) w regular under e within =
      let none_left : nat_lt w.cost fuel ≡ false = le-ltb w.cost fuel (omega arith) in
      rw none_left
      (λ apart.
      inr
      (record {
        track = out;
        last = w;
        goes = spent;
        agrees = record { found = refl; enough = λ h. absurd (omega (arith, h)); too_little = λ _. record { ending = refl; printed = refl; cost = omega arith } };
      }))
  meets fuel zero (suc n) parallel (Due at action next) w regular under e within = absurd (omega (arith, within))
  meets fuel (suc actions) (suc n) parallel (Due at action next) w regular under e within =
      let left : nat_lt w.cost fuel ≡ true = lt-ltb w.cost fuel (omega arith) in
      rw left
      (met_acted regular.0 e (λ word after f. meets fuel actions n parallel (next word) after (regular.1 word) (under word) f (omega (arith, within))) (act action w) refl)
  meets fuel actions n parallel (Fork children parent) w regular under e within =
      met_fork fuel n parallel children parent w (alone_each fuel children w) (λ v. alone fuel parent v) under.0 e
      (λ after rest less f. meets fuel actions rest parallel parent after regular.1 under.2 f (omega (arith, within, less)))
      (meets_all fuel actions n children w regular.0 under.1 e within)

  meets_all : (fuel actions n : ℕ) (tasks : Tasks) (w : World) → AreRegular tasks (suc actions) → AreUnderWay tasks → w.cost + n ≡ fuel → n ≤ actions →
      MetAll fuel n tasks w (alone_each fuel tasks w)
  meets_all fuel actions n none w regular under e within = met_none fuel n w
  meets_all fuel actions n (more task tasks) w regular under e within =
      met_more (meets fuel actions n true task w regular.0 under.0 e within) (meets_all fuel actions n tasks w regular.1 under.1 e within)
