-- A task in order takes back no cost and no printed number, and where it is regular it comes to a form that has a rule.
use Rattle.std.proofs.Common.{◌≡◌, ◌≢◌, ℕ, zero, suc, ◌+◌, ◌<◌, ◌≤◌, ℤ, Bool, true, nat_lt, List, [], ◌∷◌, Option, None, Some, refl, sym, subst, arith}
use Rattle.std.proofs.lemmas.Bool.{cond_both, ltb-true}
use Rattle.std.specs.Option.{option_or}
use Rattle.lq_tree.specs.declared.place.Place.{Place}
use Rattle.lq_tree.specs.declared.plain.PProgram.{PProgram}
use Rattle.lq_meaning.specs.declared.lines.OpenFork.{OpenFork}
use Rattle.lq_meaning.specs.declared.lines.Lines.{Lines}
use Rattle.lq_meaning.specs.declared.lines.Turn.{Turn}
use Rattle.lq_meaning.specs.declared.lines.Turn.TheVariants.{Run as RunTurn, Leave}
use Rattle.lq_meaning.specs.World.{World, Acted, Answers, Traps, Strays, act}
use Rattle.lq_meaning.specs.Ending.{Trap, Ending, Done, Trapped, Strayed, Spent, Unruled, Outcome}
use Rattle.lq_meaning.specs.Control.{Came, Gives, Stops, Run, give, go_on, ◌⨾◌, answered, due}
use Rattle.lq_meaning.specs.Laws.{world_of, Grows, RunGrows}
use Rattle.lq_meaning.specs.Task.{Task, Ended, Due, Fork, Tasks, none, more}
use Rattle.lq_meaning.specs.Tasks.{IsRegular, AreRegular}
use Rattle.lq_meaning.specs.InOrder.{at_end, answers, unless_trapped, in_order, all_in_order, come_to}
use Rattle.lq_meaning.specs.Line.{task_of}
use Rattle.lq_meaning.specs.Lines.{Level, rejoined, with_trap, Waits, IsRest}
use Rattle.lq_meaning.proofs.Costs.{left_by, act-cost}
use Rattle.lq_meaning.proofs.Growing.{grows_not, grows_on, go_on_grows, growing}

at_end-world : (ending : Ending) (w : World) → world_of (at_end ending w) ≡ w
at_end-world Done w = refl
at_end-world (Trapped trap) w = refl
at_end-world (Strayed at) w = refl
at_end-world Spent w = refl
at_end-world Unruled w = refl

pub come_to-world : (came : Came (Option Trap)) → (come_to came).world ≡ world_of came
come_to-world (Gives None w) = refl
come_to-world (Gives (Some trap) w) = refl
come_to-world (Stops ending w) = refl

module _ (fuel : ℕ) where
  pub answers_grows : {w : World} (a : Came ℤ) (next : ℤ → Run (Option Trap)) → Grows fuel w (world_of a) → ((word : ℤ) → RunGrows fuel (next word)) → Grows fuel w (world_of (answers a next))
  answers_grows (Gives word v) next grows goes = grows_on fuel grows (goes word v)
  answers_grows (Stops Done v) next grows goes = grows
  answers_grows (Stops (Trapped trap) v) next grows goes = grows
  answers_grows (Stops (Strayed at) v) next grows goes = grows
  answers_grows (Stops Spent v) next grows goes = grows
  answers_grows (Stops Unruled v) next grows goes = grows

  unless_trapped_grows : (behind : Run (Option Trap)) → RunGrows fuel behind → (trap : Option Trap) → RunGrows fuel (unless_trapped behind trap)
  unless_trapped_grows behind grows None w = grows w
  unless_trapped_grows behind grows (Some trap) w = grows_not fuel w

  mutual
    pub in_order_grows : (task : Task) → RunGrows fuel (λ w. in_order fuel task w)
    in_order_grows (Ended ending) w = rw (at_end-world ending w) (grows_not fuel w)
    in_order_grows (Due at action next) w =
        answers_grows (due fuel at.place action w) (λ word w. in_order fuel (next word) w) ((growing fuel).due at.place action w) (λ word. in_order_grows (next word))
    in_order_grows (Fork children behind) w =
        go_on_grows fuel (all_in_order fuel children w) (unless_trapped (λ w. in_order fuel behind w)) (all_grow children w) (unless_trapped_grows (λ w. in_order fuel behind w) (in_order_grows behind))

    pub all_grow : (tasks : Tasks) → RunGrows fuel (λ w. all_in_order fuel tasks w)
    all_grow none w = grows_not fuel w
    all_grow (more task tasks) w =
        go_on_grows fuel (in_order fuel task w) (λ trap. (λ w. all_in_order fuel tasks w) ⨾ λ later. give (option_or trap later)) (in_order_grows task w)
        (λ trap v. go_on_grows fuel (all_in_order fuel tasks v) (λ later. give (option_or trap later)) (all_grow tasks v) (λ later u. grows_not fuel u))

  rejoined_grows : (level : Level) → RunGrows fuel (rejoined fuel level)
  rejoined_grows level w =
      go_on_grows fuel (all_in_order fuel level.left w) (λ later. unless_trapped (λ w. in_order fuel level.behind w) (option_or level.trap later)) (all_grow level.left w)
      (λ later. unless_trapped_grows (λ w. in_order fuel level.behind w) (in_order_grows level.behind) (option_or level.trap later))

  -- what comes behind the innermost branch grows
  waits_grow : (p : PProgram) (most : ℕ) (forks : List OpenFork) (after all : Option Trap → Run (Option Trap)) → Waits p fuel most forks after all → ((trap : Option Trap) → RunGrows fuel (after trap)) → (trap : Option Trap) → RunGrows fuel (all trap)
  waits_grow p most [] after all waits grows = subst (λ (next : Option Trap → Run (Option Trap)). (trap : Option Trap) → RunGrows fuel (next trap)) (sym waits) grows
  waits_grow p most (fork ∷ forks) after all (level, is, waits) grows =
      waits_grow p most forks (λ trap. rejoined fuel (with_trap level trap) ⨾ after) all waits
      (λ trap w. go_on_grows fuel (rejoined fuel (with_trap level trap) w) after (rejoined_grows (with_trap level trap) w) grows)

  came_grows : (p : PProgram) (lines : Lines) (turn : Turn) (w : World) (o : Outcome) (rest : IsRest p fuel lines turn w o) → Grows fuel w (world_of rest.came)
  came_grows p lines RunTurn w o rest = rw (rest.top.3) (in_order_grows (task_of p (suc fuel) rest.top.0 rest.top.1 lines.top) w)
  came_grows p lines (Leave trap) w o rest = rw (rest.top) (grows_not fuel w)

  -- the rest of a run grows
  pub rest_grows : (p : PProgram) (lines : Lines) (turn : Turn) (w : World) (o : Outcome) → IsRest p fuel lines turn w o → Grows fuel w o.world
  rest_grows p lines turn w o rest =
      rw (rest.outcome, come_to-world (go_on rest.came rest.next))
      (go_on_grows fuel rest.came rest.next (came_grows p lines turn w o rest) (waits_grow p (suc w.cost) lines.forks.items give rest.next rest.waits (λ trap v. grows_not fuel v)))

  -- so does what comes behind the line on top
  pub behind_grows : (p : PProgram) (lines : Lines) (turn : Turn) (w v : World) (o : Outcome) (rest : IsRest p fuel lines turn w o) (came : Came (Option Trap)) → Grows fuel v (world_of came) → Grows fuel v (come_to (go_on came rest.next)).world
  behind_grows p lines turn w v o rest came grows =
      rw (come_to-world (go_on came rest.next)) (go_on_grows fuel came rest.next grows (waits_grow p (suc w.cost) lines.forks.items give rest.next rest.waits (λ trap u. grows_not fuel u)))

-- the form in front of which a run stops has a rule
abbrev Rules : Came (Option Trap) → Type 0
Rules (Gives trap w) = Unit {0}
Rules (Stops ending w) = ending ≢ Unruled

module _ (fuel : ℕ) where
  go_on_rules : (w : World) (a : Came (Option Trap)) (next : Option Trap → Run (Option Trap)) → Grows fuel w (world_of a) → Rules a → ((trap : Option Trap) (v : World) → Grows fuel w v → Rules (next trap v)) → Rules (go_on a next)
  go_on_rules w (Gives trap v) next grows rules goes = goes trap v grows
  go_on_rules w (Stops ending v) next grows rules goes = rules

  answers_rule : (at : Place) (a : Acted) (next : ℤ → Run (Option Trap)) → ((word : ℤ) (v : World) → left_by a ≡ v → Rules (next word v)) → Rules (answers (answered at a) next)
  answers_rule at (Answers word v) next goes = goes word v refl
  answers_rule at (Traps kind v) next goes = tt
  answers_rule at (Strays v) next goes = λ same. cc

  unless_trapped_rules : (behind : Run (Option Trap)) (trap : Option Trap) (w : World) → Rules (behind w) → Rules (unless_trapped behind trap w)
  unless_trapped_rules behind None w rules = rules
  unless_trapped_rules behind (Some trap) w rules = tt

  mutual
    pub in_order_rules : (task : Task) (n : ℕ) (parallel : Bool) (w : World) → IsRegular task n parallel → w.cost ≤ fuel → fuel < n + w.cost → Rules (in_order fuel task w)
    in_order_rules (Ended ending) zero parallel w is within left = absurd (omega arith)
    in_order_rules (Ended Done) (suc n) parallel w is within left = tt
    in_order_rules (Ended (Trapped trap)) (suc n) parallel w is within left = tt
    in_order_rules (Ended (Strayed at)) (suc n) parallel w is within left = is.ruled
    in_order_rules (Ended Spent) (suc n) parallel w is within left = is.ruled
    in_order_rules (Ended Unruled) (suc n) parallel w is within left = is.ruled
    in_order_rules (Due at action next) zero parallel w is within left = absurd (omega arith)
    in_order_rules (Due at action next) (suc n) parallel w is within left =
        cond_both (nat_lt w.cost fuel) _ _ (λ (a : Came ℤ). Rules (answers a (λ word w. in_order fuel (next word) w)))
        (λ less. answers_rule at.place (act action w) (λ word w. in_order fuel (next word) w)
        (λ word v same.
        let below : w.cost < fuel = ltb-true w.cost fuel less in
        let cost : v.cost ≡ w.cost + 1 = subst (λ (u : World). u.cost ≡ w.cost + 1) same (act-cost action w) in
        in_order_rules (next word) n parallel v (is.1 word) (omega arith) (omega arith)))
        (λ _ same. cc)
    in_order_rules (Fork children behind) zero parallel w is within left = absurd (omega arith)
    in_order_rules (Fork children behind) (suc n) parallel w is within left =
        go_on_rules w (all_in_order fuel children w) (unless_trapped (λ w. in_order fuel behind w)) (all_grow fuel children w) (all_rule children (suc n) w is.0 within left)
        (λ trap v grows. unless_trapped_rules (λ w. in_order fuel behind w) trap v (in_order_rules behind (suc n) parallel v is.1 (grows.within within) (omega (arith, grows.rises))))

    all_rule : (tasks : Tasks) (n : ℕ) (w : World) → AreRegular tasks n → w.cost ≤ fuel → fuel < n + w.cost → Rules (all_in_order fuel tasks w)
    all_rule none n w are within left = tt
    all_rule (more task tasks) n w are within left =
        go_on_rules w (in_order fuel task w) (λ trap. (λ w. all_in_order fuel tasks w) ⨾ λ later. give (option_or trap later)) (in_order_grows fuel task w) (in_order_rules task n true w are.0 within left)
        (λ trap v grows. go_on_rules v (all_in_order fuel tasks v) (λ later. give (option_or trap later)) (all_grow fuel tasks v) (all_rule tasks n v are.1 (grows.within within) (omega (arith, grows.rises))) (λ later u _. tt))

come_to-ruled : (came : Came (Option Trap)) → Rules came → (come_to came).ending ≢ Unruled
come_to-ruled (Gives None w) rules = λ same. cc
come_to-ruled (Gives (Some trap) w) rules = λ same. cc
come_to-ruled (Stops ending w) rules = rules

-- a task that is regular for more actions than there is fuel never comes to a form without a rule
pub regular_rules : (fuel n : ℕ) (task : Task) (parallel : Bool) (w : World) → IsRegular task n parallel → w.cost ≤ fuel → fuel < n + w.cost → (come_to (in_order fuel task w)).ending ≢ Unruled
regular_rules fuel n task parallel w is within left = come_to-ruled (in_order fuel task w) (in_order_rules fuel task n parallel w is within left)
