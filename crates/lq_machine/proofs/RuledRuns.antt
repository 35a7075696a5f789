-- A run of a task that is regular for more actions than there is fuel ends by a rule.
use Rattle.std.proofs.Common.{◌≢◌, ℕ, zero, suc, ◌-◌, ◌%◌, ℤ, Bool, true, false, List, Option, None, Some, nat_lt}
use Rattle.std.specs.Prelude.{if◌then◌else◌, ⊤}
use Rattle.lq_meaning.specs.World.{World, Acted, Answers, Traps, Strays, act}
use Rattle.lq_meaning.specs.Ending.{Trap, Ending, Trapped, Spent, Unruled}
use Rattle.lq_meaning.specs.Task.{Spot, Task, Ended, Due, Fork, Tasks, none, more, has_ended, all_ended, first_trap, behind_all, forked}
use Rattle.lq_meaning.specs.Tasks.{IsRuled, IsRegular, AreRegular}
use Rattle.lq_log.specs.declared.entry.Entry.{Entry}
use Rattle.lq_machine.specs.Step.{runnable, ending_of, ending_among, Stepped, Moves, Leaves, moved, logged, resumed, step, step_in}
use Rattle.lq_machine.specs.Run.{first_pick, other_picks, Ran, stopped, then_run, while_runnable, ran, run}

-- what is regular for so many actions is for one less
mutual
  fewer : (n : ℕ) (parallel : Bool) (task : Task) → IsRegular task (suc n) parallel → IsRegular task n parallel
  fewer zero parallel (Ended ending) regular = tt
  fewer zero parallel (Due at action next) regular = tt
  fewer zero parallel (Fork children behind) regular = tt
  fewer (suc n) parallel (Ended ending) regular = regular
  fewer (suc n) parallel (Due at action next) regular = (regular.0, λ word. fewer n parallel (next word) (regular.1 word))
  fewer (suc n) parallel (Fork children behind) regular = (fewer_each (suc n) children regular.0, fewer (suc n) parallel behind regular.1)

  fewer_each : (n : ℕ) (tasks : Tasks) → AreRegular tasks (suc n) → AreRegular tasks n
  fewer_each n none regular = tt
  fewer_each n (more task tasks) regular = (fewer n true task regular.0, fewer_each n tasks regular.1)

-- leaves that have ended
trapped_ruled : (trap : Trap) → IsRuled (Trapped trap)
trapped_ruled trap = record { ruled = λ e. absurd cc; unspent = λ e. absurd cc }

trapped_regular : (n : ℕ) (parallel : Bool) (trap : Trap) → IsRegular (Ended (Trapped trap)) n parallel
trapped_regular zero parallel trap = tt
trapped_regular (suc n) parallel trap = trapped_ruled trap

-- a fork, and what is behind it
regular_behind : (n : ℕ) (parallel : Bool) (trap : Option Trap) (behind : Task) → IsRegular behind n parallel → IsRegular (behind_all trap behind) n parallel
regular_behind n parallel None behind regular = regular
regular_behind n parallel (Some trap) behind regular = trapped_regular n parallel trap

regular_fork : (n : ℕ) (parallel : Bool) (children : Tasks) (behind : Task) → AreRegular children n → IsRegular behind n parallel → IsRegular (Fork children behind) n parallel
regular_fork zero parallel children behind those this = tt
regular_fork (suc n) parallel children behind those this = (those, this)

regular_forked : (n : ℕ) (parallel : Bool) (children : Tasks) (behind : Task) → AreRegular children n → IsRegular behind n parallel → IsRegular (forked children behind) n parallel
regular_forked n parallel children behind those this = by_ended (all_ended children) where
  by_ended : (ended : Bool) → IsRegular (if ended then behind_all (first_trap children) behind else Fork children behind) n parallel
  by_ended true = regular_behind n parallel (first_trap children) behind this
  by_ended false = regular_fork n parallel children behind those this

-- a fact for what a step makes, where it isn't a stray
abbrev Makes : {T : Type 0} → (T → Type 0) → Stepped T → Type 0
Makes Is (Moves entries made w) = Is made
Makes Is (Leaves at w) = ⊤

makes_moved : {S T : Type 0} (P : S → Type 0) (Q : T → Type 0) (f : S → T) (s : Stepped S) → ((x : S) → P x → Q (f x)) → Makes P s → Makes Q (moved f s)
makes_moved P Q f (Moves entries made w) raise is = raise made is
makes_moved P Q f (Leaves at w) raise is = tt

makes_resumed : (n : ℕ) (parallel : Bool) (at : Spot) (entries : List Entry) (next : ℤ → Task) (acted : Acted) → ((word : ℤ) → IsRegular (next word) n parallel) →
    Makes (λ task. IsRegular task n parallel) (resumed at entries next acted)
makes_resumed n parallel at entries next (Answers word w) regular = regular word
makes_resumed n parallel at entries next (Traps kind w) regular = trapped_regular n parallel (record { kind = kind; at = at.place })
makes_resumed n parallel at entries next (Strays w) regular = tt

makes_one : (n : ℕ) (task : Task) (tasks : Tasks) (here : Bool) (one : Stepped Task) (others : Stepped Tasks) → AreRegular (more task tasks) n →
    Makes (λ task. IsRegular task n true) one → Makes (λ tasks. AreRegular tasks n) others →
    Makes (λ tasks. AreRegular tasks n) (if here then moved (λ task. more task tasks) one else moved (more task) others)
makes_one n task tasks true one others regular is are = makes_moved (λ task. IsRegular task n true) (λ tasks. AreRegular tasks n) (λ task. more task tasks) one (λ made is. (is, regular.1)) is
makes_one n task tasks false one others regular is are = makes_moved (λ tasks. AreRegular tasks n) (λ tasks. AreRegular tasks n) (more task) others (λ made are. (regular.0, are)) are

-- a step leaves a regular task regular for one action less
mutual
  step_keeps : (n : ℕ) (parallel : Bool) (task : Task) (leaf : ℕ) (w : World) → IsRegular task (suc n) parallel → Makes (λ task. IsRegular task n parallel) (step task leaf w)
  step_keeps n parallel (Ended ending) leaf w regular = fewer n parallel (Ended ending) regular
  step_keeps n parallel (Due at action next) leaf w regular = makes_resumed n parallel at (logged at action w) next (act action w) regular.1
  step_keeps n parallel (Fork children behind) leaf w regular =
      makes_moved (λ children. AreRegular children n) (λ task. IsRegular task n parallel) (λ children. forked children behind) (step_in children leaf w)
      (λ made are. regular_forked n parallel made behind are (fewer n parallel behind regular.1)) (steps_keep n children leaf w regular.0)

  steps_keep : (n : ℕ) (tasks : Tasks) (leaf : ℕ) (w : World) → AreRegular tasks (suc n) → Makes (λ tasks. AreRegular tasks n) (step_in tasks leaf w)
  steps_keep n none leaf w regular = tt
  steps_keep n (more task tasks) leaf w regular =
      makes_one n task tasks (nat_lt leaf (runnable task)) (step task leaf w) (step_in tasks (leaf - runnable task) w) (fewer n true task regular.0, fewer_each n tasks regular.1)
      (step_keeps n true task leaf w regular.0) (steps_keep n tasks (leaf - runnable task) w regular.1)

-- where no leaf is runnable, the end has a rule
ruled_by_test : (ended : Bool) (this others : Ending) → this ≢ Unruled → others ≢ Unruled → (if ended then others else this) ≢ Unruled
ruled_by_test true this others is are = are
ruled_by_test false this others is are = is

mutual
  ruled_ending : (n : ℕ) (parallel : Bool) (task : Task) → IsRegular task (suc n) parallel → ending_of task ≢ Unruled
  ruled_ending n parallel (Ended ending) regular = regular.ruled
  ruled_ending n parallel (Due at action next) regular = λ e. absurd cc
  ruled_ending n parallel (Fork children behind) regular = ruled_among n children regular.0

  ruled_among : (n : ℕ) (tasks : Tasks) → AreRegular tasks (suc n) → ending_among tasks ≢ Unruled
  ruled_among n none regular = λ e. absurd cc
  ruled_among n (more task tasks) regular = ruled_by_test (has_ended task) (ending_of task) (ending_among tasks) (ruled_ending n true task regular.0) (ruled_among n tasks regular.1)

abbrev HasRule : Ran → Type 0
HasRule r = r.outcome.ending ≢ Unruled

rule_while : (leaves : ℕ) (task : Task) (w : World) (next : Task → World → Ran) → ending_of task ≢ Unruled → HasRule (next task w) → HasRule (while_runnable leaves task w next)
rule_while zero task w next still goes = still
rule_while (suc n) task w next still goes = goes

rule_then : (fuel : ℕ) (parallel : Bool) (s : Stepped Task) (next : Task → World → Ran) → Makes (λ task. IsRegular task fuel parallel) s →
    ((task : Task) (w : World) → IsRegular task fuel parallel → HasRule (next task w)) → HasRule (then_run s next)
rule_then fuel parallel (Moves entries task w) next regular goes = goes task w regular
rule_then fuel parallel (Leaves at w) next regular goes = λ e. absurd cc

pub runs_have_rules : (fuel : ℕ) (picks : List ℕ) (parallel : Bool) (task : Task) (w : World) → IsRegular task (suc fuel) parallel → (run fuel picks task w).ending ≢ Unruled
runs_have_rules zero picks parallel task w regular = rule_while (runnable task) task w (λ task w. stopped Spent w) (ruled_ending 0 parallel task regular) (λ e. absurd cc)
runs_have_rules (suc fuel) picks parallel task w regular =
    rule_while (runnable task) task w (λ task w. then_run (step task (first_pick picks % runnable task) w) (ran fuel (other_picks picks))) (ruled_ending (suc fuel) parallel task regular)
    (rule_then (suc fuel) parallel (step task (first_pick picks % runnable task) w) (ran fuel (other_picks picks)) (step_keeps (suc fuel) parallel task (first_pick picks % runnable task) w regular)
    (λ task w regular. runs_have_rules fuel (other_picks picks) parallel task w regular))
