-- How the parts of a line keep a task regular: no leaf is stuck, and no branch prints or allocates.
use Rattle.std.proofs.Common.{◌≡◌, ℕ, zero, suc, ◌≤◌, ◌^◌, ℤ, pos, negsuc, ◌+ℤ◌, nat_lt, Bool, true, false, not, ◌&&◌, IsTrue, List, Option, None, Some, refl, subst, arith}
use Rattle.std.proofs.lemmas.Bool.{cond_both}
use Rattle.lq_tree.specs.declared.place.Place.{Place}
use Rattle.lq_tree.specs.declared.trap.TrapKind.TheVariants.{Range}
use Rattle.lq_meaning.specs.declared.action.Action.{Action}
use Rattle.lq_meaning.specs.declared.action.Action.TheVariants.{Test}
use Rattle.lq_meaning.specs.Ending.{Trap, Done, Trapped}
use Rattle.lq_meaning.specs.Operators.{Computed, Computes, Fails}
use Rattle.lq_meaning.specs.Control.{by_truth, Flow, GoesOn, Returns}
use Rattle.lq_meaning.specs.Task.{Task, Ended, Due, Fork, Tasks, all_ended, first_trap, behind_all, forked}
use Rattle.lq_meaning.specs.TaskControl.{Line, give, stop, ◌⨾◌, computed, due, together, Statement, done_with, unless_returned, ◌then_do◌, tested, loop, returned, ends, leaf}
use Rattle.lq_meaning.specs.Behaviour.{iterations, each}
use Rattle.lq_meaning.specs.Tasks.{is_loud, IsRegular, AreRegular}

-- for no actions each task is regular
regular_zero : (task : Task) (parallel : Bool) → IsRegular task 0 parallel
regular_zero (Ended ending) parallel = tt
regular_zero (Due at action next) parallel = tt
regular_zero (Fork children behind) parallel = tt

-- a leaf that is done or trapped is regular
pub done_regular : (m : ℕ) (parallel : Bool) → IsRegular (Ended Done) m parallel
done_regular zero parallel = tt
done_regular (suc m) parallel = record { ruled = λ e. cc; unspent = λ e. cc }

pub trapped_regular : (m : ℕ) (parallel : Bool) (trap : Trap) → IsRegular (Ended (Trapped trap)) m parallel
trapped_regular zero parallel trap = tt
trapped_regular (suc m) parallel trap = record { ruled = λ e. cc; unspent = λ e. cc }

-- a fork is regular, where its children and what is behind it are
behind_all_regular : (m : ℕ) (parallel : Bool) (trap : Option Trap) (behind : Task) → IsRegular behind m parallel → IsRegular (behind_all trap behind) m parallel
behind_all_regular m parallel None behind regular = regular
behind_all_regular m parallel (Some trap) behind regular = trapped_regular m parallel trap

fork_regular : (m : ℕ) (parallel : Bool) (children : Tasks) (behind : Task) → AreRegular children m → IsRegular behind m parallel → IsRegular (Fork children behind) m parallel
fork_regular zero parallel children behind are regular = tt
fork_regular (suc m) parallel children behind are regular = (are, regular)

forked_regular : (m : ℕ) (parallel : Bool) (children : Tasks) (behind : Task) → AreRegular children m → IsRegular behind m parallel → IsRegular (forked children behind) m parallel
forked_regular m parallel children behind are regular =
    cond_both (all_ended children) _ _ (λ (task : Task). IsRegular task m parallel)
    (λ _. behind_all_regular m parallel (first_trap children) behind regular) (λ _. fork_regular m parallel children behind are regular)

-- up to a bound on actions a line is regular, where what comes next is: for the values that may come
pub record LineIsRegular (bound : ℕ) (parallel : Bool) (X : Type 0) (may : X → Type 0) (own : Line X) : Type 0 where
  pub keeps : (m : ℕ) → m ≤ bound → (next : X → ℕ → Task) → ((x : X) → may x → (passed k : ℕ) → k ≤ m → IsRegular (next x passed) k parallel)
      → (passed : ℕ) → IsRegular (own next passed) m parallel

-- any value may come
abbrev pub any : {X : Type 0} → X → Type 0
any x = Unit {0}

-- within branches no return may come
abbrev pub Flows : {L : Type 0} → (inner : Bool) → Flow L → Type 0
Flows inner (GoesOn locals) = Unit {0}
Flows inner (Returns word) = inner ≡ false

-- an action is quiet, or the line is in no branch
abbrev pub MayAct : (parallel : Bool) → Action → Type 0
MayAct parallel action = parallel ≡ true → is_loud action ≡ false

may_act : (parallel : Bool) (action : Action) → MayAct parallel action → IsTrue (not (parallel && is_loud action))
may_act true action may = rw (may refl) refl
may_act false action may = refl

module _ {bound : ℕ} {parallel : Bool} where
  pub gives : {X : Type 0} {may : X → Type 0} (x : X) → may x → LineIsRegular bound parallel X may (give x)
  gives x is = record { keeps = λ m below next nexts passed. nexts x is passed m (omega arith) }

  pub stops : {X : Type 0} {may : X → Type 0} (trap : Trap) → LineIsRegular bound parallel X may (stop (Trapped trap))
  stops trap = record { keeps = λ m below next nexts passed. trapped_regular m parallel trap }

  pub goes : {X Y : Type 0} {may : X → Type 0} {might : Y → Type 0} {first : Line X} {then' : X → Line Y}
      → LineIsRegular bound parallel X may first → ((x : X) → may x → LineIsRegular bound parallel Y might (then' x)) → LineIsRegular bound parallel Y might (first ⨾ then')
  goes {then' = then'} firsts thens = record {
    keeps = λ m below next nexts passed.
        firsts.keeps m below (λ x. then' x next) (λ x is between k fits. (thens x is).keeps k (omega arith) next (λ y later forks j less. nexts y later forks j (omega arith)) between) passed;
  }

  pub due_regular : (path : List ℕ) (at : Place) (action : Action) → MayAct parallel action → LineIsRegular bound parallel ℤ any (due path at action)
  due_regular path at action may = record { keeps = acts } where
    acts : (m : ℕ) → m ≤ bound → (next : ℤ → ℕ → Task) → ((x : ℤ) → Unit {0} → (passed k : ℕ) → k ≤ m → IsRegular (next x passed) k parallel)
        → (passed : ℕ) → IsRegular (due path at action next passed) m parallel
    acts zero below next nexts passed = tt
    acts (suc m) below next nexts passed = (may_act parallel action may, λ word. nexts word tt passed m (omega arith))

  -- behind an action there is one action less
  counted : {Y : Type 0} {might : Y → Type 0} (path : List ℕ) (at : Place) (action : Action) {then' : ℤ → Line Y} → MayAct parallel action
      → ((word : ℤ) → LineIsRegular bound parallel Y might (then' word)) → LineIsRegular (suc bound) parallel Y might (due path at action ⨾ then')
  counted {Y} {might} path at action {then'} may thens = record { keeps = acts } where
    acts : (m : ℕ) → m ≤ suc bound → (next : Y → ℕ → Task) → ((y : Y) → might y → (passed k : ℕ) → k ≤ m → IsRegular (next y passed) k parallel)
        → (passed : ℕ) → IsRegular (due path at action (λ word. then' word next) passed) m parallel
    acts zero below next nexts passed = tt
    acts (suc m) below next nexts passed =
        (may_act parallel action may, λ word. (thens word).keeps m (omega arith) next (λ y later forks k less. nexts y later forks k (omega arith)) passed)

  pub computed_regular : (at : Place) (c : Computed) → LineIsRegular bound parallel ℤ any (computed at c)
  computed_regular at (Computes x) = gives x tt
  computed_regular at (Fails kind) = stops (record { kind = kind; at = at })

  pub by_truth_regular : {X : Type 0} {may : X → Type 0} (word : ℤ) {holds fails : Line X}
      → LineIsRegular bound parallel X may holds → LineIsRegular bound parallel X may fails → LineIsRegular bound parallel X may (by_truth word holds fails)
  by_truth_regular (pos zero) holds fails = fails
  by_truth_regular (pos (suc n)) holds fails = holds
  by_truth_regular (negsuc n) holds fails = holds

  -- a statement goes on with any locals, and returns where it may
  pub then_do_regular : {L : Type 0} {inner : Bool} {first : Line (Flow L)} {next : Statement L} → LineIsRegular bound parallel (Flow L) (Flows inner) first
      → ((locals : L) → LineIsRegular bound parallel (Flow L) (Flows inner) (next locals)) → LineIsRegular bound parallel (Flow L) (Flows inner) (first then_do next)
  then_do_regular {L} {inner} {first} {next} firsts nexts = goes firsts unless where
    unless : (flow : Flow L) → Flows inner flow → LineIsRegular bound parallel (Flow L) (Flows inner) (unless_returned next flow)
    unless (GoesOn locals) is = nexts locals
    unless (Returns word) is = gives (Returns word) is

  pub returned_regular : {L : Type 0} (flow : Flow L) → LineIsRegular bound parallel ℤ any (returned flow)
  returned_regular (GoesOn locals) = gives (pos 0) tt
  returned_regular (Returns word) = gives word tt

-- a lower bound
narrower : {X : Type 0} (low : ℕ) {high : ℕ} → low ≤ high → {parallel : Bool} {may : X → Type 0} {own : Line X} → LineIsRegular high parallel X may own → LineIsRegular low parallel X may own
narrower low less regular = record { keeps = λ m below. regular.keeps m (omega arith) }

-- for no actions a line is regular
for_nothing : {X : Type 0} {parallel : Bool} {may : X → Type 0} (own : Line X) → LineIsRegular 0 parallel X may own
for_nothing {parallel = parallel} own = record { keeps = λ m below next nexts passed. let none : 0 ≡ m = omega arith in subst (λ k. IsRegular (own next passed) k parallel) none (regular_zero (own next passed) parallel) }

-- a loop is stuck only behind as many tests as it has turns
pub loop_regular : {L : Type 0} {bound : ℕ} (n : ℕ) → n ≤ bound → {parallel inner : Bool} (path : List ℕ) (at : Place) {head body : Statement L} {condition : L → Line ℤ}
    → ((locals : L) → LineIsRegular bound parallel (Flow L) (Flows inner) (head locals)) → ((locals : L) → LineIsRegular bound parallel ℤ any (condition locals))
    → ((locals : L) → LineIsRegular bound parallel (Flow L) (Flows inner) (body locals))
    → (locals : L) → LineIsRegular n parallel (Flow L) (Flows inner) (loop n head (λ locals. tested path at (condition locals)) body locals)
unfolding loop
loop_regular zero fits path at heads conditions bodies locals = for_nothing _
loop_regular (suc n) fits path at heads conditions bodies locals =
    then_do_regular (narrower (suc n) fits (heads locals)) (λ inside.
    goes (narrower (suc n) fits (conditions inside)) (λ word _.
    counted path at Test (λ _. refl) (λ _.
    by_truth_regular word (then_do_regular (narrower n (omega arith) (bodies inside)) (loop_regular n (omega arith) path at heads conditions bodies)) (gives (GoesOn inside) tt))))

-- the leaf of a branch
pub leaf_regular : {L : Type 0} {bound : ℕ} (m : ℕ) → m ≤ bound → {own : Line (Flow L)} → LineIsRegular bound true (Flow L) (Flows true) own → IsRegular (leaf own) m true
leaf_regular {L} m below regular = regular.keeps m below ends ended 0 where
  ended : (flow : Flow L) → Flows true flow → (passed k : ℕ) → k ≤ m → IsRegular (ends flow passed) k true
  ended (GoesOn locals) is passed k less = done_regular k true
  ended (Returns word) is passed k less = absurd cc

-- children that are regular up to a bound
abbrev pub ChildrenAreRegular : (bound : ℕ) → Tasks → Type 0
ChildrenAreRegular bound children = (m : ℕ) → m ≤ bound → AreRegular children m

-- the children of a fork, and then the line behind it
pub together_regular : {L : Type 0} {bound : ℕ} {parallel inner : Bool} (children : ℕ → Tasks) (locals : L) → ((passed : ℕ) → ChildrenAreRegular bound (children passed))
    → LineIsRegular bound parallel (Flow L) (Flows inner) (together children ⨾ λ _. done_with locals)
together_regular {parallel = parallel} children locals are = record {
  keeps = λ m below next nexts passed. forked_regular m parallel (children passed) (next (GoesOn locals) (suc passed)) (are passed m below) (nexts (GoesOn locals) tt (suc passed) m (omega arith));
}

-- the iterations of a `foreach`
pub iterations_regular : {bound : ℕ} (n number : ℕ) (index : ℤ) (step : ℕ) (iteration : ℕ → ℤ → Task) → ((number : ℕ) (i : ℤ) (m : ℕ) → m ≤ bound → IsRegular (iteration number i) m true)
    → ChildrenAreRegular bound (iterations n number index step iteration)
unfolding iterations
iterations_regular zero number index step iteration regular m below = tt
iterations_regular (suc n) number index step iteration regular m below =
    (regular number index m below, iterations_regular n (suc number) (index +ℤ pos step) step iteration regular m below)

pub each_regular : {L : Type 0} {bound : ℕ} {parallel inner : Bool} (at : Place) (count : ℕ) (children : ℕ → ℕ → Tasks) (locals : L) → ((count passed : ℕ) → ChildrenAreRegular bound (children count passed))
    → LineIsRegular bound parallel (Flow L) (Flows inner) (each at count children ⨾ λ _. done_with locals)
each_regular at zero children locals are = gives (GoesOn locals) tt
each_regular {L} {bound} {parallel} {inner} at (suc n) children locals are =
    cond_both (nat_lt (2 ^ 20) (suc n)) _ _ (λ (own : Line (Unit {0})). LineIsRegular bound parallel (Flow L) (Flows inner) (own ⨾ λ _. done_with locals))
    (λ _. stops (record { kind = Range; at = at })) (λ _. together_regular (children (suc n)) locals (are (suc n)))
