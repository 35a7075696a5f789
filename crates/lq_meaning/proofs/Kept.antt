-- Two runs of the same parts, by two fuels: a relation that each way of putting parts together keeps.
use Rattle.std.proofs.Common.{◌≡◌, ℕ, zero, suc, ◌≤◌, ◌^◌, ℤ, pos, negsuc, ◌+ℤ◌, Bool, true, false, nat_lt, if◌then◌else◌, List, [], length, Option, None, Some, refl, arith}
use Rattle.std.specs.Option.{option_or}
use Rattle.lq_tree.specs.declared.place.Place.{Place}
use Rattle.lq_meaning.specs.declared.action.Action.{Action}
use Rattle.lq_meaning.specs.declared.action.Action.TheVariants.{Start, Test}
use Rattle.lq_meaning.specs.World.{World}
use Rattle.lq_meaning.specs.Ending.{Trap, Ending, Spent, Trapped}
use Rattle.lq_meaning.specs.Operators.{Computed, Computes, Fails}
use Rattle.lq_meaning.specs.Control.{trapped, Run, give, stop, ◌⨾◌, computed, due, by_truth, Flow, GoesOn, Returns, Statement, unless_returned, ◌then_do◌, tested, loop, branch, before, joined, iterations, iteration_count, each, returned}
use Rattle.lq_meaning.specs.Entry.{start, start_on, arguments, enter}

-- each way of putting parts together keeps the relation
pub record IsKept (fuel more : ℕ) (K : (X : Type 0) → Run X → Run X → Type 0) : Type 1 where
  pub gives : {X : Type 0} (x : X) → K X (give x) (give x)
  pub stops : {X : Type 0} (ending : Ending) → K X (stop ending) (stop ending)
  -- where the first run is out of fuel, the second may go on
  pub spent : {X : Type 0} (other : Run X) → K X (stop Spent) other
  pub due : (at : Place) (action : Action) → K ℤ (due fuel at action) (due more at action)
  pub goes : {X Y : Type 0} {first first' : Run X} {next next' : X → Run Y} → K X first first' → ((x : X) → K Y (next x) (next' x)) → K Y (first ⨾ next) (first' ⨾ next')
  pub branch : {L : Type 0} {run run' : Run (Flow L)} → K (Flow L) run run' → K (Option Trap) (branch run) (branch run')

-- one of two by a test
pub either : {R S : Type 0} (O : R → S → Type 0) {holds fails : R} {holds' fails' : S} (test : Bool) → O holds holds' → O fails fails' → O (if test then holds else fails) (if test then holds' else fails')
either O true holds fails = holds
either O false holds fails = fails

-- what holds of a refusal and of each entry from a world that cost nothing, holds of how `main` is entered
pub enter_kept : {R S : Type 0} (O : R → S → Type 0) {refused : World → R} {refused' : World → S} {entered : List ℤ → World → R} {entered' : List ℤ → World → S} (params words : ℕ) (input : List ℤ)
    → ((w : World) → w.cost ≡ 0 → O (refused w) (refused' w)) → ((arguments : List ℤ) (w : World) → w.cost ≡ 0 → O (entered arguments w) (entered' arguments w))
    → O (enter refused entered params words input) (enter refused' entered' params words input)
enter_kept O zero words input refuses enters = enters [] (start words) refl
enter_kept O (suc n) words input refuses enters = either O (nat_lt words (length input)) (refuses (start words) refl) (enters (arguments input) (start_on words input) refl)

module _ {fuel more : ℕ} {K : (X : Type 0) → Run X → Run X → Type 0} (k : IsKept fuel more K) where
  -- so do two statements with any locals
  abbrev pub Keeps : {L : Type 0} → Statement L → Statement L → Type 0
  Keeps {L} first second = (locals : L) → K (Flow L) (first locals) (second locals)

  pub computed_kept : (at : Place) (c : Computed) → K ℤ (computed at c) (computed at c)
  computed_kept at (Computes x) = k.gives x
  computed_kept at (Fails kind) = k.stops (trapped kind at)

  pub by_truth_kept : {X : Type 0} {holds holds' fails fails' : Run X} (word : ℤ) → K X holds holds' → K X fails fails' → K X (by_truth word holds fails) (by_truth word holds' fails')
  by_truth_kept (pos zero) holds fails = fails
  by_truth_kept (pos (suc n)) holds fails = holds
  by_truth_kept (negsuc n) holds fails = holds

  pub unless_returned_kept : {L : Type 0} {next next' : Statement L} → Keeps next next' → (flow : Flow L) → K (Flow L) (unless_returned next flow) (unless_returned next' flow)
  unless_returned_kept nexts (GoesOn locals) = nexts locals
  unless_returned_kept nexts (Returns word) = k.gives (Returns word)

  pub then_do_kept : {L : Type 0} {first first' : Run (Flow L)} {next next' : Statement L} → K (Flow L) first first' → Keeps next next' → K (Flow L) (first then_do next) (first' then_do next')
  then_do_kept firsts nexts = k.goes firsts (unless_returned_kept nexts)

  pub tested_kept : {condition condition' : Run ℤ} (at : Place) → K ℤ condition condition' → K ℤ (tested fuel at condition) (tested more at condition')
  tested_kept at conditions = k.goes conditions (λ word. k.goes (k.due at Test) (λ _. k.gives word))

  -- a loop, where the second run may make more turns
  pub loop_kept : {L : Type 0} {head head' body body' : Statement L} {test test' : L → Run ℤ} (n m : ℕ) → n ≤ m → Keeps head head' → ((locals : L) → K ℤ (test locals) (test' locals)) → Keeps body body'
      → Keeps (loop n head test body) (loop m head' test' body')
  unfolding loop
  loop_kept zero m fits heads tests bodies locals = k.spent (loop m _ _ _ locals)
  loop_kept (suc n) zero fits heads tests bodies locals = absurd (omega arith)
  loop_kept (suc n) (suc m) fits heads tests bodies locals =
      then_do_kept (heads locals) (λ inner. k.goes (tests inner) (λ word.
      by_truth_kept word (then_do_kept (bodies inner) (loop_kept n m (omega arith) heads tests bodies)) (k.gives (GoesOn inner))))

  pub before_kept : {first first' others others' : Run (Option Trap)} → K (Option Trap) first first' → K (Option Trap) others others' → K (Option Trap) (before first others) (before first' others')
  before_kept firsts others = k.goes firsts (λ trap. k.goes others (λ later. k.gives (option_or trap later)))

  pub joined_kept : {L : Type 0} (locals : L) (trap : Option Trap) → K (Flow L) (joined locals trap) (joined locals trap)
  joined_kept locals None = k.gives (GoesOn locals)
  joined_kept locals (Some trap) = k.stops (Trapped trap)

  iterations_kept : {iteration iteration' : ℤ → Run (Option Trap)} (n : ℕ) (index : ℤ) (step : ℕ) → ((i : ℤ) → K (Option Trap) (iteration i) (iteration' i))
      → K (Option Trap) (iterations n index step iteration) (iterations n index step iteration')
  unfolding iterations
  iterations_kept zero index step each = k.gives None
  iterations_kept (suc n) index step each = before_kept (each index) (iterations_kept n (index +ℤ pos step) step each)

  pub each_kept : {L : Type 0} {body body' : ℤ → Run (Flow L)} (at : Place) (low high : ℤ) (step : ℕ) → ((i : ℤ) → K (Flow L) (body i) (body' i)) → K (Option Trap) (each fuel at low high step body) (each more at low high step body')
  each_kept at low high step bodies =
      either (K (Option Trap)) (nat_lt (2 ^ 20) (iteration_count low high step)) (k.stops _)
      (iterations_kept (iteration_count low high step) low step (λ i. k.branch (k.goes (k.due at Start) (λ _. bodies i))))

  pub returned_kept : {L : Type 0} (flow : Flow L) → K ℤ (returned flow) (returned flow)
  returned_kept (GoesOn locals) = k.gives (pos 0)
  returned_kept (Returns word) = k.gives word
