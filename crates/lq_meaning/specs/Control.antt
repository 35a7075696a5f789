-- How the parts of a run follow one another (docs/LANGUAGE.md, "Costs", "Fuel", "Traps" and "Parallel statements").
-- The meanings of the source tree and of the plain tree are both made of these.
use Rattle.std.specs.Prelude.{ℕ, zero, suc, ◌+◌, ◌-◌, ◌/◌, ◌^◌, ℤ, pos, negsuc, ◌+ℤ◌, ◌-ℤ◌, nat_lt, if◌then◌else◌, Option, None, Some}
use Rattle.std.specs.Option.{option_or}
use Rattle.lq_tree.specs.declared.place.Place.{Place}
use Rattle.lq_tree.specs.declared.trap.TrapKind.{TrapKind}
use Rattle.lq_tree.specs.declared.trap.TrapKind.TheVariants.{Range}
use Rattle.lq_meaning.specs.Operators.{Computed, Computes, Fails}
use Rattle.lq_meaning.specs.declared.action.Action.{Action}
use Rattle.lq_meaning.specs.declared.action.Action.TheVariants.{Load, Store, Start, Test}
use Rattle.lq_meaning.specs.World.{World, Acted, Answers, Traps, Strays, act}
use Rattle.lq_meaning.specs.Ending.{Trap, Ending, Done, Trapped, Strayed, Spent, Unruled, Outcome}

-- the ending by a trap of this kind at this place
abbrev pub trapped : TrapKind → Place → Ending
trapped kind at = Trapped (record { kind = kind; at = at })

-- what comes of a part of a run: it gives a value, or it stops the run; with the world behind it
pub data Came (X : Type 0) : Type 0 where
  Gives : X → World → Came X
  Stops : Ending → World → Came X

-- a part of a run is what comes of it from the world in front of it
abbrev pub Run : Type 0 → Type 0
Run X = World → Came X

-- gives this value, and leaves the world as it is
abbrev pub give : {X : Type 0} → X → Run X
give x w = Gives x w

-- stops the run in this way
abbrev pub stop : {X : Type 0} → Ending → Run X
stop ending w = Stops ending w

-- goes on with the value and the world that came
abbrev pub go_on : {X Y : Type 0} → Came X → (X → Run Y) → Came Y
go_on (Gives x w) next = next x w
go_on (Stops ending w) next = Stops ending w

-- first the one part, and then, with its value, the next
infixl 10 ◌⨾◌
abbrev pub ◌⨾◌ : {X Y : Type 0} → Run X → (X → Run Y) → Run Y
◌⨾◌ first next w = go_on (first w) next

-- a value that an operator computes, or its trap
abbrev pub computed : Place → Computed → Run ℤ
computed at (Computes x) = give x
computed at (Fails kind) = stop (trapped kind at)

-- what comes of an action: its word, or its trap or stray at the place
abbrev pub answered : Place → Acted → Came ℤ
answered at (Answers word w) = Gives word w
answered at (Traps kind w) = Stops (trapped kind at) w
answered at (Strays w) = Stops (Strayed at) w

-- an action is done only where the cost so far is less than the fuel
abbrev pub due : (fuel : ℕ) → Place → Action → Run ℤ
due fuel at action w = if nat_lt w.cost fuel then answered at (act action w) else Stops Spent w

-- one of two, by whether a word is true or 0
abbrev pub by_truth : {X : Type 0} → ℤ → (holds fails : X) → X
by_truth (pos zero) holds fails = fails
by_truth (pos (suc n)) holds fails = holds
by_truth (negsuc n) holds fails = holds

-- what an element and a field name: the word that a load reads and a store writes
pub record Target : Type 0 where
  pub pointer : ℤ
  pub index : ℤ
  pub field : ℕ

-- reads the word there, where that is due
abbrev pub load : (fuel : ℕ) → Place → Target → Run ℤ
load fuel at t = due fuel at (Load t.pointer t.index t.field)

-- writes a word there, where that is due
abbrev pub store : (fuel : ℕ) → Place → Target → (word : ℤ) → Run ℤ
store fuel at t word = due fuel at (Store t.pointer t.index t.field word)

-- a statement goes on with these locals, or returns a word
pub data Flow (L : Type 0) : Type 0 where
  GoesOn : L → Flow L
  Returns : ℤ → Flow L

-- what a statement does with the locals in front of it
abbrev pub Statement : Type 0 → Type 0
Statement L = L → Run (Flow L)

-- a statement that goes on with these locals
abbrev pub done_with : {L : Type 0} → Statement L
done_with locals = give (GoesOn locals)

-- a return passes by what is left
abbrev pub unless_returned : {L : Type 0} → Statement L → Flow L → Run (Flow L)
unless_returned next (GoesOn locals) = next locals
unless_returned next (Returns word) = give (Returns word)

-- first the one statement, and then the next
infixl 10 ◌then_do◌
abbrev pub ◌then_do◌ : {L : Type 0} → Run (Flow L) → Statement L → Run (Flow L)
first then_do next = first ⨾ unless_returned next

-- a loop's test is counted once its condition is known
abbrev pub tested : (fuel : ℕ) → Place → Run ℤ → Run ℤ
tested fuel at condition = condition ⨾ λ word. due fuel at Test ⨾ λ _. give word

-- A loop of at most so many turns: the statements of its test, the test, and while this is true the body. Each turn costs 1,
-- so more turns than there is fuel are never made.
unfoldable pub loop : {L : Type 0} → ℕ → (head : Statement L) → (test : L → Run ℤ) → (body : Statement L) → Statement L
loop zero head test body locals = stop Spent
loop (suc n) head test body locals =
    head locals then_do λ locals. test locals ⨾ λ word. by_truth word (body locals then_do loop n head test body) (done_with locals)

-- a trap ends its own branch; a stray and the end of the fuel end the run
abbrev pub caught : {L : Type 0} → Came (Flow L) → Came (Option Trap)
caught (Gives (GoesOn inner) w) = Gives None w
caught (Gives (Returns word) w) = Stops Unruled w
caught (Stops (Trapped trap) w) = Gives (Some trap) w
caught (Stops ending w) = Stops ending w

-- a branch of a parallel statement gives its trap, if it trapped
abbrev pub branch : {L : Type 0} → Run (Flow L) → Run (Option Trap)
branch run w = caught (run w)

-- one branch, and then the others; of their traps that of the first in source order counts
abbrev pub before : Run (Option Trap) → Run (Option Trap) → Run (Option Trap)
before first others = first ⨾ λ trap. others ⨾ λ later. give (option_or trap later)

-- behind all branches
abbrev pub joined : {L : Type 0} → L → Option Trap → Run (Flow L)
joined locals None = done_with locals
joined locals (Some trap) = stop (Trapped trap)

-- how many numbers low, low + step, low + 2 step and so on are below high
abbrev pub count_below : ℤ → (step : ℕ) → ℕ
count_below (pos distance) step = (distance + (step - 1)) / step
count_below (negsuc n) step = 0

-- how many iterations a `foreach` has
abbrev pub iteration_count : (low high : ℤ) → (step : ℕ) → ℕ
iteration_count low high step = count_below (high -ℤ low) step

-- so many iterations from this index on, in order; each is a branch
unfoldable pub iterations : ℕ → (index : ℤ) → (step : ℕ) → (iteration : ℤ → Run (Option Trap)) → Run (Option Trap)
iterations zero index step iteration = give None
iterations (suc n) index step iteration = before (iteration index) (iterations n (index +ℤ pos step) step iteration)

-- all iterations, unless they are too many; the start of each is counted
abbrev pub each : {L : Type 0} → (fuel : ℕ) → Place → (low high : ℤ) → (step : ℕ) → (body : ℤ → Run (Flow L)) → Run (Option Trap)
each fuel at low high step body =
    let count = iteration_count low high step in
    if nat_lt (2 ^ 20) count then stop (trapped Range at)
    else iterations count low step (λ index. branch (due fuel at Start ⨾ λ _. body index))

-- a function that reaches its end gives 0, or null
abbrev pub returned : {L : Type 0} → Flow L → Run ℤ
returned (GoesOn locals) = give (pos 0)
returned (Returns word) = give word

-- the run is done when `main` returns
abbrev pub ended : Came ℤ → Outcome
ended (Gives word w) = record { ending = Done; world = w }
ended (Stops ending w) = record { ending = ending; world = w }
