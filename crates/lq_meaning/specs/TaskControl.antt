-- How the parts of a line of execution follow one another in a task (docs/LANGUAGE.md, "Task tree"). The same names stand for
-- the same ways of putting parts together as in the sequential execution.
use Rattle.std.specs.Prelude.{ℕ, zero, suc, ℤ, pos, ◌++◌, List, [], ◌∷◌}
use Rattle.lq_tree.specs.declared.place.Place.{Place}
use Rattle.lq_meaning.specs.declared.action.Action.{Action}
use Rattle.lq_meaning.specs.declared.action.Action.TheVariants.{Load, Store, Test}
use Rattle.lq_meaning.specs.Ending.{Ending, Done, Spent, Unruled}
use Rattle.lq_meaning.specs.Operators.{Computed, Computes, Fails}
use Rattle.lq_meaning.specs.Control.{trapped, by_truth, Target, Flow, GoesOn, Returns}
use Rattle.lq_meaning.specs.Task.{Task, Ended, Due, Tasks, forked}

-- what a line becomes, by a value and by how many forks it has passed
abbrev pub Next : Type 0 → Type 0
Next X = X → (passed : ℕ) → Task

-- a part of a line is the task that it makes, by what comes next
abbrev pub Line : Type 0 → Type 0
Line X = Next X → (passed : ℕ) → Task

abbrev pub give : {X : Type 0} → X → Line X
give x next passed = next x passed

abbrev pub stop : {X : Type 0} → Ending → Line X
stop ending next passed = Ended ending

-- first the one part, and then, with its value, the next
infixl 10 ◌⨾◌
abbrev pub ◌⨾◌ : {X Y : Type 0} → Line X → (X → Line Y) → Line Y
◌⨾◌ first then' next passed = first (λ x. then' x next) passed

-- a value that an operator computes, or its trap
abbrev pub computed : Place → Computed → Line ℤ
computed at (Computes x) = give x
computed at (Fails kind) = stop (trapped kind at)

-- an action is due on this line, which stands in this branch
abbrev pub due : (branch : List ℕ) → Place → Action → Line ℤ
due branch at action next passed = Due (record { path = branch ++ passed ∷ []; place = at }) action (λ word. next word passed)

abbrev pub load : (branch : List ℕ) → Place → Target → Line ℤ
load branch at t = due branch at (Load t.pointer t.index t.field)

abbrev pub store : (branch : List ℕ) → Place → Target → (word : ℤ) → Line ℤ
store branch at t word = due branch at (Store t.pointer t.index t.field word)

-- a fork of these children, and then the line behind it
abbrev pub together : ((passed : ℕ) → Tasks) → Line (Unit {0})
together children next passed = forked (children passed) (next tt (suc passed))

-- what a statement does with the locals in front of it
abbrev pub Statement : Type 0 → Type 0
Statement L = L → Line (Flow L)

abbrev pub done_with : {L : Type 0} → Statement L
done_with locals = give (GoesOn locals)

-- a return passes by what is left
abbrev pub unless_returned : {L : Type 0} → Statement L → Flow L → Line (Flow L)
unless_returned next (GoesOn locals) = next locals
unless_returned next (Returns word) = give (Returns word)

infixl 10 ◌then_do◌
abbrev pub ◌then_do◌ : {L : Type 0} → Line (Flow L) → Statement L → Line (Flow L)
first then_do next = first ⨾ unless_returned next

abbrev pub tested : (branch : List ℕ) → Place → Line ℤ → Line ℤ
tested branch at condition = condition ⨾ λ word. due branch at Test ⨾ λ _. give word

-- a loop of at most so many turns
unfoldable pub loop : {L : Type 0} → ℕ → (head : Statement L) → (test : L → Line ℤ) → (body : Statement L) → Statement L
loop zero head test body locals = stop Spent
loop (suc n) head test body locals =
    head locals then_do λ locals. test locals ⨾ λ word. by_truth word (body locals then_do loop n head test body) (done_with locals)

-- a function that reaches its end gives 0, or null
abbrev pub returned : {L : Type 0} → Flow L → Line ℤ
returned (GoesOn locals) = give (pos 0)
returned (Returns word) = give word

-- a branch ends with its statements; no branch of a formed program returns
abbrev pub ends : {L : Type 0} → Flow L → (passed : ℕ) → Task
ends (GoesOn locals) passed = Ended Done
ends (Returns word) passed = Ended Unruled

-- a branch of its own, which has passed no fork
abbrev pub leaf : {L : Type 0} → Line (Flow L) → Task
leaf line = line ends 0
