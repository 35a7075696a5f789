-- What the laws of the sequential execution speak of.
use Rattle.std.specs.Prelude.{◌≡◌, ◌≤◌, ◌<◌, ◌-◌, ℕ, suc, ℤ, List, ◌++◌, Option, Some}
use Rattle.lq_tree.specs.declared.place.Place.{Place}
use Rattle.lq_tree.specs.declared.expr.Expr.{Expr}
use Rattle.lq_tree.specs.declared.stmt.StmtKind.{StmtKind, While', For'}
use Rattle.lq_meaning.specs.World.{World}
use Rattle.lq_meaning.specs.Control.{Came, Gives, Stops, Run, ◌⨾◌, by_truth, Statement, done_with, ◌then_do◌, tested, loop}
use Rattle.lq_meaning.specs.Meaning.{Context, Locals, condition, scoped, exec, exec_row, exec_held}

-- the world behind a part of a run
abbrev pub world_of : {X : Type 0} → Came X → World
world_of (Gives x w) = w
world_of (Stops ending w) = w

-- from one world to a later one the cost never falls and keeps within the fuel, and the printed list only grows
pub record Grows (fuel : ℕ) (before after : World) : Type 0 where
  pub rises : before.cost ≤ after.cost
  pub within : before.cost ≤ fuel → after.cost ≤ fuel
  pub added : List ℤ
  pub printed : after.printed ≡ before.printed ++ added

-- a part of a run grows from each world
abbrev pub RunGrows : {X : Type 0} → (fuel : ℕ) → Run X → Type 0
RunGrows fuel run = (w : World) → Grows fuel w (world_of (run w))

-- a statement grows with any locals
abbrev pub StatementGrows : {L : Type 0} → (fuel : ℕ) → Statement L → Type 0
StatementGrows {L} fuel statement = (locals : L) → RunGrows fuel (statement locals)

-- each call of the context grows
abbrev pub CallsGrow : Context → Type 0
CallsGrow c = (at : Place) (name : List ℕ) (words : List ℤ) → RunGrows c.fuel (c.call at name words)

-- a test that gives a word has cost something, and keeps within the fuel
abbrev pub Counts : {L : Type 0} → (fuel : ℕ) → (test : L → Run ℤ) → Type 0
Counts {L} fuel test = (locals : L) (w v : World) (word : ℤ) → test locals w ≡ Gives word v → (w.cost < v.cost) × (v.cost ≤ fuel)

-- one turn of a loop, and then the loop
abbrev pub one_turn : {L : Type 0} → (head : Statement L) → (test : L → Run ℤ) → (body : Statement L) → (then_loop : Statement L) → Statement L
one_turn head test body then_loop locals =
    head locals then_do λ locals. test locals ⨾ λ word. by_truth word (body locals then_do then_loop) (done_with locals)

-- a loop whose bound on turns goes by the world in front of it
abbrev pub loop_by : {L : Type 0} → (bound : World → ℕ) → (head : Statement L) → (test : L → Run ℤ) → (body : Statement L) → Statement L
loop_by bound head test body locals w = loop (bound w) head test body locals w

-- a loop comes to the same with any two bounds on its turns, where both are greater than the fuel that is left
abbrev pub AnyTwoBounds : Type 0 → Type 0
AnyTwoBounds L =
    (fuel : ℕ) (head : Statement L) (test : L → Run ℤ) (body : Statement L) → StatementGrows fuel head → Counts fuel test → StatementGrows fuel body →
    (n m : ℕ) (locals : L) (w : World) → fuel - w.cost < n → fuel - w.cost < m → loop n head test body locals w ≡ loop m head test body locals w

-- a loop whose bound is greater than the fuel is one turn, and then the loop
abbrev pub TurnByTurn : Type 0 → Type 0
TurnByTurn L =
    (fuel : ℕ) (head : Statement L) (test : L → Run ℤ) (body : Statement L) → StatementGrows fuel head → Counts fuel test → StatementGrows fuel body →
    (locals : L) (w : World) → loop (suc fuel) head test body locals w ≡ one_turn head test body (loop (suc fuel) head test body) locals w

-- the test of a loop with this condition
abbrev pub test : Context → Place → Option Expr → Locals → Run ℤ
test c at e locals = tested c.fuel at (condition c at e locals)

-- a loop with such a bound, and each other statement as it is
abbrev pub exec_by : (bound : World → ℕ) → Context → Place → StmtKind → Statement Locals
exec_by bound c at (While' e p body) locals = loop_by bound done_with (test c at (Some e)) (λ locals. scoped locals (exec_row c body locals)) locals
exec_by bound c at (For' first e third p body) locals =
    scoped locals (exec_held c first locals then_do loop_by bound done_with (test c at e) (λ locals.
    scoped locals (exec_row c body locals) then_do λ locals. scoped locals (exec_held c third locals)))
exec_by bound c at kind locals = exec c at kind locals
