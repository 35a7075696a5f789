-- A loop does the same with any number of turns above the fuel that is left.
use Rattle.std.proofs.Common.{◌≡◌, ℕ, zero, suc, ◌+◌, ◌-◌, ◌<◌, ◌≤◌, ℤ, pos, negsuc, nat_lt, Option, Some, refl, subst, ap, arith}
use Rattle.std.proofs.lemmas.Bool.{cond_both, ltb-true}
use Rattle.lq_tree.specs.declared.place.Place.{Place}
use Rattle.lq_tree.specs.declared.expr.Expr.{Expr}
use Rattle.lq_tree.specs.declared.stmt.StmtKind.{StmtKind, While', For', Row_of-Stmt, Held-StmtKind-If-1}
use Rattle.lq_meaning.specs.declared.action.Action.TheVariants.{Test}
use Rattle.lq_meaning.specs.World.{World}
use Rattle.lq_meaning.specs.Ending.{Ending, Spent}
use Rattle.lq_meaning.specs.Control.{Came, Gives, Stops, Run, give, go_on, ◌⨾◌, due, by_truth, Flow, GoesOn, Returns, Statement, done_with, unless_returned, ◌then_do◌, tested, loop}
use Rattle.lq_meaning.specs.Meaning.{Context, Locals, condition, without, scoped, exec, exec_row, exec_held}
use Rattle.lq_meaning.specs.Laws.{world_of, Grows, RunGrows, StatementGrows, CallsGrow, Counts, one_turn, test, exec_by}
use Rattle.lq_meaning.proofs.Growing.{grows_not, growing}
use Rattle.lq_meaning.proofs.Kept.{then_do_kept}
use Rattle.lq_meaning.proofs.RunKept.{condition_kept, scoped_kept, exec_row_kept, exec_held_kept}

-- what comes next is the same for what the first gives
go_on_same : {X Y : Type 0} (a : Came X) (next other : X → Run Y) → ((x : X) (w : World) → a ≡ Gives x w → next x w ≡ other x w) → go_on a next ≡ go_on a other
go_on_same (Gives x w) next other same = same x w refl
go_on_same (Stops ending w) next other same = refl

then_do_same : {L : Type 0} (a : Came (Flow L)) (next other : Statement L) → ((locals : L) (w : World) → a ≡ Gives (GoesOn locals) w → next locals w ≡ other locals w)
    → go_on a (unless_returned next) ≡ go_on a (unless_returned other)
then_do_same (Gives (GoesOn locals) w) next other same = same locals w refl
then_do_same (Gives (Returns word) w) next other same = refl
then_do_same (Stops ending w) next other same = refl

by_truth_same : {X : Type 0} (word : ℤ) (holds other fails : Run X) (w : World) → holds w ≡ other w → by_truth word holds fails w ≡ by_truth word other fails w
by_truth_same (pos zero) holds other fails w same = refl
by_truth_same (pos (suc n)) holds other fails w same = same
by_truth_same (negsuc n) holds other fails w same = same

-- a statement that goes on took back no cost
rises : {X : Type 0} (fuel : ℕ) (run : Run X) (x : X) (v w : World) → RunGrows fuel run → run v ≡ Gives x w → v.cost ≤ w.cost
rises fuel run x v w grows goes = omega (arith, (grows v).rises, ap (λ a. (world_of a).cost) goes)

module _ {L : Type 0} (fuel : ℕ) (head : Statement L) (test : L → Run ℤ) (body : Statement L) (heads : StatementGrows fuel head) (counts : Counts fuel test) (bodies : StatementGrows fuel body) where
  -- a turn goes on the same with two loops that are the same where less fuel is left
  turn_same : (next other : Statement L) (locals : L) (w : World)
      → ((inner : L) (v : World) → w.cost < v.cost → w.cost < fuel → next inner v ≡ other inner v)
      → one_turn head test body next locals w ≡ one_turn head test body other locals w
  turn_same next other locals w same =
      then_do_same (head locals w) _ _ (λ inner v headed.
      go_on_same (test inner v) _ _ (λ word u gives.
      by_truth_same word _ _ _ u
      (then_do_same (body inner u) _ _ (λ last t goes.
      let opens : w.cost ≤ v.cost = rises fuel (head locals) (GoesOn inner) w v (heads locals) headed in
      let costs = counts inner v u word gives in
      let ends : u.cost ≤ t.cost = rises fuel (body inner) (GoesOn last) u t (bodies inner) goes in
      same last t (omega (arith, costs.0)) (omega (arith, costs.0, costs.1))))))

  pub any_two : (n m : ℕ) (locals : L) (w : World) → fuel - w.cost < n → fuel - w.cost < m → loop n head test body locals w ≡ loop m head test body locals w
  unfolding loop
  any_two zero m locals w enough other = absurd (omega arith)
  any_two (suc n) zero locals w enough other = absurd (omega arith)
  any_two (suc n) (suc m) locals w enough other =
      turn_same (loop n head test body) (loop m head test body) locals w (λ inner v costs left. any_two n m inner v (omega arith) (omega arith))

  pub turn_by_turn : (locals : L) (w : World) → loop (suc fuel) head test body locals w ≡ one_turn head test body (loop (suc fuel) head test body) locals w
  unfolding loop
  turn_by_turn locals w =
      turn_same (loop fuel head test body) (loop (suc fuel) head test body) locals w (λ inner v costs left. any_two fuel (suc fuel) inner v (omega arith) (omega arith))

-- what stops gives nothing
stops_no : {X : Type 0} (ending : Ending) (w v : World) (x : X) → Stops ending w ≡ Gives x v → ⊥
stops_no {X} ending w v x same = subst Stopped same tt where
  Stopped : Came X → Type 0
  Stopped (Gives x w) = ⊥
  Stopped (Stops ending w) = Unit {0}

-- a test that gives a word is counted
pub tested_counts : (fuel : ℕ) (at : Place) (run : Run ℤ) (w v : World) (word : ℤ) → RunGrows fuel run → tested fuel at run w ≡ Gives word v → (w.cost < v.cost) × (v.cost ≤ fuel)
tested_counts fuel at run w v word grows = from (run w) (grows w) where
  from : (a : Came ℤ) → Grows fuel w (world_of a) → go_on a (λ word. due fuel at Test ⨾ λ _. give word) ≡ Gives word v → (w.cost < v.cost) × (v.cost ≤ fuel)
  from (Stops ending u) grows gives = absurd (stops_no ending u v word gives)
  from (Gives x u) grows gives =
      cond_both (nat_lt u.cost fuel) _ _ (λ (r : Came ℤ). go_on r (λ _. give x) ≡ Gives word v → (w.cost < v.cost) × (v.cost ≤ fuel))
      (λ left gives. let costs : u.cost + 1 ≡ v.cost = ap (λ a. (world_of a).cost) gives in (omega (arith, grows.rises), omega (arith, ltb-true u.cost fuel left)))
      (λ _ gives. absurd (stops_no Spent u v word gives)) gives

module _ (c : Context) (calls : CallsGrow c) where
  -- with one fuel the two runs are one
  exec_row_grows : {n : _} (body : Row_of-Stmt n) → StatementGrows c.fuel (exec_row c body)
  exec_row_grows body = exec_row_kept (growing c.fuel) c.program c.call c.call calls (omega arith) body

  body_grows : {n : _} (body : Row_of-Stmt n) → StatementGrows c.fuel (λ locals. scoped locals (exec_row c body locals))
  body_grows body locals = scoped_kept (growing c.fuel) c.program {body = exec_row c body locals} {body' = exec_row c body locals} locals (exec_row_grows body locals)

  other_grows : (held : Held-StmtKind-If-1) → StatementGrows c.fuel (λ locals. scoped locals (exec_held c held locals))
  other_grows held locals = scoped_kept (growing c.fuel) c.program {body = exec_held c held locals} {body' = exec_held c held locals} locals (exec_held_kept (growing c.fuel) c.program c.call c.call calls (omega arith) held locals)

  then_third_grows : {n : _} (body : Row_of-Stmt n) (third : Held-StmtKind-If-1) → StatementGrows c.fuel (λ locals. scoped locals (exec_row c body locals) then_do λ locals. scoped locals (exec_held c third locals))
  then_third_grows body third locals = then_do_kept (growing c.fuel) {first = scoped locals (exec_row c body locals)} {first' = scoped locals (exec_row c body locals)} {next = λ locals. scoped locals (exec_held c third locals)} {next' = λ locals. scoped locals (exec_held c third locals)} (body_grows body locals) (other_grows third)

  done_grows : StatementGrows {L = Locals} c.fuel done_with
  done_grows locals w = grows_not c.fuel w

  pub test_counts : (at : Place) (e : Option Expr) → Counts c.fuel (test c at e)
  test_counts at e locals w v word = tested_counts c.fuel at (condition c at e locals) w v word (condition_kept (growing c.fuel) c.program c.call c.call calls at e locals)

  -- each loop of a statement does the same with other bounds
  pub with_bounds : (bound : World → ℕ) → ((w : World) → c.fuel - w.cost < bound w) → (at : Place) (kind : StmtKind) (locals : Locals) (w : World) → exec c at kind locals w ≡ exec_by bound c at kind locals w
  with_bounds bound enough at (While' e p body) locals w =
      any_two c.fuel _ _ _ done_grows (test_counts at (Some e)) (body_grows body) (suc c.fuel) (bound w) locals w (omega arith) (enough w)
  with_bounds bound enough at (For' first e third p body) locals w =
      ap (λ came. go_on came (without locals)) (then_do_same (exec_held c first locals w) _ _ (λ inner v _.
      any_two c.fuel _ _ _ done_grows (test_counts at e) (then_third_grows body third) (suc c.fuel) (bound v) inner v (omega arith) (enough v)))
  with_bounds bound enough at _ locals w = refl
