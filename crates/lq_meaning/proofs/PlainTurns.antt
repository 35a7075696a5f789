-- A loop of a plain program does the same with any number of turns above the fuel that is left.
use Rattle.std.proofs.Common.{◌≡◌, ℕ, suc, ◌-◌, ◌<◌, refl, arith}
use Rattle.lq_tree.specs.declared.place.Place.{Place}
use Rattle.lq_tree.specs.declared.plain.PExpr.{PExpr}
use Rattle.lq_tree.specs.declared.plain.PKind.{PKind, While', Row_of-PStmt}
use Rattle.lq_meaning.specs.World.{World}
use Rattle.lq_meaning.specs.PlainMeaning.{Slots, Context, eval, exec, exec_row}
use Rattle.lq_meaning.specs.Laws.{StatementGrows, Counts}
use Rattle.lq_meaning.specs.PlainLaws.{CallsGrow, test, exec_by}
use Rattle.lq_meaning.proofs.Growing.{growing}
use Rattle.lq_meaning.proofs.Turns.{tested_counts, any_two}
use Rattle.lq_meaning.proofs.PlainKept.{eval_kept, exec_row_kept}

module _ (c : Context) (calls : CallsGrow c) where
  exec_row_grows : {n : _} (body : Row_of-PStmt n) → StatementGrows c.fuel (exec_row c body)
  exec_row_grows body = exec_row_kept (growing c.fuel) c.program c.call c.call calls (omega arith) body

  pub test_counts : (at : Place) (e : PExpr) → Counts c.fuel (test c at e)
  test_counts at e slots w v word = tested_counts c.fuel at (eval at slots e) w v word (eval_kept (growing c.fuel) c.program at slots e)

  -- each loop of a statement does the same with other bounds
  pub with_bounds : (bound : World → ℕ) → ((w : World) → c.fuel - w.cost < bound w) → (at : Place) (kind : PKind) (slots : Slots) (w : World) → exec c at kind slots w ≡ exec_by bound c at kind slots w
  with_bounds bound enough at (While' n head e m body) slots w =
      any_two c.fuel _ _ _ (exec_row_grows head) (test_counts at e) (exec_row_grows body) (suc c.fuel) (bound w) slots w (omega arith) (enough w)
  with_bounds bound enough at _ slots w = refl
