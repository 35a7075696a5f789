-- What the laws of the sequential execution of plain programs speak of.
use Rattle.std.specs.Prelude.{ℕ, ℤ, List}
use Rattle.lq_tree.specs.declared.place.Place.{Place}
use Rattle.lq_tree.specs.declared.plain.PExpr.{PExpr}
use Rattle.lq_tree.specs.declared.plain.PKind.{PKind, While'}
use Rattle.lq_meaning.specs.World.{World}
use Rattle.lq_meaning.specs.Control.{Run, Statement, tested}
use Rattle.lq_meaning.specs.PlainMeaning.{Slots, Context, eval, exec, exec_row}
use Rattle.lq_meaning.specs.Laws.{RunGrows, loop_by}

-- each call of the context grows
abbrev pub CallsGrow : Context → Type 0
CallsGrow c = (at : Place) (function : ℕ) (words : List ℤ) → RunGrows c.fuel (c.call at function words)

-- the test of a loop with this condition
abbrev pub test : Context → Place → PExpr → Slots → Run ℤ
test c at e slots = tested c.fuel at (eval at slots e)

-- a loop with a bound on turns that goes by the world, and each other statement as it is
abbrev pub exec_by : (bound : World → ℕ) → Context → Place → PKind → Statement Slots
exec_by bound c at (While' n head e m body) slots = loop_by bound (exec_row c head) (test c at e) (exec_row c body) slots
exec_by bound c at kind slots = exec c at kind slots
