use Rattle.std.proofs.Common.{◌≡◌, ◌-◌, drop, get_or}
use Rattle.lq_linear.specs.Row.{nothing}
use Rattle.lq_linear.proofs.ItemLemmas.{rows_in}
use Rattle.lq_linear.proofs.item.row_at.Given as goal

abbrev pub invariant-loop-item : goal.invariant-loop-item
invariant-loop-item l = get_or (rows_in l.items) (l.number - 1) nothing ≡ get_or (rows_in (drop l.item-index l.items)) l.place nothing
