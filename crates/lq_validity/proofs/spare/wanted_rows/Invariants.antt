use Rattle.std.proofs.Common.{◌≡◌, ◌++◌, map, take}
use Rattle.lq_linear.specs.Item.{dividend_row}
use Rattle.lq_validity.proofs.spare.wanted_rows.Given as goal

abbrev pub invariant-loop-goal : goal.invariant-loop-goal
invariant-loop-goal l = l.rows.items ≡ take l.goal-index l.goals

abbrev pub invariant-loop-item : goal.invariant-loop-item
invariant-loop-item l = l.rows.items ≡ l.goals ++ map dividend_row (take l.item-index l.items)
