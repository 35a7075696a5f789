use Rattle.std.proofs.Common.{◌≡◌, ◌++◌, take}
use Rattle.lq_linear.specs.Item.{rows_of}
use Rattle.lq_validity.proofs.rows.push_rows.Given as goal

abbrev pub invariant-loop-place : goal.invariant-loop-place
invariant-loop-place l = l.fetched.items ≡ l.fn.fetched.items ++ take l.place (rows_of l.item)
