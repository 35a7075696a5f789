use Rattle.std.proofs.Common.{◌≡◌, take}
use Rattle.lq_linear.proofs.ItemLemmas.{rows_in}
use Rattle.lq_validity.proofs.rows.fetch_rows.Given as goal

abbrev pub invariant-loop-item : goal.invariant-loop-item
invariant-loop-item l = l.fetched.items ≡ rows_in (take l.item-index l.items)
