use Rattle.std.proofs.Common.{ℕ, ◌<◌, get_or}
use Rattle.lq_validity.specs.Sum.{no_sum}
use Rattle.lq_validity.specs.Table.{Completes}
use Rattle.lq_validity.proofs.table.completes_some.Given as goal

abbrev pub invariant-loop-one : goal.invariant-loop-one
invariant-loop-one l = (k : ℕ) → k < l.one-index → Completes l.table (get_or l.wanted k no_sum) l.sum → ⊥
