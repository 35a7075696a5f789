use Rattle.std.proofs.Common.{ℕ, ◌<◌, get_or, ℤ}
use Rattle.lq_validity.specs.Sum.{plus}
use Rattle.lq_validity.specs.Table.{HasAtMost}
use Rattle.lq_validity.specs.Pool.{no_multiple}
use Rattle.lq_validity.proofs.pool.Pool.put_pairs.Given as goal

abbrev pub invariant-loop-multiple : goal.invariant-loop-multiple
invariant-loop-multiple l = record {
  lower : (weight most : ℤ) → HasAtMost l.fn.table weight most → HasAtMost l.table weight most;
  pairs : (k : ℕ) → k < l.multiple-index → HasAtMost l.table (plus l.sum (get_or l.multiples k no_multiple).sum).weight (plus l.sum (get_or l.multiples k no_multiple).sum).most;
}
