use Rattle.std.proofs.Common.{ℕ, ◌<◌, ◌⊎◌, get_or}
use Rattle.lq_validity.specs.Marks.{IsMarked}
use Rattle.lq_validity.specs.Sum.{plus}
use Rattle.lq_validity.specs.Table.{CompletesSome}
use Rattle.lq_validity.specs.Pool.{no_multiple}
use Rattle.lq_validity.proofs.pool.Pool.serves.Given as goal

abbrev pub invariant-loop-other : goal.invariant-loop-other
invariant-loop-other l = (k : ℕ) → k < l.other-index
    → IsMarked l.leads l.multiple.number ⊎ IsMarked l.leads (get_or l.self.multiples.items k no_multiple).number
    → CompletesSome l.self.table l.wanted (plus l.multiple.sum (get_or l.self.multiples.items k no_multiple).sum) → ⊥
