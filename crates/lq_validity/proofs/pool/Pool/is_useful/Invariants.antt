use Rattle.std.proofs.Common.{◌≡◌, ℕ, ◌<◌, get_or}
use Rattle.lq_validity.specs.Pool.{no_multiple, Serves}
use Rattle.lq_validity.proofs.pool.Pool.is_useful.Given as goal

abbrev pub invariant-loop-multiple : goal.invariant-loop-multiple
invariant-loop-multiple l = (k : ℕ) → k < l.multiple-index → (get_or l.self.multiples.items k no_multiple).number ≡ l.number
    → Serves l.self.multiples.items l.self.table l.wanted l.leads (get_or l.self.multiples.items k no_multiple) → ⊥
