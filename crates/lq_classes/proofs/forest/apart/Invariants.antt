use Rattle.std.proofs.Common.{◌≡◌, ℕ, ◌<◌, length, get_or}
use Rattle.lq_classes.proofs.forest.apart.Given as goal

abbrev pub invariant-loop-number : goal.invariant-loop-number
invariant-loop-number l = record { size : length l.parents.items ≡ l.number; apart : (i : ℕ) → i < l.number → get_or l.parents.items i 0 ≡ i }
