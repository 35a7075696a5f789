use Rattle.std.proofs.Common.{◌≡◌, ℕ, ◌<◌, true, false, get_or, length}
use Rattle.lq_validity.proofs.spare.all_left.Given as goal

abbrev pub invariant-loop : goal.invariant-loop
invariant-loop l = record {
  count : length l.left.items ≡ l.index;
  marked : (k : ℕ) → k < l.index → get_or l.left.items k false ≡ true;
}
