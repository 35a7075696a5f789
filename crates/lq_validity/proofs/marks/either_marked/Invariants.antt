use Rattle.std.proofs.Common.{◌≡◌, ℕ, ◌<◌, true, false, get_or, length, ◌⊎◌}
use Rattle.lq_validity.proofs.marks.either_marked.Given as goal

abbrev pub invariant-loop-place : goal.invariant-loop-place
invariant-loop-place l = record {
  count : length l.both.items ≡ l.place;
  either : (k : ℕ) → k < l.place → get_or l.both.items k false ≡ true → (get_or l.first k false ≡ true) ⊎ (get_or l.second k false ≡ true);
  first_kept : (k : ℕ) → k < l.place → get_or l.first k false ≡ true → get_or l.both.items k false ≡ true;
  second_kept : (k : ℕ) → k < l.place → get_or l.second k false ≡ true → get_or l.both.items k false ≡ true;
}
