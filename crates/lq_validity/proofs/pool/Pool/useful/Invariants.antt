use Rattle.std.proofs.Common.{◌≡◌, ℕ, ◌+◌, ◌<◌, true, false, get_or, length}
use Rattle.std.specs.Prelude.{Contains}
use Rattle.lq_validity.specs.declared.pool.Multiple.{Multiple}
use Rattle.lq_validity.specs.Pool.{Serves}
use Rattle.lq_validity.proofs.pool.Pool.useful.Given as goal

abbrev pub invariant-loop-place : goal.invariant-loop-place
invariant-loop-place l = record {
  count : length l.useful.items ≡ l.place;
  facts : (k : ℕ) → k < l.place → get_or l.useful.items k false ≡ true → get_or l.marks k false ≡ true;
  all : (k : ℕ) → k < l.place → (a : Multiple) → Contains l.self.multiples.items a → a.number ≡ k + 1 → get_or l.marks k false ≡ true
      → Serves l.self.multiples.items l.self.table l.wanted l.leads a → get_or l.useful.items k false ≡ true;
}
