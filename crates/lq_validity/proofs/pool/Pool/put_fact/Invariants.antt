use Rattle.std.proofs.Common.{ℕ, ◌<◌, get_or}
use Rattle.std.specs.Prelude.{Contains}
use Rattle.lq_validity.specs.declared.pool.Multiple.{Multiple}
use Rattle.lq_validity.specs.Pool.{AreNear, HasSums, multiple_at}
use Rattle.lq_validity.proofs.pool.Pool.put_fact.Given as goal

abbrev pub invariant-loop-multiplier : goal.invariant-loop-multiplier
invariant-loop-multiplier l = record {
  near : AreNear l.self.multiples.items;
  has : HasSums l.self.multiples.items l.self.table;
  kept : (a : Multiple) → Contains l.fn.self.multiples.items a → Contains l.self.multiples.items a;
  added : (k : ℕ) → k < l.multiplier-index → Contains l.self.multiples.items (multiple_at l.sums (get_or l.multipliers k 0, l.number));
}
