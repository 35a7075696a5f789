use Rattle.std.proofs.Common.{◌≡◌, reverse, take}
use Rattle.lq_validity.specs.Marks.{IsMarked}
use Rattle.lq_validity.specs.Pool.{AreNear, HasSums, HasMultiples}
use Rattle.lq_validity.specs.Known.{IsKnown}
use Rattle.lq_validity.specs.Derives.{divisions}
use Rattle.lq_validity.proofs.known.known_of.Given as goal

abbrev pub invariant-loop-place : goal.invariant-loop-place
invariant-loop-place l = record {
  known : IsKnown l.multipliers (reverse (take l.place l.items)) l.marks.items l.exacts;
  count : l.divisions ≡ divisions (reverse (take l.place l.items));
  near : AreNear l.pool.multiples.items;
  has : HasSums l.pool.multiples.items l.pool.table;
  there : HasMultiples l.multipliers (λ n. IsMarked l.marks.items n × IsMarked l.left n) l.sums l.pool.multiples.items;
}
