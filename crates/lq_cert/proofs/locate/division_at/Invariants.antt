use Rattle.std.proofs.Common.{◌≡◌, ◌<◌, ◌⊎◌, take}
use Rattle.lq_validity.specs.Derives.{division_count}
use Rattle.lq_cert.proofs.PlaceLemmas.{total}
use Rattle.lq_cert.proofs.locate.division_at.Given as goal

abbrev pub invariant-loop-index : goal.invariant-loop-index
invariant-loop-index l = record {
  sum : l.count ≡ total division_count (take l.index l.items);
  none : (l.number ≡ 0) ⊎ (l.count < l.number);
}
