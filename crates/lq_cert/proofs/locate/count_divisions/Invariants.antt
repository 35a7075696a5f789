use Rattle.std.proofs.Common.{◌≡◌, take}
use Rattle.lq_validity.specs.Derives.{division_count}
use Rattle.lq_cert.proofs.PlaceLemmas.{total}
use Rattle.lq_cert.proofs.locate.count_divisions.Given as goal

abbrev pub invariant-loop-item : goal.invariant-loop-item
invariant-loop-item l = l.count ≡ total division_count (take l.item-index l.items)
