use Rattle.std.proofs.Common.{◌≡◌, take}
use Rattle.std.specs.List.{flat_map}
use Rattle.lq_classes.specs.Joins.{pairs_of}
use Rattle.lq_classes.proofs.joins.waiting_of.Given as goal

abbrev pub invariant-loop-link : goal.invariant-loop-link
invariant-loop-link l = l.waiting.items ≡ flat_map (pairs_of l.program l.places.count) (take l.link-index l.links)
