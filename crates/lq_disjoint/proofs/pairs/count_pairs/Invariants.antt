use Rattle.std.proofs.Common.{◌≡◌, length, take}
use Rattle.std.specs.List.{flat_map}
use Rattle.lq_effects.specs.Counted.{counted}
use Rattle.lq_disjoint.specs.Pairs.{clashing}
use Rattle.lq_disjoint.proofs.pairs.count_pairs.Given as goal

abbrev pub invariant-loop-a : goal.invariant-loop-a
invariant-loop-a l = l.out ≡ counted (length (flat_map (clashing l.table l.second) (take l.a-index l.a-items))) l.fn.out
