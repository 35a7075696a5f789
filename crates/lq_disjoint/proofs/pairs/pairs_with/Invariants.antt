use Rattle.std.proofs.Common.{◌≡◌, take}
use Rattle.std.specs.List.{flat_map}
use Rattle.lq_tally.specs.Tally.{tallied}
use Rattle.lq_disjoint.specs.Pairs.{asked_pairs}
use Rattle.lq_disjoint.proofs.pairs.pairs_with.Given as goal

abbrev pub invariant-loop-second : goal.invariant-loop-second
invariant-loop-second l = l.out ≡ tallied (flat_map (asked_pairs l.table l.at l.facts l.element l.first) (take l.second-index l.later)) l.fn.out
