use Rattle.std.proofs.Common.{◌≡◌, take}
use Rattle.lq_instances.proofs.search.extended.Given as goal

abbrev pub invariant-loop-pair : goal.invariant-loop-pair
invariant-loop-pair l = l.longer ≡ take l.pair-index l.choice
