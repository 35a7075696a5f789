use Rattle.std.proofs.Common.{◌≡◌, max, length}
use Rattle.lq_full.specs.Full.{most_facts}
use Rattle.lq_full.proofs.counting.most_facts.Given as goal

abbrev pub invariant-loop-c : goal.invariant-loop-c
invariant-loop-c l = max l.most (most_facts l.assign l.rest) ≡ max 512 (most_facts l.assign l.list)

abbrev pub decreases-loop-c : goal.decreases-loop-c
decreases-loop-c l = length l.rest
