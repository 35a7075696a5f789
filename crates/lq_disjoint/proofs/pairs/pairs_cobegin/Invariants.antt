use Rattle.std.proofs.Common.{◌≡◌, length}
use Rattle.lq_tally.specs.Tally.{tallied}
use Rattle.lq_disjoint.specs.Pairs.{asked_cobegin}
use Rattle.lq_disjoint.proofs.pairs.pairs_cobegin.Given as goal

abbrev pub invariant-loop-first : goal.invariant-loop-first
invariant-loop-first l = tallied (asked_cobegin l.table l.at l.facts l.element l.rest) l.out ≡ tallied (asked_cobegin l.table l.at l.facts l.element l.branches) l.fn.out

abbrev pub decreases-loop-first : goal.decreases-loop-first
decreases-loop-first l = length l.rest
