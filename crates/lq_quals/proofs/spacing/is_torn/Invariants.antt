use Rattle.std.proofs.Common.{◌≡◌, false, length}
use Rattle.lq_quals.proofs.SpacingLemmas.{torn}
use Rattle.lq_quals.proofs.spacing.is_torn.Given as goal

abbrev pub invariant-loop-byte : goal.invariant-loop-byte
invariant-loop-byte l = torn l.last l.parted l.rest ≡ torn 0 false l.line

abbrev pub decreases-loop-byte : goal.decreases-loop-byte
decreases-loop-byte l = length l.rest
