use Rattle.std.proofs.Common.{take}
use Rattle.lq_validity.specs.Narrow.{AreWeighed}
use Rattle.lq_validity.proofs.rows.sums_of.Given as goal

abbrev pub invariant-loop-row : goal.invariant-loop-row
invariant-loop-row l = AreWeighed l.sums.items (take l.row-index l.rows)
