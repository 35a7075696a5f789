use Rattle.std.proofs.Common.{length}
use Rattle.lq_quals.proofs.SideReading.{ReadSide}
use Rattle.lq_quals.proofs.side.read_side.Given as goal

abbrev pub invariant-loop-addends : goal.invariant-loop-addends
invariant-loop-addends l = ReadSide l.negated l.text l.addends l.minus l.rest

abbrev pub decreases-loop-addends : goal.decreases-loop-addends
decreases-loop-addends l = length l.rest
