use Rattle.std.proofs.Common.{◌≡◌, ◌+ℤ◌, drop}
use Rattle.lq_quals.specs.Collect.{coefficient_of}
use Rattle.lq_quals.proofs.collect.coefficient_of.Given as goal

abbrev pub invariant-loop-addend : goal.invariant-loop-addend
invariant-loop-addend l = l.sum +ℤ coefficient_of l.atom (drop l.addend-index l.addends) ≡ coefficient_of l.atom l.addends
