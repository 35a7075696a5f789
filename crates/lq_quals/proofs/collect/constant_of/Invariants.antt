use Rattle.std.proofs.Common.{◌≡◌, ◌+ℤ◌, drop}
use Rattle.lq_quals.specs.Collect.{constant_of}
use Rattle.lq_quals.proofs.collect.constant_of.Given as goal

abbrev pub invariant-loop-addend : goal.invariant-loop-addend
invariant-loop-addend l = l.sum +ℤ constant_of (drop l.addend-index l.addends) ≡ constant_of l.addends
