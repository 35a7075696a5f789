use Rattle.std.proofs.Common.{◌≡◌, drop}
use Rattle.lq_quals.specs.Collect.{numbered}
use Rattle.lq_quals.proofs.collect.number_atoms.Given as goal

abbrev pub invariant-loop-addend : goal.invariant-loop-addend
invariant-loop-addend l = numbered l.addends l.atoms (drop l.addend-index l.addends) ≡ numbered l.addends l.fn.atoms l.addends
