use Rattle.std.proofs.Common.{◌≡◌, ◌++◌, drop}
use Rattle.lq_quals.specs.Collect.{terms_of}
use Rattle.lq_quals.proofs.qualifier.terms_of.Given as goal

abbrev pub invariant-loop-number : goal.invariant-loop-number
invariant-loop-number l = l.terms.items ++ terms_of l.negated l.addends l.number (drop l.number l.atoms) ≡ terms_of l.negated l.addends 0 l.atoms
