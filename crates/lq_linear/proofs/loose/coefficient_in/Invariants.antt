use Rattle.std.proofs.Common.{◌≡◌, drop}
use Rattle.lq_linear.specs.Terms.{coefficient}
use Rattle.lq_linear.proofs.loose.coefficient_in.Given as goal

abbrev pub invariant-loop-other : goal.invariant-loop-other
invariant-loop-other l = coefficient l.terms l.symbol ≡ coefficient (drop l.other-index l.terms) l.symbol
