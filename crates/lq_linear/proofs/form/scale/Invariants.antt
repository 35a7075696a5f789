use Rattle.std.proofs.Common.{◌≡◌, take}
use Rattle.lq_linear.specs.Terms.{times}
use Rattle.lq_linear.proofs.form.scale.Given as goal

abbrev pub invariant-loop-symbol : goal.invariant-loop-symbol
invariant-loop-symbol l = l.terms.items ≡ times l.by (take l.symbol-index l.symbol-items)
