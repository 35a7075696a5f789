use Rattle.std.proofs.Common.{◌≡◌, ◌++◌, drop}
use Rattle.lq_instances.specs.Instances.{named_terms}
use Rattle.lq_instances.proofs.row.named_terms.Given as goal

abbrev pub invariant-loop-named : goal.invariant-loop-named
invariant-loop-named l = l.made.items ++ named_terms l.choice l.atoms l.terms l.number (drop l.named-index l.names) ≡ named_terms l.choice l.atoms l.terms 0 l.names
