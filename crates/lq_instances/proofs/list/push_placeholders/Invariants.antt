use Rattle.std.proofs.Common.{◌≡◌, drop}
use Rattle.lq_tree.specs.Lookup.{same}
use Rattle.lq_instances.specs.Search.{gathered}
use Rattle.lq_instances.specs.Cuts.{told_placeholders}
use Rattle.lq_instances.proofs.list.push_placeholders.Given as goal

abbrev pub invariant-loop-term : goal.invariant-loop-term
invariant-loop-term l = gathered same l.names (told_placeholders l.atoms (drop l.term-index l.terms)) ≡ gathered same l.initial.names (told_placeholders l.atoms l.terms)
