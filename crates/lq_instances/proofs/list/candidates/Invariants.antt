use Rattle.std.proofs.Common.{◌≡◌, ◌++◌, drop}
use Rattle.lq_quals.specs.Qualifier.{rows_of}
use Rattle.lq_instances.specs.Instances.{all_terms}
use Rattle.lq_instances.specs.Cuts.{candidates, free_among}
use Rattle.lq_instances.proofs.list.candidates.Given as goal

abbrev pub invariant-loop-named : goal.invariant-loop-named
invariant-loop-named l =
    l.all ++ candidates l.template (free_among l.atoms (all_terms (rows_of l.qualifier)) (drop l.named-index l.template.names)) ≡ candidates l.template (free_among l.atoms (all_terms (rows_of l.qualifier)) l.template.names)
