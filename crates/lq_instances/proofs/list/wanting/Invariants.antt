use Rattle.std.proofs.Common.{◌≡◌, ◌++◌, length}
use Rattle.lq_quals.specs.Qualifier.{rows_of}
use Rattle.lq_instances.specs.Search.{are_alike}
use Rattle.lq_instances.specs.Cuts.{wanting}
use Rattle.lq_instances.proofs.list.wanting.Given as goal

abbrev pub invariant-loop-first : goal.invariant-loop-first
invariant-loop-first l = l.all ++ wanting (are_alike l.atoms (rows_of l.qualifier)) l.rest ≡ wanting (are_alike l.atoms (rows_of l.qualifier)) l.placeholders

abbrev pub decreases-loop-first : goal.decreases-loop-first
decreases-loop-first l = length l.rest
