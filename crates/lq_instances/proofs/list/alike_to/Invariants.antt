use Rattle.std.proofs.Common.{◌≡◌, map, take}
use Rattle.lq_quals.specs.Qualifier.{rows_of}
use Rattle.lq_instances.specs.Search.{are_alike}
use Rattle.lq_instances.proofs.list.alike_to.Given as goal

abbrev pub invariant-loop-other : goal.invariant-loop-other
invariant-loop-other l = l.marks ≡ map (are_alike l.atoms (rows_of l.qualifier) l.placeholder) (take l.other-index l.others)
