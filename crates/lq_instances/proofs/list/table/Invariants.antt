use Rattle.std.proofs.Common.{◌≡◌, take}
use Rattle.lq_quals.specs.Qualifier.{rows_of}
use Rattle.lq_instances.specs.Search.{fits}
use Rattle.lq_instances.specs.Cuts.{table_of}
use Rattle.lq_instances.proofs.list.table.Given as goal

abbrev pub invariant-loop-placeholder : goal.invariant-loop-placeholder
invariant-loop-placeholder l = l.table ≡ table_of (fits l.atoms l.template.names (rows_of l.qualifier)) l.all (take l.placeholder-index l.placeholders)
