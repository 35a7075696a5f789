use Rattle.std.proofs.Common.{◌≡◌, take}
use Rattle.lq_names.specs.Counts as spec
use Rattle.lq_names.proofs.counts.most_fields.Given as goal

abbrev pub invariant-loop-item : goal.invariant-loop-item
invariant-loop-item l = l.most ≡ spec.most_fields (take l.item-index l.structs)
