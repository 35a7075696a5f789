use Rattle.std.proofs.Common.{◌≡◌, drop, []}
use Rattle.lq_names.specs.Faults.{least}
use Rattle.lq_names.specs.Headers.{struct_faults}
use Rattle.lq_names.proofs.check.in_structs.Given as goal

abbrev pub invariant-loop-item : goal.invariant-loop-item
invariant-loop-item l = least l.found (struct_faults l.program l.earlier (drop l.item-index l.structs)) ≡ least l.fn.found (struct_faults l.program [] l.structs)
