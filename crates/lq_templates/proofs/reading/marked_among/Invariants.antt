use Rattle.std.proofs.Common.{◌≡◌, ◌++◌, drop, filter}
use Rattle.lq_templates.specs.Names.{marked}
use Rattle.lq_templates.proofs.reading.marked_among.Given as goal

abbrev pub invariant-loop-slot : goal.invariant-loop-slot
invariant-loop-slot l = l.some ++ filter (marked l.marks) (drop l.slot-index l.slots) ≡ filter (marked l.marks) l.slots
