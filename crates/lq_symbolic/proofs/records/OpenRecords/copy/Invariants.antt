use Rattle.std.proofs.Common.{◌≡◌, take}
use Rattle.lq_symbolic.proofs.records.OpenRecords.copy.Given as goal

abbrev pub invariant-loop-opened : goal.invariant-loop-opened
invariant-loop-opened l = l.list.items ≡ take l.opened-index l.records
