use Rattle.std.proofs.Common.{◌≡◌, take}
use Rattle.lq_plain.proofs.program.structs_of.Given as goal

abbrev pub invariant-loop-item : goal.invariant-loop-item
invariant-loop-item l = record { so_far : l.structs ≡ take l.item-index l.program.structs }
