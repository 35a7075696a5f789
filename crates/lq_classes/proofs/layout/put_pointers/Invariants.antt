use Rattle.std.proofs.Common.{◌≡◌, ◌++◌, map, take}
use Rattle.lq_tree.specs.declared.plain.Slot.{Slot}
use Rattle.lq_tree.specs.Types.{is_pointer, declared}
use Rattle.lq_classes.proofs.layout.put_pointers.Given as goal

abbrev pub invariant-loop-slot : goal.invariant-loop-slot
invariant-loop-slot l = l.pointers.items ≡ l.fn.pointers.items ++ map (λ (s : Slot). is_pointer (declared s.ctype)) (take l.slot-index l.function.slots)
