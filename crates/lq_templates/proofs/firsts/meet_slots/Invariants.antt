use Rattle.std.proofs.Common.{◌≡◌, drop}
use Rattle.lq_templates.specs.Classes.{class_in, slot_variables}
use Rattle.lq_templates.specs.Firsts.{gathered}
use Rattle.lq_templates.proofs.firsts.meet_slots.Given as goal

abbrev pub invariant-loop-slot : goal.invariant-loop-slot
invariant-loop-slot l =
    gathered l.program (class_in l.classes) (slot_variables l.func l.slot (drop l.slot l.slots)) l.firsts ≡ gathered l.program (class_in l.classes) (slot_variables l.func 0 l.slots) l.fn.firsts
