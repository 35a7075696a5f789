use Rattle.std.proofs.Common.{List, length, ap, ap₂, sym, ◌∙◌, ◌++◌}
use Rattle.std.proofs.lemmas.Result.{on_ok_weaker}
use Rattle.lq_tree.specs.declared.plain.Slot.{Slot}
use Rattle.lq_templates.specs.Classes.{class_in, pointer, slot_variables, result_variable}
use Rattle.lq_templates.specs.Firsts.{gathered}
use Rattle.lq_templates.proofs.FirstLemmas.{gathered-append}
use Rattle.lq_templates.proofs.firsts.meet_function.Goals as goal

pub returns-in-Some : goal.returns-in-Some
returns-in-Some c =
    let p = c.args.program.now in
    let class_of = class_in c.args.classes.now in
    let own = slot_variables c.args.func 0 c.args.function.now.slots in
    let slots = c.as_slice-slots.ensures in
    let first = c.in_ok-meet_slots.ensures ∙ ap (λ (ss : List Slot). gathered p class_of (slot_variables c.args.func 0 ss) c.args.firsts.now) slots in
    on_ok_weaker c.meet.result (λ made. made
    ∙ ap₂ (λ n firsts. gathered p class_of (pointer c.args.func n c.in-Some.ctype) firsts) (ap length slots) first
    ∙ sym (gathered-append p class_of own (pointer c.args.func (length c.args.function.now.slots) c.in-Some.ctype) c.args.firsts.now)
    ∙ ap (λ o. gathered p class_of (own ++ result_variable c.args.func (length c.args.function.now.slots) o) c.args.firsts.now) (sym c.in-Some.is)) c.meet.ensures
