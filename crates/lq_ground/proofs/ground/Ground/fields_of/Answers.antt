use Rattle.std.proofs.Common.{ap, sym, ◌∙◌}
use Rattle.std.specs.Option.{option_copied}
use Rattle.lq_classes.proofs.Results.{if_ok_weaker}
use Rattle.lq_templates.specs.Classes.{fields_behind}
use Rattle.lq_ground.specs.Ground.{class_of_slot, fields_at}
use Rattle.lq_ground.specs.Standing.{seen}
use Rattle.lq_ground.specs.Tables.{fields_in}
use Rattle.lq_ground.proofs.TableLemmas.{fields_same}
use Rattle.lq_ground.proofs.ground.Ground.fields_of.Goals as goal

pub returns-in-None : goal.returns-in-None
returns-in-None c = λ by.
    let g = seen by c.args.self.now in c.new.ensures ∙ ap (fields_at g (class_of_slot g c.args.slot)) (sym (ap option_copied c.in-None.is) ∙ c.slot.ensures by)

pub returns-in-Some : goal.returns-in-Some
returns-in-Some c =
    let held = c.args.self.now in
    let program = held.tables.now.program.now in
    let params = fields_behind program.structs c.in-Some.declared.now.ctype in
    if_ok_weaker c.fields_of.result (λ fields is by.
    let g = seen by held in
    is ∙ ap (λ class. fields_in program held.tables.now.classes.now class 0 params) (c.class_of_slot-class.ensures by) ∙ fields_same by held (class_of_slot g c.args.slot) 0 params
    ∙ ap (fields_at g (class_of_slot g c.args.slot)) (sym (ap option_copied c.in-Some.is) ∙ c.slot.ensures by)) c.fields_of.ensures
