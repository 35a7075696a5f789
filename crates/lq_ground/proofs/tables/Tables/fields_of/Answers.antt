use Rattle.std.proofs.Common.{ℕ, List, Option, slice_get, ap, ap₂, ◌∙◌}
use Rattle.lq_classes.proofs.Results.{if_ok_weaker}
use Rattle.lq_tree.specs.declared.program.StructDef.{StructDef}
use Rattle.lq_templates.specs.Classes.{fields_behind}
use Rattle.lq_ground.specs.Fields.{field_types}
use Rattle.lq_ground.specs.Noted.{row_of}
use Rattle.lq_ground.proofs.TableLemmas.{fields_noted}
use Rattle.lq_ground.proofs.tables.Tables.fields_of.Goals as goal

pub returns : goal.returns
returns c =
    let tables = c.args.self.now in
    let class = c.args.class in
    let type = c.args.ctype.now in
    if_ok_weaker c.fields_behind.result (λ fields is. is
    ∙ ap₂ (λ (row : List (Option ℕ)) (structs : List StructDef). field_types row 0 (fields_behind structs type))
    (c.as_slice-2.ensures ∙ c.in_ok-row.ensures ∙ ap (λ (rows : List (List (Option ℕ))). row_of (slice_get rows class)) c.as_slice.ensures) c.as_slice-structs.ensures
    ∙ fields_noted tables.program.now tables.classes.now tables.fields class 0 (fields_behind tables.program.now.structs type) tables.right.right_fields) c.fields_behind.ensures
