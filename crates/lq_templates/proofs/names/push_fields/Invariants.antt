use Rattle.std.proofs.Common.{◌≡◌, ◌++◌, drop}
use Rattle.lq_templates.specs.Names.{field_names}
use Rattle.lq_templates.proofs.names.push_fields.Given as goal

abbrev pub invariant-loop-field : goal.invariant-loop-field
invariant-loop-field l = l.names ++ field_names (drop l.field-index l.fields) ≡ l.initial.names ++ field_names l.fields
