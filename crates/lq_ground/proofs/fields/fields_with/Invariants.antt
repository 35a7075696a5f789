use Rattle.std.proofs.Common.{◌≡◌, ◌++◌, drop}
use Rattle.lq_ground.specs.Fields.{field_types}
use Rattle.lq_ground.proofs.fields.fields_with.Given as goal

abbrev pub invariant-loop-field : goal.invariant-loop-field
invariant-loop-field l = l.fields ++ field_types l.row l.field (drop l.field l.params) ≡ field_types l.row 0 l.params
