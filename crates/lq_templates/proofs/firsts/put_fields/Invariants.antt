use Rattle.std.proofs.Common.{◌≡◌, ◌++◌, drop}
use Rattle.lq_templates.specs.Accesses.{field_accesses}
use Rattle.lq_templates.proofs.firsts.put_fields.Given as goal

abbrev pub invariant-loop-field : goal.invariant-loop-field
invariant-loop-field l = l.accesses ++ field_accesses l.class l.field (drop l.field l.fields) ≡ l.fn.accesses ++ field_accesses l.class 0 l.fields
