use Rattle.std.proofs.Common.{◌≡◌, take}
use Rattle.lq_plain.proofs.copies.copy_fields.Given as goal

abbrev pub invariant-loop-field : goal.invariant-loop-field
invariant-loop-field l = record { so_far : l.copy ≡ take l.field-index l.fields }
