use Rattle.std.proofs.Common.{◌≡◌, ◌+◌, drop}
use Rattle.lq_tree.specs.Layout as layout
use Rattle.lq_plain.proofs.lookups.fields_before.Given as goal

abbrev pub invariant-loop-field : goal.invariant-loop-field
invariant-loop-field l = record {
  counted : l.number ≡ l.field-index;
  so_far : l.number + layout.number_among (drop l.field-index l.fields) l.name ≡ layout.number_among l.fields l.name;
}
