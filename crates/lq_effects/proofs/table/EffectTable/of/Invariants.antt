use Rattle.std.proofs.Common.{◌≡◌, ◌+◌, take}
use Rattle.lq_effects.specs.Table.{AreListed}
use Rattle.lq_effects.proofs.table.EffectTable.of.Given as goal

abbrev pub invariant-loop-template : goal.invariant-loop-template
invariant-loop-template l = record {
  numbered : l.number ≡ 1 + l.template-index;
  listed : AreListed (take l.template-index l.templates) l.by_scope l.by_class;
}
