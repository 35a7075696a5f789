use Rattle.std.proofs.Common.{arith}
use Rattle.lq_effects.proofs.Tables.{listed_next}
use Rattle.lq_effects.proofs.table.EffectTable.of.Goals as goal

pub loop-template-preserved : goal.loop-template-preserved
loop-template-preserved c = record {
  numbered = omega (arith, c.in_ok-number.ensures, c.loop-template.invariant.numbered);
  listed = listed_next c.args.templates.now c.loop-template.template-index c.template-item.result c.loop-template.by_scope c.put_template.new.by_scope
      c.loop-template.by_class c.put_template.new.by_class c.loop-template.number (omega arith) c.template-item.is c.loop-template.invariant.numbered
      c.loop-template.invariant.listed c.in_ok-put_template.ensures.scopes c.in_ok-put_template.ensures.classes;
}
