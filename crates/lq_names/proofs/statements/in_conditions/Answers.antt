use Rattle.std.proofs.Common.{arith, refl}
use Rattle.lq_names.specs.Seen.{at_site}
use Rattle.lq_names.proofs.ValueLaws.{condition_more, conditions_end}
use Rattle.lq_names.proofs.statements.in_conditions.Goals as goal

pub loop-arm-init : goal.loop-arm-init
loop-arm-init c = refl

pub loop-arm-preserved : goal.loop-arm-preserved
loop-arm-preserved c =
    condition_more (at_site c.args.site.now) c.args.at c.loop-arm.found _ c.in_expression-found.result c.args.arms.now c.loop-arm.arm-index c.arm-item.result (omega arith) c.arm-item.is c.loop-arm.invariant c.in_expression-found.ensures

pub returns : goal.returns
returns c = conditions_end (at_site c.args.site.now) c.args.at c.loop-arm.found _ c.args.arms.now c.loop-arm.arm-index (omega arith) c.loop-arm.invariant
