use Rattle.std.proofs.Common.{arith}
use Rattle.lq_effects.specs.Effects.{asked_of}
use Rattle.lq_effects.proofs.Asking.{tallied_next}
use Rattle.lq_effects.proofs.ask.ask_access.Goals as goal

pub loop-start-preserved : goal.loop-start-preserved
loop-start-preserved c =
    tallied_next (asked_of c.args.table.now c.args.site c.args.facts.now c.args.access c.args.element.now) c.as_slice-start-items.result.now c.loop-start.start-index c.start-item.result
    c.args.out.now c.loop-start.out c.ask_scope.new.out (omega arith) c.start-item.is c.loop-start.invariant c.in_ok-ask_scope.ensures
