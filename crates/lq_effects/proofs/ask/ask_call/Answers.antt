use Rattle.std.proofs.Common.{get_or, false, arith}
use Rattle.lq_effects.specs.declared.effect.Effect.{Effect}
use Rattle.lq_effects.specs.Effects.{asked_call}
use Rattle.lq_effects.proofs.Asking.{item_is, tallied_next}
use Rattle.lq_effects.proofs.ask.ask_call.Goals as goal

pub loop-effect-preserved : goal.loop-effect-preserved
loop-effect-preserved c =
    let none : Effect = record { number = 0; access = record { class = 0; field = 0; write = false } } in
    let effects = c.effects-effect-items.result.now in
    let i = c.loop-effect.effect-index in
    tallied_next (asked_call c.args.table.now c.args.site c.args.values.now c.args.state.now) effects i (get_or effects i none) c.args.out.now c.loop-effect.out
    c.ask_called.new.out (omega arith) (item_is effects i none (omega arith)) c.loop-effect.invariant c.in_ok-ask_called.ensures
