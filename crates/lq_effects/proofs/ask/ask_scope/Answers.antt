use Rattle.std.proofs.Common.{ap, sym, ◌∙◌, filter, false, arith}
use Rattle.lq_templates.specs.declared.condition.Rule.TheVariants.{Effect as EffectRule}
use Rattle.lq_templates.specs.Accesses.{same_access}
use Rattle.lq_templates.specs.Conditions.{asks}
use Rattle.lq_effects.specs.declared.effect.Effect.{Effect}
use Rattle.lq_effects.specs.Effects.{effect_rows}
use Rattle.lq_effects.specs.Counted.{effects_for}
use Rattle.lq_effects.proofs.Asking.{effects_for-on, tallied_next_yes, tallied_next_no, tallied_all}
use Rattle.lq_effects.proofs.ask.ask_scope.Goals.{then-same_access+in_ok-ask_effect, else-same_access}
use Rattle.lq_effects.proofs.ask.ask_scope.Goals as goal

pub loop-effect-preserved : goal.loop-effect-preserved
loop-effect-preserved c =
    let h = λ (e : Effect). asks EffectRule c.args.site c.args.facts.now (effect_rows e c.args.element.now c.args.start.now.values) in
    let p = λ (e : Effect). same_access e.access c.args.access in
    let none : Effect = record { number = 0; access = record { class = 0; field = 0; write = false } } in
    elim c.if-same_access.branch [
      | then-same_access+in_ok-ask_effect w ↦
          tallied_next_yes h p c.effects_on-effect-items.result.now c.loop-effect.effect-index none c.args.out.now c.loop-effect.out c.if-same_access.out (omega arith)
          c.loop-effect.invariant (sym c.same_access.ensures ∙ w.if-same_access.true) (w.out-is ∙ w.in_ok-ask_effect.ensures)
      | else-same_access w ↦
          tallied_next_no h p c.effects_on-effect-items.result.now c.loop-effect.effect-index none c.args.out.now c.loop-effect.out c.if-same_access.out (omega arith)
          c.loop-effect.invariant (sym c.same_access.ensures ∙ w.if-same_access.false) w.out-is
    ]

pub returns : goal.returns
returns c =
    let h = λ (e : Effect). asks EffectRule c.args.site c.args.facts.now (effect_rows e c.args.element.now c.args.start.now.values) in
    let p = λ (e : Effect). same_access e.access c.args.access in
    tallied_all h p c.effects_on-effect-items.result.now (effects_for c.args.table.now c.args.access c.args.start.now.scope) c.loop-effect.effect-index c.args.out.now c.loop-effect.out
    (omega arith) c.loop-effect.invariant (ap (filter p) c.effects_on-effect-items.ensures ∙ effects_for-on c.args.table.now c.args.access c.args.start.now.scope)
