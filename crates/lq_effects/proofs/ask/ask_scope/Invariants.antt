use Rattle.std.proofs.Common.{◌≡◌, map, filter, take}
use Rattle.lq_templates.specs.declared.condition.Rule.TheVariants.{Effect as EffectRule}
use Rattle.lq_templates.specs.Accesses.{same_access}
use Rattle.lq_templates.specs.Conditions.{asks}
use Rattle.lq_tally.specs.Tally.{tallied}
use Rattle.lq_effects.specs.declared.effect.Effect.{Effect}
use Rattle.lq_effects.specs.Effects.{effect_rows}
use Rattle.lq_effects.proofs.ask.ask_scope.Given as goal

abbrev pub invariant-loop-effect : goal.invariant-loop-effect
invariant-loop-effect l =
    l.out ≡ tallied (map (λ e. asks EffectRule l.site l.facts (effect_rows e l.element l.start.values))
    (filter (λ (e : Effect). same_access e.access l.access) (take l.effect-index l.effect-items))) l.fn.out
