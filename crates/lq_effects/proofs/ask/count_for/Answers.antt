use Rattle.std.proofs.Common.{count_by, length, sym, ap, ◌∙◌}
use Rattle.std.proofs.lemmas.List.Sums.{length-filter}
use Rattle.lq_templates.specs.Accesses.{same_access}
use Rattle.lq_effects.specs.declared.effect.Effect.{Effect}
use Rattle.lq_effects.specs.Table.{effects_on}
use Rattle.lq_effects.proofs.Asking.{effects_for-on}
use Rattle.lq_effects.proofs.ask.count_for.Goals as goal

pub returns : goal.returns
returns c =
    let p = λ (e : Effect). same_access e.access c.args.access in
    c.count_among.ensures ∙ ap (count_by p) c.effects_on.ensures ∙ sym (length-filter p (effects_on c.args.table.now c.args.scope c.args.access.class))
    ∙ ap length (effects_for-on c.args.table.now c.args.access c.args.scope)
