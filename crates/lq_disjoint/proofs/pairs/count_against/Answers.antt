use Rattle.std.proofs.Common.{count_by, length, sym, ap, ◌∙◌}
use Rattle.std.proofs.lemmas.List.Sums.{length-filter}
use Rattle.lq_effects.specs.declared.effect.Effect.{Effect}
use Rattle.lq_effects.specs.Table.{effects_on}
use Rattle.lq_disjoint.specs.Pairs.{clash}
use Rattle.lq_disjoint.proofs.Clashes.{clashing-on}
use Rattle.lq_disjoint.proofs.pairs.count_against.Goals as goal

pub returns : goal.returns
returns c =
    let p = λ (b : Effect). clash c.args.a.access b.access in
    c.count_among.ensures ∙ ap (count_by p) c.effects_on.ensures ∙ sym (length-filter p (effects_on c.args.table.now c.args.scope c.args.a.access.class))
    ∙ ap length (clashing-on c.args.table.now c.args.scope c.args.a)
