use Rattle.std.proofs.Common.{ap, ◌∙◌}
use Rattle.std.specs.Prelude.{unwrap_or}
use Rattle.std.proofs.lemmas.Option.{unwrap_or-slice_get}
use Rattle.lq_ground.proofs.tables.Tables.count_effects.Goals as goal

pub returns : goal.returns
returns c =
    let tables = c.args.self.now in
    c.unwrap_or.ensures ∙ ap (λ o. unwrap_or o 0) (c.copied.ensures ∙ c.get.ensures.value) ∙ unwrap_or-slice_get tables.effects c.args.scope 0 ∙ tables.right.right_effects c.args.scope
