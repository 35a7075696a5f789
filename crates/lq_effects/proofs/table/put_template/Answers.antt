use Rattle.std.proofs.Common.{ℕ, ◌++◌, filter, refl, sym, ap, ◌∙◌}
use Rattle.lq_effects.specs.Effects.{effect_at}
use Rattle.lq_effects.specs.Table.{is_on, listed, same_key}
use Rattle.lq_effects.proofs.Tables.{class_put}
use Rattle.lq_effects.proofs.table.put_template.Goals as goal

pub returns-in_ok-put-2-clause-classes : goal.returns-in_ok-put-2-clause-classes
returns-in_ok-put-2-clause-classes c = λ scope class.
    let a = c.in-Effect in
    let old = λ (key : ℕ × ℕ). listed same_key c.args.by_class.now key in
    class_put a.scope.scope a.class (scope, class) (record { number = c.args.number; access = record { class = a.class; field = a.field; write = a.write } })
    old (listed same_key c.put-in-Effect.new.lists (scope, class)) refl (c.in_ok-put-2.ensures (scope, class))
    ∙ ap (λ kind. old (scope, class) ++ filter (is_on class) (effect_at scope c.args.number kind)) (sym a.is)
