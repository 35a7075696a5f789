use Rattle.std.proofs.Common.{◌+◌, List, [], ◌∷◌, ◌++◌, arith, ap₂, sym, subst, ◌∙◌}
use Rattle.lq_classes.specs.declared.joins.Pair.{Pair}
use Rattle.lq_classes.specs.Joins.{pair, PutsFields}
use Rattle.lq_classes.proofs.JoinLemmas.{puts_start, puts_more}
use Rattle.lq_classes.proofs.joins.put_fields.Goals as goal

pub loop-field-init : goal.loop-field-init
loop-field-init c = puts_start c.args.places.count c.args.first c.args.second c.args.waiting.now.items

pub loop-field-preserved : goal.loop-field-preserved
loop-field-preserved c =
    subst (λ (ws : List Pair). PutsFields c.args.places.count (c.loop-field.field + 1) c.args.first c.args.second c.args.waiting.now.items ws)
    (ap₂ (λ a b. c.loop-field.waiting.items ++ pair a b ∷ []) (sym c.place-a.ensures) (sym c.place-b.ensures) ∙ sym c.in_ok-push.ensures.items)
    (puts_more c.args.places.count c.loop-field.field c.args.first c.args.second c.args.waiting.now.items c.loop-field.waiting.items c.loop-field.invariant)
