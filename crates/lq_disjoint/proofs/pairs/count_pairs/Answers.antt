use Rattle.std.proofs.Common.{get_or, false, ap, ◌∙◌, arith}
use Rattle.lq_effects.specs.declared.effect.Effect.{Effect}
use Rattle.lq_effects.specs.Counted.{counted}
use Rattle.lq_effects.proofs.Asking.{item_is, counted_next}
use Rattle.lq_disjoint.specs.Pairs.{clashing}
use Rattle.lq_disjoint.proofs.pairs.count_pairs.Goals as goal

pub loop-a-preserved : goal.loop-a-preserved
loop-a-preserved c =
    let none : Effect = record { number = 0; access = record { class = 0; field = 0; write = false } } in
    let effects = c.effects-a-items.result.now in
    let i = c.loop-a.a-index in
    counted_next (clashing c.args.table.now c.args.second) effects i (get_or effects i none) c.args.out.now c.loop-a.out
    c.count_more.new.self (omega arith) (item_is effects i none (omega arith)) c.loop-a.invariant (c.in_ok-count_more.ensures ∙ ap (λ n. counted n c.loop-a.out) c.count_against.ensures)
