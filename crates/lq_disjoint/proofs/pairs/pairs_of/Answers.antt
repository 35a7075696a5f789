use Rattle.std.proofs.Common.{map, get_or, false, arith}
use Rattle.std.proofs.lemmas.Result.{on_ok_weaker}
use Rattle.lq_effects.specs.declared.effect.Effect.{Effect}
use Rattle.lq_effects.proofs.Asking.{item_is, tallied_next}
use Rattle.lq_disjoint.specs.Pairs.{clashing, asked_pair}
use Rattle.lq_disjoint.proofs.Clashes.{pairs_full}
use Rattle.lq_disjoint.proofs.pairs.pairs_of.Goals as goal

pub returns-then-is_full : goal.returns-then-is_full
returns-then-is_full c =
    on_ok_weaker c.count_pairs.result
    (pairs_full c.args.table.now c.args.at c.args.facts.now c.args.element.now c.args.first.now c.args.second.now c.args.out.now c.count_pairs.new.out (c.is_full.ensures.0 c.if-is_full.true))
    c.count_pairs.ensures

pub loop-a-preserved : goal.loop-a-preserved
loop-a-preserved c =
    let none : Effect = record { number = 0; access = record { class = 0; field = 0; write = false } } in
    let effects = c.effects-a-items.result.now in
    let i = c.loop-a.a-index in
    tallied_next (λ (a : Effect). map (asked_pair c.args.at c.args.facts.now c.args.element.now c.args.first.now c.args.second.now a) (clashing c.args.table.now c.args.second.now.start.scope a))
    effects i (get_or effects i none) c.args.out.now c.loop-a.out c.ask_against.new.out (omega arith) (item_is effects i none (omega arith)) c.loop-a.invariant c.in_ok-ask_against.ensures
