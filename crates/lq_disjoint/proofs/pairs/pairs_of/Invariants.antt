use Rattle.std.proofs.Common.{◌≡◌, map, take}
use Rattle.std.specs.List.{flat_map}
use Rattle.lq_tally.specs.Tally.{tallied}
use Rattle.lq_effects.specs.declared.effect.Effect.{Effect}
use Rattle.lq_disjoint.specs.Pairs.{clashing, asked_pair}
use Rattle.lq_disjoint.proofs.pairs.pairs_of.Given as goal

abbrev pub invariant-loop-a : goal.invariant-loop-a
invariant-loop-a l =
    let m = l.meeting in
    l.out ≡ tallied (flat_map (λ (a : Effect). map (asked_pair m.at m.facts.now m.element.now m.first.now m.second.now a) (clashing l.table m.second.now.start.scope a))
    (take l.a-index l.a-items)) l.fn.out
