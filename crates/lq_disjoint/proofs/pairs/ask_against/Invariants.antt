use Rattle.std.proofs.Common.{◌≡◌, map, filter, take}
use Rattle.lq_tally.specs.Tally.{tallied}
use Rattle.lq_effects.specs.declared.effect.Effect.{Effect}
use Rattle.lq_disjoint.specs.Pairs.{clash, asked_pair}
use Rattle.lq_disjoint.proofs.pairs.ask_against.Given as goal

abbrev pub invariant-loop-b : goal.invariant-loop-b
invariant-loop-b l =
    l.out ≡ tallied (map (asked_pair l.meeting.at l.meeting.facts.now l.meeting.element.now l.meeting.first.now l.meeting.second.now l.a)
    (filter (λ (b : Effect). clash l.a.access b.access) (take l.b-index l.b-items))) l.fn.out
