use Rattle.lq_text.specs.Order.{MayPrecede}
use Rattle.lq_text.proofs.OrderLemmas.{all_of_map, map_of_all}
use Rattle.lq_text.proofs.order.may_stand_before.Goals as goal

pub returns-then-may_come_next : goal.returns-then-may_come_next
returns-then-may_come_next c =
    let P = MayPrecede c.args.atom.now in
    rw c.in-Some.ensures.cases.0 (
      λ yes. (c.may_come_next.ensures.0 c.if-may_come_next.true, map_of_all P _ _ (c.may_precede_all.ensures.0 yes)),
      λ h. c.may_precede_all.ensures.1 (all_of_map P _ _ h.1),
    )
