use Rattle.std.proofs.Common.{get_or, arith, ap₂, ◌∙◌}
use Rattle.lq_symbolic.specs.State.{renew}
use Rattle.lq_ground.specs.Standing.{seen}
use Rattle.lq_ground.proofs.ListLemmas.{renewed_more}
use Rattle.lq_ground.proofs.ground.Ground.renew.Goals as goal

pub loop-slot-preserved : goal.loop-slot-preserved
loop-slot-preserved c = λ by.
    let slots = c.args.slots.now in
    let i = c.loop-slot.slot-index in
    let old = c.loop-slot.state in
    renewed_more (seen by c.args.self.now) slots i old c.renew.new.self _ (omega arith)
    (c.in_ok-renew.ensures ∙ ap₂ (λ class o. renew class (get_or slots i 0) o old) (c.class_of_slot.ensures by) (c.slot.ensures by)) (c.loop-slot.invariant by)
