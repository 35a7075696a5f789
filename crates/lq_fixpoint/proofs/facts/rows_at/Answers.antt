use Rattle.std.proofs.Common.{◌≡◌, [], None, slice_get, subst, ◌-◌}
use Rattle.lq_symbolic.proofs.Given.{past_end}
use Rattle.lq_fixpoint.proofs.facts.rows_at.Goals as goal

pub returns-in-None : goal.returns-in-None
returns-in-None c =
    past_end c.args.assign.now.rows (c.args.template - 1) []
    (subst (λ n. None ≡ slice_get c.args.assign.now.rows n) c.saturating_sub.ensures c.in-None.ensures.value)
