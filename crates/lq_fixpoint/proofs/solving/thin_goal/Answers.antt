use Rattle.std.proofs.Common.{◌≡◌, ◌-◌, [], None, subst, slice_get, reverse, arith}
use Rattle.lq_symbolic.proofs.Given.{past_end}
use Rattle.lq_fixpoint.proofs.BoundedLemmas.{goal_bounded}
use Rattle.lq_fixpoint.proofs.WorkLemmas.{goal_empty, goal_stays, goal_goes}
use Rattle.lq_fixpoint.proofs.solving.thin_goal.Goals as goal

pub returns-in_default-get : goal.returns-in_default-get
returns-in_default-get c =
    goal_empty c.args.index.now.multipliers (reverse c.args.index.now.items) c.args.users.now c.in-Of.template c.in-Of.values c.args.goal.now c.args.work.now c.in-Of.is
    (past_end c.args.work.now.assign.rows (c.in-Of.template - 1) []
    (subst (λ n. None ≡ slice_get c.args.work.now.assign.rows n) c.saturating_sub-place.ensures c.in_default-get.ensures.value))

pub derived_rows-requires : goal.derived_rows-requires
derived_rows-requires c row h =
    c.requires.bounded row
    (goal_bounded c.in-Of.template c.saturating_sub-place.result c.in-Of.values c.as_slice.result.now c.args.goal.now c.args.work.now.assign c.in-Some.rows.now c.as_slice-2.result.now
    c.saturating_sub-place.ensures c.as_slice.ensures c.in-Of.is c.in-Some.ensures.value c.as_slice-2.ensures row h)

pub returns-then-len : goal.returns-then-len
returns-then-len c =
    goal_stays c.args.index.now.multipliers (reverse c.args.index.now.items) c.args.users.now c.in-Of.template c.saturating_sub-place.result c.in-Of.values c.as_slice.result.now c.args.goal.now c.args.work.now
    c.in-Some.rows.now c.as_slice-2.result.now c.in_ok-derived.derived c.saturating_sub-place.ensures c.as_slice.ensures c.in-Of.is c.in-Some.ensures.value c.as_slice-2.ensures
    c.in_ok-derived.ensures (omega arith)

pub returns : goal.returns
returns c =
    goal_goes c.args.index.now.multipliers (reverse c.args.index.now.items) c.args.users.now c.in-Of.template c.saturating_sub-place.result c.in-Of.values c.as_slice.result.now c.args.goal.now c.args.work.now
    c.in-Some.rows.now c.as_slice-2.result.now c.in_ok-derived.derived c.saturating_sub-place.ensures c.as_slice.ensures c.in-Of.is c.in-Some.ensures.value c.as_slice-2.ensures
    c.in_ok-derived.ensures c.keep_rows.new.self c.keep_rows.ensures.rows c.keep_rows.ensures.due c.in-Some.ensures.within (omega arith)
