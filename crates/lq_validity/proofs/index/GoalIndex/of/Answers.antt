use Rattle.std.proofs.Common.{map, length, reverse, sym, ap, ◌∙◌, arith}
use Rattle.std.proofs.lemmas.List.{length-reverse}
use Rattle.std.proofs.lemmas.List.Elements.{Contains-append_left}
use Rattle.lq_linear.specs.Item.{dividend_row}
use Rattle.lq_validity.specs.Spare.{LeavesFor}
use Rattle.lq_validity.proofs.MarkLemmas.{rows_bound}
use Rattle.lq_validity.proofs.SpareLemmas.{each_dividend, leaves_same}
use Rattle.lq_validity.proofs.index.GoalIndex.of.Goals as goal

pub leave_out-requires : goal.leave_out-requires
leave_out-requires c =
    let items = c.as_slice-items.result.now in
    omega (arith, ap length c.as_slice.ensures.value, ap length c.in_ok-rows.ensures, rows_bound (reverse items), length-reverse items, ap length c.as_slice-items.ensures, c.requires)

pub of-requires-clause-dividends : goal.of-requires-clause-dividends
of-requires-clause-dividends c =
    let leaves = leaves_same _ _ _ _ _ _ c.as_slice.ensures.value (c.as_slice-2.ensures.value ∙ c.in_ok-wanted.ensures) (sym c.as_slice-3.ensures.value) c.in_ok-left.ensures in
    each_dividend (LeavesFor c.in_ok-rows.rows.items c.as_slice-3.result.now) c.args.goals.now c.as_slice-items.result.now leaves.each

pub of-requires-clause-none : goal.of-requires-clause-none
of-requires-clause-none c =
    let leaves = leaves_same _ _ _ _ _ _ c.as_slice.ensures.value (c.as_slice-2.ensures.value ∙ c.in_ok-wanted.ensures) (sym c.as_slice-3.ensures.value) c.in_ok-left.ensures in
    leaves.none

pub invariant_of-result : goal.invariant_of-result
invariant_of-result c =
    let leaves = leaves_same _ _ _ _ _ _ c.as_slice.ensures.value (c.as_slice-2.ensures.value ∙ c.in_ok-wanted.ensures) (sym c.as_slice-3.ensures.value) c.in_ok-left.ensures in
    (c.in_ok-parts.ensures.right, λ wanted i. c.in_ok-parts.ensures.serving wanted (leaves.each wanted (Contains-append_left c.args.goals.now (map dividend_row c.as_slice-items.result.now) wanted i)))
