use Rattle.std.proofs.Common.{List, Bool, sym, subst}
use Rattle.lq_linear.specs.Row.{Inequality, nothing}
use Rattle.lq_validity.specs.Spare.{LeavesFor}
use Rattle.lq_validity.proofs.SpareLemmas.{all_dividends}
use Rattle.lq_validity.proofs.index.Index.of.Goals as goal

pub of-requires-clause-dividends : goal.of-requires-clause-dividends
of-requires-clause-dividends c =
    let Left : List Bool → Type 0 = λ k. (wanted : Inequality) → LeavesFor c.in_ok-rows.rows.items k wanted in
    let left : Left c.as_slice-2.result.now = subst Left (sym c.as_slice-2.ensures.value) (subst (λ a. (wanted : Inequality) → LeavesFor a c.in_ok-left.left.items wanted) c.as_slice.ensures.value c.in_ok-left.ensures) in
    all_dividends c.in_ok-rows.rows.items c.as_slice-2.result.now left c.as_slice-items.result.now

pub of-requires-clause-none : goal.of-requires-clause-none
of-requires-clause-none c =
    let Left : List Bool → Type 0 = λ k. (wanted : Inequality) → LeavesFor c.in_ok-rows.rows.items k wanted in
    let left : Left c.as_slice-2.result.now = subst Left (sym c.as_slice-2.ensures.value) (subst (λ a. (wanted : Inequality) → LeavesFor a c.in_ok-left.left.items wanted) c.as_slice.ensures.value c.in_ok-left.ensures) in
    left nothing

pub invariant_of-result : goal.invariant_of-result
invariant_of-result c =
    let Left : List Bool → Type 0 = λ k. (wanted : Inequality) → LeavesFor c.in_ok-rows.rows.items k wanted in
    let left : Left c.as_slice-2.result.now = subst Left (sym c.as_slice-2.ensures.value) (subst (λ a. (wanted : Inequality) → LeavesFor a c.in_ok-left.left.items wanted) c.as_slice.ensures.value c.in_ok-left.ensures) in
    (c.in_ok-parts.ensures.right, λ wanted. c.in_ok-parts.ensures.serving wanted (left wanted))
