use Rattle.std.proofs.Common.{ap, sym, ◌∙◌, arith}
use Rattle.lq_tree.specs.declared.stmt.Stmt.{Stmt}
use Rattle.std.proofs.Common.{List, length, map}
use Rattle.lq_tree.specs.declared.stmt.Arm.{Arm, out-Arm}
use Rattle.lq_names.specs.Counts as spec
use Rattle.lq_names.proofs.CountLaws.{fold_step, fold_end, sizes_block, sizes_cobegin, sizes_if}
use Rattle.lq_names.proofs.counts.+sizes.Goals as goal

pub in_row-loop-stmt-preserved : goal.in_row-loop-stmt-preserved
in_row-loop-stmt-preserved t c = fold_step spec.behind spec.sizes_of_stmt c.loop-stmt.total _ _ c.args.stmts.now c.loop-stmt.stmt-index c.stmt-item.result (omega arith) c.stmt-item.is c.loop-stmt.invariant
    (c.behind-total.ensures ∙ ap (spec.behind c.loop-stmt.total) c.in_stmt.ensures)

pub in_row-returns : goal.in_row-returns
in_row-returns t c = fold_end spec.behind spec.sizes_of_stmt c.loop-stmt.total _ c.args.stmts.now c.loop-stmt.stmt-index (omega arith) c.loop-stmt.invariant

pub in_branches-loop-stmt-preserved : goal.in_branches-loop-stmt-preserved
in_branches-loop-stmt-preserved t c = fold_step spec.apart spec.sizes_of_stmt c.loop-stmt.total _ _ c.args.blocks.now c.loop-stmt.stmt-index c.stmt-item.result (omega arith) c.stmt-item.is c.loop-stmt.invariant
    (c.behind-total.ensures ∙ ap (spec.behind c.loop-stmt.total) (c.closed.ensures ∙ ap spec.closed c.in_stmt.ensures))

pub in_branches-returns : goal.in_branches-returns
in_branches-returns t c = fold_end spec.apart spec.sizes_of_stmt c.loop-stmt.total _ c.args.blocks.now c.loop-stmt.stmt-index (omega arith) c.loop-stmt.invariant

pub in_arms-loop-arm-preserved : goal.in_arms-loop-arm-preserved
in_arms-loop-arm-preserved t c = fold_step spec.apart (λ (arm : Arm). spec.sizes_of_stmt (out-Arm arm).body) c.loop-arm.total _ _ c.args.arms.now c.loop-arm.arm-index c.arm-item.result (omega arith) c.arm-item.is c.loop-arm.invariant
    (c.behind-total.ensures ∙ ap (spec.behind c.loop-arm.total) (c.closed.ensures ∙ ap spec.closed (c.in_stmt.ensures ∙ ap spec.sizes_of_stmt c.get.ensures)))

pub in_arms-returns : goal.in_arms-returns
in_arms-returns t c = fold_end spec.apart (λ (arm : Arm). spec.sizes_of_stmt (out-Arm arm).body) c.loop-arm.total _ c.args.arms.now c.loop-arm.arm-index (omega arith) c.loop-arm.invariant

pub in_stmt-returns-in-Block : goal.in_stmt-returns-in-Block
in_stmt-returns-in-Block t c =
    c.closed.ensures ∙ ap spec.closed (c.in_row.ensures ∙ ap (λ (xs : List Stmt). spec.in_row (map spec.sizes_of_stmt xs)) c.as_slice.ensures)
    ∙ sym (sizes_block c.in-Block.body) ∙ ap spec.sizes_of (sym c.in-Block.is)

pub in_stmt-returns-in-Cobegin : goal.in_stmt-returns-in-Cobegin
in_stmt-returns-in-Cobegin t c =
    c.behind-in-Cobegin.ensures
    ∙ ap (λ a. spec.behind a c.in_branches.result) (c.branches_of.ensures ∙ ap spec.branches_of c.len-in-Cobegin.ensures)
    ∙ ap (spec.behind (spec.branches_of (length c.in-Cobegin.blocks))) (c.in_branches.ensures ∙ ap (λ (xs : List Stmt). spec.beside (map spec.sizes_of_stmt xs)) c.as_slice-in-Cobegin.ensures)
    ∙ sym (sizes_cobegin c.in-Cobegin.blocks) ∙ ap spec.sizes_of (sym c.in-Cobegin.is)

pub in_stmt-returns-in-If : goal.in_stmt-returns-in-If
in_stmt-returns-in-If t c =
    c.behind.ensures
    ∙ ap (λ a. spec.behind a c.behind-inner.result) (c.arms_of.ensures ∙ ap spec.arms_of c.len.ensures)
    ∙ ap (spec.behind (spec.arms_of (length c.in-If.arms)))
    (c.behind-inner.ensures
    ∙ ap (λ a. spec.behind a c.closed-in-If.result) (c.in_arms.ensures ∙ ap (λ (xs : List Arm). spec.beside (map (λ (arm : Arm). spec.sizes_of_stmt (out-Arm arm).body) xs)) c.as_slice-in-If.ensures)
    ∙ ap (spec.behind (spec.beside (map (λ (arm : Arm). spec.sizes_of_stmt (out-Arm arm).body) c.in-If.arms))) (c.closed-in-If.ensures ∙ ap spec.closed c.in_other.ensures))
    ∙ sym (sizes_if c.in-If.arms c.in-If.other) ∙ ap spec.sizes_of (sym c.in-If.is)
