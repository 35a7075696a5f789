use Rattle.std.proofs.Common.{◌+◌, List, take, arith, ap, ap₂, sym, ◌∙◌}
use Rattle.lq_classes.proofs.Results.{if_ok_weaker}
use Rattle.lq_tree.specs.declared.plain.PStmt.{PStmt}
use Rattle.lq_tree.specs.declared.plain.Branch.{Branch, out-Branch}
use Rattle.lq_templates.specs.Reading.{walked_blocks}
use Rattle.lq_templates.specs.Spots.{passed, walked, walked_all}
use Rattle.lq_templates.specs.Templates.{count_scopes}
use Rattle.lq_templates.proofs.ReadingLemmas.{begun, branch_spot, listed, walked-if, walked-while, walked-cobegin, walked_branch-out, all_more, blocks_more}
use Rattle.lq_ground.proofs.ScopeLemmas.{count-begun, count-branch}
use Rattle.lq_ground.proofs.scopes.+scopes.Goals as goal

pub count_branch-returns : goal.count_branch-returns
count_branch-returns t c =
    let b = c.args.branch.now in
    if_ok_weaker c.count_list.result (λ after then w is.
    let start = passed (branch_spot (out-Branch b).at (out-Branch b).body w.scope) w in
    then start (c.in_ok-inside.ensures ∙ ap (λ n. n + 1) is ∙ sym (count-branch b w))
    ∙ ap (λ list. count_scopes (walked_all list start).spots) c.as_slice.ensures ∙ ap (λ v. count_scopes v.spots) (sym (walked_branch-out b w))) c.count_list.ensures

pub count_branches-loop-branch-preserved : goal.count_branches-loop-branch-preserved
count_branches-loop-branch-preserved t c = λ w is.
    c.in_ok-so_far.ensures (walked_blocks (take c.loop-branch.branch-index c.args.blocks.now) w) (c.loop-branch.invariant w is)
    ∙ ap (λ v. count_scopes v.spots) (blocks_more c.args.blocks.now c.loop-branch.branch-index c.branch-item.result w (omega arith) c.branch-item.is)

pub count_list-loop-statement-preserved : goal.count_list-loop-statement-preserved
count_list-loop-statement-preserved t c = λ w is.
    c.in_ok-so_far.ensures (walked_all (take c.loop-statement.statement-index c.args.list.now) w) (c.loop-statement.invariant w is)
    ∙ ap (λ v. count_scopes v.spots) (all_more c.args.list.now c.loop-statement.statement-index c.statement-item.result w (omega arith) c.statement-item.is)

pub count_statement-returns-in_ok-first-in-If : goal.count_statement-returns-in_ok-first-in-If
count_statement-returns-in_ok-first-in-If t c =
    let kind = c.args.kind.now in
    if_ok_weaker c.count_list-in-If.result (λ after then w is.
    let start = begun kind w in
    let first = c.in_ok-first-in-If.ensures start (is ∙ sym (count-begun kind w)) in
    then (listed c.as_slice.result.now start) first
    ∙ ap₂ (λ (xs ys : List PStmt). count_scopes (listed ys (listed xs start)).spots) c.as_slice.ensures c.as_slice-in-If.ensures
    ∙ ap (λ k. count_scopes (listed c.in-If.other (listed c.in-If.body (begun k w))).spots) c.in-If.is
    ∙ ap (λ v. count_scopes v.spots) (sym (walked-if c.in-If.field-0 c.in-If.body c.in-If.other w) ∙ ap (λ k. walked k w) (sym c.in-If.is))) c.count_list-in-If.ensures

pub count_statement-returns-in_ok-tested-in-While : goal.count_statement-returns-in_ok-tested-in-While
count_statement-returns-in_ok-tested-in-While t c =
    let kind = c.args.kind.now in
    if_ok_weaker c.count_list-in-While-2.result (λ after then w is.
    let start = begun kind w in
    let first = c.in_ok-tested-in-While.ensures start (is ∙ sym (count-begun kind w)) in
    then (listed c.as_slice-in-While.result.now start) first
    ∙ ap₂ (λ (xs ys : List PStmt). count_scopes (listed ys (listed xs start)).spots) c.as_slice-in-While.ensures c.as_slice-in-While-2.ensures
    ∙ ap (λ k. count_scopes (listed c.in-While.body (listed c.in-While.head (begun k w))).spots) c.in-While.is
    ∙ ap (λ v. count_scopes v.spots) (sym (walked-while c.in-While.head c.in-While.field-1 c.in-While.body w) ∙ ap (λ k. walked k w) (sym c.in-While.is))) c.count_list-in-While-2.ensures

pub count_statement-returns-in-Cobegin : goal.count_statement-returns-in-Cobegin
count_statement-returns-in-Cobegin t c =
    if_ok_weaker c.count_branches.result (λ after then w is.
    then w is ∙ ap (λ (bs : List Branch). count_scopes (walked_blocks bs w).spots) c.as_slice-in-Cobegin.ensures
    ∙ ap (λ v. count_scopes v.spots) (sym (walked-cobegin c.in-Cobegin.blocks w) ∙ ap (λ k. walked k w) (sym c.in-Cobegin.is))) c.count_branches.ensures
