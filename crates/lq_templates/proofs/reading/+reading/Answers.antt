use Rattle.std.proofs.Common.{List, take, arith, ap, ap₂, sym, ◌∙◌}
use Rattle.std.proofs.lemmas.Result.{on_ok_weaker}
use Rattle.lq_tree.specs.declared.plain.PStmt.{PStmt}
use Rattle.lq_tree.specs.declared.plain.Branch.{Branch, out-Branch}
use Rattle.lq_templates.specs.Classes.{class_in}
use Rattle.lq_templates.specs.Reading.{reading, walked_blocks}
use Rattle.lq_templates.specs.Spots.{passed, walked, walked_all}
use Rattle.lq_templates.proofs.ReadingLemmas.{begun, begins, begins_branch, branch_spot, listed, walked-if, walked-while, walked-cobegin, walked_branch-out, all_more, blocks_more}
use Rattle.lq_templates.proofs.reading.+reading.Goals as goal

pub read_branch-returns : goal.read_branch-returns
read_branch-returns t c =
    let class_at = class_in c.args.classes.now c.args.func in
    let b = c.args.branch.now in
    on_ok_weaker c.read_list.result (λ then w is.
    let start = passed (branch_spot (out-Branch b).at (out-Branch b).body w.scope) w in
    then start (begins_branch class_at b w c.args.reading.now c.pass_branch.new.reading is c.in_ok-pass_branch.ensures)
    ∙ ap (λ (list : List PStmt). reading class_at (listed list start)) c.as_slice.ensures ∙ ap (reading class_at) (sym (walked_branch-out b w))) c.read_list.ensures

pub read_branches-loop-branch-preserved : goal.read_branches-loop-branch-preserved
read_branches-loop-branch-preserved t c = λ w is.
    let class_at = class_in c.args.classes.now c.args.func in
    c.in_ok-read_branch.ensures (walked_blocks (take c.loop-branch.branch-index c.args.blocks.now) w) (c.loop-branch.invariant w is)
    ∙ ap (reading class_at) (blocks_more c.args.blocks.now c.loop-branch.branch-index c.branch-item.result w (omega arith) c.branch-item.is)

pub read_list-loop-statement-preserved : goal.read_list-loop-statement-preserved
read_list-loop-statement-preserved t c = λ w is.
    let class_at = class_in c.args.classes.now c.args.func in
    c.in_ok-read_statement.ensures (walked_all (take c.loop-statement.statement-index c.args.list.now) w) (c.loop-statement.invariant w is)
    ∙ ap (reading class_at) (all_more c.args.list.now c.loop-statement.statement-index c.statement-item.result w (omega arith) c.statement-item.is)

pub read_statement-returns-in_ok-read_list-in-If : goal.read_statement-returns-in_ok-read_list-in-If
read_statement-returns-in_ok-read_list-in-If t c =
    let class_at = class_in c.args.classes.now c.args.func in
    let kind = c.args.kind.now in
    on_ok_weaker c.read_list-in-If.result (λ then w is.
    let start = begun kind w in
    let first = begins class_at kind w c.args.reading.now c.pass_changed.new.reading is c.in_ok-pass_changed-in-If.ensures in
    let second = c.in_ok-read_list-in-If.ensures start first in
    then (listed c.as_slice.result.now start) second
    ∙ ap₂ (λ (xs ys : List PStmt). reading class_at (listed ys (listed xs start))) c.as_slice.ensures c.as_slice-in-If.ensures
    ∙ ap (λ k. reading class_at (listed c.in-If.other (listed c.in-If.body (begun k w)))) c.in-If.is
    ∙ ap (reading class_at) (sym (walked-if c.in-If.field-0 c.in-If.body c.in-If.other w) ∙ ap (λ k. walked k w) (sym c.in-If.is))) c.read_list-in-If.ensures

pub read_statement-returns-in_ok-read_list-in-While : goal.read_statement-returns-in_ok-read_list-in-While
read_statement-returns-in_ok-read_list-in-While t c =
    let class_at = class_in c.args.classes.now c.args.func in
    let kind = c.args.kind.now in
    on_ok_weaker c.read_list-in-While-2.result (λ then w is.
    let start = begun kind w in
    let first = begins class_at kind w c.args.reading.now c.pass_changed-in-While.new.reading is c.in_ok-pass_changed-in-While.ensures in
    let second = c.in_ok-read_list-in-While.ensures start first in
    then (listed c.as_slice-in-While.result.now start) second
    ∙ ap₂ (λ (xs ys : List PStmt). reading class_at (listed ys (listed xs start))) c.as_slice-in-While.ensures c.as_slice-in-While-2.ensures
    ∙ ap (λ k. reading class_at (listed c.in-While.body (listed c.in-While.head (begun k w)))) c.in-While.is
    ∙ ap (reading class_at) (sym (walked-while c.in-While.head c.in-While.field-1 c.in-While.body w) ∙ ap (λ k. walked k w) (sym c.in-While.is))) c.read_list-in-While-2.ensures

pub read_statement-returns-in-Cobegin : goal.read_statement-returns-in-Cobegin
read_statement-returns-in-Cobegin t c =
    let class_at = class_in c.args.classes.now c.args.func in
    on_ok_weaker c.read_branches.result (λ then w is.
    then w is ∙ ap (λ (bs : List Branch). reading class_at (walked_blocks bs w)) c.as_slice-in-Cobegin.ensures
    ∙ ap (reading class_at) (sym (walked-cobegin c.in-Cobegin.blocks w) ∙ ap (λ k. walked k w) (sym c.in-Cobegin.is))) c.read_branches.ensures
