use Rattle.std.proofs.Common.{List, ap, sym, ◌∙◌, ◌++◌, arith}
use Rattle.std.specs.List.{flat_map}
use Rattle.std.proofs.lemmas.Result.{on_ok_weaker}
use Rattle.lq_tree.specs.declared.plain.Branch.{Branch}
use Rattle.lq_tree.specs.PlainWalk.{inside, within_branch}
use Rattle.lq_classes.proofs.Walks.{inside-if, inside-while, inside-cobegin, pieces_more}
use Rattle.lq_ground.specs.declared.moves.Move.{Move}
use Rattle.lq_templates.specs.Classes.{class_in}
use Rattle.lq_ground.specs.Moves.{each_moves, body_moves}
use Rattle.lq_ground.proofs.MoveLemmas.{branch_moves, branches_move, one_list, two_lists}
use Rattle.lq_ground.proofs.moves.+moves.Goals as goal

pub put_inside-returns-in_ok-put_statements-in-If : goal.put_inside-returns-in_ok-put_statements-in-If
put_inside-returns-in_ok-put_statements-in-If t c =
    on_ok_weaker c.put_statements-in-If.result
    (two_lists (class_in c.args.classes.now c.args.func) c.args.kind.now c.in-If.body c.in-If.other c.as_slice.result.now c.as_slice-in-If.result.now _ _ _
    (ap inside c.in-If.is ∙ inside-if c.in-If.field-0 c.in-If.body c.in-If.other) c.as_slice.ensures c.as_slice-in-If.ensures c.in_ok-put_statements-in-If.ensures)
    c.put_statements-in-If.ensures

pub put_inside-returns-in_ok-put_statements-in-While : goal.put_inside-returns-in_ok-put_statements-in-While
put_inside-returns-in_ok-put_statements-in-While t c =
    on_ok_weaker c.put_statements-in-While-2.result
    (two_lists (class_in c.args.classes.now c.args.func) c.args.kind.now c.in-While.head c.in-While.body c.as_slice-in-While.result.now c.as_slice-in-While-2.result.now _ _ _
    (ap inside c.in-While.is ∙ inside-while c.in-While.head c.in-While.field-1 c.in-While.body) c.as_slice-in-While.ensures c.as_slice-in-While-2.ensures c.in_ok-put_statements-in-While.ensures)
    c.put_statements-in-While-2.ensures

pub put_inside-returns-in-Cobegin : goal.put_inside-returns-in-Cobegin
put_inside-returns-in-Cobegin t c =
    let class_at = class_in c.args.classes.now c.args.func in
    let does : List Branch → List Move = λ blocks. flat_map (λ (b : Branch). each_moves class_at (within_branch b)) blocks in
    on_ok_weaker c.put_branches.result
    (one_list class_at c.args.kind.now (flat_map within_branch c.in-Cobegin.blocks) _ _ (does c.as_slice-in-Cobegin.result.now)
    (ap inside c.in-Cobegin.is ∙ inside-cobegin c.in-Cobegin.blocks)
    (ap does c.as_slice-in-Cobegin.ensures ∙ sym (branches_move class_at c.in-Cobegin.blocks)))
    c.put_branches.ensures

pub put_inside-returns-in-Foreach : goal.put_inside-returns-in-Foreach
put_inside-returns-in-Foreach t c =
    let class_at = class_in c.args.classes.now c.args.func in
    on_ok_weaker c.put_statements-in-Foreach.result
    (one_list class_at c.args.kind.now (within_branch c.in-Foreach.branch) _ _ (body_moves class_at c.as_slice-in-Foreach.result.now)
    (ap inside c.in-Foreach.is) (branch_moves class_at c.in-Foreach.branch c.as_slice-in-Foreach.result.now c.as_slice-in-Foreach.ensures))
    c.put_statements-in-Foreach.ensures

pub put_branches-loop-branch-preserved : goal.put_branches-loop-branch-preserved
put_branches-loop-branch-preserved t c =
    let class_at = class_in c.args.classes.now c.args.func in
    pieces_more (λ (b : Branch). each_moves class_at (within_branch b)) c.args.moves.now c.loop-branch.moves c.put_statements.new.moves c.args.blocks.now c.loop-branch.branch-index c.branch-item.result
    (omega arith) c.branch-item.is c.loop-branch.invariant
    (c.in_ok-put_statements.ensures ∙ ap (λ (xs : List Move). c.loop-branch.moves ++ xs) (branch_moves class_at c.branch-item.result c.as_slice.result.now c.as_slice.ensures))
