use Rattle.std.proofs.Common.{List, ap, sym, ◌∙◌, ◌++◌, arith}
use Rattle.std.specs.List.{flat_map}
use Rattle.std.proofs.lemmas.List.{take_all}
use Rattle.std.proofs.lemmas.Result.{on_ok_weaker}
use Rattle.lq_tree.specs.declared.plain.Branch.{Branch}
use Rattle.lq_tree.specs.PlainWalk.{inside, within_branch}
use Rattle.lq_classes.specs.declared.links.Link.{Link}
use Rattle.lq_classes.specs.Links.{each_links, body_links}
use Rattle.lq_classes.proofs.Walks.{inside-if, inside-while, inside-cobegin, branch_says, branches_say, one_list, two_lists, pieces_more}
use Rattle.lq_classes.proofs.links.+links.Goals as goal

pub put_statement-returns-in_ok-put_statements-in-If : goal.put_statement-returns-in_ok-put_statements-in-If
put_statement-returns-in_ok-put_statements-in-If t c =
    on_ok_weaker c.put_statements-in-If.result
    (two_lists c.args.program.now c.args.func c.args.kind.now c.in-If.body c.in-If.other c.as_slice.result.now c.as_slice-in-If.result.now _ _ _ _
    (ap inside c.in-If.is ∙ inside-if c.in-If.field-0 c.in-If.body c.in-If.other) c.as_slice.ensures c.as_slice-in-If.ensures c.in_ok-put_own.ensures c.in_ok-put_statements-in-If.ensures)
    c.put_statements-in-If.ensures

pub put_statement-returns-in_ok-put_statements-in-While : goal.put_statement-returns-in_ok-put_statements-in-While
put_statement-returns-in_ok-put_statements-in-While t c =
    on_ok_weaker c.put_statements-in-While-2.result
    (two_lists c.args.program.now c.args.func c.args.kind.now c.in-While.head c.in-While.body c.as_slice-in-While.result.now c.as_slice-in-While-2.result.now _ _ _ _
    (ap inside c.in-While.is ∙ inside-while c.in-While.head c.in-While.field-1 c.in-While.body) c.as_slice-in-While.ensures c.as_slice-in-While-2.ensures c.in_ok-put_own.ensures c.in_ok-put_statements-in-While.ensures)
    c.put_statements-in-While-2.ensures

pub put_statement-returns-in-Cobegin : goal.put_statement-returns-in-Cobegin
put_statement-returns-in-Cobegin t c =
    let says : List Branch → List Link = λ blocks. flat_map (λ (b : Branch). each_links c.args.program.now c.args.func (within_branch b)) blocks in
    on_ok_weaker c.put_branches.result
    (one_list c.args.program.now c.args.func c.args.kind.now (flat_map within_branch c.in-Cobegin.blocks) _ _ _ (says c.as_slice-in-Cobegin.result.now)
    (ap inside c.in-Cobegin.is ∙ inside-cobegin c.in-Cobegin.blocks) c.in_ok-put_own.ensures
    (ap says c.as_slice-in-Cobegin.ensures ∙ sym (branches_say c.args.program.now c.args.func c.in-Cobegin.blocks)))
    c.put_branches.ensures

pub put_statement-returns-in-Foreach : goal.put_statement-returns-in-Foreach
put_statement-returns-in-Foreach t c =
    on_ok_weaker c.put_statements-in-Foreach.result
    (one_list c.args.program.now c.args.func c.args.kind.now (within_branch c.in-Foreach.branch) _ _ _ (body_links c.args.program.now c.args.func c.as_slice-in-Foreach.result.now)
    (ap inside c.in-Foreach.is) c.in_ok-put_own.ensures (branch_says c.args.program.now c.args.func c.in-Foreach.branch c.as_slice-in-Foreach.result.now c.as_slice-in-Foreach.ensures))
    c.put_statements-in-Foreach.ensures

pub put_branches-loop-branch-preserved : goal.put_branches-loop-branch-preserved
put_branches-loop-branch-preserved t c =
    pieces_more (λ (b : Branch). each_links c.args.program.now c.args.func (within_branch b)) c.args.links.now.items c.loop-branch.links.items c.put_statements.new.links.items c.args.blocks.now c.loop-branch.branch-index c.branch-item.result
    (omega arith) c.branch-item.is c.loop-branch.invariant
    (c.in_ok-put_statements.ensures ∙ ap (λ (xs : List Link). c.loop-branch.links.items ++ xs) (branch_says c.args.program.now c.args.func c.branch-item.result c.as_slice.result.now c.as_slice.ensures))

pub put_branches-returns : goal.put_branches-returns
put_branches-returns t c =
    let says : List Branch → List Link = λ blocks. flat_map (λ (b : Branch). each_links c.args.program.now c.args.func (within_branch b)) blocks in
    c.loop-branch.invariant ∙ ap (λ (bs : List Branch). c.args.links.now.items ++ says bs) (take_all c.loop-branch.branch-index c.args.blocks.now (omega (arith, c.loop-branch-test.false)))
