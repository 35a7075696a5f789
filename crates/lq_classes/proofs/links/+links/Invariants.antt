use Rattle.std.proofs.Common.{◌≡◌, ◌++◌, take}
use Rattle.std.specs.List.{flat_map}
use Rattle.lq_tree.specs.declared.plain.Branch.{Branch}
use Rattle.lq_tree.specs.PlainWalk.{within_branch}
use Rattle.lq_classes.specs.Links.{each_links, body_links}
use Rattle.lq_classes.proofs.links.+links.Given as goal

abbrev pub invariant-put_statements-loop-statement : goal.invariant-put_statements-loop-statement
invariant-put_statements-loop-statement l = l.links.items ≡ l.fn.links.items ++ body_links l.program l.func (take l.statement-index l.body)

abbrev pub invariant-put_branches-loop-branch : goal.invariant-put_branches-loop-branch
invariant-put_branches-loop-branch l = l.links.items ≡ l.fn.links.items ++ flat_map (λ (branch : Branch). each_links l.program l.func (within_branch branch)) (take l.branch-index l.blocks)
