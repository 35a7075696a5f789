use Rattle.std.proofs.Common.{◌≡◌, ◌++◌, take}
use Rattle.std.specs.List.{flat_map}
use Rattle.lq_tree.specs.declared.plain.Branch.{Branch}
use Rattle.lq_tree.specs.PlainWalk.{within_branch}
use Rattle.lq_templates.specs.Classes.{class_in}
use Rattle.lq_templates.specs.Touches.{each_touches, body_touches}
use Rattle.lq_templates.proofs.touches.+touches.Given as goal

abbrev pub invariant-put_statements-loop-statement : goal.invariant-put_statements-loop-statement
invariant-put_statements-loop-statement l = l.touches ≡ l.fn.touches ++ body_touches (class_in l.classes l.func) (take l.statement-index l.body)

abbrev pub invariant-put_branches-loop-branch : goal.invariant-put_branches-loop-branch
invariant-put_branches-loop-branch l = l.touches ≡ l.fn.touches ++ flat_map (λ (branch : Branch). each_touches (class_in l.classes l.func) (within_branch branch)) (take l.branch-index l.blocks)
