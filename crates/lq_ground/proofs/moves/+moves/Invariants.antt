use Rattle.std.proofs.Common.{◌≡◌, ◌++◌, take}
use Rattle.std.specs.List.{flat_map}
use Rattle.lq_tree.specs.declared.plain.Branch.{Branch}
use Rattle.lq_tree.specs.PlainWalk.{within_branch}
use Rattle.lq_templates.specs.Classes.{class_in}
use Rattle.lq_ground.specs.Moves.{each_moves, body_moves}
use Rattle.lq_ground.proofs.moves.+moves.Given as goal

abbrev pub invariant-put_statements-loop-statement : goal.invariant-put_statements-loop-statement
invariant-put_statements-loop-statement l = l.moves ≡ l.fn.moves ++ body_moves (class_in l.classes l.func) (take l.statement-index l.body)

abbrev pub invariant-put_branches-loop-branch : goal.invariant-put_branches-loop-branch
invariant-put_branches-loop-branch l = l.moves ≡ l.fn.moves ++ flat_map (λ (branch : Branch). each_moves (class_in l.classes l.func) (within_branch branch)) (take l.branch-index l.blocks)
