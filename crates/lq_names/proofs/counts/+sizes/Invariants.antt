use Rattle.std.proofs.Common.{◌≡◌, drop, map, fold}
use Rattle.lq_tree.specs.declared.stmt.Arm.{Arm, out-Arm}
use Rattle.lq_names.specs.Counts as spec
use Rattle.lq_names.proofs.counts.+sizes.Given as goal

abbrev pub invariant-in_row-loop-stmt : goal.invariant-in_row-loop-stmt
invariant-in_row-loop-stmt l = fold spec.behind l.total (map spec.sizes_of_stmt (drop l.stmt-index l.stmts)) ≡ spec.in_row (map spec.sizes_of_stmt l.stmts)

abbrev pub invariant-in_branches-loop-stmt : goal.invariant-in_branches-loop-stmt
invariant-in_branches-loop-stmt l = fold spec.apart l.total (map spec.sizes_of_stmt (drop l.stmt-index l.blocks)) ≡ spec.beside (map spec.sizes_of_stmt l.blocks)

abbrev pub invariant-in_arms-loop-arm : goal.invariant-in_arms-loop-arm
invariant-in_arms-loop-arm l = fold spec.apart l.total (map (λ (arm : Arm). spec.sizes_of_stmt (out-Arm arm).body) (drop l.arm-index l.arms)) ≡ spec.beside (map (λ (arm : Arm). spec.sizes_of_stmt (out-Arm arm).body) l.arms)
