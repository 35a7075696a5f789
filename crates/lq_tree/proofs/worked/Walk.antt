-- A worked source: its statements and its expressions, in the order of the walk.
use Rattle.std.proofs.Common.{◌≡◌, refl}
use Rattle.std.specs.Prelude.{List, [], ◌∷◌, Some, map}
use Rattle.std.specs.List.{flat_map}
use Rattle.lq_tree.specs.declared.expr.BinOp.TheVariants.{Mul, Lt}
use Rattle.lq_tree.specs.declared.expr.Expr.{Expr}
use Rattle.lq_tree.specs.declared.stmt.Arm.{out-Arm}
use Rattle.lq_tree.specs.declared.stmt.StmtKind.{Empty, Print, Return, out-StmtKind}
use Rattle.lq_tree.specs.declared.stmt.StmtKind.TheBlock.{shown-the_row-Arm-1}
use Rattle.lq_tree.specs.declared.stmt.Stmt.{Stmt}
use Rattle.lq_tree.specs.Walk.{nodes, inside, statements, expressions}
use Rattle.lq_tree.proofs.worked.SourceWords.{int, num, var, bin, stmt, block, local_set, set, arm, if_arms, while, for, cobegin, foreach}

abbrev less : Expr
less = bin Lt (var "x") (num 2)

abbrev product : Expr
product = bin Mul (num 4) (var "x")

-- int x = 1;
-- if (x < 2) { x = 4 * x; } else print(3);
-- for (x = 5; x < 2; x = 6) cobegin { {} { foreach (i, 7, 8) { while (9) ; } } }
-- return 10;
abbrev body : List Stmt
body =
    stmt 1 1 (local_set (int 0) "x" (num 1)) ∷
    stmt 2 1 (if_arms (arm less (stmt 2 12 (block (stmt 2 14 (set "x" product) ∷ []))) ∷ []) (Some (stmt 2 33 (Print (num 3))))) ∷
    stmt 3 1
    (for (Some (stmt 3 6 (set "x" (num 5)))) (Some less) (Some (stmt 3 20 (set "x" (num 6))))
    (stmt 3 27
    (cobegin (
    stmt 3 37 (block []) ∷
    stmt 3 40 (block (stmt 3 42 (foreach "i" (num 7) (num 8) 1 (stmt 3 60 (block (stmt 3 62 (while (num 9) (stmt 3 72 Empty)) ∷ [])))) ∷ [])) ∷
    [])))) ∷
    stmt 4 1 (Return (Some (num 10))) ∷
    []

-- the columns of the statements: each stands before those inside it, which go by their places
columns : map (λ (s : Stmt). s.at.col) (statements body) ≡ 1 ∷ 1 ∷ 12 ∷ 14 ∷ 33 ∷ 1 ∷ 6 ∷ 20 ∷ 27 ∷ 37 ∷ 40 ∷ 42 ∷ 60 ∷ 62 ∷ 72 ∷ 1 ∷ []
unfolding inside
columns = refl

-- the expressions in the order of the statements in which they stand
in_order : expressions body ≡ num 1 ∷ less ∷ product ∷ num 3 ∷ less ∷ num 5 ∷ num 6 ∷ num 7 ∷ num 8 ∷ num 9 ∷ num 10 ∷ []
unfolding inside out-StmtKind out-Arm shown-the_row-Arm-1 denote.Hole.Carrier.out denote.Hole.Carrier.shown
in_order = refl

-- with their parts
parts : flat_map nodes (product ∷ num 3 ∷ []) ≡ product ∷ num 4 ∷ var "x" ∷ num 3 ∷ []
unfolding nodes
parts = refl
