-- A function that tests a pointer and is never called, and loads as indices.
use Rattle.std.proofs.Common.{◌≡◌, refl}
use Rattle.std.specs.Prelude.{List, [], ◌∷◌, pos, negsuc, None, Some, false, true, ◌++◌}
use Rattle.lq_tree.specs.declared.expr.BinOp.TheVariants.{Add, Lt, Mul}
use Rattle.lq_tree.specs.declared.plain.PExpr.{Slot}
use Rattle.lq_tree.specs.declared.plain.PKind.{Calloc, Foreach, Load, Return, Set, Store}
use Rattle.lq_tree.specs.declared.plain.PFunc.{PFunc}
use Rattle.lq_tree.specs.declared.plain.PProgram.{PProgram}
use Rattle.lq_meaning.proofs.worked.SourceWords.{int, param, struct, struct_at}
use Rattle.lq_meaning.proofs.worked.PlainWords.{bin, branch, func, if_else, is_null, named, not, num, program, stmt, unnamed, while}
use Rattle.lq_templates.specs.declared.condition.Given.{Given}
use Rattle.lq_templates.specs.declared.condition.Rule.TheVariants.{BoundsHigh, BoundsLow, Effect, Fold, Input, LoopAgain, LoopEntry}
use Rattle.lq_templates.specs.Classes.{ClassOf}
use Rattle.lq_templates.proofs.AccessSets.{rounds}
use Rattle.lq_templates.proofs.worked.Words.{classes}
use Rattle.lq_conditions.specs.Conditions.{conditions}
use Rattle.lq_conditions.proofs.worked.Words.{goal, num as constant_of, pair, row, rows, sum, sym}

abbrev pointer_tests_f1 : PFunc
pointer_tests_f1 = func 2 1 None "f1" 3 (named "p2" (int 1) ∷ named "n3" (int 0) ∷ named "p4" (int 1) ∷ named "y5" (int 0) ∷ unnamed (int 0) ∷ named "i6" (int 0) ∷ [])
    (stmt 3 3 (Load 3 0 (num 0) 0) ∷ stmt 4 3 (if_else (not (is_null (Slot 2))) (stmt 5 5 (Load 4 2 (num 2) 0) ∷ stmt 5 5 (Store 2 (Slot 4) 0 (num 0)) ∷ []) []) ∷ stmt 7 8 (Set 5 (num 0)) ∷ stmt 7 3 (while [] (bin Lt (Slot 5) (num 2)) (stmt 8 5 (Store 2 (num 2) 0 (num 1)) ∷ stmt 7 28 (Set 5 (bin Add (Slot 5) (num 1))) ∷ [])) ∷ [])

abbrev pointer_tests_main : PFunc
pointer_tests_main = func 11 1 (Some (int 0)) "main" 2 (named "in" (int 1) ∷ named "n" (int 0) ∷ named "a7" (int 1) ∷ named "i8" (int 0) ∷ unnamed (int 0) ∷ unnamed (int 0) ∷ named "i9" (int 0) ∷ unnamed (int 0) ∷ unnamed (int 0) ∷ [])
    (stmt 12 3 (if_else (bin Lt (Slot 1) (num 4)) (stmt 12 16 (Return (Some (num 0))) ∷ []) []) ∷ stmt 13 3 (Calloc 2 (num 4) (int 0)) ∷ stmt 14 3 (Foreach 3 (num 0) (num 2) (pos 1) (branch 14 22 (stmt 15 5 (Load 4 0 (Slot 3) 0) ∷ stmt 15 5 (Store 0 (Slot 4) 0 (num 2)) ∷ stmt 16 5 (Load 5 0 (Slot 3) 0) ∷ stmt 16 5 (Store 0 (Slot 5) 0 (num 1)) ∷ []))) ∷ stmt 18 3 (Store 2 (bin Mul (num 4) (Slot 1)) 0 (num 2)) ∷ stmt 19 3 (Foreach 6 (num 0) (num 3) (pos 1) (branch 19 22 (stmt 20 5 (Load 7 0 (Slot 6) 0) ∷ stmt 20 5 (Store 2 (Slot 7) 0 (num 1)) ∷ stmt 21 5 (Load 8 0 (Slot 6) 0) ∷ stmt 21 5 (Store 0 (Slot 8) 0 (num 3)) ∷ []))) ∷ stmt 23 3 (Return (Some (num 0))) ∷ [])

abbrev pub pointer_tests : PProgram
pointer_tests = program (struct_at 1 1 "S" (param (int 0) "n" ∷ param (int 1) "data" ∷ param (int 0) "m" ∷ param (struct "S" 1) "next" ∷ []) ∷ []) (pointer_tests_f1 ∷ pointer_tests_main ∷ []) 1 []

abbrev pointer_tests_classes : ClassOf
pointer_tests_classes = classes ((0, 0, 1) ∷ (0, 2, 2) ∷ (1, 0, 3) ∷ (1, 2, 4) ∷ [])

abbrev pointer_tests_facts1 : List Given
pointer_tests_facts1 = (row ((0, negsuc 0) ∷ []) (pos 0) ∷ row ((1, negsuc 0) ∷ []) (pos 0) ∷ row ((3, negsuc 0) ∷ []) (pos 0) ∷ row ((4, negsuc 0) ∷ []) (pos 0) ∷ rows 5 (sym 1 ∷ sym 0 ∷ sym 2 ∷ sym 4 ∷ sym 3 ∷ []) ∷ [])

abbrev pointer_tests_facts3 : List Given
pointer_tests_facts3 = pointer_tests_facts1 ++ (rows 1 (sym 5 ∷ []) ∷ [])

abbrev pointer_tests_facts4 : List Given
pointer_tests_facts4 = pointer_tests_facts3 ++ (row ((3, negsuc 0) ∷ []) (negsuc 0) ∷ [])

abbrev pointer_tests_facts6 : List Given
pointer_tests_facts6 = pointer_tests_facts4 ++ (rows 2 (sym 6 ∷ []) ∷ [])

abbrev pointer_tests_facts10 : List Given
pointer_tests_facts10 = pointer_tests_facts6 ++ (rows 2 (sym 7 ∷ []) ∷ [])

abbrev pointer_tests_facts13 : List Given
pointer_tests_facts13 = pointer_tests_facts3 ++ (row ((3, pos 1) ∷ []) (pos 0) ∷ [])

abbrev pointer_tests_facts15 : List Given
pointer_tests_facts15 = pointer_tests_facts3 ++ (rows 9 (sym 1 ∷ sym 0 ∷ sym 2 ∷ sym 4 ∷ sym 3 ∷ sym 5 ∷ sym 6 ∷ []) ∷ row ((6, pos 1) ∷ []) (pos 1) ∷ [])

abbrev pointer_tests_facts17 : List Given
pointer_tests_facts17 = pointer_tests_facts15 ++ (rows 2 (sym 7 ∷ []) ∷ [])

abbrev pointer_tests_facts20 : List Given
pointer_tests_facts20 = (row ((0, negsuc 0) ∷ []) (pos 0) ∷ row ((0, pos 1) ∷ (1, negsuc 0) ∷ []) (pos 0) ∷ row ((0, negsuc 0) ∷ (1, pos 1) ∷ []) (pos 0) ∷ [])

abbrev pointer_tests_facts21 : List Given
pointer_tests_facts21 = pointer_tests_facts20 ++ (row ((1, negsuc 0) ∷ []) (negsuc 3) ∷ [])

abbrev pointer_tests_facts22 : List Given
pointer_tests_facts22 = pointer_tests_facts21 ++ (row ((2, negsuc 0) ∷ []) (negsuc 0) ∷ row ((2, pos 1) ∷ []) (pos 4) ∷ row ((2, negsuc 0) ∷ []) (negsuc 3) ∷ row ((3, negsuc 0) ∷ []) (pos 0) ∷ row ((3, pos 1) ∷ []) (pos 1) ∷ [])

abbrev pointer_tests_facts24 : List Given
pointer_tests_facts24 = pointer_tests_facts22 ++ (rows 3 (sym 4 ∷ []) ∷ [])

abbrev pointer_tests_facts29 : List Given
pointer_tests_facts29 = pointer_tests_facts24 ++ (rows 3 (sym 5 ∷ []) ∷ [])

abbrev pointer_tests_facts34 : List Given
pointer_tests_facts34 = pointer_tests_facts29 ++ (rows 3 (sym 6 ∷ []) ∷ [])

abbrev pointer_tests_facts39 : List Given
pointer_tests_facts39 = pointer_tests_facts34 ++ (rows 3 (sym 7 ∷ []) ∷ [])

abbrev pointer_tests_facts42 : List Given
pointer_tests_facts42 = pointer_tests_facts21 ++ (row ((2, negsuc 0) ∷ []) (negsuc 0) ∷ row ((2, pos 1) ∷ []) (pos 4) ∷ row ((2, negsuc 0) ∷ []) (negsuc 3) ∷ row ((3, negsuc 0) ∷ []) (pos 0) ∷ row ((3, pos 1) ∷ (4, negsuc 0) ∷ []) (negsuc 0) ∷ row ((4, pos 1) ∷ []) (pos 1) ∷ rows 13 (sym 5 ∷ constant_of 0 ∷ sym 0 ∷ sym 1 ∷ constant_of 0 ∷ sym 2 ∷ sym 3 ∷ []) ∷ rows 14 (sym 5 ∷ constant_of 0 ∷ sym 0 ∷ sym 1 ∷ constant_of 0 ∷ sym 2 ∷ sym 4 ∷ []) ∷ [])

abbrev pointer_tests_facts43 : List Given
pointer_tests_facts43 = pointer_tests_facts21 ++ (row ((2, negsuc 0) ∷ []) (negsuc 0) ∷ row ((2, pos 1) ∷ []) (pos 4) ∷ row ((2, negsuc 0) ∷ []) (negsuc 3) ∷ row ((3, negsuc 0) ∷ []) (pos 0) ∷ row ((3, pos 1) ∷ (4, negsuc 0) ∷ []) (negsuc 0) ∷ row ((4, pos 1) ∷ []) (pos 1) ∷ rows 14 (sym 5 ∷ constant_of 0 ∷ sym 0 ∷ sym 1 ∷ constant_of 0 ∷ sym 2 ∷ sym 3 ∷ []) ∷ rows 13 (sym 5 ∷ constant_of 0 ∷ sym 0 ∷ sym 1 ∷ constant_of 0 ∷ sym 2 ∷ sym 4 ∷ []) ∷ [])

abbrev pointer_tests_facts44 : List Given
pointer_tests_facts44 = pointer_tests_facts21 ++ (row ((2, negsuc 0) ∷ []) (negsuc 0) ∷ row ((2, pos 1) ∷ []) (pos 4) ∷ row ((2, negsuc 0) ∷ []) (negsuc 3) ∷ row ((3, negsuc 0) ∷ []) (pos 0) ∷ row ((3, pos 1) ∷ (4, negsuc 0) ∷ []) (negsuc 0) ∷ row ((4, pos 1) ∷ []) (pos 1) ∷ rows 14 (sym 5 ∷ constant_of 0 ∷ sym 0 ∷ sym 1 ∷ constant_of 0 ∷ sym 2 ∷ sym 3 ∷ []) ∷ rows 14 (sym 5 ∷ constant_of 0 ∷ sym 0 ∷ sym 1 ∷ constant_of 0 ∷ sym 2 ∷ sym 4 ∷ []) ∷ [])

abbrev pointer_tests_facts45 : List Given
pointer_tests_facts45 = pointer_tests_facts21 ++ (row ((2, negsuc 0) ∷ []) (negsuc 0) ∷ row ((2, pos 1) ∷ []) (pos 4) ∷ row ((2, negsuc 0) ∷ []) (negsuc 3) ∷ [])

abbrev pointer_tests_facts47 : List Given
pointer_tests_facts47 = pointer_tests_facts45 ++ (rows 4 (sym 3 ∷ []) ∷ [])

abbrev pointer_tests_facts49 : List Given
pointer_tests_facts49 = pointer_tests_facts47 ++ (row ((4, negsuc 0) ∷ []) (pos 0) ∷ row ((4, pos 1) ∷ []) (pos 2) ∷ [])

abbrev pointer_tests_facts51 : List Given
pointer_tests_facts51 = pointer_tests_facts49 ++ (rows 3 (sym 5 ∷ []) ∷ [])

abbrev pointer_tests_facts55 : List Given
pointer_tests_facts55 = pointer_tests_facts51 ++ (rows 4 (sym 6 ∷ []) ∷ [])

abbrev pointer_tests_facts64 : List Given
pointer_tests_facts64 = pointer_tests_facts55 ++ (rows 3 (sym 7 ∷ []) ∷ [])

abbrev pointer_tests_facts68 : List Given
pointer_tests_facts68 = pointer_tests_facts47 ++ (row ((4, negsuc 0) ∷ []) (pos 0) ∷ row ((4, pos 1) ∷ (5, negsuc 0) ∷ []) (negsuc 0) ∷ row ((5, pos 1) ∷ []) (pos 2) ∷ rows 15 (sym 6 ∷ constant_of 0 ∷ sym 0 ∷ sym 1 ∷ constant_of 0 ∷ sym 2 ∷ sym 4 ∷ []) ∷ rows 16 (sym 6 ∷ constant_of 0 ∷ sym 0 ∷ sym 1 ∷ constant_of 0 ∷ sym 2 ∷ sym 5 ∷ []) ∷ [])

abbrev pointer_tests_facts69 : List Given
pointer_tests_facts69 = pointer_tests_facts47 ++ (row ((4, negsuc 0) ∷ []) (pos 0) ∷ row ((4, pos 1) ∷ (5, negsuc 0) ∷ []) (negsuc 0) ∷ row ((5, pos 1) ∷ []) (pos 2) ∷ rows 16 (sym 6 ∷ constant_of 0 ∷ sym 0 ∷ sym 1 ∷ constant_of 0 ∷ sym 2 ∷ sym 4 ∷ []) ∷ rows 15 (sym 6 ∷ constant_of 0 ∷ sym 0 ∷ sym 1 ∷ constant_of 0 ∷ sym 2 ∷ sym 5 ∷ []) ∷ [])

abbrev pointer_tests_facts70 : List Given
pointer_tests_facts70 = pointer_tests_facts47 ++ (row ((4, negsuc 0) ∷ []) (pos 0) ∷ row ((4, pos 1) ∷ (5, negsuc 0) ∷ []) (negsuc 0) ∷ row ((5, pos 1) ∷ []) (pos 2) ∷ rows 16 (sym 6 ∷ constant_of 0 ∷ sym 0 ∷ sym 1 ∷ constant_of 0 ∷ sym 2 ∷ sym 4 ∷ []) ∷ rows 16 (sym 6 ∷ constant_of 0 ∷ sym 0 ∷ sym 1 ∷ constant_of 0 ∷ sym 2 ∷ sym 5 ∷ []) ∷ [])

abbrev pointer_tests_facts71 : List Given
pointer_tests_facts71 = pointer_tests_facts47 ++ (row ((4, negsuc 0) ∷ []) (pos 0) ∷ row ((4, pos 1) ∷ (5, negsuc 0) ∷ []) (negsuc 0) ∷ row ((5, pos 1) ∷ []) (pos 2) ∷ rows 17 (sym 6 ∷ constant_of 0 ∷ sym 0 ∷ sym 1 ∷ constant_of 0 ∷ sym 2 ∷ sym 4 ∷ []) ∷ rows 17 (sym 6 ∷ constant_of 0 ∷ sym 0 ∷ sym 1 ∷ constant_of 0 ∷ sym 2 ∷ sym 5 ∷ []) ∷ [])

-- all conditions, in their order
pointer-tests-conditions : (conditions pointer_tests pointer_tests_classes (rounds pointer_tests pointer_tests_classes 2)).list ≡
    goal BoundsLow 3 3 pointer_tests_facts1 (row ((1, negsuc 0) ∷ []) (pos 0)) ∷ goal BoundsHigh 3 3 pointer_tests_facts1 (row ((0, negsuc 0) ∷ (1, pos 1) ∷ []) (negsuc 0)) ∷ goal Effect 3 3 pointer_tests_facts3 (rows 6 (sym 1 ∷ sym 1 ∷ sym 0 ∷ sym 2 ∷ sym 4 ∷ sym 3 ∷ [])) ∷ goal BoundsLow 5 5 pointer_tests_facts4 (row ((4, negsuc 0) ∷ []) (pos 2)) ∷ goal BoundsHigh 5 5 pointer_tests_facts4 (row ((3, negsuc 0) ∷ (4, pos 1) ∷ []) (negsuc 2)) ∷ goal Effect 5 5 pointer_tests_facts6 (rows 7 (sum ((4, pos 1) ∷ []) (pos 2) ∷ sym 1 ∷ sym 0 ∷ sym 2 ∷ sym 4 ∷ sym 3 ∷ [])) ∷ goal BoundsLow 5 5 pointer_tests_facts6 (row ((4, negsuc 0) ∷ (6, negsuc 0) ∷ []) (pos 0)) ∷ goal BoundsHigh 5 5 pointer_tests_facts6 (row ((3, negsuc 0) ∷ (4, pos 1) ∷ (6, pos 1) ∷ []) (negsuc 0)) ∷ goal Fold 5 5 pointer_tests_facts6 (rows 2 (sym 6 ∷ [])) ∷ goal Effect 5 5 pointer_tests_facts10 (rows 8 (sum ((4, pos 1) ∷ (6, pos 1) ∷ []) (pos 0) ∷ sym 1 ∷ sym 0 ∷ sym 2 ∷ sym 4 ∷ sym 3 ∷ [])) ∷ goal Fold 4 3 pointer_tests_facts10 (rows 1 (sym 5 ∷ [])) ∷ goal Fold 4 3 pointer_tests_facts10 (rows 2 (constant_of 0 ∷ [])) ∷ goal Fold 4 3 pointer_tests_facts13 (rows 1 (sym 5 ∷ [])) ∷ goal LoopEntry 7 3 pointer_tests_facts3 (rows 9 (sym 1 ∷ sym 0 ∷ sym 2 ∷ sym 4 ∷ sym 3 ∷ sym 5 ∷ constant_of 0 ∷ [])) ∷ goal BoundsLow 8 5 pointer_tests_facts15 (row ((4, negsuc 0) ∷ []) (pos 2)) ∷ goal BoundsHigh 8 5 pointer_tests_facts15 (row ((3, negsuc 0) ∷ (4, pos 1) ∷ []) (negsuc 2)) ∷ goal Effect 8 5 pointer_tests_facts17 (rows 8 (sum ((4, pos 1) ∷ []) (pos 2) ∷ sym 1 ∷ sym 0 ∷ sym 2 ∷ sym 4 ∷ sym 3 ∷ [])) ∷ goal Fold 7 3 pointer_tests_facts17 (rows 2 (constant_of 1 ∷ [])) ∷ goal LoopAgain 7 3 pointer_tests_facts17 (rows 9 (sym 1 ∷ sym 0 ∷ sym 2 ∷ sym 4 ∷ sym 3 ∷ sym 5 ∷ sum ((6, pos 1) ∷ []) (pos 1) ∷ [])) ∷ goal Input 11 1 pointer_tests_facts20 (rows 3 (sym 2 ∷ [])) ∷ goal Fold 13 3 pointer_tests_facts21 (rows 4 (constant_of 0 ∷ [])) ∷ goal BoundsLow 15 5 pointer_tests_facts22 (row ((3, negsuc 0) ∷ []) (pos 0)) ∷ goal BoundsHigh 15 5 pointer_tests_facts22 (row ((0, negsuc 0) ∷ (3, pos 1) ∷ []) (negsuc 0)) ∷ goal Effect 15 5 pointer_tests_facts24 (rows 13 (sym 3 ∷ constant_of 0 ∷ sym 0 ∷ sym 1 ∷ constant_of 0 ∷ sym 2 ∷ sym 3 ∷ [])) ∷ goal Effect 15 5 pointer_tests_facts24 (rows 10 (sym 3 ∷ constant_of 0 ∷ sym 0 ∷ sym 1 ∷ [])) ∷ goal BoundsLow 15 5 pointer_tests_facts24 (row ((4, negsuc 0) ∷ []) (pos 0)) ∷ goal BoundsHigh 15 5 pointer_tests_facts24 (row ((0, negsuc 0) ∷ (4, pos 1) ∷ []) (negsuc 0)) ∷ goal Fold 15 5 pointer_tests_facts24 (rows 3 (sym 4 ∷ [])) ∷ goal Effect 15 5 pointer_tests_facts29 (rows 14 (sym 4 ∷ constant_of 0 ∷ sym 0 ∷ sym 1 ∷ constant_of 0 ∷ sym 2 ∷ sym 3 ∷ [])) ∷ goal Effect 15 5 pointer_tests_facts29 (rows 11 (sym 4 ∷ constant_of 0 ∷ sym 0 ∷ sym 1 ∷ [])) ∷ goal BoundsLow 16 5 pointer_tests_facts29 (row ((3, negsuc 0) ∷ []) (pos 0)) ∷ goal BoundsHigh 16 5 pointer_tests_facts29 (row ((0, negsuc 0) ∷ (3, pos 1) ∷ []) (negsuc 0)) ∷ goal Fold 16 5 pointer_tests_facts29 (rows 3 (constant_of 2 ∷ [])) ∷ goal Effect 16 5 pointer_tests_facts34 (rows 13 (sym 3 ∷ constant_of 0 ∷ sym 0 ∷ sym 1 ∷ constant_of 0 ∷ sym 2 ∷ sym 3 ∷ [])) ∷ goal Effect 16 5 pointer_tests_facts34 (rows 10 (sym 3 ∷ constant_of 0 ∷ sym 0 ∷ sym 1 ∷ [])) ∷ goal BoundsLow 16 5 pointer_tests_facts34 (row ((6, negsuc 0) ∷ []) (pos 0)) ∷ goal BoundsHigh 16 5 pointer_tests_facts34 (row ((0, negsuc 0) ∷ (6, pos 1) ∷ []) (negsuc 0)) ∷ goal Fold 16 5 pointer_tests_facts34 (rows 3 (sym 6 ∷ [])) ∷ goal Effect 16 5 pointer_tests_facts39 (rows 14 (sym 6 ∷ constant_of 0 ∷ sym 0 ∷ sym 1 ∷ constant_of 0 ∷ sym 2 ∷ sym 3 ∷ [])) ∷ goal Effect 16 5 pointer_tests_facts39 (rows 11 (sym 6 ∷ constant_of 0 ∷ sym 0 ∷ sym 1 ∷ [])) ∷ goal Fold 14 22 pointer_tests_facts39 (rows 3 (constant_of 1 ∷ [])) ∷ pair 14 3 14 22 14 22 3 false true 0 0 pointer_tests_facts42 ∷ pair 14 3 14 22 14 22 3 true false 0 0 pointer_tests_facts43 ∷ pair 14 3 14 22 14 22 3 true true 0 0 pointer_tests_facts44 ∷ goal BoundsLow 18 3 pointer_tests_facts45 (row ((1, negsuc 3) ∷ []) (pos 0)) ∷ goal BoundsHigh 18 3 pointer_tests_facts45 (row ((1, pos 4) ∷ (2, negsuc 0) ∷ []) (negsuc 0)) ∷ goal Effect 18 3 pointer_tests_facts47 (rows 12 (sum ((1, pos 4) ∷ []) (pos 0) ∷ constant_of 0 ∷ sym 0 ∷ sym 1 ∷ [])) ∷ goal Fold 19 3 pointer_tests_facts47 (rows 4 (constant_of 2 ∷ [])) ∷ goal BoundsLow 20 5 pointer_tests_facts49 (row ((4, negsuc 0) ∷ []) (pos 0)) ∷ goal BoundsHigh 20 5 pointer_tests_facts49 (row ((0, negsuc 0) ∷ (4, pos 1) ∷ []) (negsuc 0)) ∷ goal Effect 20 5 pointer_tests_facts51 (rows 15 (sym 4 ∷ constant_of 0 ∷ sym 0 ∷ sym 1 ∷ constant_of 0 ∷ sym 2 ∷ sym 4 ∷ [])) ∷ goal Effect 20 5 pointer_tests_facts51 (rows 10 (sym 4 ∷ constant_of 0 ∷ sym 0 ∷ sym 1 ∷ [])) ∷ goal BoundsLow 20 5 pointer_tests_facts51 (row ((5, negsuc 0) ∷ []) (pos 0)) ∷ goal BoundsHigh 20 5 pointer_tests_facts51 (row ((2, negsuc 0) ∷ (5, pos 1) ∷ []) (negsuc 0)) ∷ goal Effect 20 5 pointer_tests_facts55 (rows 17 (sym 5 ∷ constant_of 0 ∷ sym 0 ∷ sym 1 ∷ constant_of 0 ∷ sym 2 ∷ sym 4 ∷ [])) ∷ goal Effect 20 5 pointer_tests_facts55 (rows 12 (sym 5 ∷ constant_of 0 ∷ sym 0 ∷ sym 1 ∷ [])) ∷ goal BoundsLow 21 5 pointer_tests_facts55 (row ((4, negsuc 0) ∷ []) (pos 0)) ∷ goal BoundsHigh 21 5 pointer_tests_facts55 (row ((0, negsuc 0) ∷ (4, pos 1) ∷ []) (negsuc 0)) ∷ goal Effect 21 5 pointer_tests_facts55 (rows 15 (sym 4 ∷ constant_of 0 ∷ sym 0 ∷ sym 1 ∷ constant_of 0 ∷ sym 2 ∷ sym 4 ∷ [])) ∷ goal Effect 21 5 pointer_tests_facts55 (rows 10 (sym 4 ∷ constant_of 0 ∷ sym 0 ∷ sym 1 ∷ [])) ∷ goal BoundsLow 21 5 pointer_tests_facts55 (row ((5, negsuc 0) ∷ []) (pos 0)) ∷ goal BoundsHigh 21 5 pointer_tests_facts55 (row ((0, negsuc 0) ∷ (5, pos 1) ∷ []) (negsuc 0)) ∷ goal Fold 21 5 pointer_tests_facts55 (rows 3 (sym 5 ∷ [])) ∷ goal Effect 21 5 pointer_tests_facts64 (rows 16 (sym 5 ∷ constant_of 0 ∷ sym 0 ∷ sym 1 ∷ constant_of 0 ∷ sym 2 ∷ sym 4 ∷ [])) ∷ goal Effect 21 5 pointer_tests_facts64 (rows 11 (sym 5 ∷ constant_of 0 ∷ sym 0 ∷ sym 1 ∷ [])) ∷ goal Fold 19 22 pointer_tests_facts64 (rows 3 (constant_of 3 ∷ [])) ∷ goal Fold 19 22 pointer_tests_facts64 (rows 4 (constant_of 1 ∷ [])) ∷ pair 19 3 19 22 19 22 3 false true 0 0 pointer_tests_facts68 ∷ pair 19 3 19 22 19 22 3 true false 0 0 pointer_tests_facts69 ∷ pair 19 3 19 22 19 22 3 true true 0 0 pointer_tests_facts70 ∷ pair 19 3 19 22 19 22 4 true true 0 0 pointer_tests_facts71 ∷ []
pointer-tests-conditions = refl
