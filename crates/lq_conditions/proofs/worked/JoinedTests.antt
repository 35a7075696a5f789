-- Conditions that load on their way, in blocks and in a `foreach`.
use Rattle.std.proofs.Common.{◌≡◌, refl}
use Rattle.std.specs.Prelude.{List, [], ◌∷◌, pos, negsuc, Some, false, true, ◌++◌}
use Rattle.lq_tree.specs.declared.expr.BinOp.TheVariants.{Add, And, Div, Ge, Gt, Le, Lt, Mul, Ne, Rem}
use Rattle.lq_tree.specs.declared.plain.PExpr.{Null, Slot}
use Rattle.lq_tree.specs.declared.plain.PKind.{Calloc, Foreach, Load, Print, Return, Set, Store}
use Rattle.lq_tree.specs.declared.plain.PFunc.{PFunc}
use Rattle.lq_tree.specs.declared.plain.PProgram.{PProgram}
use Rattle.lq_meaning.proofs.worked.SourceWords.{int, param, struct, struct_at}
use Rattle.lq_meaning.proofs.worked.PlainWords.{bin, branch, cobegin, func, if_else, named, num, program, stmt, unnamed}
use Rattle.lq_templates.specs.declared.condition.Given.{Given}
use Rattle.lq_templates.specs.declared.condition.Rule.TheVariants.{BoundsHigh, BoundsLow, Effect, Fold, Input, Join}
use Rattle.lq_templates.specs.Classes.{ClassOf}
use Rattle.lq_templates.proofs.AccessSets.{rounds}
use Rattle.lq_templates.proofs.worked.Words.{classes}
use Rattle.lq_conditions.specs.Conditions.{conditions}
use Rattle.lq_conditions.proofs.worked.Words.{goal, num as constant_of, pair, remainder, row, rows, sum, sym}

abbrev joined_tests_main : PFunc
joined_tests_main = func 2 1 (Some (int 0)) "main" 2 (named "in" (int 1) ∷ named "n" (int 0) ∷ named "z" (int 0) ∷ named "w2" (int 2) ∷ named "q3" (int 1) ∷ unnamed (int 0) ∷ unnamed (int 0) ∷ unnamed (int 0) ∷ unnamed (int 0) ∷ named "q4" (int 1) ∷ named "x5" (int 0) ∷ unnamed (int 0) ∷ named "a6" (int 1) ∷ unnamed (int 0) ∷ named "q7" (struct "S" 1) ∷ named "k" (int 0) ∷ unnamed (int 0) ∷ unnamed (int 0) ∷ [])
    (stmt 3 3 (if_else (bin Lt (Slot 1) (num 2)) (stmt 3 16 (Return (Some (num 0))) ∷ []) []) ∷ stmt 5 5 (Set 2 (num 1)) ∷ stmt 6 5 (if_else (bin And (bin Ge (bin Rem (Slot 1) (num 3)) (Slot 2)) (bin Le (Slot 1) (Slot 1))) (stmt 7 7 (Print (bin Div (Slot 1) (num 3))) ∷ stmt 8 7 (Return (Some (bin Mul (Slot 1) (num 4)))) ∷ []) (stmt 10 7 (Print (bin Add (num 1) (num 1))) ∷ [])) ∷ stmt 13 3 (Calloc 3 (num 3) (int 1)) ∷ stmt 14 3 (Store 3 (num 1) 0 (Slot 0)) ∷ stmt 15 3 (Load 4 3 (num 0) 0) ∷ stmt 16 3 (cobegin (branch 17 5 (stmt 18 7 (Set 5 (num 0)) ∷ stmt 18 7 (Set 6 (bin Rem (num 1) (num 4))) ∷ stmt 18 7 (Load 7 0 (Slot 1) 0) ∷ stmt 18 7 (if_else (bin Le (Slot 6) (Slot 7)) (stmt 18 7 (Load 8 0 (Slot 1) 0) ∷ stmt 18 7 (Set 5 (bin Ne (bin Gt (Slot 8) (num 3)) (num 0))) ∷ []) []) ∷ stmt 18 7 (if_else (Slot 5) (stmt 19 9 (Set 9 (Slot 0)) ∷ stmt 20 9 (Set 10 (bin Rem (Slot 1) (num 3))) ∷ []) []) ∷ []) ∷ branch 23 5 (stmt 24 7 (Store 0 (Slot 1) 0 (Slot 1)) ∷ []) ∷ [])) ∷ stmt 27 3 (if_else (bin And (bin Le (num 0) (Slot 1)) (bin Lt (Slot 1) (num 4))) (stmt 28 5 (Load 11 0 (Slot 1) 0) ∷ stmt 28 5 (Store 4 (Slot 1) 0 (Slot 11)) ∷ stmt 29 5 (Set 13 (bin Add (num 4) (Slot 1))) ∷ stmt 29 5 (Calloc 12 (Slot 13) (int 0)) ∷ []) []) ∷ stmt 31 3 (if_else (bin And (bin Le (num 0) (Slot 1)) (bin Lt (Slot 1) (num 2))) (stmt 32 5 (Store 0 (Slot 1) 0 (bin Mul (num 3) (num 0))) ∷ stmt 33 5 (Set 14 Null) ∷ []) []) ∷ stmt 35 3 (Foreach 15 (num 0) (num 2) (pos 1) (branch 35 21 (stmt 36 5 (Set 16 (num 1)) ∷ stmt 36 5 (if_else (bin Ge (bin Mul (num 2) (Slot 15)) (bin Add (num 4) (Slot 1))) [] (stmt 36 5 (Load 17 4 (Slot 15) 0) ∷ stmt 36 5 (Set 16 (bin Ne (bin Gt (Slot 17) (num 0)) (num 0))) ∷ [])) ∷ stmt 36 5 (if_else (Slot 16) [] []) ∷ []))) ∷ stmt 39 3 (Return (Some (num 0))) ∷ [])

abbrev pub joined_tests : PProgram
joined_tests = program (struct_at 1 1 "S" (param (int 0) "n" ∷ param (int 1) "data" ∷ param (int 0) "m" ∷ param (struct "S" 1) "next" ∷ []) ∷ []) (joined_tests_main ∷ []) 0 []

abbrev joined_tests_classes : ClassOf
joined_tests_classes = classes ((0, 0, 1) ∷ (0, 3, 2) ∷ (0, 4, 1) ∷ (0, 9, 1) ∷ (0, 12, 3) ∷ (0, 14, 4) ∷ [])

abbrev joined_tests_facts1 : List Given
joined_tests_facts1 = (row ((0, negsuc 0) ∷ []) (pos 0) ∷ row ((0, pos 1) ∷ (1, negsuc 0) ∷ []) (pos 0) ∷ row ((0, negsuc 0) ∷ (1, pos 1) ∷ []) (pos 0) ∷ [])

abbrev joined_tests_facts2 : List Given
joined_tests_facts2 = joined_tests_facts1 ++ (row ((1, negsuc 0) ∷ []) (negsuc 1) ∷ [])

abbrev joined_tests_facts3 : List Given
joined_tests_facts3 = joined_tests_facts2 ++ (row ((2, negsuc 0) ∷ []) (negsuc 0) ∷ row ((2, pos 1) ∷ []) (pos 3) ∷ row ((2, negsuc 0) ∷ []) (negsuc 2) ∷ [])

abbrev joined_tests_facts5 : List Given
joined_tests_facts5 = joined_tests_facts3 ++ (row ((3, negsuc 0) ∷ []) (pos 0) ∷ row ((4, negsuc 0) ∷ []) (pos 0) ∷ rows 2 (sym 4 ∷ sym 3 ∷ []) ∷ [])

abbrev joined_tests_facts9 : List Given
joined_tests_facts9 = joined_tests_facts5 ++ (row ((5, negsuc 0) ∷ []) (pos 0) ∷ row ((6, negsuc 0) ∷ []) (pos 0) ∷ rows 2 (sym 6 ∷ sym 5 ∷ []) ∷ [])

abbrev joined_tests_facts11 : List Given
joined_tests_facts11 = joined_tests_facts9 ++ (remainder 7 (constant_of 1) (pos 4) ∷ [])

abbrev joined_tests_facts13 : List Given
joined_tests_facts13 = joined_tests_facts11 ++ (rows 1 (sym 8 ∷ []) ∷ [])

abbrev joined_tests_facts15 : List Given
joined_tests_facts15 = joined_tests_facts13 ++ (row ((7, pos 1) ∷ (8, negsuc 0) ∷ []) (pos 0) ∷ [])

abbrev joined_tests_facts21 : List Given
joined_tests_facts21 = joined_tests_facts13 ++ (row ((7, negsuc 0) ∷ (8, pos 1) ∷ []) (negsuc 0) ∷ [])

abbrev joined_tests_facts25 : List Given
joined_tests_facts25 = joined_tests_facts9 ++ (rows 1 (sym 7 ∷ []) ∷ [])

abbrev joined_tests_facts28 : List Given
joined_tests_facts28 = joined_tests_facts9 ++ (rows 9 (sym 7 ∷ constant_of 0 ∷ sym 0 ∷ sym 1 ∷ constant_of 1 ∷ constant_of 0 ∷ sym 2 ∷ sym 6 ∷ sym 5 ∷ []) ∷ rows 11 (sym 7 ∷ constant_of 0 ∷ sym 0 ∷ sym 1 ∷ constant_of 1 ∷ constant_of 0 ∷ sym 2 ∷ sym 6 ∷ sym 5 ∷ []) ∷ [])

abbrev joined_tests_facts29 : List Given
joined_tests_facts29 = joined_tests_facts9 ++ (row ((1, negsuc 0) ∷ []) (pos 0) ∷ row ((1, pos 1) ∷ []) (pos 3) ∷ [])

abbrev joined_tests_facts31 : List Given
joined_tests_facts31 = joined_tests_facts29 ++ (rows 1 (sym 7 ∷ []) ∷ [])

abbrev joined_tests_facts35 : List Given
joined_tests_facts35 = joined_tests_facts31 ++ (rows 1 (sym 8 ∷ []) ∷ [])

abbrev joined_tests_facts37 : List Given
joined_tests_facts37 = joined_tests_facts35 ++ (row ((9, negsuc 0) ∷ []) (negsuc 0) ∷ row ((1, negsuc 0) ∷ (9, pos 1) ∷ []) (pos 4) ∷ row ((1, pos 1) ∷ (9, negsuc 0) ∷ []) (negsuc 3) ∷ [])

abbrev joined_tests_facts38 : List Given
joined_tests_facts38 = joined_tests_facts9 ++ (row ((1, negsuc 0) ∷ []) (pos 0) ∷ row ((1, pos 1) ∷ []) (pos 1) ∷ [])

abbrev joined_tests_facts40 : List Given
joined_tests_facts40 = joined_tests_facts38 ++ (rows 1 (sym 7 ∷ []) ∷ [])

abbrev joined_tests_facts41 : List Given
joined_tests_facts41 = joined_tests_facts40 ++ (row ((8, negsuc 0) ∷ []) (pos 0) ∷ row ((8, pos 1) ∷ []) (pos 0) ∷ [])

abbrev joined_tests_facts42 : List Given
joined_tests_facts42 = joined_tests_facts9 ++ (row ((7, negsuc 0) ∷ []) (pos 0) ∷ row ((7, pos 1) ∷ []) (pos 1) ∷ row ((1, pos 1) ∷ (7, negsuc 1) ∷ []) (negsuc 3) ∷ [])

abbrev joined_tests_facts43 : List Given
joined_tests_facts43 = joined_tests_facts9 ++ (row ((7, negsuc 0) ∷ []) (pos 0) ∷ row ((7, pos 1) ∷ []) (pos 1) ∷ row ((1, negsuc 0) ∷ (7, pos 2) ∷ []) (pos 3) ∷ [])

abbrev joined_tests_facts45 : List Given
joined_tests_facts45 = joined_tests_facts43 ++ (rows 1 (sym 8 ∷ []) ∷ [])

-- all conditions, in their order
joined-tests-conditions : (conditions joined_tests joined_tests_classes (rounds joined_tests joined_tests_classes 1)).list ≡
    goal Input 2 1 joined_tests_facts1 (rows 1 (sym 2 ∷ [])) ∷ goal Fold 13 3 joined_tests_facts2 (rows 2 (constant_of 0 ∷ constant_of 0 ∷ [])) ∷ goal BoundsLow 14 3 joined_tests_facts3 (row [] (pos 1)) ∷ goal BoundsHigh 14 3 joined_tests_facts3 (row ((2, negsuc 0) ∷ []) (negsuc 1)) ∷ goal Effect 14 3 joined_tests_facts5 (rows 8 (constant_of 1 ∷ constant_of 0 ∷ sym 0 ∷ sym 1 ∷ [])) ∷ goal BoundsLow 15 3 joined_tests_facts5 (row [] (pos 0)) ∷ goal BoundsHigh 15 3 joined_tests_facts5 (row ((2, negsuc 0) ∷ []) (negsuc 0)) ∷ goal Fold 15 3 joined_tests_facts5 (rows 2 (constant_of 0 ∷ sym 0 ∷ [])) ∷ goal Effect 15 3 joined_tests_facts9 (rows 7 (constant_of 0 ∷ constant_of 0 ∷ sym 0 ∷ sym 1 ∷ [])) ∷ goal Fold 16 3 joined_tests_facts9 (rows 2 (sym 6 ∷ sym 5 ∷ [])) ∷ goal BoundsLow 18 7 joined_tests_facts11 (row ((1, negsuc 0) ∷ []) (pos 0)) ∷ goal BoundsHigh 18 7 joined_tests_facts11 (row ((0, negsuc 0) ∷ (1, pos 1) ∷ []) (negsuc 0)) ∷ goal Effect 18 7 joined_tests_facts13 (rows 9 (sym 1 ∷ constant_of 0 ∷ sym 0 ∷ sym 1 ∷ constant_of 1 ∷ constant_of 0 ∷ sym 2 ∷ sym 6 ∷ sym 5 ∷ [])) ∷ goal Effect 18 7 joined_tests_facts13 (rows 5 (sym 1 ∷ constant_of 0 ∷ sym 0 ∷ sym 1 ∷ [])) ∷ goal BoundsLow 18 7 joined_tests_facts15 (row ((1, negsuc 0) ∷ []) (pos 0)) ∷ goal BoundsHigh 18 7 joined_tests_facts15 (row ((0, negsuc 0) ∷ (1, pos 1) ∷ []) (negsuc 0)) ∷ goal Effect 18 7 joined_tests_facts15 (rows 9 (sym 1 ∷ constant_of 0 ∷ sym 0 ∷ sym 1 ∷ constant_of 1 ∷ constant_of 0 ∷ sym 2 ∷ sym 6 ∷ sym 5 ∷ [])) ∷ goal Effect 18 7 joined_tests_facts15 (rows 5 (sym 1 ∷ constant_of 0 ∷ sym 0 ∷ sym 1 ∷ [])) ∷ goal Fold 18 7 joined_tests_facts15 (rows 1 (sym 8 ∷ [])) ∷ goal Join 18 7 joined_tests_facts15 (rows 10 (constant_of 0 ∷ sym 0 ∷ sym 1 ∷ constant_of 1 ∷ constant_of 0 ∷ sym 2 ∷ sym 6 ∷ sym 5 ∷ [])) ∷ goal Fold 18 7 joined_tests_facts21 (rows 1 (sym 8 ∷ [])) ∷ goal Join 18 7 joined_tests_facts21 (rows 10 (constant_of 0 ∷ sym 0 ∷ sym 1 ∷ constant_of 1 ∷ constant_of 0 ∷ sym 2 ∷ sym 6 ∷ sym 5 ∷ [])) ∷ goal BoundsLow 24 7 joined_tests_facts9 (row ((1, negsuc 0) ∷ []) (pos 0)) ∷ goal BoundsHigh 24 7 joined_tests_facts9 (row ((0, negsuc 0) ∷ (1, pos 1) ∷ []) (negsuc 0)) ∷ goal Effect 24 7 joined_tests_facts25 (rows 11 (sym 1 ∷ constant_of 0 ∷ sym 0 ∷ sym 1 ∷ constant_of 1 ∷ constant_of 0 ∷ sym 2 ∷ sym 6 ∷ sym 5 ∷ [])) ∷ goal Effect 24 7 joined_tests_facts25 (rows 6 (sym 1 ∷ constant_of 0 ∷ sym 0 ∷ sym 1 ∷ [])) ∷ goal Fold 23 5 joined_tests_facts25 (rows 1 (sym 1 ∷ [])) ∷ pair 16 3 17 5 23 5 1 false true 0 0 joined_tests_facts28 ∷ goal BoundsLow 28 5 joined_tests_facts29 (row ((1, negsuc 0) ∷ []) (pos 0)) ∷ goal BoundsHigh 28 5 joined_tests_facts29 (row ((0, negsuc 0) ∷ (1, pos 1) ∷ []) (negsuc 0)) ∷ goal Effect 28 5 joined_tests_facts31 (rows 5 (sym 1 ∷ constant_of 0 ∷ sym 0 ∷ sym 1 ∷ [])) ∷ goal BoundsLow 28 5 joined_tests_facts31 (row ((1, negsuc 0) ∷ (6, negsuc 0) ∷ []) (pos 0)) ∷ goal BoundsHigh 28 5 joined_tests_facts31 (row ((1, pos 1) ∷ (5, negsuc 0) ∷ (6, pos 1) ∷ []) (negsuc 0)) ∷ goal Fold 28 5 joined_tests_facts31 (rows 1 (sym 7 ∷ [])) ∷ goal Effect 28 5 joined_tests_facts35 (rows 6 (sum ((1, pos 1) ∷ (6, pos 1) ∷ []) (pos 0) ∷ constant_of 0 ∷ sym 0 ∷ sym 1 ∷ [])) ∷ goal Fold 29 5 joined_tests_facts35 (rows 3 (constant_of 0 ∷ [])) ∷ goal Fold 27 3 joined_tests_facts37 (rows 1 (sym 7 ∷ [])) ∷ goal BoundsLow 32 5 joined_tests_facts38 (row ((1, negsuc 0) ∷ []) (pos 0)) ∷ goal BoundsHigh 32 5 joined_tests_facts38 (row ((0, negsuc 0) ∷ (1, pos 1) ∷ []) (negsuc 0)) ∷ goal Effect 32 5 joined_tests_facts40 (rows 6 (sym 1 ∷ constant_of 0 ∷ sym 0 ∷ sym 1 ∷ [])) ∷ goal Fold 31 3 joined_tests_facts41 (rows 1 (constant_of 0 ∷ [])) ∷ goal Join 36 5 joined_tests_facts42 (rows 13 (constant_of 0 ∷ sym 0 ∷ sym 1 ∷ constant_of 1 ∷ constant_of 0 ∷ sym 2 ∷ sym 6 ∷ sym 5 ∷ sym 7 ∷ [])) ∷ goal BoundsLow 36 5 joined_tests_facts43 (row ((6, negsuc 0) ∷ (7, negsuc 0) ∷ []) (pos 0)) ∷ goal BoundsHigh 36 5 joined_tests_facts43 (row ((5, negsuc 0) ∷ (6, pos 1) ∷ (7, pos 1) ∷ []) (negsuc 0)) ∷ goal Effect 36 5 joined_tests_facts45 (rows 12 (sum ((6, pos 1) ∷ (7, pos 1) ∷ []) (pos 0) ∷ constant_of 0 ∷ sym 0 ∷ sym 1 ∷ constant_of 1 ∷ constant_of 0 ∷ sym 2 ∷ sym 6 ∷ sym 5 ∷ sym 7 ∷ [])) ∷ goal Effect 36 5 joined_tests_facts45 (rows 5 (sum ((6, pos 1) ∷ (7, pos 1) ∷ []) (pos 0) ∷ constant_of 0 ∷ sym 0 ∷ sym 1 ∷ [])) ∷ goal Fold 36 5 joined_tests_facts45 (rows 1 (sym 8 ∷ [])) ∷ goal Join 36 5 joined_tests_facts45 (rows 13 (constant_of 0 ∷ sym 0 ∷ sym 1 ∷ constant_of 1 ∷ constant_of 0 ∷ sym 2 ∷ sym 6 ∷ sym 5 ∷ sym 7 ∷ [])) ∷ []
joined-tests-conditions = refl
