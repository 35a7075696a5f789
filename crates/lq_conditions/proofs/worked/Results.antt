-- Calls with results, and an If neither of whose lists lives.
use Rattle.std.proofs.Common.{◌≡◌, refl}
use Rattle.std.specs.Prelude.{List, [], ◌∷◌, pos, negsuc, Some, ◌++◌}
use Rattle.lq_tree.specs.declared.expr.BinOp.TheVariants.{Add, And, Ge, Gt, Le, Lt, Mul, Rem, Sub}
use Rattle.lq_tree.specs.declared.plain.PExpr.{Null, Slot}
use Rattle.lq_tree.specs.declared.plain.PKind.{Call, Calloc, Foreach, Load, Return, Set, Store}
use Rattle.lq_tree.specs.declared.plain.PFunc.{PFunc}
use Rattle.lq_tree.specs.declared.plain.PProgram.{PProgram}
use Rattle.lq_meaning.proofs.worked.SourceWords.{int, param, struct, struct_at}
use Rattle.lq_meaning.proofs.worked.PlainWords.{bin, branch, func, if_else, named, num, program, stmt, unnamed}
use Rattle.lq_templates.specs.declared.condition.Given.{Given}
use Rattle.lq_templates.specs.declared.condition.Rule.TheVariants.{BoundsHigh, BoundsLow, Effect, Fold, Input, Post, Pre}
use Rattle.lq_templates.specs.Classes.{ClassOf}
use Rattle.lq_templates.proofs.AccessSets.{rounds}
use Rattle.lq_templates.proofs.worked.Words.{classes}
use Rattle.lq_conditions.specs.Conditions.{conditions}
use Rattle.lq_conditions.proofs.worked.Words.{goal, num as constant_of, remainder, row, rows, sum, sym}

abbrev results_f1 : PFunc
results_f1 = func 2 1 (Some (int 0)) "f1" 4 (named "n2" (int 0) ∷ named "s3" (struct "S" 1) ∷ named "n4" (int 0) ∷ named "n5" (int 0) ∷ named "a6" (int 1) ∷ [])
    (stmt 3 3 (Calloc 4 (num 4) (int 0)) ∷ stmt 4 3 (Return (Some (Slot 2))) ∷ [])

abbrev results_main : PFunc
results_main = func 6 1 (Some (int 0)) "main" 2 (named "in" (int 1) ∷ named "n" (int 0) ∷ named "v7" (struct "S" 1) ∷ named "i8" (int 0) ∷ named "c9" (int 0) ∷ unnamed (int 0) ∷ unnamed (int 0) ∷ unnamed (int 0) ∷ named "c10" (int 0) ∷ unnamed (int 0) ∷ unnamed (int 0) ∷ unnamed (int 0) ∷ named "c11" (int 0) ∷ unnamed (int 0) ∷ [])
    (stmt 7 3 (if_else (bin And (bin Le (num 0) (Slot 1)) (bin Lt (Slot 1) (Slot 1))) (stmt 8 5 (Store 0 (Slot 1) 0 (Slot 1)) ∷ stmt 9 5 (Calloc 2 (num 1) (struct "S" 0)) ∷ []) []) ∷ stmt 11 3 (Foreach 3 (num 0) (num 2) (pos 1) (branch 11 22 [])) ∷ stmt 14 3 (if_else (bin And (bin Gt (Slot 1) (num 5)) (bin Ge (bin Add (Slot 1) (Slot 1)) (Slot 1))) (stmt 15 5 (Set 5 (bin Rem (Slot 1) (num 2))) ∷ stmt 15 5 (Set 6 (bin Add (Slot 1) (Slot 1))) ∷ stmt 15 5 (Call (Some 4) 0 ((Slot 5) ∷ Null ∷ (Slot 6) ∷ (Slot 1) ∷ [])) ∷ stmt 16 5 (Load 7 0 (num 2) 0) ∷ stmt 16 5 (Return (Some (Slot 7))) ∷ []) (stmt 18 5 (Set 9 (bin Sub (Slot 1) (Slot 1))) ∷ stmt 18 5 (Set 10 (bin Add (num 0) (num 0))) ∷ stmt 18 5 (Set 11 (bin Mul (num 3) (Slot 1))) ∷ stmt 18 5 (Call (Some 8) 0 ((Slot 9) ∷ Null ∷ (Slot 10) ∷ (Slot 11) ∷ [])) ∷ stmt 19 5 (Set 13 (bin Rem (Slot 1) (num 3))) ∷ stmt 19 5 (Call (Some 12) 0 ((Slot 1) ∷ Null ∷ (Slot 13) ∷ (Slot 1) ∷ [])) ∷ stmt 20 5 (Return (Some (Slot 1))) ∷ [])) ∷ stmt 22 3 (Store 0 (Slot 1) 0 (num 5)) ∷ stmt 23 3 (Return (Some (num 0))) ∷ [])

abbrev pub results : PProgram
results = program (struct_at 1 1 "S" (param (int 0) "n" ∷ param (int 1) "data" ∷ param (int 0) "m" ∷ param (struct "S" 1) "next" ∷ []) ∷ []) (results_f1 ∷ results_main ∷ []) 1 []

abbrev results_classes : ClassOf
results_classes = classes ((0, 1, 1) ∷ (0, 4, 2) ∷ (1, 0, 3) ∷ (1, 2, 4) ∷ [])

abbrev results_facts1 : List Given
results_facts1 = (row ((1, negsuc 0) ∷ []) (pos 0) ∷ row ((2, negsuc 0) ∷ []) (pos 0) ∷ rows 5 (sym 0 ∷ sym 2 ∷ sym 1 ∷ sym 3 ∷ sym 4 ∷ []) ∷ [])

abbrev results_facts2 : List Given
results_facts2 = results_facts1 ++ (row ((5, negsuc 0) ∷ []) (negsuc 0) ∷ row ((5, pos 1) ∷ []) (pos 4) ∷ row ((5, negsuc 0) ∷ []) (negsuc 3) ∷ [])

abbrev results_facts3 : List Given
results_facts3 = (row ((0, negsuc 0) ∷ []) (pos 0) ∷ row ((0, pos 1) ∷ (1, negsuc 0) ∷ []) (pos 0) ∷ row ((0, negsuc 0) ∷ (1, pos 1) ∷ []) (pos 0) ∷ [])

abbrev results_facts4 : List Given
results_facts4 = results_facts3 ++ (row ((1, negsuc 0) ∷ []) (pos 0) ∷ row [] (negsuc 0) ∷ [])

abbrev results_facts6 : List Given
results_facts6 = results_facts4 ++ (rows 3 (sym 2 ∷ []) ∷ [])

abbrev results_facts8 : List Given
results_facts8 = results_facts6 ++ (row ((3, negsuc 0) ∷ []) (negsuc 0) ∷ row ((3, pos 1) ∷ []) (pos 1) ∷ row ((3, negsuc 0) ∷ []) (negsuc 0) ∷ [])

abbrev results_facts9 : List Given
results_facts9 = results_facts3 ++ (row ((1, negsuc 0) ∷ []) (negsuc 5) ∷ row ((1, negsuc 0) ∷ []) (pos 0) ∷ remainder 2 (sym 1) (pos 2) ∷ row ((3, negsuc 0) ∷ []) (pos 0) ∷ row ((3, pos 1) ∷ []) (pos 0) ∷ [])

abbrev results_facts10 : List Given
results_facts10 = results_facts9 ++ (rows 6 (sym 2 ∷ constant_of 0 ∷ sym 3 ∷ sum ((1, pos 2) ∷ []) (pos 0) ∷ sym 1 ∷ sym 4 ∷ []) ∷ [])

abbrev results_facts12 : List Given
results_facts12 = results_facts10 ++ (rows 3 (sym 5 ∷ []) ∷ [])

abbrev results_facts14 : List Given
results_facts14 = results_facts3 ++ (row ((2, negsuc 0) ∷ []) (pos 0) ∷ row ((2, pos 1) ∷ []) (pos 0) ∷ [])

abbrev results_facts15 : List Given
results_facts15 = results_facts14 ++ (rows 6 (constant_of 0 ∷ constant_of 0 ∷ sym 2 ∷ constant_of 0 ∷ sum ((1, pos 3) ∷ []) (pos 0) ∷ sym 3 ∷ []) ∷ remainder 4 (sym 1) (pos 3) ∷ row ((5, negsuc 0) ∷ []) (pos 0) ∷ row ((5, pos 1) ∷ []) (pos 0) ∷ [])

-- all conditions, in their order
results-conditions : (conditions results results_classes (rounds results results_classes 2)).list ≡
    goal Fold 3 3 results_facts1 (rows 2 (constant_of 0 ∷ [])) ∷ goal Post 4 3 results_facts2 (rows 6 (sym 0 ∷ sym 2 ∷ sym 1 ∷ sym 3 ∷ sym 4 ∷ sym 3 ∷ [])) ∷ goal Input 6 1 results_facts3 (rows 3 (sym 2 ∷ [])) ∷ goal BoundsLow 8 5 results_facts4 (row ((1, negsuc 0) ∷ []) (pos 0)) ∷ goal BoundsHigh 8 5 results_facts4 (row ((0, negsuc 0) ∷ (1, pos 1) ∷ []) (negsuc 0)) ∷ goal Effect 8 5 results_facts6 (rows 8 (sym 1 ∷ constant_of 0 ∷ sym 0 ∷ sym 1 ∷ [])) ∷ goal Fold 9 5 results_facts6 (rows 4 (constant_of 0 ∷ constant_of 0 ∷ constant_of 0 ∷ constant_of 0 ∷ constant_of 0 ∷ constant_of 0 ∷ [])) ∷ goal Fold 7 3 results_facts8 (rows 3 (sym 1 ∷ [])) ∷ goal Pre 15 5 results_facts9 (rows 5 (sym 2 ∷ constant_of 0 ∷ sym 3 ∷ sum ((1, pos 2) ∷ []) (pos 0) ∷ sym 1 ∷ [])) ∷ goal BoundsLow 16 5 results_facts10 (row [] (pos 2)) ∷ goal BoundsHigh 16 5 results_facts10 (row ((0, negsuc 0) ∷ []) (negsuc 2)) ∷ goal Effect 16 5 results_facts12 (rows 7 (constant_of 2 ∷ constant_of 0 ∷ sym 0 ∷ sym 1 ∷ [])) ∷ goal Fold 16 5 results_facts12 (rows 3 (sym 5 ∷ [])) ∷ goal Pre 18 5 results_facts14 (rows 5 (constant_of 0 ∷ constant_of 0 ∷ sym 2 ∷ constant_of 0 ∷ sum ((1, pos 3) ∷ []) (pos 0) ∷ [])) ∷ goal Pre 19 5 results_facts15 (rows 5 (sym 1 ∷ constant_of 0 ∷ sym 5 ∷ sym 4 ∷ sym 1 ∷ [])) ∷ []
results-conditions = refl
