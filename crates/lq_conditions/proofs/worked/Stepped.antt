-- A `foreach` with a step, and a pointer that a call gives and nobody takes.
use Rattle.std.proofs.Common.{◌≡◌, refl}
use Rattle.std.specs.Prelude.{List, [], ◌∷◌, pos, negsuc, None, Some, true, ◌++◌}
use Rattle.lq_tree.specs.declared.expr.BinOp.TheVariants.{Add, Lt, Mul}
use Rattle.lq_tree.specs.declared.plain.PExpr.{Slot}
use Rattle.lq_tree.specs.declared.plain.PKind.{Call, Foreach, Return, Store}
use Rattle.lq_tree.specs.declared.plain.PFunc.{PFunc}
use Rattle.lq_tree.specs.declared.plain.PProgram.{PProgram}
use Rattle.lq_meaning.proofs.worked.SourceWords.{int, param, struct, struct_at}
use Rattle.lq_meaning.proofs.worked.PlainWords.{bin, branch, func, if_else, named, num, program, stmt}
use Rattle.lq_templates.specs.declared.condition.Given.{Given}
use Rattle.lq_templates.specs.declared.condition.Rule.TheVariants.{BoundsHigh, BoundsLow, Effect, Fold, Input, Post, Pre}
use Rattle.lq_templates.specs.Classes.{ClassOf}
use Rattle.lq_templates.proofs.AccessSets.{rounds}
use Rattle.lq_templates.proofs.worked.Words.{classes}
use Rattle.lq_conditions.specs.Conditions.{conditions}
use Rattle.lq_conditions.proofs.worked.Words.{goal, num as constant_of, pair, row, rows, sum, sym}

abbrev stepped_f1 : PFunc
stepped_f1 = func 2 1 (Some (int 1)) "f1" 2 (named "n2" (int 0) ∷ named "p3" (int 1) ∷ [])
    (stmt 3 3 (Store 1 (num 2) 0 (num 2)) ∷ stmt 4 3 (Return (Some (Slot 1))) ∷ [])

abbrev stepped_main : PFunc
stepped_main = func 6 1 (Some (int 0)) "main" 2 (named "in" (int 1) ∷ named "n" (int 0) ∷ named "i4" (int 0) ∷ [])
    (stmt 7 3 (if_else (bin Lt (Slot 1) (num 4)) (stmt 7 16 (Return (Some (num 0))) ∷ []) []) ∷ stmt 8 3 (Store 0 (num 2) 0 (bin Add (Slot 1) (num 1))) ∷ stmt 9 3 (Call None 0 ((Slot 1) ∷ (Slot 0) ∷ [])) ∷ stmt 10 3 (Foreach 2 (num 0) (num 3) (pos 2) (branch 10 25 (stmt 11 5 (Store 0 (bin Mul (num 2) (Slot 2)) 0 (num 1)) ∷ []))) ∷ stmt 13 3 (Return (Some (num 0))) ∷ [])

abbrev pub stepped : PProgram
stepped = program (struct_at 1 1 "S" (param (int 0) "n" ∷ param (int 1) "data" ∷ param (int 0) "m" ∷ param (struct "S" 1) "next" ∷ []) ∷ []) (stepped_f1 ∷ stepped_main ∷ []) 1 []

abbrev stepped_classes : ClassOf
stepped_classes = classes ((0, 1, 1) ∷ (0, 2, 1) ∷ (1, 0, 1) ∷ [])

abbrev stepped_facts1 : List Given
stepped_facts1 = (row ((1, negsuc 0) ∷ []) (pos 0) ∷ row ((2, negsuc 0) ∷ []) (pos 0) ∷ rows 2 (sym 0 ∷ sym 2 ∷ sym 1 ∷ []) ∷ [])

abbrev stepped_facts3 : List Given
stepped_facts3 = stepped_facts1 ++ (rows 1 (sym 3 ∷ []) ∷ [])

abbrev stepped_facts6 : List Given
stepped_facts6 = (row ((0, negsuc 0) ∷ []) (pos 0) ∷ row ((0, pos 1) ∷ (1, negsuc 0) ∷ []) (pos 0) ∷ row ((0, negsuc 0) ∷ (1, pos 1) ∷ []) (pos 0) ∷ [])

abbrev stepped_facts7 : List Given
stepped_facts7 = stepped_facts6 ++ (row ((1, negsuc 0) ∷ []) (negsuc 3) ∷ [])

abbrev stepped_facts9 : List Given
stepped_facts9 = stepped_facts7 ++ (rows 1 (sym 2 ∷ []) ∷ [])

abbrev stepped_facts12 : List Given
stepped_facts12 = stepped_facts9 ++ (rows 4 (sym 3 ∷ sym 1 ∷ constant_of 0 ∷ sym 0 ∷ []) ∷ [])

abbrev stepped_facts13 : List Given
stepped_facts13 = stepped_facts9 ++ (row ((3, negsuc 0) ∷ []) (pos 0) ∷ row ((4, negsuc 0) ∷ []) (pos 0) ∷ rows 3 (sym 1 ∷ constant_of 0 ∷ sym 0 ∷ sym 4 ∷ sym 3 ∷ []) ∷ row ((5, negsuc 0) ∷ []) (pos 0) ∷ row ((5, pos 1) ∷ []) (pos 2) ∷ [])

abbrev stepped_facts15 : List Given
stepped_facts15 = stepped_facts13 ++ (rows 1 (sym 6 ∷ []) ∷ [])

abbrev stepped_facts18 : List Given
stepped_facts18 = stepped_facts9 ++ (row ((3, negsuc 0) ∷ []) (pos 0) ∷ row ((4, negsuc 0) ∷ []) (pos 0) ∷ rows 3 (sym 1 ∷ constant_of 0 ∷ sym 0 ∷ sym 4 ∷ sym 3 ∷ []) ∷ row ((5, negsuc 0) ∷ []) (pos 0) ∷ row ((5, pos 1) ∷ (6, negsuc 0) ∷ []) (negsuc 1) ∷ row ((6, pos 1) ∷ []) (pos 2) ∷ rows 6 (sym 7 ∷ constant_of 0 ∷ sym 0 ∷ sym 1 ∷ sym 5 ∷ []) ∷ rows 6 (sym 7 ∷ constant_of 0 ∷ sym 0 ∷ sym 1 ∷ sym 6 ∷ []) ∷ [])

-- all conditions, in their order
stepped-conditions : (conditions stepped stepped_classes (rounds stepped stepped_classes 2)).list ≡
    goal BoundsLow 3 3 stepped_facts1 (row ((2, negsuc 0) ∷ []) (pos 2)) ∷ goal BoundsHigh 3 3 stepped_facts1 (row ((1, negsuc 0) ∷ (2, pos 1) ∷ []) (negsuc 2)) ∷ goal Effect 3 3 stepped_facts3 (rows 4 (sum ((2, pos 1) ∷ []) (pos 2) ∷ sym 0 ∷ sym 2 ∷ sym 1 ∷ [])) ∷ goal Fold 4 3 stepped_facts3 (rows 1 (constant_of 2 ∷ [])) ∷ goal Post 4 3 stepped_facts3 (rows 3 (sym 0 ∷ sym 2 ∷ sym 1 ∷ sym 2 ∷ sym 1 ∷ [])) ∷ goal Input 6 1 stepped_facts6 (rows 1 (sym 2 ∷ [])) ∷ goal BoundsLow 8 3 stepped_facts7 (row [] (pos 2)) ∷ goal BoundsHigh 8 3 stepped_facts7 (row ((0, negsuc 0) ∷ []) (negsuc 2)) ∷ goal Effect 8 3 stepped_facts9 (rows 5 (constant_of 2 ∷ constant_of 0 ∷ sym 0 ∷ sym 1 ∷ [])) ∷ goal Fold 9 3 stepped_facts9 (rows 1 (sum ((1, pos 1) ∷ []) (pos 1) ∷ [])) ∷ goal Pre 9 3 stepped_facts9 (rows 2 (sym 1 ∷ constant_of 0 ∷ sym 0 ∷ [])) ∷ goal Effect 9 3 stepped_facts12 (rows 5 (sym 3 ∷ constant_of 0 ∷ sym 0 ∷ sym 1 ∷ [])) ∷ goal BoundsLow 11 5 stepped_facts13 (row ((5, negsuc 1) ∷ []) (pos 0)) ∷ goal BoundsHigh 11 5 stepped_facts13 (row ((0, negsuc 0) ∷ (5, pos 2) ∷ []) (negsuc 0)) ∷ goal Effect 11 5 stepped_facts15 (rows 6 (sum ((5, pos 2) ∷ []) (pos 0) ∷ constant_of 0 ∷ sym 0 ∷ sym 1 ∷ sym 5 ∷ [])) ∷ goal Effect 11 5 stepped_facts15 (rows 5 (sum ((5, pos 2) ∷ []) (pos 0) ∷ constant_of 0 ∷ sym 0 ∷ sym 1 ∷ [])) ∷ goal Fold 10 25 stepped_facts15 (rows 1 (constant_of 1 ∷ [])) ∷ pair 10 3 10 25 10 25 1 true true 0 0 stepped_facts18 ∷ []
stepped-conditions = refl
