-- The conditions of a program that tests four sides with `&&`.
use Rattle.std.proofs.Common.{◌≡◌, refl}
use Rattle.std.specs.Prelude.{List, [], ◌∷◌, pos, negsuc, Some, ◌++◌}
use Rattle.lq_tree.specs.declared.expr.BinOp.TheVariants.{And, Le, Lt}
use Rattle.lq_tree.specs.declared.plain.PExpr.{Slot}
use Rattle.lq_tree.specs.declared.plain.PKind.{Load, Print, Return}
use Rattle.lq_tree.specs.declared.plain.PFunc.{PFunc}
use Rattle.lq_tree.specs.declared.plain.PProgram.{PProgram}
use Rattle.lq_meaning.proofs.worked.SourceWords.{int}
use Rattle.lq_meaning.proofs.worked.PlainWords.{bin, func, if_else, named, num, program, stmt, unnamed}
use Rattle.lq_templates.specs.declared.condition.Given.{Given}
use Rattle.lq_templates.specs.declared.condition.Rule.TheVariants.{BoundsHigh, BoundsLow, Effect, Fold, Input}
use Rattle.lq_templates.specs.Classes.{ClassOf}
use Rattle.lq_templates.proofs.AccessSets.{rounds}
use Rattle.lq_templates.proofs.worked.Words.{classes}
use Rattle.lq_conditions.specs.Conditions.{conditions}
use Rattle.lq_conditions.proofs.worked.Words.{goal, num as constant_of, row, rows, sym}

abbrev four_facts_main : PFunc
four_facts_main = func 1 1 (Some (int 0)) "main" 2 (named "in" (int 1) ∷ named "n" (int 0) ∷ named "x" (int 0) ∷ named "y" (int 0) ∷ named "z" (int 0) ∷ unnamed (int 0) ∷ [])
    (stmt 2 3 (if_else (bin Lt (Slot 1) (num 3)) (stmt 2 16 (Return (Some (num 0))) ∷ []) []) ∷ stmt 3 3 (Load 2 0 (num 0) 0) ∷ stmt 4 3 (Load 3 0 (num 1) 0) ∷ stmt 5 3 (Load 4 0 (num 2) 0) ∷ stmt 6 3 (if_else (bin And (bin And (bin And (bin Le (num 0) (Slot 2)) (bin Lt (Slot 2) (Slot 3))) (bin Lt (Slot 3) (Slot 4))) (bin Lt (Slot 4) (Slot 1))) (stmt 6 44 (Load 5 0 (Slot 2) 0) ∷ stmt 6 44 (Print (Slot 5)) ∷ []) []) ∷ stmt 7 3 (Return (Some (num 0))) ∷ [])

abbrev pub four_facts : PProgram
four_facts = program [] (four_facts_main ∷ []) 0 []

abbrev four_facts_classes : ClassOf
four_facts_classes = classes ((0, 0, 1) ∷ [])

abbrev four_facts_facts1 : List Given
four_facts_facts1 = (row ((0, negsuc 0) ∷ []) (pos 0) ∷ row ((0, pos 1) ∷ (1, negsuc 0) ∷ []) (pos 0) ∷ row ((0, negsuc 0) ∷ (1, pos 1) ∷ []) (pos 0) ∷ [])

abbrev four_facts_facts2 : List Given
four_facts_facts2 = four_facts_facts1 ++ (row ((1, negsuc 0) ∷ []) (negsuc 2) ∷ [])

abbrev four_facts_facts4 : List Given
four_facts_facts4 = four_facts_facts2 ++ (rows 1 (sym 2 ∷ []) ∷ [])

abbrev four_facts_facts8 : List Given
four_facts_facts8 = four_facts_facts4 ++ (rows 1 (sym 3 ∷ []) ∷ [])

abbrev four_facts_facts12 : List Given
four_facts_facts12 = four_facts_facts8 ++ (rows 1 (sym 4 ∷ []) ∷ [])

abbrev four_facts_facts13 : List Given
four_facts_facts13 = four_facts_facts12 ++ (row ((2, negsuc 0) ∷ []) (pos 0) ∷ row ((2, pos 1) ∷ (3, negsuc 0) ∷ []) (negsuc 0) ∷ row ((3, pos 1) ∷ (4, negsuc 0) ∷ []) (negsuc 0) ∷ row ((1, negsuc 0) ∷ (4, pos 1) ∷ []) (negsuc 0) ∷ [])

abbrev four_facts_facts16 : List Given
four_facts_facts16 = four_facts_facts13 ++ (rows 1 (sym 5 ∷ []) ∷ [])

-- all conditions, in their order
four-facts-conditions : (conditions four_facts four_facts_classes (rounds four_facts four_facts_classes 1)).list ≡
    goal Input 1 1 four_facts_facts1 (rows 1 (sym 2 ∷ [])) ∷ goal BoundsLow 3 3 four_facts_facts2 (row [] (pos 0)) ∷ goal BoundsHigh 3 3 four_facts_facts2 (row ((0, negsuc 0) ∷ []) (negsuc 0)) ∷ goal Effect 3 3 four_facts_facts4 (rows 2 (constant_of 0 ∷ constant_of 0 ∷ sym 0 ∷ sym 1 ∷ [])) ∷ goal BoundsLow 4 3 four_facts_facts4 (row [] (pos 1)) ∷ goal BoundsHigh 4 3 four_facts_facts4 (row ((0, negsuc 0) ∷ []) (negsuc 1)) ∷ goal Fold 4 3 four_facts_facts4 (rows 1 (sym 2 ∷ [])) ∷ goal Effect 4 3 four_facts_facts8 (rows 2 (constant_of 1 ∷ constant_of 0 ∷ sym 0 ∷ sym 1 ∷ [])) ∷ goal BoundsLow 5 3 four_facts_facts8 (row [] (pos 2)) ∷ goal BoundsHigh 5 3 four_facts_facts8 (row ((0, negsuc 0) ∷ []) (negsuc 2)) ∷ goal Fold 5 3 four_facts_facts8 (rows 1 (sym 3 ∷ [])) ∷ goal Effect 5 3 four_facts_facts12 (rows 2 (constant_of 2 ∷ constant_of 0 ∷ sym 0 ∷ sym 1 ∷ [])) ∷ goal BoundsLow 6 44 four_facts_facts13 (row ((2, negsuc 0) ∷ []) (pos 0)) ∷ goal BoundsHigh 6 44 four_facts_facts13 (row ((0, negsuc 0) ∷ (2, pos 1) ∷ []) (negsuc 0)) ∷ goal Fold 6 44 four_facts_facts13 (rows 1 (sym 4 ∷ [])) ∷ goal Effect 6 44 four_facts_facts16 (rows 2 (sym 2 ∷ constant_of 0 ∷ sym 0 ∷ sym 1 ∷ [])) ∷ goal Fold 6 3 four_facts_facts16 (rows 1 (sym 5 ∷ [])) ∷ goal Fold 6 3 four_facts_facts12 (rows 1 (sym 4 ∷ [])) ∷ []
four-facts-conditions = refl
