-- Pointers that join, that a call gives and that may be null; a record that is used again, and one that is folded for another.
use Rattle.std.proofs.Common.{◌≡◌, refl}
use Rattle.std.specs.Prelude.{List, [], ◌∷◌, pos, negsuc, Some, ◌++◌}
use Rattle.lq_tree.specs.declared.expr.BinOp.TheVariants.{Gt}
use Rattle.lq_tree.specs.declared.plain.PExpr.{Slot}
use Rattle.lq_tree.specs.declared.plain.PKind.{Call, Calloc, Load, Print, Return, Set, Store}
use Rattle.lq_tree.specs.declared.plain.PFunc.{PFunc}
use Rattle.lq_tree.specs.declared.plain.PProgram.{PProgram}
use Rattle.lq_meaning.proofs.worked.SourceWords.{int, param, struct, struct_at}
use Rattle.lq_meaning.proofs.worked.PlainWords.{bin, func, if_else, is_null, named, not, num, program, shift, stmt, unnamed, while}
use Rattle.lq_templates.specs.declared.condition.Given.{Given}
use Rattle.lq_templates.specs.declared.condition.Rule.TheVariants.{BoundsHigh, BoundsLow, Effect, Fold, Join, LoopAgain, LoopEntry, Post, Pre}
use Rattle.lq_templates.specs.Classes.{ClassOf}
use Rattle.lq_templates.proofs.AccessSets.{rounds}
use Rattle.lq_templates.proofs.worked.Words.{classes}
use Rattle.lq_conditions.specs.Conditions.{conditions}
use Rattle.lq_conditions.proofs.worked.Words.{goal, num as constant_of, row, rows, sym}

abbrev pointers_pick : PFunc
pointers_pick = func 2 1 (Some (struct "S" 1)) "pick" 3 (named "a" (struct "S" 1) ∷ named "b" (struct "S" 1) ∷ named "n" (int 0) ∷ named "r" (struct "S" 1) ∷ [])
    (stmt 3 3 (Set 3 (Slot 0)) ∷ stmt 4 3 (if_else (bin Gt (Slot 2) (num 0)) (stmt 4 16 (Set 3 (Slot 1)) ∷ []) []) ∷ stmt 5 3 (if_else (not (is_null (Slot 3))) (stmt 5 17 (Return (Some (Slot 3))) ∷ []) []) ∷ [])

abbrev pointers_main : PFunc
pointers_main = func 7 1 (Some (int 0)) "main" 0 (named "x" (struct "S" 1) ∷ named "y" (struct "S" 1) ∷ unnamed (struct "S" 1) ∷ unnamed (int 0) ∷ [])
    (stmt 8 3 (Calloc 0 (num 2) (struct "S" 0)) ∷ stmt 9 3 (Set 2 (shift (Slot 0) (num 1))) ∷ stmt 9 3 (Call (Some 1) 0 ((Slot 0) ∷ (Slot 2) ∷ (num 3) ∷ [])) ∷ stmt 10 3 (Store 0 (num 0) 0 (num 1)) ∷ stmt 11 3 (Store 0 (num 0) 1 (Slot 1)) ∷ stmt 12 3 (Store 0 (num 1) 0 (num 2)) ∷ stmt 13 3 (Load 1 0 (num 0) 1) ∷ stmt 14 3 (if_else (is_null (Slot 1)) (stmt 14 17 (Return (Some (num 1))) ∷ stmt 14 27 (Store 1 (num 0) 0 (num 4)) ∷ []) (stmt 14 46 (Print (num 1)) ∷ [])) ∷ stmt 15 3 (while [] (not (is_null (Slot 1))) (stmt 15 20 (Load 1 1 (num 0) 1) ∷ [])) ∷ stmt 16 3 (Load 3 0 (num 0) 0) ∷ stmt 16 3 (Return (Some (Slot 3))) ∷ [])

abbrev pub pointers : PProgram
pointers = program (struct_at 1 1 "S" (param (int 0) "n" ∷ param (struct "S" 1) "next" ∷ []) ∷ []) (pointers_pick ∷ pointers_main ∷ []) 1 []

abbrev pointers_classes : ClassOf
pointers_classes = classes ((0, 0, 1) ∷ (0, 1, 1) ∷ (0, 3, 1) ∷ (0, 4, 1) ∷ (1, 0, 1) ∷ (1, 1, 1) ∷ (1, 2, 1) ∷ [])

abbrev pointers_facts1 : List Given
pointers_facts1 = (row ((0, negsuc 0) ∷ []) (pos 0) ∷ row ((1, negsuc 0) ∷ []) (pos 0) ∷ row ((2, negsuc 0) ∷ []) (pos 0) ∷ row ((3, negsuc 0) ∷ []) (pos 0) ∷ rows 2 (sym 1 ∷ sym 0 ∷ sym 3 ∷ sym 2 ∷ sym 4 ∷ []) ∷ row ((4, negsuc 0) ∷ []) (negsuc 0) ∷ [])

abbrev pointers_facts2 : List Given
pointers_facts2 = (row ((0, negsuc 0) ∷ []) (pos 0) ∷ row ((1, negsuc 0) ∷ []) (pos 0) ∷ row ((2, negsuc 0) ∷ []) (pos 0) ∷ row ((3, negsuc 0) ∷ []) (pos 0) ∷ rows 2 (sym 1 ∷ sym 0 ∷ sym 3 ∷ sym 2 ∷ sym 4 ∷ []) ∷ row ((4, pos 1) ∷ []) (pos 0) ∷ [])

abbrev pointers_facts3 : List Given
pointers_facts3 = (row ((0, negsuc 0) ∷ []) (pos 0) ∷ row ((1, negsuc 0) ∷ []) (pos 0) ∷ row ((2, negsuc 0) ∷ []) (pos 0) ∷ row ((3, negsuc 0) ∷ []) (pos 0) ∷ rows 2 (sym 1 ∷ sym 0 ∷ sym 3 ∷ sym 2 ∷ sym 4 ∷ []) ∷ row ((5, negsuc 0) ∷ []) (pos 0) ∷ row ((6, negsuc 0) ∷ []) (pos 0) ∷ rows 4 (sym 1 ∷ sym 0 ∷ sym 3 ∷ sym 2 ∷ sym 4 ∷ sym 6 ∷ sym 5 ∷ []) ∷ row ((5, negsuc 0) ∷ []) (negsuc 0) ∷ [])

abbrev pointers_facts4 : List Given
pointers_facts4 = (row ((0, negsuc 0) ∷ []) (pos 0) ∷ row ((1, negsuc 0) ∷ []) (pos 0) ∷ row ((2, negsuc 0) ∷ []) (pos 0) ∷ row ((3, negsuc 0) ∷ []) (pos 0) ∷ rows 2 (sym 1 ∷ sym 0 ∷ sym 3 ∷ sym 2 ∷ sym 4 ∷ []) ∷ row ((5, negsuc 0) ∷ []) (pos 0) ∷ row ((6, negsuc 0) ∷ []) (pos 0) ∷ rows 4 (sym 1 ∷ sym 0 ∷ sym 3 ∷ sym 2 ∷ sym 4 ∷ sym 6 ∷ sym 5 ∷ []) ∷ row ((5, pos 1) ∷ []) (pos 0) ∷ row ((7, negsuc 0) ∷ []) (pos 0) ∷ row ((7, pos 1) ∷ []) (pos 0) ∷ [])

abbrev pointers_facts6 : List Given
pointers_facts6 = (row ((0, negsuc 0) ∷ []) (negsuc 0) ∷ row ((0, pos 1) ∷ []) (pos 2) ∷ row ((0, negsuc 0) ∷ []) (negsuc 1) ∷ row [] (pos 1) ∷ [])

abbrev pointers_facts7 : List Given
pointers_facts7 = pointers_facts6 ++ (row ((1, negsuc 0) ∷ []) (pos 0) ∷ row ((2, negsuc 0) ∷ []) (pos 0) ∷ rows 3 (constant_of 0 ∷ sym 0 ∷ constant_of 1 ∷ sym 0 ∷ constant_of 3 ∷ sym 2 ∷ sym 1 ∷ []) ∷ [])

abbrev pointers_facts9 : List Given
pointers_facts9 = pointers_facts7 ++ (row ((4, negsuc 0) ∷ []) (pos 0) ∷ row ((5, negsuc 0) ∷ []) (pos 0) ∷ rows 1 (sym 3 ∷ sym 5 ∷ sym 4 ∷ []) ∷ [])

abbrev pointers_facts16 : List Given
pointers_facts16 = pointers_facts9 ++ (row ((7, negsuc 0) ∷ []) (pos 0) ∷ row ((8, negsuc 0) ∷ []) (pos 0) ∷ rows 1 (sym 6 ∷ sym 8 ∷ sym 7 ∷ []) ∷ [])

abbrev pointers_facts20 : List Given
pointers_facts20 = pointers_facts16 ++ (row ((10, negsuc 0) ∷ []) (pos 0) ∷ row ((11, negsuc 0) ∷ []) (pos 0) ∷ rows 1 (sym 9 ∷ sym 11 ∷ sym 10 ∷ []) ∷ [])

abbrev pointers_facts21 : List Given
pointers_facts21 = pointers_facts20 ++ (row ((10, pos 1) ∷ []) (pos 0) ∷ [])

abbrev pointers_facts22 : List Given
pointers_facts22 = pointers_facts20 ++ (row ((10, negsuc 0) ∷ []) (negsuc 0) ∷ [])

abbrev pointers_facts24 : List Given
pointers_facts24 = pointers_facts22 ++ (row ((12, negsuc 0) ∷ []) (pos 0) ∷ row ((13, negsuc 0) ∷ []) (pos 0) ∷ rows 9 (constant_of 0 ∷ sym 0 ∷ sym 13 ∷ sym 12 ∷ []) ∷ row ((12, negsuc 0) ∷ []) (negsuc 0) ∷ [])

abbrev pointers_facts26 : List Given
pointers_facts26 = pointers_facts24 ++ (row ((15, negsuc 0) ∷ []) (pos 0) ∷ row ((16, negsuc 0) ∷ []) (pos 0) ∷ rows 1 (sym 14 ∷ sym 16 ∷ sym 15 ∷ []) ∷ [])

abbrev pointers_facts29 : List Given
pointers_facts29 = pointers_facts22 ++ (row ((12, negsuc 0) ∷ []) (pos 0) ∷ row ((13, negsuc 0) ∷ []) (pos 0) ∷ rows 9 (constant_of 0 ∷ sym 0 ∷ sym 13 ∷ sym 12 ∷ []) ∷ row ((12, pos 1) ∷ []) (pos 0) ∷ [])

abbrev pointers_facts31 : List Given
pointers_facts31 = pointers_facts29 ++ (row ((15, negsuc 0) ∷ []) (pos 0) ∷ row ((16, negsuc 0) ∷ []) (pos 0) ∷ rows 1 (sym 14 ∷ sym 16 ∷ sym 15 ∷ []) ∷ [])

-- all conditions, in their order
pointers-conditions : (conditions pointers pointers_classes (rounds pointers pointers_classes 2)).list ≡
    goal Join 4 3 pointers_facts1 (rows 4 (sym 1 ∷ sym 0 ∷ sym 3 ∷ sym 2 ∷ sym 4 ∷ sym 3 ∷ sym 2 ∷ [])) ∷ goal Join 4 3 pointers_facts2 (rows 4 (sym 1 ∷ sym 0 ∷ sym 3 ∷ sym 2 ∷ sym 4 ∷ sym 1 ∷ sym 0 ∷ [])) ∷ goal Post 5 17 pointers_facts3 (rows 3 (sym 1 ∷ sym 0 ∷ sym 3 ∷ sym 2 ∷ sym 4 ∷ sym 6 ∷ sym 5 ∷ [])) ∷ goal Post 2 1 pointers_facts4 (rows 3 (sym 1 ∷ sym 0 ∷ sym 3 ∷ sym 2 ∷ sym 4 ∷ constant_of 0 ∷ sym 7 ∷ [])) ∷ goal Fold 8 3 [] (rows 1 (constant_of 0 ∷ constant_of 0 ∷ constant_of 0 ∷ [])) ∷ goal Pre 9 3 pointers_facts6 (rows 2 (constant_of 0 ∷ sym 0 ∷ constant_of 1 ∷ sym 0 ∷ constant_of 3 ∷ [])) ∷ goal BoundsLow 10 3 pointers_facts7 (row [] (pos 0)) ∷ goal BoundsHigh 10 3 pointers_facts7 (row ((0, negsuc 0) ∷ []) (negsuc 0)) ∷ goal Effect 10 3 pointers_facts9 (rows 6 (constant_of 0 ∷ [])) ∷ goal BoundsLow 11 3 pointers_facts9 (row [] (pos 0)) ∷ goal BoundsHigh 11 3 pointers_facts9 (row ((0, negsuc 0) ∷ []) (negsuc 0)) ∷ goal Effect 11 3 pointers_facts9 (rows 8 (constant_of 0 ∷ [])) ∷ goal BoundsLow 12 3 pointers_facts9 (row [] (pos 1)) ∷ goal BoundsHigh 12 3 pointers_facts9 (row ((0, negsuc 0) ∷ []) (negsuc 1)) ∷ goal Fold 12 3 pointers_facts9 (rows 1 (constant_of 1 ∷ sym 2 ∷ sym 1 ∷ [])) ∷ goal Effect 12 3 pointers_facts16 (rows 6 (constant_of 1 ∷ [])) ∷ goal BoundsLow 13 3 pointers_facts16 (row [] (pos 0)) ∷ goal BoundsHigh 13 3 pointers_facts16 (row ((0, negsuc 0) ∷ []) (negsuc 0)) ∷ goal Fold 13 3 pointers_facts16 (rows 1 (constant_of 2 ∷ sym 8 ∷ sym 7 ∷ [])) ∷ goal Effect 13 3 pointers_facts20 (rows 7 (constant_of 0 ∷ [])) ∷ goal Fold 14 17 pointers_facts21 (rows 1 (sym 9 ∷ sym 11 ∷ sym 10 ∷ [])) ∷ goal Fold 15 3 pointers_facts22 (rows 1 (sym 9 ∷ sym 11 ∷ sym 10 ∷ [])) ∷ goal LoopEntry 15 3 pointers_facts22 (rows 9 (constant_of 0 ∷ sym 0 ∷ sym 11 ∷ sym 10 ∷ [])) ∷ goal BoundsLow 15 20 pointers_facts24 (row ((13, negsuc 0) ∷ []) (pos 0)) ∷ goal BoundsHigh 15 20 pointers_facts24 (row ((12, negsuc 0) ∷ (13, pos 1) ∷ []) (negsuc 0)) ∷ goal Effect 15 20 pointers_facts26 (rows 7 (sym 13 ∷ [])) ∷ goal Fold 15 3 pointers_facts26 (rows 1 (sym 14 ∷ sym 16 ∷ sym 15 ∷ [])) ∷ goal LoopAgain 15 3 pointers_facts26 (rows 9 (constant_of 0 ∷ sym 0 ∷ sym 16 ∷ sym 15 ∷ [])) ∷ goal BoundsLow 16 3 pointers_facts29 (row [] (pos 0)) ∷ goal BoundsHigh 16 3 pointers_facts29 (row ((0, negsuc 0) ∷ []) (negsuc 0)) ∷ goal Effect 16 3 pointers_facts31 (rows 5 (constant_of 0 ∷ [])) ∷ goal Fold 16 3 pointers_facts31 (rows 1 (sym 14 ∷ sym 16 ∷ sym 15 ∷ [])) ∷ []
pointers-conditions = refl
