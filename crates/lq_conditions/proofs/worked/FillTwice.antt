-- The conditions of two calls of one function on two arrays.
use Rattle.std.proofs.Common.{◌≡◌, refl}
use Rattle.std.specs.Prelude.{List, [], ◌∷◌, pos, negsuc, None, Some, true, ◌++◌}
use Rattle.lq_tree.specs.declared.expr.BinOp.TheVariants.{Add, Lt}
use Rattle.lq_tree.specs.declared.plain.PExpr.{Slot}
use Rattle.lq_tree.specs.declared.plain.PKind.{Call, Calloc, Load, Print, Return, Set, Store}
use Rattle.lq_tree.specs.declared.plain.PFunc.{PFunc}
use Rattle.lq_tree.specs.declared.plain.PProgram.{PProgram}
use Rattle.lq_meaning.proofs.worked.SourceWords.{int}
use Rattle.lq_meaning.proofs.worked.PlainWords.{bin, branch, cobegin, func, if_else, named, num, program, stmt, unnamed, while}
use Rattle.lq_templates.specs.declared.condition.Given.{Given}
use Rattle.lq_templates.specs.declared.condition.Rule.TheVariants.{BoundsHigh, BoundsLow, Effect, Fold, Input, LoopAgain, LoopEntry, Pre}
use Rattle.lq_templates.specs.Classes.{ClassOf}
use Rattle.lq_templates.proofs.AccessSets.{rounds}
use Rattle.lq_templates.proofs.worked.Words.{classes}
use Rattle.lq_conditions.specs.Conditions.{conditions}
use Rattle.lq_conditions.proofs.worked.Words.{goal, num as constant_of, pair, row, rows, sum, sym}

abbrev fill_twice_fill : PFunc
fill_twice_fill = func 1 1 None "fill" 3 (named "a" (int 1) ∷ named "n" (int 0) ∷ named "v" (int 0) ∷ named "i" (int 0) ∷ [])
    (stmt 2 3 (Set 3 (num 0)) ∷ stmt 3 3 (while [] (bin Lt (Slot 3) (Slot 1)) (stmt 3 19 (Store 0 (Slot 3) 0 (Slot 2)) ∷ stmt 3 29 (Set 3 (bin Add (Slot 3) (num 1))) ∷ [])) ∷ [])

abbrev fill_twice_main : PFunc
fill_twice_main = func 5 1 (Some (int 0)) "main" 2 (named "in" (int 1) ∷ named "n" (int 0) ∷ named "b" (int 1) ∷ unnamed (int 0) ∷ unnamed (int 0) ∷ [])
    (stmt 6 3 (if_else (bin Lt (Slot 1) (num 1)) (stmt 6 16 (Return (Some (num 0))) ∷ []) []) ∷ stmt 7 3 (Calloc 2 (Slot 1) (int 0)) ∷ stmt 8 3 (cobegin (branch 9 5 (stmt 9 7 (Call None 0 ((Slot 0) ∷ (Slot 1) ∷ (num 1) ∷ [])) ∷ []) ∷ branch 10 5 (stmt 10 7 (Call None 0 ((Slot 2) ∷ (Slot 1) ∷ (num 2) ∷ [])) ∷ []) ∷ [])) ∷ stmt 12 3 (Load 3 0 (num 0) 0) ∷ stmt 12 3 (Print (Slot 3)) ∷ stmt 13 3 (Load 4 2 (num 0) 0) ∷ stmt 13 3 (Print (Slot 4)) ∷ stmt 14 3 (Return (Some (num 0))) ∷ [])

abbrev pub fill_twice : PProgram
fill_twice = program [] (fill_twice_fill ∷ fill_twice_main ∷ []) 1 []

abbrev fill_twice_classes : ClassOf
fill_twice_classes = classes ((0, 0, 1) ∷ (1, 0, 1) ∷ (1, 2, 1) ∷ [])

abbrev fill_twice_facts1 : List Given
fill_twice_facts1 = (row ((0, negsuc 0) ∷ []) (pos 0) ∷ row ((1, negsuc 0) ∷ []) (pos 0) ∷ rows 2 (sym 1 ∷ sym 0 ∷ sym 2 ∷ sym 3 ∷ []) ∷ [])

abbrev fill_twice_facts2 : List Given
fill_twice_facts2 = fill_twice_facts1 ++ (rows 4 (sym 1 ∷ sym 0 ∷ sym 2 ∷ sym 3 ∷ sym 4 ∷ []) ∷ row ((2, negsuc 0) ∷ (4, pos 1) ∷ []) (negsuc 0) ∷ [])

abbrev fill_twice_facts4 : List Given
fill_twice_facts4 = fill_twice_facts2 ++ (rows 1 (sym 5 ∷ []) ∷ [])

abbrev fill_twice_facts7 : List Given
fill_twice_facts7 = (row ((0, negsuc 0) ∷ []) (pos 0) ∷ row ((0, pos 1) ∷ (1, negsuc 0) ∷ []) (pos 0) ∷ row ((0, negsuc 0) ∷ (1, pos 1) ∷ []) (pos 0) ∷ [])

abbrev fill_twice_facts8 : List Given
fill_twice_facts8 = fill_twice_facts7 ++ (row ((1, negsuc 0) ∷ []) (negsuc 0) ∷ [])

abbrev fill_twice_facts9 : List Given
fill_twice_facts9 = fill_twice_facts8 ++ (row ((2, negsuc 0) ∷ []) (negsuc 0) ∷ row ((1, negsuc 0) ∷ (2, pos 1) ∷ []) (pos 0) ∷ row ((1, pos 1) ∷ (2, negsuc 0) ∷ []) (pos 0) ∷ [])

abbrev fill_twice_facts10 : List Given
fill_twice_facts10 = fill_twice_facts9 ++ (rows 3 (sym 3 ∷ constant_of 0 ∷ sym 0 ∷ sym 1 ∷ constant_of 1 ∷ []) ∷ [])

abbrev fill_twice_facts13 : List Given
fill_twice_facts13 = fill_twice_facts9 ++ (rows 3 (sym 3 ∷ constant_of 0 ∷ sym 2 ∷ sym 1 ∷ constant_of 2 ∷ []) ∷ [])

abbrev fill_twice_facts15 : List Given
fill_twice_facts15 = fill_twice_facts9 ++ (rows 7 (sym 3 ∷ constant_of 0 ∷ sym 0 ∷ sym 1 ∷ constant_of 0 ∷ sym 2 ∷ []) ∷ rows 8 (sym 3 ∷ constant_of 0 ∷ sym 0 ∷ sym 1 ∷ constant_of 0 ∷ sym 2 ∷ []) ∷ [])

abbrev fill_twice_facts18 : List Given
fill_twice_facts18 = fill_twice_facts9 ++ (rows 1 (sym 3 ∷ []) ∷ [])

abbrev fill_twice_facts22 : List Given
fill_twice_facts22 = fill_twice_facts18 ++ (rows 1 (sym 4 ∷ []) ∷ [])

-- all conditions, in their order
fill-twice-conditions : (conditions fill_twice fill_twice_classes (rounds fill_twice fill_twice_classes 2)).list ≡
    goal LoopEntry 3 3 fill_twice_facts1 (rows 4 (sym 1 ∷ sym 0 ∷ sym 2 ∷ sym 3 ∷ constant_of 0 ∷ [])) ∷ goal BoundsLow 3 19 fill_twice_facts2 (row ((1, negsuc 0) ∷ (4, negsuc 0) ∷ []) (pos 0)) ∷ goal BoundsHigh 3 19 fill_twice_facts2 (row ((0, negsuc 0) ∷ (1, pos 1) ∷ (4, pos 1) ∷ []) (negsuc 0)) ∷ goal Effect 3 19 fill_twice_facts4 (rows 3 (sum ((1, pos 1) ∷ (4, pos 1) ∷ []) (pos 0) ∷ sym 1 ∷ sym 0 ∷ sym 2 ∷ sym 3 ∷ [])) ∷ goal Fold 3 3 fill_twice_facts4 (rows 1 (sym 3 ∷ [])) ∷ goal LoopAgain 3 3 fill_twice_facts4 (rows 4 (sym 1 ∷ sym 0 ∷ sym 2 ∷ sym 3 ∷ sum ((4, pos 1) ∷ []) (pos 1) ∷ [])) ∷ goal Input 5 1 fill_twice_facts7 (rows 1 (sym 2 ∷ [])) ∷ goal Fold 7 3 fill_twice_facts8 (rows 1 (constant_of 0 ∷ [])) ∷ goal Pre 9 7 fill_twice_facts9 (rows 2 (constant_of 0 ∷ sym 0 ∷ sym 1 ∷ constant_of 1 ∷ [])) ∷ goal Effect 9 7 fill_twice_facts10 (rows 7 (sym 3 ∷ constant_of 0 ∷ sym 0 ∷ sym 1 ∷ constant_of 0 ∷ sym 2 ∷ [])) ∷ goal Effect 9 7 fill_twice_facts10 (rows 6 (sym 3 ∷ constant_of 0 ∷ sym 0 ∷ sym 1 ∷ [])) ∷ goal Pre 10 7 fill_twice_facts9 (rows 2 (constant_of 0 ∷ sym 2 ∷ sym 1 ∷ constant_of 2 ∷ [])) ∷ goal Effect 10 7 fill_twice_facts13 (rows 8 (sym 3 ∷ constant_of 0 ∷ sym 0 ∷ sym 1 ∷ constant_of 0 ∷ sym 2 ∷ [])) ∷ goal Effect 10 7 fill_twice_facts13 (rows 6 (sym 3 ∷ constant_of 0 ∷ sym 0 ∷ sym 1 ∷ [])) ∷ pair 8 3 9 5 10 5 1 true true 0 0 fill_twice_facts15 ∷ goal BoundsLow 12 3 fill_twice_facts9 (row [] (pos 0)) ∷ goal BoundsHigh 12 3 fill_twice_facts9 (row ((0, negsuc 0) ∷ []) (negsuc 0)) ∷ goal Effect 12 3 fill_twice_facts18 (rows 5 (constant_of 0 ∷ constant_of 0 ∷ sym 0 ∷ sym 1 ∷ [])) ∷ goal BoundsLow 13 3 fill_twice_facts18 (row [] (pos 0)) ∷ goal BoundsHigh 13 3 fill_twice_facts18 (row ((2, negsuc 0) ∷ []) (negsuc 0)) ∷ goal Fold 13 3 fill_twice_facts18 (rows 1 (sym 3 ∷ [])) ∷ goal Effect 13 3 fill_twice_facts22 (rows 5 (constant_of 0 ∷ constant_of 0 ∷ sym 0 ∷ sym 1 ∷ [])) ∷ goal Fold 14 3 fill_twice_facts22 (rows 1 (sym 4 ∷ [])) ∷ []
fill-twice-conditions = refl
