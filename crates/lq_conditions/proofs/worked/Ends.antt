-- Lists that do not live, a loop whose body does not live, and values of many operators.
use Rattle.std.proofs.Common.{◌≡◌, refl}
use Rattle.std.specs.Prelude.{List, [], ◌∷◌, pos, negsuc, None, Some, ◌++◌}
use Rattle.lq_tree.specs.declared.expr.BinOp.TheVariants.{Add, And, Div, Eq, Ge, Le, Lt, Mul, Ne, Or, Rem, Sub}
use Rattle.lq_tree.specs.declared.plain.PExpr.{Null, Slot}
use Rattle.lq_tree.specs.declared.plain.PKind.{Calloc, Print, Return, Set, Store}
use Rattle.lq_tree.specs.declared.plain.PFunc.{PFunc}
use Rattle.lq_tree.specs.declared.plain.PProgram.{PProgram}
use Rattle.lq_meaning.proofs.worked.SourceWords.{int, param, struct, struct_at}
use Rattle.lq_meaning.proofs.worked.PlainWords.{bin, func, if_else, is_null, named, num, program, stmt, unnamed, while}
use Rattle.lq_templates.specs.declared.condition.Given.{Given}
use Rattle.lq_templates.specs.declared.condition.Rule.TheVariants.{BoundsHigh, BoundsLow, Effect, Fold, LoopAgain, LoopEntry, Post}
use Rattle.lq_templates.specs.Classes.{ClassOf}
use Rattle.lq_templates.proofs.AccessSets.{rounds}
use Rattle.lq_templates.proofs.worked.Words.{classes}
use Rattle.lq_conditions.specs.Conditions.{conditions}
use Rattle.lq_conditions.proofs.worked.Words.{goal, num as constant_of, remainder, row, rows, sum, sym}

abbrev ends_f1 : PFunc
ends_f1 = func 2 1 None "f1" 1 (named "n2" (int 0) ∷ named "a3" (int 1) ∷ unnamed (int 0) ∷ named "a4" (int 1) ∷ named "v5" (struct "S" 1) ∷ [])
    (stmt 3 3 (Set 2 (bin Sub (Slot 0) (Slot 0))) ∷ stmt 3 3 (Calloc 1 (Slot 2) (int 0)) ∷ stmt 4 3 (if_else (bin Ne (Slot 0) (bin Mul (num 2) (Slot 0))) (stmt 5 5 (if_else (bin And (bin Le (bin Rem (Slot 0) (num 4)) (bin Mul (num 1) (num 4))) (bin Le (bin Mul (Slot 0) (Slot 0)) (Slot 0))) (stmt 6 7 (Set 0 (bin Rem (bin Sub (Slot 0) (Slot 0)) (num 4))) ∷ stmt 7 7 (Return None) ∷ []) []) ∷ stmt 9 5 (while [] (bin Or (bin Ge (Slot 0) (Slot 0)) (bin Eq (bin Div (num 2) (num 1)) (num 4))) (stmt 10 7 (Print (bin Add (num 0) (Slot 0))) ∷ stmt 11 7 (Print (is_null (Slot 1))) ∷ stmt 12 7 (Return None) ∷ [])) ∷ stmt 14 5 (Calloc 3 (Slot 0) (int 0)) ∷ stmt 15 5 (Return None) ∷ []) []) ∷ stmt 17 3 (if_else (bin And (bin Le (num 0) (Slot 0)) (bin Lt (Slot 0) (Slot 0))) (stmt 18 5 (Store 1 (Slot 0) 0 (bin Add (Slot 0) (Slot 0))) ∷ stmt 19 5 (if_else (bin And (bin Le (num 0) (Slot 0)) (bin Lt (Slot 0) (num 2))) (stmt 20 7 (Store 1 (Slot 0) 0 (bin Rem (Slot 0) (num 4))) ∷ stmt 21 7 (Print (bin Sub (Slot 0) (Slot 0))) ∷ []) []) ∷ []) []) ∷ stmt 24 3 (Calloc 4 (num 1) (struct "S" 0)) ∷ [])

abbrev ends_f6 : PFunc
ends_f6 = func 26 1 (Some (int 1)) "f6" 2 (named "s7" (struct "S" 1) ∷ named "n8" (int 0) ∷ named "a9" (int 1) ∷ [])
    (stmt 27 3 (Calloc 2 (Slot 1) (int 0)) ∷ stmt 28 3 (Return (Some Null)) ∷ [])

abbrev ends_main : PFunc
ends_main = func 30 1 (Some (int 0)) "main" 0 (named "i10" (int 0) ∷ named "x11" (int 0) ∷ [])
    (stmt 31 3 (Set 0 (num 1)) ∷ stmt 32 3 (while [] (bin Lt (Slot 0) (num 3)) (stmt 33 5 (Set 1 (bin Rem (bin Rem (num 4) (num 2)) (num 2))) ∷ stmt 34 5 (Set 0 (bin Add (Slot 0) (num 1))) ∷ [])) ∷ stmt 36 3 (Return (Some (num 0))) ∷ [])

abbrev pub ends : PProgram
ends = program (struct_at 1 1 "S" (param (int 0) "n" ∷ param (int 1) "data" ∷ param (int 0) "m" ∷ param (struct "S" 1) "next" ∷ []) ∷ []) (ends_f1 ∷ ends_f6 ∷ ends_main ∷ []) 2 []

abbrev ends_classes : ClassOf
ends_classes = classes ((0, 1, 1) ∷ (0, 3, 2) ∷ (0, 4, 3) ∷ (1, 0, 4) ∷ (1, 2, 5) ∷ (1, 3, 6) ∷ [])

abbrev ends_facts1 : List Given
ends_facts1 = (rows 7 (sym 0 ∷ []) ∷ [])

abbrev ends_facts2 : List Given
ends_facts2 = ends_facts1 ++ (row ((1, negsuc 0) ∷ []) (negsuc 0) ∷ row ((1, pos 1) ∷ []) (pos 0) ∷ row ((1, negsuc 0) ∷ []) (pos 0) ∷ row [] (negsuc 0) ∷ [])

abbrev ends_facts3 : List Given
ends_facts3 = ends_facts1 ++ (row ((1, negsuc 0) ∷ []) (negsuc 0) ∷ row ((1, pos 1) ∷ []) (pos 0) ∷ row ((1, negsuc 0) ∷ []) (pos 0) ∷ row ((0, negsuc 0) ∷ []) (pos 0) ∷ row ((0, pos 1) ∷ []) (pos 0) ∷ row ((0, negsuc 0) ∷ []) (pos 0) ∷ row [] (negsuc 0) ∷ [])

abbrev ends_facts5 : List Given
ends_facts5 = ends_facts3 ++ (rows 1 (sym 2 ∷ []) ∷ [])

abbrev ends_facts6 : List Given
ends_facts6 = ends_facts5 ++ (row ((0, negsuc 0) ∷ []) (pos 0) ∷ row ((0, pos 1) ∷ []) (pos 1) ∷ remainder 3 (sym 0) (pos 4) ∷ [])

abbrev ends_facts11 : List Given
ends_facts11 = ends_facts1 ++ (row ((1, negsuc 0) ∷ []) (negsuc 0) ∷ row ((1, pos 1) ∷ []) (pos 0) ∷ row ((1, negsuc 0) ∷ []) (pos 0) ∷ row ((0, negsuc 0) ∷ []) (pos 0) ∷ row ((0, pos 1) ∷ []) (pos 0) ∷ [])

abbrev ends_facts12 : List Given
ends_facts12 = (row ((0, negsuc 0) ∷ []) (pos 0) ∷ row ((1, negsuc 0) ∷ []) (pos 0) ∷ rows 9 (sym 1 ∷ sym 0 ∷ sym 2 ∷ []) ∷ [])

abbrev ends_facts13 : List Given
ends_facts13 = ends_facts12 ++ (row ((3, negsuc 0) ∷ []) (negsuc 0) ∷ row ((2, negsuc 0) ∷ (3, pos 1) ∷ []) (pos 0) ∷ row ((2, pos 1) ∷ (3, negsuc 0) ∷ []) (pos 0) ∷ row ((4, negsuc 0) ∷ []) (pos 0) ∷ row ((4, pos 1) ∷ []) (pos 0) ∷ [])

abbrev ends_facts15 : List Given
ends_facts15 = (rows 11 (sym 0 ∷ []) ∷ row ((0, pos 1) ∷ []) (pos 2) ∷ remainder 1 (constant_of 4) (pos 2) ∷ remainder 2 (sym 1) (pos 2) ∷ [])

-- all conditions, in their order
ends-conditions : (conditions ends ends_classes (rounds ends ends_classes 3)).list ≡
    goal Fold 3 3 ends_facts1 (rows 1 (constant_of 0 ∷ [])) ∷ goal Fold 14 5 ends_facts2 (rows 2 (constant_of 0 ∷ [])) ∷ goal BoundsLow 18 5 ends_facts3 (row ((0, negsuc 0) ∷ []) (pos 0)) ∷ goal BoundsHigh 18 5 ends_facts3 (row ((0, pos 1) ∷ (1, negsuc 0) ∷ []) (negsuc 0)) ∷ goal Effect 18 5 ends_facts5 (rows 8 (sym 0 ∷ sym 0 ∷ [])) ∷ goal BoundsLow 20 7 ends_facts6 (row ((0, negsuc 0) ∷ []) (pos 0)) ∷ goal BoundsHigh 20 7 ends_facts6 (row ((0, pos 1) ∷ (1, negsuc 0) ∷ []) (negsuc 0)) ∷ goal Effect 20 7 ends_facts6 (rows 8 (sym 0 ∷ sym 0 ∷ [])) ∷ goal Fold 19 5 ends_facts6 (rows 1 (sym 3 ∷ [])) ∷ goal Fold 19 5 ends_facts5 (rows 1 (sum ((0, pos 2) ∷ []) (pos 0) ∷ [])) ∷ goal Fold 24 3 ends_facts11 (rows 3 (constant_of 0 ∷ constant_of 0 ∷ constant_of 0 ∷ constant_of 0 ∷ constant_of 0 ∷ constant_of 0 ∷ [])) ∷ goal Fold 27 3 ends_facts12 (rows 5 (constant_of 0 ∷ [])) ∷ goal Post 28 3 ends_facts13 (rows 10 (sym 1 ∷ sym 0 ∷ sym 2 ∷ constant_of 0 ∷ sym 4 ∷ [])) ∷ goal LoopEntry 32 3 [] (rows 11 (constant_of 1 ∷ [])) ∷ goal LoopAgain 32 3 ends_facts15 (rows 11 (sum ((0, pos 1) ∷ []) (pos 1) ∷ [])) ∷ []
ends-conditions = refl
