-- Numbers, sums, products and rows at their bounds and past them, and an int as a condition.
use Rattle.std.proofs.Common.{◌≡◌, refl}
use Rattle.std.specs.Prelude.{List, [], ◌∷◌, pos, negsuc, Some, ◌++◌}
use Rattle.lq_tree.specs.declared.expr.BinOp.TheVariants.{Add, Div, Eq, Lt, Mul, Ne, Or, Rem, Sub}
use Rattle.lq_tree.specs.declared.plain.PExpr.{Slot}
use Rattle.lq_tree.specs.declared.plain.PKind.{Calloc, Print, Return, Set, Store}
use Rattle.lq_tree.specs.declared.plain.PFunc.{PFunc}
use Rattle.lq_tree.specs.declared.plain.PProgram.{PProgram}
use Rattle.lq_meaning.proofs.worked.SourceWords.{int}
use Rattle.lq_meaning.proofs.worked.PlainWords.{bin, func, if_else, named, neg, not, num, program, shift, stmt, unnamed, while}
use Rattle.lq_templates.specs.declared.condition.Given.{Given}
use Rattle.lq_templates.specs.declared.condition.Rule.TheVariants.{BoundsHigh, BoundsLow, Effect, Fold, Input, LoopAgain, LoopEntry}
use Rattle.lq_templates.specs.Classes.{ClassOf}
use Rattle.lq_templates.proofs.AccessSets.{rounds}
use Rattle.lq_templates.proofs.worked.Words.{classes}
use Rattle.lq_conditions.specs.Conditions.{conditions}
use Rattle.lq_conditions.proofs.worked.Words.{division, goal, num as constant_of, row, rows, sum, sym}

abbrev limits_main : PFunc
limits_main = func 1 1 (Some (int 0)) "main" 2 (named "in" (int 1) ∷ named "n" (int 0) ∷ named "a" (int 0) ∷ named "b" (int 0) ∷ named "c" (int 0) ∷ named "d" (int 0) ∷ named "e" (int 0) ∷ named "f" (int 0) ∷ named "g" (int 0) ∷ named "h" (int 0) ∷ named "r" (int 0) ∷ named "p" (int 1) ∷ unnamed (int 0) ∷ named "q" (int 1) ∷ named "s" (int 1) ∷ [])
    (stmt 2 3 (Set 2 (num 1099511627776)) ∷ stmt 3 3 (Set 3 (num 1099511627777)) ∷ stmt 4 3 (Set 4 (bin Mul (num 65536) (Slot 1))) ∷ stmt 5 3 (Set 5 (bin Mul (num 65537) (Slot 1))) ∷ stmt 6 3 (Set 6 (bin Add (Slot 4) (Slot 4))) ∷ stmt 7 3 (Set 7 (bin Add (Slot 2) (Slot 2))) ∷ stmt 8 3 (Set 8 (bin Div (Slot 1) (num 65536))) ∷ stmt 9 3 (Set 9 (bin Div (Slot 1) (num 65537))) ∷ stmt 10 3 (Set 10 (bin Rem (Slot 1) (bin Sub (Slot 9) (Slot 9)))) ∷ stmt 11 3 (Set 12 (bin Add (Slot 8) (num 1))) ∷ stmt 11 3 (Calloc 11 (Slot 12) (int 0)) ∷ stmt 12 3 (Store 11 (Slot 2) 0 (Slot 3)) ∷ stmt 13 3 (Set 13 (shift (Slot 11) (Slot 2))) ∷ stmt 14 3 (Set 14 (shift (Slot 13) (Slot 2))) ∷ stmt 15 3 (if_else (bin Lt (Slot 4) (bin Sub (Slot 1) (Slot 4))) (stmt 15 20 (Print (neg (Slot 4))) ∷ []) []) ∷ stmt 16 3 (if_else (not (bin Or (bin Eq (Slot 1) (num 3)) (bin Ne (Slot 1) (num 4)))) (stmt 16 30 (Store 14 (Slot 5) 0 (bin Add (Slot 6) (Slot 7))) ∷ []) []) ∷ stmt 17 3 (while [] (Slot 10) (stmt 17 15 (Set 10 (bin Sub (Slot 10) (num 1))) ∷ [])) ∷ stmt 18 3 (Return (Some (bin Mul (Slot 1) (Slot 1)))) ∷ [])

abbrev pub limits : PProgram
limits = program [] (limits_main ∷ []) 0 []

abbrev limits_classes : ClassOf
limits_classes = classes ((0, 0, 1) ∷ (0, 11, 2) ∷ (0, 13, 2) ∷ (0, 14, 2) ∷ [])

abbrev limits_facts1 : List Given
limits_facts1 = (row ((0, negsuc 0) ∷ []) (pos 0) ∷ row ((0, pos 1) ∷ (1, negsuc 0) ∷ []) (pos 0) ∷ row ((0, negsuc 0) ∷ (1, pos 1) ∷ []) (pos 0) ∷ [])

abbrev limits_facts2 : List Given
limits_facts2 = limits_facts1 ++ (division 6 (sym 1) (pos 65536) ∷ [])

abbrev limits_facts3 : List Given
limits_facts3 = limits_facts2 ++ (row ((9, negsuc 0) ∷ []) (negsuc 0) ∷ row ((6, negsuc 0) ∷ (9, pos 1) ∷ []) (pos 1) ∷ row ((6, pos 1) ∷ (9, negsuc 0) ∷ []) (negsuc 0) ∷ [])

abbrev limits_facts5 : List Given
limits_facts5 = limits_facts3 ++ (rows 2 (sym 10 ∷ []) ∷ [])

abbrev limits_facts6 : List Given
limits_facts6 = limits_facts5 ++ (row [] (pos 1099511627776) ∷ row ((11, negsuc 0) ∷ []) (pos 0) ∷ [])

abbrev limits_facts8 : List Given
limits_facts8 = limits_facts6 ++ (row ((1, pos 1) ∷ []) (pos 4) ∷ row ((1, negsuc 0) ∷ []) (negsuc 3) ∷ [])

abbrev limits_facts10 : List Given
limits_facts10 = limits_facts8 ++ (rows 2 (sym 12 ∷ []) ∷ [])

abbrev limits_facts13 : List Given
limits_facts13 = limits_facts6 ++ (rows 4 (constant_of 0 ∷ sym 0 ∷ sym 1 ∷ constant_of 1099511627776 ∷ sym 2 ∷ sum ((1, pos 65536) ∷ []) (pos 0) ∷ sym 3 ∷ sym 4 ∷ sym 5 ∷ sym 6 ∷ sym 7 ∷ sym 12 ∷ constant_of 0 ∷ sym 9 ∷ constant_of 1099511627776 ∷ sym 9 ∷ sym 11 ∷ sym 9 ∷ []) ∷ [])

-- all conditions, in their order
limits-conditions : (conditions limits limits_classes (rounds limits limits_classes 1)).list ≡
    goal Input 1 1 limits_facts1 (rows 1 (sym 2 ∷ [])) ∷ goal Fold 11 3 limits_facts2 (rows 2 (constant_of 0 ∷ [])) ∷ goal BoundsLow 12 3 limits_facts3 (row [] (pos 1099511627776)) ∷ goal BoundsHigh 12 3 limits_facts3 (row [] (negsuc 0)) ∷ goal Effect 12 3 limits_facts5 (rows 3 (constant_of 1099511627776 ∷ constant_of 0 ∷ sym 0 ∷ sym 1 ∷ [])) ∷ goal Fold 15 3 limits_facts6 (rows 2 (sym 2 ∷ [])) ∷ goal Fold 15 3 limits_facts6 (rows 2 (sym 2 ∷ [])) ∷ goal BoundsLow 16 30 limits_facts8 (row ((3, negsuc 0) ∷ (11, negsuc 0) ∷ []) (pos 0)) ∷ goal BoundsHigh 16 30 limits_facts8 (row ((3, pos 1) ∷ (9, negsuc 0) ∷ (11, pos 1) ∷ []) (negsuc 0)) ∷ goal Effect 16 30 limits_facts10 (rows 3 (sum ((3, pos 1) ∷ (11, pos 1) ∷ []) (pos 0) ∷ constant_of 0 ∷ sym 0 ∷ sym 1 ∷ [])) ∷ goal Fold 16 3 limits_facts10 (rows 2 (sum ((4, pos 1) ∷ (5, pos 1) ∷ []) (pos 0) ∷ [])) ∷ goal LoopEntry 17 3 limits_facts6 (rows 4 (constant_of 0 ∷ sym 0 ∷ sym 1 ∷ constant_of 1099511627776 ∷ sym 2 ∷ sum ((1, pos 65536) ∷ []) (pos 0) ∷ sym 3 ∷ sym 4 ∷ sym 5 ∷ sym 6 ∷ sym 7 ∷ sym 8 ∷ constant_of 0 ∷ sym 9 ∷ constant_of 1099511627776 ∷ sym 9 ∷ sym 11 ∷ sym 9 ∷ [])) ∷ goal LoopAgain 17 3 limits_facts13 (rows 4 (constant_of 0 ∷ sym 0 ∷ sym 1 ∷ constant_of 1099511627776 ∷ sym 2 ∷ sum ((1, pos 65536) ∷ []) (pos 0) ∷ sym 3 ∷ sym 4 ∷ sym 5 ∷ sym 6 ∷ sym 7 ∷ sum ((12, pos 1) ∷ []) (negsuc 0) ∷ constant_of 0 ∷ sym 9 ∷ constant_of 1099511627776 ∷ sym 9 ∷ sym 11 ∷ sym 9 ∷ [])) ∷ []
limits-conditions = refl
