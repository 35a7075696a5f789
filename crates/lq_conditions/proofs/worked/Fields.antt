-- Pointers in records, null that is stored, an If both of whose lists live, and three blocks.
use Rattle.std.proofs.Common.{◌≡◌, refl}
use Rattle.std.specs.Prelude.{List, [], ◌∷◌, pos, negsuc, Some, false, true, ◌++◌}
use Rattle.lq_tree.specs.declared.expr.BinOp.TheVariants.{Add, Gt, Lt, Ne, Rem}
use Rattle.lq_tree.specs.declared.plain.PExpr.{Null, Slot}
use Rattle.lq_tree.specs.declared.plain.PKind.{Calloc, Load, Return, Set, Store}
use Rattle.lq_tree.specs.declared.plain.PFunc.{PFunc}
use Rattle.lq_tree.specs.declared.plain.PProgram.{PProgram}
use Rattle.lq_meaning.proofs.worked.SourceWords.{int, param, struct, struct_at}
use Rattle.lq_meaning.proofs.worked.PlainWords.{bin, branch, cobegin, func, if_else, named, not, num, program, shift, stmt, unnamed, while}
use Rattle.lq_templates.specs.declared.condition.Given.{Given}
use Rattle.lq_templates.specs.declared.condition.Rule.TheVariants.{BoundsHigh, BoundsLow, Effect, Fold, Input, LoopAgain, LoopEntry, Post}
use Rattle.lq_templates.specs.Classes.{ClassOf}
use Rattle.lq_templates.proofs.AccessSets.{rounds}
use Rattle.lq_templates.proofs.worked.Words.{classes}
use Rattle.lq_conditions.specs.Conditions.{conditions}
use Rattle.lq_conditions.proofs.worked.Words.{goal, num as constant_of, pair, remainder, row, rows, sum, sym}

abbrev fields_f1 : PFunc
fields_f1 = func 2 1 (Some (int 1)) "f1" 3 (named "p2" (int 1) ∷ named "p3" (int 1) ∷ named "s4" (struct "S" 1) ∷ unnamed (int 0) ∷ unnamed (int 0) ∷ unnamed (int 1) ∷ unnamed (int 0) ∷ unnamed (int 1) ∷ [])
    (stmt 3 3 (if_else (not (bin Ne (num 3) (bin Rem (num 0) (num 2)))) (stmt 4 5 (Load 3 0 (num 1) 0) ∷ stmt 4 5 (Store 1 (Slot 3) 0 (num 1)) ∷ []) (stmt 6 5 (Store 0 (num 3) 0 (num 2)) ∷ [])) ∷ stmt 8 3 (Load 4 2 (num 0) 0) ∷ stmt 8 3 (if_else (bin Gt (Slot 4) (num 1099511627777)) (stmt 8 32 (Load 5 2 (num 0) 1) ∷ stmt 8 32 (Store 5 (num 1) 0 (num 1)) ∷ []) []) ∷ stmt 9 3 (Load 6 2 (num 0) 0) ∷ stmt 9 3 (if_else (bin Gt (Slot 6) (num 5)) (stmt 9 20 (Load 7 2 (num 0) 1) ∷ stmt 9 20 (Store 7 (num 0) 0 (num 1)) ∷ []) []) ∷ stmt 10 3 (Return (Some (shift (Slot 1) (num 1)))) ∷ [])

abbrev fields_main : PFunc
fields_main = func 12 1 (Some (int 0)) "main" 2 (named "in" (int 1) ∷ named "n" (int 0) ∷ named "v5" (struct "S" 1) ∷ unnamed (int 1) ∷ named "v6" (struct "S" 1) ∷ named "i7" (int 0) ∷ unnamed (int 0) ∷ unnamed (int 1) ∷ named "y8" (int 0) ∷ unnamed (int 0) ∷ [])
    (stmt 13 3 (if_else (bin Lt (Slot 1) (num 4)) (stmt 13 16 (Return (Some (num 0))) ∷ []) []) ∷ stmt 14 3 (Calloc 2 (num 5) (struct "S" 0)) ∷ stmt 15 3 (Calloc 3 (num 5) (int 0)) ∷ stmt 15 3 (Store 2 (num 0) 1 (Slot 3)) ∷ stmt 16 3 (Store 2 (num 0) 0 (num 2)) ∷ stmt 17 3 (Calloc 4 (num 3) (struct "S" 0)) ∷ stmt 18 8 (Set 5 (num 0)) ∷ stmt 18 3 (while [] (bin Lt (Slot 5) (num 2)) (stmt 19 5 (Load 6 4 (num 0) 0) ∷ stmt 19 5 (if_else (bin Gt (Slot 6) (num 5)) (stmt 19 22 (Load 7 4 (num 0) 1) ∷ stmt 19 22 (Store 7 (num 5) 0 (num 1)) ∷ []) []) ∷ stmt 18 28 (Set 5 (bin Add (Slot 5) (num 1))) ∷ [])) ∷ stmt 21 3 (Store 0 (num 0) 0 (num 1)) ∷ stmt 22 3 (cobegin (branch 23 5 (stmt 24 7 (Store 2 (num 0) 3 Null) ∷ stmt 25 7 (Load 8 0 (num 0) 0) ∷ []) ∷ branch 27 5 [] ∷ branch 29 5 (stmt 30 7 (Load 9 0 (num 3) 0) ∷ stmt 30 7 (Store 0 (Slot 9) 0 (num 0)) ∷ []) ∷ [])) ∷ stmt 33 3 (Return (Some (num 0))) ∷ [])

abbrev pub fields : PProgram
fields = program (struct_at 1 1 "S" (param (int 0) "n" ∷ param (int 1) "data" ∷ param (int 0) "m" ∷ param (struct "S" 1) "next" ∷ []) ∷ []) (fields_f1 ∷ fields_main ∷ []) 1 []

abbrev fields_classes : ClassOf
fields_classes = classes ((0, 0, 1) ∷ (0, 1, 2) ∷ (0, 2, 3) ∷ (0, 5, 4) ∷ (0, 7, 4) ∷ (0, 8, 2) ∷ (1, 0, 5) ∷ (1, 2, 6) ∷ (1, 3, 7) ∷ (1, 4, 8) ∷ (1, 7, 9) ∷ [])

abbrev fields_facts1 : List Given
fields_facts1 = (row ((0, negsuc 0) ∷ []) (pos 0) ∷ row ((1, negsuc 0) ∷ []) (pos 0) ∷ row ((2, negsuc 0) ∷ []) (pos 0) ∷ row ((3, negsuc 0) ∷ []) (pos 0) ∷ row ((4, negsuc 0) ∷ []) (pos 0) ∷ row ((5, negsuc 0) ∷ []) (pos 0) ∷ rows 10 (sym 1 ∷ sym 0 ∷ sym 3 ∷ sym 2 ∷ sym 5 ∷ sym 4 ∷ []) ∷ remainder 6 (constant_of 0) (pos 2) ∷ row ((6, negsuc 0) ∷ []) (negsuc 2) ∷ row ((6, pos 1) ∷ []) (pos 3) ∷ [])

abbrev fields_facts3 : List Given
fields_facts3 = fields_facts1 ++ (rows 1 (sym 7 ∷ []) ∷ [])

abbrev fields_facts6 : List Given
fields_facts6 = fields_facts3 ++ (rows 2 (sym 8 ∷ []) ∷ [])

abbrev fields_facts9 : List Given
fields_facts9 = (row ((0, negsuc 0) ∷ []) (pos 0) ∷ row ((1, negsuc 0) ∷ []) (pos 0) ∷ row ((2, negsuc 0) ∷ []) (pos 0) ∷ row ((3, negsuc 0) ∷ []) (pos 0) ∷ row ((4, negsuc 0) ∷ []) (pos 0) ∷ row ((5, negsuc 0) ∷ []) (pos 0) ∷ rows 10 (sym 1 ∷ sym 0 ∷ sym 3 ∷ sym 2 ∷ sym 5 ∷ sym 4 ∷ []) ∷ [])

abbrev fields_facts11 : List Given
fields_facts11 = fields_facts9 ++ (rows 1 (sym 6 ∷ []) ∷ [])

abbrev fields_facts15 : List Given
fields_facts15 = fields_facts9 ++ (row ((7, negsuc 0) ∷ []) (pos 0) ∷ row ((8, negsuc 0) ∷ []) (pos 0) ∷ row ((10, negsuc 0) ∷ []) (pos 0) ∷ row ((11, negsuc 0) ∷ []) (pos 0) ∷ rows 3 (sym 6 ∷ sym 8 ∷ sym 7 ∷ sym 9 ∷ sym 11 ∷ sym 10 ∷ []) ∷ [])

abbrev fields_facts16 : List Given
fields_facts16 = fields_facts15 ++ (row ((6, negsuc 0) ∷ (12, pos 1) ∷ []) (negsuc 0) ∷ [])

abbrev fields_facts21 : List Given
fields_facts21 = fields_facts16 ++ (rows 4 (sym 13 ∷ []) ∷ [])

abbrev fields_facts24 : List Given
fields_facts24 = fields_facts15 ++ (row ((6, pos 1) ∷ (12, negsuc 0) ∷ []) (pos 0) ∷ [])

abbrev fields_facts27 : List Given
fields_facts27 = fields_facts15 ++ (row ((13, negsuc 0) ∷ []) (pos 0) ∷ row ((14, negsuc 0) ∷ []) (pos 0) ∷ row ((16, negsuc 0) ∷ []) (pos 0) ∷ row ((17, negsuc 0) ∷ []) (pos 0) ∷ rows 3 (sym 12 ∷ sym 14 ∷ sym 13 ∷ sym 15 ∷ sym 17 ∷ sym 16 ∷ []) ∷ [])

abbrev fields_facts28 : List Given
fields_facts28 = fields_facts27 ++ (row ((12, negsuc 0) ∷ []) (negsuc 5) ∷ [])

abbrev fields_facts33 : List Given
fields_facts33 = fields_facts28 ++ (rows 4 (sym 18 ∷ []) ∷ [])

abbrev fields_facts36 : List Given
fields_facts36 = fields_facts27 ++ (row ((12, pos 1) ∷ []) (pos 5) ∷ [])

abbrev fields_facts37 : List Given
fields_facts37 = fields_facts27 ++ (row ((3, negsuc 0) ∷ []) (pos 1) ∷ [])

abbrev fields_facts38 : List Given
fields_facts38 = (row ((0, negsuc 0) ∷ []) (pos 0) ∷ row ((0, pos 1) ∷ (1, negsuc 0) ∷ []) (pos 0) ∷ row ((0, negsuc 0) ∷ (1, pos 1) ∷ []) (pos 0) ∷ [])

abbrev fields_facts39 : List Given
fields_facts39 = fields_facts38 ++ (row ((1, negsuc 0) ∷ []) (negsuc 3) ∷ [])

abbrev fields_facts40 : List Given
fields_facts40 = fields_facts39 ++ (row ((2, negsuc 0) ∷ []) (negsuc 0) ∷ row ((2, pos 1) ∷ []) (pos 5) ∷ row ((2, negsuc 0) ∷ []) (negsuc 4) ∷ [])

abbrev fields_facts41 : List Given
fields_facts41 = fields_facts40 ++ (row ((3, negsuc 0) ∷ []) (negsuc 0) ∷ row ((3, pos 1) ∷ []) (pos 5) ∷ row ((3, negsuc 0) ∷ []) (negsuc 4) ∷ [])

abbrev fields_facts43 : List Given
fields_facts43 = fields_facts41 ++ (row ((5, negsuc 0) ∷ []) (pos 0) ∷ row ((6, negsuc 0) ∷ []) (pos 0) ∷ row ((8, negsuc 0) ∷ []) (pos 0) ∷ row ((9, negsuc 0) ∷ []) (pos 0) ∷ rows 6 (sym 4 ∷ sym 6 ∷ sym 5 ∷ sym 7 ∷ sym 9 ∷ sym 8 ∷ []) ∷ [])

abbrev fields_facts48 : List Given
fields_facts48 = fields_facts43 ++ (row ((10, negsuc 0) ∷ []) (negsuc 0) ∷ row ((10, pos 1) ∷ []) (pos 3) ∷ row ((10, negsuc 0) ∷ []) (negsuc 2) ∷ [])

abbrev fields_facts50 : List Given
fields_facts50 = fields_facts48 ++ (rows 26 (constant_of 0 ∷ sym 0 ∷ sym 1 ∷ constant_of 0 ∷ sym 2 ∷ constant_of 0 ∷ sym 10 ∷ sym 11 ∷ []) ∷ row ((11, pos 1) ∷ []) (pos 1) ∷ [])

abbrev fields_facts52 : List Given
fields_facts52 = fields_facts50 ++ (row ((13, negsuc 0) ∷ []) (pos 0) ∷ row ((14, negsuc 0) ∷ []) (pos 0) ∷ row ((16, negsuc 0) ∷ []) (pos 0) ∷ row ((17, negsuc 0) ∷ []) (pos 0) ∷ rows 8 (sym 12 ∷ sym 14 ∷ sym 13 ∷ sym 15 ∷ sym 17 ∷ sym 16 ∷ []) ∷ [])

abbrev fields_facts53 : List Given
fields_facts53 = fields_facts52 ++ (row ((12, negsuc 0) ∷ []) (negsuc 5) ∷ [])

abbrev fields_facts58 : List Given
fields_facts58 = fields_facts53 ++ (rows 9 (sym 18 ∷ []) ∷ [])

abbrev fields_facts61 : List Given
fields_facts61 = fields_facts52 ++ (row ((12, pos 1) ∷ []) (pos 5) ∷ [])

abbrev fields_facts63 : List Given
fields_facts63 = fields_facts48 ++ (rows 26 (constant_of 0 ∷ sym 0 ∷ sym 1 ∷ constant_of 0 ∷ sym 2 ∷ constant_of 0 ∷ sym 10 ∷ sym 11 ∷ []) ∷ row ((11, negsuc 0) ∷ []) (negsuc 1) ∷ [])

abbrev fields_facts65 : List Given
fields_facts65 = fields_facts63 ++ (rows 5 (sym 12 ∷ []) ∷ [])

abbrev fields_facts67 : List Given
fields_facts67 = fields_facts65 ++ (row ((13, negsuc 0) ∷ []) (pos 0) ∷ row ((13, pos 1) ∷ []) (pos 0) ∷ [])

abbrev fields_facts69 : List Given
fields_facts69 = fields_facts67 ++ (row ((15, negsuc 0) ∷ []) (pos 0) ∷ row ((16, negsuc 0) ∷ []) (pos 0) ∷ row ((18, negsuc 0) ∷ []) (pos 0) ∷ row ((19, negsuc 0) ∷ []) (pos 0) ∷ rows 6 (sym 14 ∷ sym 16 ∷ sym 15 ∷ sym 17 ∷ sym 19 ∷ sym 18 ∷ []) ∷ [])

abbrev fields_facts73 : List Given
fields_facts73 = fields_facts69 ++ (rows 5 (sym 20 ∷ []) ∷ [])

abbrev fields_facts79 : List Given
fields_facts79 = fields_facts65 ++ (rows 5 (sym 13 ∷ []) ∷ [])

abbrev fields_facts84 : List Given
fields_facts84 = fields_facts79 ++ (rows 5 (sym 14 ∷ []) ∷ [])

abbrev fields_facts87 : List Given
fields_facts87 = fields_facts65 ++ (rows 27 (sym 13 ∷ constant_of 0 ∷ sym 0 ∷ sym 1 ∷ constant_of 0 ∷ sym 2 ∷ constant_of 0 ∷ sym 10 ∷ sym 11 ∷ []) ∷ rows 30 (sym 13 ∷ constant_of 0 ∷ sym 0 ∷ sym 1 ∷ constant_of 0 ∷ sym 2 ∷ constant_of 0 ∷ sym 10 ∷ sym 11 ∷ []) ∷ [])

-- all conditions, in their order
fields-conditions : (conditions fields fields_classes (rounds fields fields_classes 2)).list ≡
    goal BoundsLow 4 5 fields_facts1 (row ((1, negsuc 0) ∷ []) (pos 1)) ∷ goal BoundsHigh 4 5 fields_facts1 (row ((0, negsuc 0) ∷ (1, pos 1) ∷ []) (negsuc 1)) ∷ goal Effect 4 5 fields_facts3 (rows 12 (sum ((1, pos 1) ∷ []) (pos 1) ∷ sym 1 ∷ sym 0 ∷ sym 3 ∷ sym 2 ∷ sym 5 ∷ sym 4 ∷ [])) ∷ goal BoundsLow 4 5 fields_facts3 (row ((3, negsuc 0) ∷ (7, negsuc 0) ∷ []) (pos 0)) ∷ goal BoundsHigh 4 5 fields_facts3 (row ((2, negsuc 0) ∷ (3, pos 1) ∷ (7, pos 1) ∷ []) (negsuc 0)) ∷ goal Effect 4 5 fields_facts6 (rows 14 (sum ((3, pos 1) ∷ (7, pos 1) ∷ []) (pos 0) ∷ sym 1 ∷ sym 0 ∷ sym 3 ∷ sym 2 ∷ sym 5 ∷ sym 4 ∷ [])) ∷ goal Fold 3 3 fields_facts6 (rows 1 (sym 7 ∷ [])) ∷ goal Fold 3 3 fields_facts6 (rows 2 (constant_of 1 ∷ [])) ∷ goal BoundsLow 6 5 fields_facts9 (row ((1, negsuc 0) ∷ []) (pos 3)) ∷ goal BoundsHigh 6 5 fields_facts9 (row ((0, negsuc 0) ∷ (1, pos 1) ∷ []) (negsuc 3)) ∷ goal Effect 6 5 fields_facts11 (rows 13 (sum ((1, pos 1) ∷ []) (pos 3) ∷ sym 1 ∷ sym 0 ∷ sym 3 ∷ sym 2 ∷ sym 5 ∷ sym 4 ∷ [])) ∷ goal Fold 3 3 fields_facts11 (rows 1 (constant_of 2 ∷ [])) ∷ goal BoundsLow 8 3 fields_facts9 (row ((5, negsuc 0) ∷ []) (pos 0)) ∷ goal BoundsHigh 8 3 fields_facts9 (row ((4, negsuc 0) ∷ (5, pos 1) ∷ []) (negsuc 0)) ∷ goal Effect 8 3 fields_facts15 (rows 15 (sym 5 ∷ sym 1 ∷ sym 0 ∷ sym 3 ∷ sym 2 ∷ sym 5 ∷ sym 4 ∷ [])) ∷ goal BoundsLow 8 32 fields_facts16 (row ((5, negsuc 0) ∷ []) (pos 0)) ∷ goal BoundsHigh 8 32 fields_facts16 (row ((4, negsuc 0) ∷ (5, pos 1) ∷ []) (negsuc 0)) ∷ goal Effect 8 32 fields_facts16 (rows 16 (sym 5 ∷ sym 1 ∷ sym 0 ∷ sym 3 ∷ sym 2 ∷ sym 5 ∷ sym 4 ∷ [])) ∷ goal BoundsLow 8 32 fields_facts16 (row ((8, negsuc 0) ∷ []) (pos 1)) ∷ goal BoundsHigh 8 32 fields_facts16 (row ((7, negsuc 0) ∷ (8, pos 1) ∷ []) (negsuc 1)) ∷ goal Effect 8 32 fields_facts21 (rows 17 (sum ((8, pos 1) ∷ []) (pos 1) ∷ sym 1 ∷ sym 0 ∷ sym 3 ∷ sym 2 ∷ sym 5 ∷ sym 4 ∷ [])) ∷ goal Fold 8 3 fields_facts21 (rows 3 (sym 6 ∷ sym 8 ∷ sym 7 ∷ sym 9 ∷ sym 11 ∷ sym 10 ∷ [])) ∷ goal Fold 8 3 fields_facts21 (rows 4 (constant_of 1 ∷ [])) ∷ goal Fold 8 3 fields_facts24 (rows 3 (sym 6 ∷ sym 8 ∷ sym 7 ∷ sym 9 ∷ sym 11 ∷ sym 10 ∷ [])) ∷ goal BoundsLow 9 3 fields_facts15 (row ((5, negsuc 0) ∷ []) (pos 0)) ∷ goal BoundsHigh 9 3 fields_facts15 (row ((4, negsuc 0) ∷ (5, pos 1) ∷ []) (negsuc 0)) ∷ goal Effect 9 3 fields_facts27 (rows 15 (sym 5 ∷ sym 1 ∷ sym 0 ∷ sym 3 ∷ sym 2 ∷ sym 5 ∷ sym 4 ∷ [])) ∷ goal BoundsLow 9 20 fields_facts28 (row ((5, negsuc 0) ∷ []) (pos 0)) ∷ goal BoundsHigh 9 20 fields_facts28 (row ((4, negsuc 0) ∷ (5, pos 1) ∷ []) (negsuc 0)) ∷ goal Effect 9 20 fields_facts28 (rows 16 (sym 5 ∷ sym 1 ∷ sym 0 ∷ sym 3 ∷ sym 2 ∷ sym 5 ∷ sym 4 ∷ [])) ∷ goal BoundsLow 9 20 fields_facts28 (row ((14, negsuc 0) ∷ []) (pos 0)) ∷ goal BoundsHigh 9 20 fields_facts28 (row ((13, negsuc 0) ∷ (14, pos 1) ∷ []) (negsuc 0)) ∷ goal Effect 9 20 fields_facts33 (rows 17 (sym 14 ∷ sym 1 ∷ sym 0 ∷ sym 3 ∷ sym 2 ∷ sym 5 ∷ sym 4 ∷ [])) ∷ goal Fold 9 3 fields_facts33 (rows 3 (sym 12 ∷ sym 14 ∷ sym 13 ∷ sym 15 ∷ sym 17 ∷ sym 16 ∷ [])) ∷ goal Fold 9 3 fields_facts33 (rows 4 (constant_of 1 ∷ [])) ∷ goal Fold 9 3 fields_facts36 (rows 3 (sym 12 ∷ sym 14 ∷ sym 13 ∷ sym 15 ∷ sym 17 ∷ sym 16 ∷ [])) ∷ goal Post 10 3 fields_facts37 (rows 11 (sym 1 ∷ sym 0 ∷ sym 3 ∷ sym 2 ∷ sym 5 ∷ sym 4 ∷ sum ((3, pos 1) ∷ []) (pos 1) ∷ sym 2 ∷ [])) ∷ goal Input 12 1 fields_facts38 (rows 5 (sym 2 ∷ [])) ∷ goal Fold 14 3 fields_facts39 (rows 6 (constant_of 0 ∷ constant_of 0 ∷ constant_of 0 ∷ constant_of 0 ∷ constant_of 0 ∷ constant_of 0 ∷ [])) ∷ goal Fold 15 3 fields_facts40 (rows 7 (constant_of 0 ∷ [])) ∷ goal BoundsLow 15 3 fields_facts41 (row [] (pos 0)) ∷ goal BoundsHigh 15 3 fields_facts41 (row ((2, negsuc 0) ∷ []) (negsuc 0)) ∷ goal Effect 15 3 fields_facts43 (rows 21 (constant_of 0 ∷ constant_of 0 ∷ sym 0 ∷ sym 1 ∷ [])) ∷ goal BoundsLow 16 3 fields_facts43 (row [] (pos 0)) ∷ goal BoundsHigh 16 3 fields_facts43 (row ((2, negsuc 0) ∷ []) (negsuc 0)) ∷ goal Effect 16 3 fields_facts43 (rows 20 (constant_of 0 ∷ constant_of 0 ∷ sym 0 ∷ sym 1 ∷ [])) ∷ goal Fold 17 3 fields_facts43 (rows 8 (constant_of 0 ∷ constant_of 0 ∷ constant_of 0 ∷ constant_of 0 ∷ constant_of 0 ∷ constant_of 0 ∷ [])) ∷ goal Fold 18 3 fields_facts48 (rows 6 (constant_of 2 ∷ constant_of 0 ∷ sym 3 ∷ sym 7 ∷ sym 9 ∷ sym 8 ∷ [])) ∷ goal LoopEntry 18 3 fields_facts48 (rows 26 (constant_of 0 ∷ sym 0 ∷ sym 1 ∷ constant_of 0 ∷ sym 2 ∷ constant_of 0 ∷ sym 10 ∷ constant_of 0 ∷ [])) ∷ goal BoundsLow 19 5 fields_facts50 (row [] (pos 0)) ∷ goal BoundsHigh 19 5 fields_facts50 (row ((10, negsuc 0) ∷ []) (negsuc 0)) ∷ goal Effect 19 5 fields_facts52 (rows 23 (constant_of 0 ∷ constant_of 0 ∷ sym 0 ∷ sym 1 ∷ [])) ∷ goal BoundsLow 19 22 fields_facts53 (row [] (pos 0)) ∷ goal BoundsHigh 19 22 fields_facts53 (row ((10, negsuc 0) ∷ []) (negsuc 0)) ∷ goal Effect 19 22 fields_facts53 (rows 24 (constant_of 0 ∷ constant_of 0 ∷ sym 0 ∷ sym 1 ∷ [])) ∷ goal BoundsLow 19 22 fields_facts53 (row ((14, negsuc 0) ∷ []) (pos 5)) ∷ goal BoundsHigh 19 22 fields_facts53 (row ((13, negsuc 0) ∷ (14, pos 1) ∷ []) (negsuc 5)) ∷ goal Effect 19 22 fields_facts58 (rows 25 (sum ((14, pos 1) ∷ []) (pos 5) ∷ constant_of 0 ∷ sym 0 ∷ sym 1 ∷ [])) ∷ goal Fold 19 5 fields_facts58 (rows 8 (sym 12 ∷ sym 14 ∷ sym 13 ∷ sym 15 ∷ sym 17 ∷ sym 16 ∷ [])) ∷ goal Fold 19 5 fields_facts58 (rows 9 (constant_of 1 ∷ [])) ∷ goal Fold 19 5 fields_facts61 (rows 8 (sym 12 ∷ sym 14 ∷ sym 13 ∷ sym 15 ∷ sym 17 ∷ sym 16 ∷ [])) ∷ goal LoopAgain 18 3 fields_facts52 (rows 26 (constant_of 0 ∷ sym 0 ∷ sym 1 ∷ constant_of 0 ∷ sym 2 ∷ constant_of 0 ∷ sym 10 ∷ sum ((11, pos 1) ∷ []) (pos 1) ∷ [])) ∷ goal BoundsLow 21 3 fields_facts63 (row [] (pos 0)) ∷ goal BoundsHigh 21 3 fields_facts63 (row ((0, negsuc 0) ∷ []) (negsuc 0)) ∷ goal Effect 21 3 fields_facts65 (rows 19 (constant_of 0 ∷ constant_of 0 ∷ sym 0 ∷ sym 1 ∷ [])) ∷ goal Fold 22 3 fields_facts65 (rows 5 (constant_of 1 ∷ [])) ∷ goal BoundsLow 24 7 fields_facts67 (row [] (pos 0)) ∷ goal BoundsHigh 24 7 fields_facts67 (row ((2, negsuc 0) ∷ []) (negsuc 0)) ∷ goal Effect 24 7 fields_facts69 (rows 28 (constant_of 0 ∷ constant_of 0 ∷ sym 0 ∷ sym 1 ∷ constant_of 0 ∷ sym 2 ∷ constant_of 0 ∷ sym 10 ∷ sym 11 ∷ [])) ∷ goal Effect 24 7 fields_facts69 (rows 22 (constant_of 0 ∷ constant_of 0 ∷ sym 0 ∷ sym 1 ∷ [])) ∷ goal BoundsLow 25 7 fields_facts69 (row [] (pos 0)) ∷ goal BoundsHigh 25 7 fields_facts69 (row ((0, negsuc 0) ∷ []) (negsuc 0)) ∷ goal Effect 25 7 fields_facts73 (rows 27 (constant_of 0 ∷ constant_of 0 ∷ sym 0 ∷ sym 1 ∷ constant_of 0 ∷ sym 2 ∷ constant_of 0 ∷ sym 10 ∷ sym 11 ∷ [])) ∷ goal Effect 25 7 fields_facts73 (rows 18 (constant_of 0 ∷ constant_of 0 ∷ sym 0 ∷ sym 1 ∷ [])) ∷ goal Fold 23 5 fields_facts73 (rows 5 (sym 20 ∷ [])) ∷ goal Fold 23 5 fields_facts73 (rows 6 (sym 14 ∷ sym 16 ∷ sym 15 ∷ sym 17 ∷ constant_of 0 ∷ sym 13 ∷ [])) ∷ goal BoundsLow 30 7 fields_facts65 (row [] (pos 3)) ∷ goal BoundsHigh 30 7 fields_facts65 (row ((0, negsuc 0) ∷ []) (negsuc 3)) ∷ goal Effect 30 7 fields_facts79 (rows 29 (constant_of 3 ∷ constant_of 0 ∷ sym 0 ∷ sym 1 ∷ constant_of 0 ∷ sym 2 ∷ constant_of 0 ∷ sym 10 ∷ sym 11 ∷ [])) ∷ goal Effect 30 7 fields_facts79 (rows 18 (constant_of 3 ∷ constant_of 0 ∷ sym 0 ∷ sym 1 ∷ [])) ∷ goal BoundsLow 30 7 fields_facts79 (row ((13, negsuc 0) ∷ []) (pos 0)) ∷ goal BoundsHigh 30 7 fields_facts79 (row ((0, negsuc 0) ∷ (13, pos 1) ∷ []) (negsuc 0)) ∷ goal Fold 30 7 fields_facts79 (rows 5 (sym 13 ∷ [])) ∷ goal Effect 30 7 fields_facts84 (rows 30 (sym 13 ∷ constant_of 0 ∷ sym 0 ∷ sym 1 ∷ constant_of 0 ∷ sym 2 ∷ constant_of 0 ∷ sym 10 ∷ sym 11 ∷ [])) ∷ goal Effect 30 7 fields_facts84 (rows 19 (sym 13 ∷ constant_of 0 ∷ sym 0 ∷ sym 1 ∷ [])) ∷ goal Fold 29 5 fields_facts84 (rows 5 (constant_of 0 ∷ [])) ∷ pair 22 3 23 5 29 5 5 false true 0 0 fields_facts87 ∷ []
fields-conditions = refl
