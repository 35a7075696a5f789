-- The conditions of the program of plain.Strided: a loop in a `foreach`.
use Rattle.std.proofs.Common.{◌≡◌, refl}
use Rattle.std.specs.Prelude.{List, [], ◌∷◌, pos, negsuc, true, ◌++◌}
use Rattle.lq_meaning.proofs.worked.plain.Strided.{strided}
use Rattle.lq_templates.specs.declared.condition.Given.{Given}
use Rattle.lq_templates.specs.declared.condition.Rule.TheVariants.{BoundsHigh, BoundsLow, Effect, Fold, Input, LoopAgain, LoopEntry}
use Rattle.lq_templates.specs.Classes.{ClassOf}
use Rattle.lq_templates.proofs.AccessSets.{rounds}
use Rattle.lq_templates.proofs.worked.Words.{classes}
use Rattle.lq_conditions.specs.Conditions.{conditions}
use Rattle.lq_conditions.proofs.worked.Words.{goal, num, pair, row, rows, sum, sym}

abbrev strided_classes : ClassOf
strided_classes = classes ((0, 0, 1) ∷ (0, 2, 2) ∷ [])

abbrev strided_facts1 : List Given
strided_facts1 = (row ((0, negsuc 0) ∷ []) (pos 0) ∷ row ((0, pos 1) ∷ (1, negsuc 0) ∷ []) (pos 0) ∷ row ((0, negsuc 0) ∷ (1, pos 1) ∷ []) (pos 0) ∷ [])

abbrev strided_facts2 : List Given
strided_facts2 = strided_facts1 ++ (row ((1, negsuc 0) ∷ []) (negsuc 0) ∷ [])

abbrev strided_facts3 : List Given
strided_facts3 = strided_facts2 ++ (row ((2, negsuc 0) ∷ []) (negsuc 0) ∷ row ((1, negsuc 3) ∷ (2, pos 1) ∷ []) (pos 0) ∷ row ((1, pos 4) ∷ (2, negsuc 0) ∷ []) (pos 0) ∷ row ((3, negsuc 0) ∷ []) (pos 0) ∷ row ((1, negsuc 0) ∷ (3, pos 1) ∷ []) (negsuc 0) ∷ [])

abbrev strided_facts4 : List Given
strided_facts4 = strided_facts3 ++ (rows 8 (num 0 ∷ sym 0 ∷ sym 1 ∷ num 0 ∷ sym 2 ∷ sym 3 ∷ sym 4 ∷ []) ∷ row ((4, pos 1) ∷ []) (pos 3) ∷ [])

abbrev strided_facts6 : List Given
strided_facts6 = strided_facts4 ++ (rows 1 (sym 5 ∷ []) ∷ [])

abbrev strided_facts10 : List Given
strided_facts10 = strided_facts6 ++ (rows 2 (sym 6 ∷ []) ∷ [])

abbrev strided_facts15 : List Given
strided_facts15 = strided_facts2 ++ (row ((2, negsuc 0) ∷ []) (negsuc 0) ∷ row ((1, negsuc 3) ∷ (2, pos 1) ∷ []) (pos 0) ∷ row ((1, pos 4) ∷ (2, negsuc 0) ∷ []) (pos 0) ∷ row ((3, negsuc 0) ∷ []) (pos 0) ∷ row ((3, pos 1) ∷ (4, negsuc 0) ∷ []) (negsuc 0) ∷ row ((1, negsuc 0) ∷ (4, pos 1) ∷ []) (negsuc 0) ∷ rows 7 (sym 5 ∷ num 0 ∷ sym 0 ∷ sym 1 ∷ num 0 ∷ sym 2 ∷ sym 3 ∷ []) ∷ rows 7 (sym 5 ∷ num 0 ∷ sym 0 ∷ sym 1 ∷ num 0 ∷ sym 2 ∷ sym 4 ∷ []) ∷ [])

abbrev strided_facts16 : List Given
strided_facts16 = strided_facts2 ++ (row ((2, negsuc 0) ∷ []) (negsuc 0) ∷ row ((1, negsuc 3) ∷ (2, pos 1) ∷ []) (pos 0) ∷ row ((1, pos 4) ∷ (2, negsuc 0) ∷ []) (pos 0) ∷ [])

abbrev strided_facts18 : List Given
strided_facts18 = strided_facts16 ++ (rows 2 (sym 3 ∷ []) ∷ [])

abbrev strided_facts22 : List Given
strided_facts22 = strided_facts18 ++ (rows 2 (sym 4 ∷ []) ∷ [])

-- all conditions, in their order
strided-conditions : (conditions strided strided_classes (rounds strided strided_classes 1)).list ≡
    goal Input 1 1 strided_facts1 (rows 1 (sym 2 ∷ [])) ∷ goal Fold 3 3 strided_facts2 (rows 2 (num 0 ∷ [])) ∷ goal LoopEntry 6 5 strided_facts3 (rows 8 (num 0 ∷ sym 0 ∷ sym 1 ∷ num 0 ∷ sym 2 ∷ sym 3 ∷ num 0 ∷ [])) ∷ goal BoundsLow 6 21 strided_facts4 (row ((3, negsuc 0) ∷ []) (pos 0)) ∷ goal BoundsHigh 6 21 strided_facts4 (row ((0, negsuc 0) ∷ (3, pos 1) ∷ []) (negsuc 0)) ∷ goal Effect 6 21 strided_facts6 (rows 6 (sym 3 ∷ num 0 ∷ sym 0 ∷ sym 1 ∷ num 0 ∷ sym 2 ∷ sym 3 ∷ [])) ∷ goal Effect 6 21 strided_facts6 (rows 3 (sym 3 ∷ num 0 ∷ sym 0 ∷ sym 1 ∷ [])) ∷ goal BoundsLow 6 21 strided_facts6 (row ((3, negsuc 3) ∷ (4, negsuc 0) ∷ []) (pos 0)) ∷ goal BoundsHigh 6 21 strided_facts6 (row ((2, negsuc 0) ∷ (3, pos 4) ∷ (4, pos 1) ∷ []) (negsuc 0)) ∷ goal Effect 6 21 strided_facts10 (rows 7 (sum ((3, pos 4) ∷ (4, pos 1) ∷ []) (pos 0) ∷ num 0 ∷ sym 0 ∷ sym 1 ∷ num 0 ∷ sym 2 ∷ sym 3 ∷ [])) ∷ goal Effect 6 21 strided_facts10 (rows 5 (sum ((3, pos 4) ∷ (4, pos 1) ∷ []) (pos 0) ∷ num 0 ∷ sym 0 ∷ sym 1 ∷ [])) ∷ goal Fold 6 5 strided_facts10 (rows 1 (sym 5 ∷ [])) ∷ goal Fold 6 5 strided_facts10 (rows 2 (sum ((4, pos 1) ∷ (5, pos 1) ∷ []) (pos 0) ∷ [])) ∷ goal LoopAgain 6 5 strided_facts10 (rows 8 (num 0 ∷ sym 0 ∷ sym 1 ∷ num 0 ∷ sym 2 ∷ sym 3 ∷ sum ((4, pos 1) ∷ []) (pos 1) ∷ [])) ∷ pair 4 3 4 21 4 21 2 true true 0 0 strided_facts15 ∷ goal BoundsLow 8 3 strided_facts16 (row [] (pos 0)) ∷ goal BoundsHigh 8 3 strided_facts16 (row ((2, negsuc 0) ∷ []) (negsuc 0)) ∷ goal Effect 8 3 strided_facts18 (rows 4 (num 0 ∷ num 0 ∷ sym 0 ∷ sym 1 ∷ [])) ∷ goal BoundsLow 9 3 strided_facts18 (row ((1, negsuc 3) ∷ []) (negsuc 0)) ∷ goal BoundsHigh 9 3 strided_facts18 (row ((1, pos 4) ∷ (2, negsuc 0) ∷ []) (pos 0)) ∷ goal Fold 9 3 strided_facts18 (rows 2 (sym 3 ∷ [])) ∷ goal Effect 9 3 strided_facts22 (rows 4 (sum ((1, pos 4) ∷ []) (negsuc 0) ∷ num 0 ∷ sym 0 ∷ sym 1 ∷ [])) ∷ goal Fold 10 3 strided_facts22 (rows 2 (sym 4 ∷ [])) ∷ []
strided-conditions = refl
