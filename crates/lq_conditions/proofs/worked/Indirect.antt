-- The conditions of the program of plain.Indirect: indices that are read from an array.
use Rattle.std.proofs.Common.{◌≡◌, refl}
use Rattle.std.specs.Prelude.{List, [], ◌∷◌, pos, negsuc, ◌++◌}
use Rattle.lq_meaning.proofs.worked.plain.Indirect.{indirect}
use Rattle.lq_templates.specs.declared.condition.Given.{Given}
use Rattle.lq_templates.specs.declared.condition.Rule.TheVariants.{BoundsHigh, BoundsLow, Effect, Fold, Input, LoopAgain, LoopEntry}
use Rattle.lq_templates.specs.Classes.{ClassOf}
use Rattle.lq_templates.proofs.AccessSets.{rounds}
use Rattle.lq_templates.proofs.worked.Words.{classes}
use Rattle.lq_conditions.specs.Conditions.{conditions}
use Rattle.lq_conditions.proofs.worked.Words.{goal, num, row, rows, sum, sym}

abbrev indirect_classes : ClassOf
indirect_classes = classes ((0, 0, 1) ∷ (0, 2, 2) ∷ (0, 3, 3) ∷ [])

abbrev indirect_facts1 : List Given
indirect_facts1 = (row ((0, negsuc 0) ∷ []) (pos 0) ∷ row ((0, pos 1) ∷ (1, negsuc 0) ∷ []) (pos 0) ∷ row ((0, negsuc 0) ∷ (1, pos 1) ∷ []) (pos 0) ∷ [])

abbrev indirect_facts3 : List Given
indirect_facts3 = indirect_facts1 ++ (row ((2, negsuc 0) ∷ []) (negsuc 0) ∷ row ((2, pos 1) ∷ []) (pos 4) ∷ row ((2, negsuc 0) ∷ []) (negsuc 3) ∷ [])

abbrev indirect_facts4 : List Given
indirect_facts4 = indirect_facts3 ++ (row ((3, negsuc 0) ∷ []) (negsuc 0) ∷ row ((3, pos 1) ∷ []) (pos 3) ∷ row ((3, negsuc 0) ∷ []) (negsuc 2) ∷ [])

abbrev indirect_facts6 : List Given
indirect_facts6 = indirect_facts4 ++ (rows 3 (sym 4 ∷ []) ∷ [])

abbrev indirect_facts10 : List Given
indirect_facts10 = indirect_facts6 ++ (rows 3 (sym 5 ∷ []) ∷ [])

abbrev indirect_facts13 : List Given
indirect_facts13 = indirect_facts10 ++ (rows 8 (num 0 ∷ sym 0 ∷ sym 1 ∷ num 0 ∷ sym 2 ∷ num 0 ∷ sym 3 ∷ sym 6 ∷ []) ∷ row ((6, pos 1) ∷ []) (pos 2) ∷ [])

abbrev indirect_facts15 : List Given
indirect_facts15 = indirect_facts13 ++ (rows 3 (sym 7 ∷ []) ∷ [])

abbrev indirect_facts18 : List Given
indirect_facts18 = indirect_facts15 ++ (rows 2 (sym 8 ∷ []) ∷ [])

abbrev indirect_facts22 : List Given
indirect_facts22 = indirect_facts10 ++ (rows 8 (num 0 ∷ sym 0 ∷ sym 1 ∷ num 0 ∷ sym 2 ∷ num 0 ∷ sym 3 ∷ sym 6 ∷ []) ∷ row ((6, negsuc 0) ∷ []) (negsuc 2) ∷ [])

abbrev indirect_facts24 : List Given
indirect_facts24 = indirect_facts22 ++ (rows 2 (sym 7 ∷ []) ∷ [])

-- all conditions, in their order
indirect-conditions : (conditions indirect indirect_classes (rounds indirect indirect_classes 1)).list ≡
    goal Input 1 1 indirect_facts1 (rows 1 (sym 2 ∷ [])) ∷ goal Fold 2 3 indirect_facts1 (rows 2 (num 0 ∷ [])) ∷ goal Fold 3 3 indirect_facts3 (rows 3 (num 0 ∷ [])) ∷ goal BoundsLow 4 3 indirect_facts4 (row [] (pos 0)) ∷ goal BoundsHigh 4 3 indirect_facts4 (row ((3, negsuc 0) ∷ []) (negsuc 0)) ∷ goal Effect 4 3 indirect_facts6 (rows 7 (num 0 ∷ num 0 ∷ sym 0 ∷ sym 1 ∷ [])) ∷ goal BoundsLow 5 3 indirect_facts6 (row [] (pos 1)) ∷ goal BoundsHigh 5 3 indirect_facts6 (row ((3, negsuc 0) ∷ []) (negsuc 1)) ∷ goal Fold 5 3 indirect_facts6 (rows 3 (num 3 ∷ [])) ∷ goal Effect 5 3 indirect_facts10 (rows 7 (num 1 ∷ num 0 ∷ sym 0 ∷ sym 1 ∷ [])) ∷ goal Fold 7 3 indirect_facts10 (rows 3 (num 1 ∷ [])) ∷ goal LoopEntry 7 3 indirect_facts10 (rows 8 (num 0 ∷ sym 0 ∷ sym 1 ∷ num 0 ∷ sym 2 ∷ num 0 ∷ sym 3 ∷ num 0 ∷ [])) ∷ goal BoundsLow 7 19 indirect_facts13 (row ((6, negsuc 0) ∷ []) (pos 0)) ∷ goal BoundsHigh 7 19 indirect_facts13 (row ((3, negsuc 0) ∷ (6, pos 1) ∷ []) (negsuc 0)) ∷ goal Effect 7 19 indirect_facts15 (rows 6 (sym 6 ∷ num 0 ∷ sym 0 ∷ sym 1 ∷ [])) ∷ goal BoundsLow 7 19 indirect_facts15 (row ((7, negsuc 0) ∷ []) (pos 0)) ∷ goal BoundsHigh 7 19 indirect_facts15 (row ((2, negsuc 0) ∷ (7, pos 1) ∷ []) (negsuc 0)) ∷ goal Effect 7 19 indirect_facts18 (rows 5 (sym 7 ∷ num 0 ∷ sym 0 ∷ sym 1 ∷ [])) ∷ goal Fold 7 3 indirect_facts18 (rows 2 (num 5 ∷ [])) ∷ goal Fold 7 3 indirect_facts18 (rows 3 (sym 7 ∷ [])) ∷ goal LoopAgain 7 3 indirect_facts18 (rows 8 (num 0 ∷ sym 0 ∷ sym 1 ∷ num 0 ∷ sym 2 ∷ num 0 ∷ sym 3 ∷ sum ((6, pos 1) ∷ []) (pos 1) ∷ [])) ∷ goal BoundsLow 8 3 indirect_facts22 (row [] (pos 3)) ∷ goal BoundsHigh 8 3 indirect_facts22 (row ((2, negsuc 0) ∷ []) (negsuc 3)) ∷ goal Effect 8 3 indirect_facts24 (rows 4 (num 3 ∷ num 0 ∷ sym 0 ∷ sym 1 ∷ [])) ∷ goal Fold 9 3 indirect_facts24 (rows 2 (sym 7 ∷ [])) ∷ []
indirect-conditions = refl
