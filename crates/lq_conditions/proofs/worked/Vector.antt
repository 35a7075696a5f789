-- The conditions of the program of plain.Vector: records that are open for a while.
use Rattle.std.proofs.Common.{◌≡◌, refl}
use Rattle.std.specs.Prelude.{List, [], ◌∷◌, pos, negsuc, ◌++◌}
use Rattle.lq_meaning.proofs.worked.plain.Vector.{vector}
use Rattle.lq_templates.specs.declared.condition.Given.{Given}
use Rattle.lq_templates.specs.declared.condition.Rule.TheVariants.{BoundsHigh, BoundsLow, Effect, Fold, Input, LoopAgain, LoopEntry}
use Rattle.lq_templates.specs.Classes.{ClassOf}
use Rattle.lq_templates.proofs.AccessSets.{rounds}
use Rattle.lq_templates.proofs.worked.Words.{classes}
use Rattle.lq_conditions.specs.Conditions.{conditions}
use Rattle.lq_conditions.proofs.worked.Words.{goal, num, row, rows, sum, sym}

abbrev vector_classes : ClassOf
vector_classes = classes ((0, 0, 1) ∷ (0, 2, 2) ∷ (0, 3, 3) ∷ (0, 6, 3) ∷ (0, 8, 3) ∷ [])

abbrev vector_facts1 : List Given
vector_facts1 = (row ((0, negsuc 0) ∷ []) (pos 0) ∷ row ((0, pos 1) ∷ (1, negsuc 0) ∷ []) (pos 0) ∷ row ((0, negsuc 0) ∷ (1, pos 1) ∷ []) (pos 0) ∷ [])

abbrev vector_facts3 : List Given
vector_facts3 = vector_facts1 ++ (row ((2, negsuc 0) ∷ []) (negsuc 0) ∷ row ((2, pos 1) ∷ []) (pos 1) ∷ row ((2, negsuc 0) ∷ []) (negsuc 0) ∷ [])

abbrev vector_facts5 : List Given
vector_facts5 = vector_facts3 ++ (row ((4, negsuc 0) ∷ []) (pos 0) ∷ row ((5, negsuc 0) ∷ []) (pos 0) ∷ rows 2 (sym 3 ∷ sym 5 ∷ sym 4 ∷ []) ∷ [])

abbrev vector_facts7 : List Given
vector_facts7 = vector_facts5 ++ (row ((6, negsuc 0) ∷ []) (negsuc 0) ∷ row ((6, pos 1) ∷ []) (pos 8) ∷ row ((6, negsuc 0) ∷ []) (negsuc 7) ∷ [])

abbrev vector_facts12 : List Given
vector_facts12 = vector_facts7 ++ (rows 10 (num 0 ∷ sym 0 ∷ sym 1 ∷ num 0 ∷ sym 2 ∷ sym 7 ∷ []) ∷ [])

abbrev vector_facts14 : List Given
vector_facts14 = vector_facts12 ++ (row ((9, negsuc 0) ∷ []) (pos 0) ∷ row ((10, negsuc 0) ∷ []) (pos 0) ∷ rows 2 (sym 8 ∷ sym 10 ∷ sym 9 ∷ []) ∷ [])

abbrev vector_facts15 : List Given
vector_facts15 = vector_facts14 ++ (row ((7, pos 1) ∷ (8, negsuc 0) ∷ []) (negsuc 0) ∷ [])

abbrev vector_facts20 : List Given
vector_facts20 = vector_facts15 ++ (rows 3 (sym 11 ∷ []) ∷ [])

abbrev vector_facts24 : List Given
vector_facts24 = vector_facts14 ++ (row ((7, negsuc 0) ∷ (8, pos 1) ∷ []) (pos 0) ∷ [])

abbrev vector_facts27 : List Given
vector_facts27 = vector_facts24 ++ (row ((8, negsuc 0) ∷ []) (negsuc 7) ∷ [])

abbrev vector_facts32 : List Given
vector_facts32 = vector_facts27 ++ (rows 3 (sym 11 ∷ []) ∷ [])

abbrev vector_facts35 : List Given
vector_facts35 = vector_facts24 ++ (row ((8, pos 1) ∷ []) (pos 7) ∷ [])

-- all conditions, in their order
vector-conditions : (conditions vector vector_classes (rounds vector vector_classes 1)).list ≡
    goal Input 2 1 vector_facts1 (rows 1 (sym 2 ∷ [])) ∷ goal Fold 3 3 vector_facts1 (rows 2 (num 0 ∷ num 0 ∷ num 0 ∷ [])) ∷ goal BoundsLow 4 3 vector_facts3 (row [] (pos 0)) ∷ goal BoundsHigh 4 3 vector_facts3 (row ((2, negsuc 0) ∷ []) (negsuc 0)) ∷ goal Effect 4 3 vector_facts5 (rows 5 (num 0 ∷ num 0 ∷ sym 0 ∷ sym 1 ∷ [])) ∷ goal Fold 5 3 vector_facts5 (rows 3 (num 0 ∷ [])) ∷ goal BoundsLow 5 3 vector_facts7 (row [] (pos 0)) ∷ goal BoundsHigh 5 3 vector_facts7 (row ((2, negsuc 0) ∷ []) (negsuc 0)) ∷ goal Effect 5 3 vector_facts7 (rows 7 (num 0 ∷ num 0 ∷ sym 0 ∷ sym 1 ∷ [])) ∷ goal Fold 7 3 vector_facts7 (rows 2 (num 8 ∷ num 0 ∷ sym 6 ∷ [])) ∷ goal LoopEntry 7 3 vector_facts7 (rows 10 (num 0 ∷ sym 0 ∷ sym 1 ∷ num 0 ∷ sym 2 ∷ num 0 ∷ [])) ∷ goal BoundsLow 7 3 vector_facts12 (row [] (pos 0)) ∷ goal BoundsHigh 7 3 vector_facts12 (row ((2, negsuc 0) ∷ []) (negsuc 0)) ∷ goal Effect 7 3 vector_facts14 (rows 4 (num 0 ∷ num 0 ∷ sym 0 ∷ sym 1 ∷ [])) ∷ goal BoundsLow 7 22 vector_facts15 (row [] (pos 0)) ∷ goal BoundsHigh 7 22 vector_facts15 (row ((2, negsuc 0) ∷ []) (negsuc 0)) ∷ goal Effect 7 22 vector_facts15 (rows 6 (num 0 ∷ num 0 ∷ sym 0 ∷ sym 1 ∷ [])) ∷ goal BoundsLow 7 22 vector_facts15 (row ((7, negsuc 0) ∷ (10, negsuc 0) ∷ []) (pos 0)) ∷ goal BoundsHigh 7 22 vector_facts15 (row ((7, pos 1) ∷ (9, negsuc 0) ∷ (10, pos 1) ∷ []) (negsuc 0)) ∷ goal Effect 7 22 vector_facts20 (rows 9 (sum ((7, pos 1) ∷ (10, pos 1) ∷ []) (pos 0) ∷ num 0 ∷ sym 0 ∷ sym 1 ∷ [])) ∷ goal Fold 7 3 vector_facts20 (rows 2 (sym 8 ∷ sym 10 ∷ sym 9 ∷ [])) ∷ goal Fold 7 3 vector_facts20 (rows 3 (sum ((7, pos 10) ∷ []) (pos 0) ∷ [])) ∷ goal LoopAgain 7 3 vector_facts20 (rows 10 (num 0 ∷ sym 0 ∷ sym 1 ∷ num 0 ∷ sym 2 ∷ sum ((7, pos 1) ∷ []) (pos 1) ∷ [])) ∷ goal BoundsLow 8 3 vector_facts24 (row [] (pos 0)) ∷ goal BoundsHigh 8 3 vector_facts24 (row ((2, negsuc 0) ∷ []) (negsuc 0)) ∷ goal Effect 8 3 vector_facts24 (rows 4 (num 0 ∷ num 0 ∷ sym 0 ∷ sym 1 ∷ [])) ∷ goal BoundsLow 8 19 vector_facts27 (row [] (pos 0)) ∷ goal BoundsHigh 8 19 vector_facts27 (row ((2, negsuc 0) ∷ []) (negsuc 0)) ∷ goal Effect 8 19 vector_facts27 (rows 6 (num 0 ∷ num 0 ∷ sym 0 ∷ sym 1 ∷ [])) ∷ goal BoundsLow 8 19 vector_facts27 (row ((10, negsuc 0) ∷ []) (pos 7)) ∷ goal BoundsHigh 8 19 vector_facts27 (row ((9, negsuc 0) ∷ (10, pos 1) ∷ []) (negsuc 7)) ∷ goal Effect 8 19 vector_facts32 (rows 8 (sum ((10, pos 1) ∷ []) (pos 7) ∷ num 0 ∷ sym 0 ∷ sym 1 ∷ [])) ∷ goal Fold 8 3 vector_facts32 (rows 2 (sym 8 ∷ sym 10 ∷ sym 9 ∷ [])) ∷ goal Fold 8 3 vector_facts32 (rows 3 (sym 11 ∷ [])) ∷ goal Fold 8 3 vector_facts35 (rows 2 (sym 8 ∷ sym 10 ∷ sym 9 ∷ [])) ∷ []
vector-conditions = refl
