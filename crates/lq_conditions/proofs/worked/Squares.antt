-- The conditions of the program of plain.Squares: a loop and a `foreach`.
use Rattle.std.proofs.Common.{◌≡◌, refl}
use Rattle.std.specs.Prelude.{List, [], ◌∷◌, pos, negsuc, true, ◌++◌}
use Rattle.lq_meaning.proofs.worked.plain.Squares.{squares}
use Rattle.lq_templates.specs.declared.condition.Given.{Given}
use Rattle.lq_templates.specs.declared.condition.Rule.TheVariants.{BoundsHigh, BoundsLow, Effect, Fold, Input, LoopAgain, LoopEntry}
use Rattle.lq_templates.specs.Classes.{ClassOf}
use Rattle.lq_templates.proofs.AccessSets.{rounds}
use Rattle.lq_templates.proofs.worked.Words.{classes}
use Rattle.lq_conditions.specs.Conditions.{conditions}
use Rattle.lq_conditions.proofs.worked.Words.{goal, num, pair, row, rows, sum, sym}

abbrev squares_classes : ClassOf
squares_classes = classes ((0, 0, 1) ∷ (0, 2, 2) ∷ [])

abbrev squares_facts1 : List Given
squares_facts1 = (row ((0, negsuc 0) ∷ []) (pos 0) ∷ row ((0, pos 1) ∷ (1, negsuc 0) ∷ []) (pos 0) ∷ row ((0, negsuc 0) ∷ (1, pos 1) ∷ []) (pos 0) ∷ [])

abbrev squares_facts3 : List Given
squares_facts3 = squares_facts1 ++ (row ((2, negsuc 0) ∷ []) (negsuc 0) ∷ row ((2, pos 1) ∷ []) (pos 5) ∷ row ((2, negsuc 0) ∷ []) (negsuc 4) ∷ row ((3, negsuc 0) ∷ []) (pos 0) ∷ row ((3, pos 1) ∷ []) (pos 4) ∷ [])

abbrev squares_facts5 : List Given
squares_facts5 = squares_facts3 ++ (rows 2 (sym 5 ∷ []) ∷ [])

abbrev squares_facts8 : List Given
squares_facts8 = squares_facts1 ++ (row ((2, negsuc 0) ∷ []) (negsuc 0) ∷ row ((2, pos 1) ∷ []) (pos 5) ∷ row ((2, negsuc 0) ∷ []) (negsuc 4) ∷ row ((3, negsuc 0) ∷ []) (pos 0) ∷ row ((3, pos 1) ∷ (4, negsuc 0) ∷ []) (negsuc 0) ∷ row ((4, pos 1) ∷ []) (pos 4) ∷ rows 5 (sym 5 ∷ num 0 ∷ sym 0 ∷ sym 1 ∷ num 0 ∷ sym 2 ∷ sym 3 ∷ []) ∷ rows 5 (sym 5 ∷ num 0 ∷ sym 0 ∷ sym 1 ∷ num 0 ∷ sym 2 ∷ sym 4 ∷ []) ∷ [])

abbrev squares_facts9 : List Given
squares_facts9 = squares_facts1 ++ (row ((2, negsuc 0) ∷ []) (negsuc 0) ∷ row ((2, pos 1) ∷ []) (pos 5) ∷ row ((2, negsuc 0) ∷ []) (negsuc 4) ∷ [])

abbrev squares_facts10 : List Given
squares_facts10 = squares_facts9 ++ (rows 6 (num 0 ∷ sym 0 ∷ sym 1 ∷ num 0 ∷ sym 2 ∷ sym 3 ∷ []) ∷ row ((3, pos 1) ∷ []) (pos 4) ∷ [])

abbrev squares_facts12 : List Given
squares_facts12 = squares_facts10 ++ (rows 2 (sym 4 ∷ []) ∷ [])

-- all conditions, in their order
squares-conditions : (conditions squares squares_classes (rounds squares squares_classes 1)).list ≡
    goal Input 1 1 squares_facts1 (rows 1 (sym 2 ∷ [])) ∷ goal Fold 2 3 squares_facts1 (rows 2 (num 0 ∷ [])) ∷ goal BoundsLow 3 23 squares_facts3 (row ((3, negsuc 0) ∷ []) (pos 0)) ∷ goal BoundsHigh 3 23 squares_facts3 (row ((2, negsuc 0) ∷ (3, pos 1) ∷ []) (negsuc 0)) ∷ goal Effect 3 23 squares_facts5 (rows 5 (sym 3 ∷ num 0 ∷ sym 0 ∷ sym 1 ∷ num 0 ∷ sym 2 ∷ sym 3 ∷ [])) ∷ goal Effect 3 23 squares_facts5 (rows 4 (sym 3 ∷ num 0 ∷ sym 0 ∷ sym 1 ∷ [])) ∷ goal Fold 3 21 squares_facts5 (rows 2 (sym 4 ∷ [])) ∷ pair 3 3 3 21 3 21 2 true true 0 0 squares_facts8 ∷ goal LoopEntry 5 3 squares_facts9 (rows 6 (num 0 ∷ sym 0 ∷ sym 1 ∷ num 0 ∷ sym 2 ∷ num 0 ∷ [])) ∷ goal BoundsLow 5 19 squares_facts10 (row ((3, negsuc 0) ∷ []) (pos 0)) ∷ goal BoundsHigh 5 19 squares_facts10 (row ((2, negsuc 0) ∷ (3, pos 1) ∷ []) (negsuc 0)) ∷ goal Effect 5 19 squares_facts12 (rows 3 (sym 3 ∷ num 0 ∷ sym 0 ∷ sym 1 ∷ [])) ∷ goal Fold 5 3 squares_facts12 (rows 2 (sym 4 ∷ [])) ∷ goal LoopAgain 5 3 squares_facts12 (rows 6 (num 0 ∷ sym 0 ∷ sym 1 ∷ num 0 ∷ sym 2 ∷ sum ((3, pos 1) ∷ []) (pos 1) ∷ [])) ∷ []
squares-conditions = refl
