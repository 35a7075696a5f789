-- The conditions of the program of plain.Halves: a function that is called in two branches.
use Rattle.std.proofs.Common.{◌≡◌, refl}
use Rattle.std.specs.Prelude.{List, [], ◌∷◌, pos, negsuc, true, ◌++◌}
use Rattle.lq_meaning.proofs.worked.plain.Halves.{halves}
use Rattle.lq_templates.specs.declared.condition.Given.{Given}
use Rattle.lq_templates.specs.declared.condition.Rule.TheVariants.{BoundsHigh, BoundsLow, Effect, Fold, Input, LoopAgain, LoopEntry, Pre}
use Rattle.lq_templates.specs.Classes.{ClassOf}
use Rattle.lq_templates.proofs.AccessSets.{rounds}
use Rattle.lq_templates.proofs.worked.Words.{classes}
use Rattle.lq_conditions.specs.Conditions.{conditions}
use Rattle.lq_conditions.proofs.worked.Words.{division, goal, num, pair, row, rows, sum, sym}

abbrev halves_classes : ClassOf
halves_classes = classes ((0, 0, 1) ∷ (1, 0, 1) ∷ [])

abbrev halves_facts1 : List Given
halves_facts1 = (row ((0, negsuc 0) ∷ []) (pos 0) ∷ row ((1, negsuc 0) ∷ []) (pos 0) ∷ rows 2 (sym 1 ∷ sym 0 ∷ sym 2 ∷ sym 3 ∷ sym 4 ∷ []) ∷ [])

abbrev halves_facts2 : List Given
halves_facts2 = halves_facts1 ++ (rows 4 (sym 1 ∷ sym 0 ∷ sym 2 ∷ sym 3 ∷ sym 4 ∷ sym 5 ∷ []) ∷ row ((3, negsuc 0) ∷ (5, pos 1) ∷ []) (negsuc 0) ∷ [])

abbrev halves_facts4 : List Given
halves_facts4 = halves_facts2 ++ (rows 1 (sym 6 ∷ []) ∷ [])

abbrev halves_facts7 : List Given
halves_facts7 = (row ((0, negsuc 0) ∷ []) (pos 0) ∷ row ((0, pos 1) ∷ (1, negsuc 0) ∷ []) (pos 0) ∷ row ((0, negsuc 0) ∷ (1, pos 1) ∷ []) (pos 0) ∷ [])

abbrev halves_facts8 : List Given
halves_facts8 = halves_facts7 ++ (row ((1, negsuc 0) ∷ []) (negsuc 1) ∷ division 2 (sym 1) (pos 2) ∷ [])

abbrev halves_facts9 : List Given
halves_facts9 = halves_facts8 ++ (rows 3 (sym 3 ∷ num 0 ∷ sym 0 ∷ num 0 ∷ sym 2 ∷ num 1 ∷ []) ∷ [])

abbrev halves_facts12 : List Given
halves_facts12 = halves_facts8 ++ (rows 3 (sym 3 ∷ num 0 ∷ sym 0 ∷ sym 2 ∷ sym 1 ∷ num 2 ∷ []) ∷ [])

abbrev halves_facts14 : List Given
halves_facts14 = halves_facts8 ++ (rows 7 (sym 3 ∷ num 0 ∷ sym 0 ∷ sym 1 ∷ sym 2 ∷ []) ∷ rows 8 (sym 3 ∷ num 0 ∷ sym 0 ∷ sym 1 ∷ sym 2 ∷ []) ∷ [])

abbrev halves_facts17 : List Given
halves_facts17 = halves_facts8 ++ (rows 1 (sym 3 ∷ []) ∷ [])

abbrev halves_facts21 : List Given
halves_facts21 = halves_facts17 ++ (rows 1 (sym 4 ∷ []) ∷ [])

-- all conditions, in their order
halves-conditions : (conditions halves halves_classes (rounds halves halves_classes 2)).list ≡
    goal LoopEntry 3 3 halves_facts1 (rows 4 (sym 1 ∷ sym 0 ∷ sym 2 ∷ sym 3 ∷ sym 4 ∷ sym 2 ∷ [])) ∷ goal BoundsLow 3 20 halves_facts2 (row ((1, negsuc 0) ∷ (5, negsuc 0) ∷ []) (pos 0)) ∷ goal BoundsHigh 3 20 halves_facts2 (row ((0, negsuc 0) ∷ (1, pos 1) ∷ (5, pos 1) ∷ []) (negsuc 0)) ∷ goal Effect 3 20 halves_facts4 (rows 3 (sum ((1, pos 1) ∷ (5, pos 1) ∷ []) (pos 0) ∷ sym 1 ∷ sym 0 ∷ sym 2 ∷ sym 3 ∷ sym 4 ∷ [])) ∷ goal Fold 3 3 halves_facts4 (rows 1 (sym 4 ∷ [])) ∷ goal LoopAgain 3 3 halves_facts4 (rows 4 (sym 1 ∷ sym 0 ∷ sym 2 ∷ sym 3 ∷ sym 4 ∷ sum ((5, pos 1) ∷ []) (pos 1) ∷ [])) ∷ goal Input 5 1 halves_facts7 (rows 1 (sym 2 ∷ [])) ∷ goal Pre 9 7 halves_facts8 (rows 2 (num 0 ∷ sym 0 ∷ num 0 ∷ sym 2 ∷ num 1 ∷ [])) ∷ goal Effect 9 7 halves_facts9 (rows 7 (sym 3 ∷ num 0 ∷ sym 0 ∷ sym 1 ∷ sym 2 ∷ [])) ∷ goal Effect 9 7 halves_facts9 (rows 6 (sym 3 ∷ num 0 ∷ sym 0 ∷ sym 1 ∷ [])) ∷ goal Pre 10 7 halves_facts8 (rows 2 (num 0 ∷ sym 0 ∷ sym 2 ∷ sym 1 ∷ num 2 ∷ [])) ∷ goal Effect 10 7 halves_facts12 (rows 8 (sym 3 ∷ num 0 ∷ sym 0 ∷ sym 1 ∷ sym 2 ∷ [])) ∷ goal Effect 10 7 halves_facts12 (rows 6 (sym 3 ∷ num 0 ∷ sym 0 ∷ sym 1 ∷ [])) ∷ pair 8 3 9 5 10 5 1 true true 0 0 halves_facts14 ∷ goal BoundsLow 12 3 halves_facts8 (row [] (pos 0)) ∷ goal BoundsHigh 12 3 halves_facts8 (row ((0, negsuc 0) ∷ []) (negsuc 0)) ∷ goal Effect 12 3 halves_facts17 (rows 5 (num 0 ∷ num 0 ∷ sym 0 ∷ sym 1 ∷ [])) ∷ goal BoundsLow 13 3 halves_facts17 (row ((1, negsuc 0) ∷ []) (negsuc 0)) ∷ goal BoundsHigh 13 3 halves_facts17 (row ((0, negsuc 0) ∷ (1, pos 1) ∷ []) (pos 0)) ∷ goal Fold 13 3 halves_facts17 (rows 1 (sym 3 ∷ [])) ∷ goal Effect 13 3 halves_facts21 (rows 5 (sum ((1, pos 1) ∷ []) (negsuc 0) ∷ num 0 ∷ sym 0 ∷ sym 1 ∷ [])) ∷ goal Fold 14 3 halves_facts21 (rows 1 (sym 4 ∷ [])) ∷ []
halves-conditions = refl
