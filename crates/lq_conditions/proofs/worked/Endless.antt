-- The conditions of the program of plain.Endless: a loop that changes nothing.
use Rattle.std.proofs.Common.{◌≡◌, refl}
use Rattle.std.specs.Prelude.{List, [], ◌∷◌, pos, negsuc, true, ◌++◌}
use Rattle.lq_meaning.proofs.worked.plain.Endless.{endless}
use Rattle.lq_templates.specs.declared.condition.Given.{Given}
use Rattle.lq_templates.specs.declared.condition.Rule.TheVariants.{BoundsHigh, BoundsLow, Effect, Fold, Input}
use Rattle.lq_templates.specs.Classes.{ClassOf}
use Rattle.lq_templates.proofs.AccessSets.{rounds}
use Rattle.lq_templates.proofs.worked.Words.{classes}
use Rattle.lq_conditions.specs.Conditions.{conditions}
use Rattle.lq_conditions.proofs.worked.Words.{goal, num, pair, row, rows, sym}

abbrev endless_classes : ClassOf
endless_classes = classes ((0, 0, 1) ∷ (0, 2, 2) ∷ [])

abbrev endless_facts1 : List Given
endless_facts1 = (row ((0, negsuc 0) ∷ []) (pos 0) ∷ row ((0, pos 1) ∷ (1, negsuc 0) ∷ []) (pos 0) ∷ row ((0, negsuc 0) ∷ (1, pos 1) ∷ []) (pos 0) ∷ [])

abbrev endless_facts3 : List Given
endless_facts3 = endless_facts1 ++ (row ((2, negsuc 0) ∷ []) (negsuc 0) ∷ row ((2, pos 1) ∷ []) (pos 1) ∷ row ((2, negsuc 0) ∷ []) (negsuc 0) ∷ row [] (pos 0) ∷ row [] (pos 0) ∷ [])

abbrev endless_facts5 : List Given
endless_facts5 = endless_facts3 ++ (rows 2 (sym 3 ∷ []) ∷ [])

abbrev endless_facts8 : List Given
endless_facts8 = endless_facts1 ++ (row ((2, negsuc 0) ∷ []) (negsuc 0) ∷ row ((2, pos 1) ∷ []) (pos 1) ∷ row ((2, negsuc 0) ∷ []) (negsuc 0) ∷ [])

abbrev endless_facts10 : List Given
endless_facts10 = endless_facts8 ++ (rows 2 (sym 3 ∷ []) ∷ [])

abbrev endless_facts13 : List Given
endless_facts13 = endless_facts8 ++ (rows 4 (sym 3 ∷ num 0 ∷ sym 0 ∷ sym 1 ∷ num 0 ∷ sym 2 ∷ []) ∷ rows 5 (sym 3 ∷ num 0 ∷ sym 0 ∷ sym 1 ∷ num 0 ∷ sym 2 ∷ []) ∷ [])

-- all conditions, in their order
endless-conditions : (conditions endless endless_classes (rounds endless endless_classes 1)).list ≡
    goal Input 1 1 endless_facts1 (rows 1 (sym 2 ∷ [])) ∷ goal Fold 2 3 endless_facts1 (rows 2 (num 0 ∷ [])) ∷ goal BoundsLow 4 24 endless_facts3 (row [] (pos 0)) ∷ goal BoundsHigh 4 24 endless_facts3 (row ((2, negsuc 0) ∷ []) (negsuc 0)) ∷ goal Effect 4 24 endless_facts5 (rows 4 (num 0 ∷ num 0 ∷ sym 0 ∷ sym 1 ∷ num 0 ∷ sym 2 ∷ [])) ∷ goal Effect 4 24 endless_facts5 (rows 3 (num 0 ∷ num 0 ∷ sym 0 ∷ sym 1 ∷ [])) ∷ goal Fold 4 7 endless_facts5 (rows 2 (num 1 ∷ [])) ∷ goal BoundsLow 5 7 endless_facts8 (row [] (pos 0)) ∷ goal BoundsHigh 5 7 endless_facts8 (row ((2, negsuc 0) ∷ []) (negsuc 0)) ∷ goal Effect 5 7 endless_facts10 (rows 5 (num 0 ∷ num 0 ∷ sym 0 ∷ sym 1 ∷ num 0 ∷ sym 2 ∷ [])) ∷ goal Effect 5 7 endless_facts10 (rows 3 (num 0 ∷ num 0 ∷ sym 0 ∷ sym 1 ∷ [])) ∷ goal Fold 5 5 endless_facts10 (rows 2 (num 2 ∷ [])) ∷ pair 3 3 4 5 5 5 2 true true 0 0 endless_facts13 ∷ []
endless-conditions = refl
