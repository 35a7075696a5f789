-- Assignments that are good: with a division whose dividend isn't negative, and with combinations of four facts.
use Rattle.std.proofs.Common.{refl}
use Rattle.std.specs.Prelude.{false, pos, negsuc, List, [], ◌∷◌, Some}
use Rattle.lq_meaning.proofs.worked.plain.Halves.{halves}
use Rattle.lq_templates.specs.declared.condition.Assign.{Assign}
use Rattle.lq_templates.specs.Classes.{ClassOf}
use Rattle.lq_templates.proofs.AccessSets.{rounds}
use Rattle.lq_templates.proofs.worked.Words.{classes}
use Rattle.lq_instances.proofs.worked.Words.{row}
use Rattle.lq_conditions.specs.Conditions.{conditions, IsGoodFor}
use Rattle.lq_conditions.proofs.worked.FourFacts.{four_facts}
use Rattle.lq_verdict.proofs.Shown.{Showing, good_by}
use Rattle.lq_verdict.proofs.worked.Accepted.{combo}

-- halves.c with its qualifiers
abbrev halves_classes : ClassOf
halves_classes = classes ((0, 0, 1) ∷ (1, 0, 1) ∷ [])

abbrev halves_greatest : Assign
halves_greatest = record { rows = ([] ∷ (row ((2, negsuc 0) ∷ []) (pos 0) ∷ row ((0, pos 1) ∷ (1, negsuc 0) ∷ (3, pos 1) ∷ []) (pos 0) ∷ []) ∷ (row ((0, negsuc 0) ∷ (1, pos 1) ∷ (3, pos 1) ∷ []) (pos 0) ∷ row ((0, pos 1) ∷ (1, negsuc 0) ∷ (4, negsuc 0) ∷ []) (negsuc 0) ∷ []) ∷ (row ((2, pos 1) ∷ (5, negsuc 0) ∷ []) (pos 0) ∷ []) ∷ [] ∷ [] ∷ (row ((0, pos 1) ∷ (4, negsuc 0) ∷ []) (negsuc 0) ∷ []) ∷ (row ((0, negsuc 0) ∷ (4, pos 1) ∷ []) (pos 0) ∷ []) ∷ []) }

abbrev halves_showings : List Showing
halves_showings = (([], (combo false 1 [] ∷ [])) ∷ ([], (combo false 1 ((1, 2) ∷ (1, 3) ∷ (1, 5) ∷ []) ∷ [])) ∷ ([], (combo false 1 ((1, 4) ∷ (1, 6) ∷ []) ∷ [])) ∷ ([], (combo false 1 ((1, 5) ∷ []) ∷ combo false 1 ((1, 6) ∷ []) ∷ [])) ∷ ([], []) ∷ ([], (combo false 1 ((1, 5) ∷ []) ∷ [])) ∷ ([], []) ∷ ((Some (combo false 1 ((1, 4) ∷ [])) ∷ []), (combo false 1 [] ∷ combo false 2 ((1, 1) ∷ (1, 3) ∷ (1, 5) ∷ []) ∷ [])) ∷ ((Some (combo false 1 ((1, 4) ∷ [])) ∷ []), (combo false 1 ((1, 9) ∷ []) ∷ [])) ∷ ([], []) ∷ ((Some (combo false 1 ((1, 4) ∷ [])) ∷ []), (combo false 2 ((1, 4) ∷ (1, 6) ∷ []) ∷ combo false 1 ((1, 3) ∷ []) ∷ [])) ∷ ((Some (combo false 1 ((1, 4) ∷ [])) ∷ []), (combo false 1 ((1, 8) ∷ []) ∷ [])) ∷ ([], []) ∷ ((Some (combo false 1 ((1, 4) ∷ [])) ∷ []), (combo false 1 ((1, 8) ∷ (1, 9) ∷ []) ∷ [])) ∷ ((Some (combo false 1 ((1, 4) ∷ [])) ∷ []), (combo false 1 [] ∷ [])) ∷ ((Some (combo false 1 ((1, 4) ∷ [])) ∷ []), (combo false 1 ((1, 3) ∷ (1, 4) ∷ []) ∷ [])) ∷ ([], []) ∷ ((Some (combo false 1 ((1, 4) ∷ [])) ∷ []), (combo false 1 ((1, 4) ∷ []) ∷ [])) ∷ ((Some (combo false 1 ((1, 4) ∷ [])) ∷ []), (combo false 1 ((1, 3) ∷ []) ∷ [])) ∷ ([], []) ∷ ([], []) ∷ ([], []) ∷ [])

halves-good : IsGoodFor (1 ∷ 2 ∷ []) halves_greatest (conditions halves halves_classes (rounds halves halves_classes 2)).list
halves-good = good_by (1 ∷ 2 ∷ []) halves_greatest (conditions halves halves_classes (rounds halves halves_classes 2)).list halves_showings refl

-- four-facts.c without qualifiers
abbrev four_facts_classes : ClassOf
four_facts_classes = classes ((0, 0, 1) ∷ [])

abbrev four_facts_greatest : Assign
four_facts_greatest = record { rows = ([] ∷ [] ∷ []) }

abbrev four_facts_showings : List Showing
four_facts_showings = (([], []) ∷ ([], (combo false 1 [] ∷ [])) ∷ ([], (combo false 1 ((1, 3) ∷ (1, 4) ∷ []) ∷ [])) ∷ ([], []) ∷ ([], (combo false 1 [] ∷ [])) ∷ ([], (combo false 1 ((1, 3) ∷ (1, 4) ∷ []) ∷ [])) ∷ ([], []) ∷ ([], []) ∷ ([], (combo false 1 [] ∷ [])) ∷ ([], (combo false 1 ((1, 3) ∷ (1, 4) ∷ []) ∷ [])) ∷ ([], []) ∷ ([], []) ∷ ([], (combo false 1 ((1, 5) ∷ []) ∷ [])) ∷ ([], (combo false 1 ((1, 3) ∷ (1, 6) ∷ (1, 7) ∷ (1, 8) ∷ []) ∷ [])) ∷ ([], []) ∷ ([], []) ∷ ([], []) ∷ ([], []) ∷ [])

four-facts-good : IsGoodFor (1 ∷ []) four_facts_greatest (conditions four_facts four_facts_classes (rounds four_facts four_facts_classes 1)).list
four-facts-good = good_by (1 ∷ []) four_facts_greatest (conditions four_facts four_facts_classes (rounds four_facts four_facts_classes 1)).list four_facts_showings refl
