-- The conditions of the program of plain.Sort: joins, and a function that calls itself in two branches.
use Rattle.std.proofs.Common.{◌≡◌, refl}
use Rattle.std.specs.Prelude.{List, [], ◌∷◌, pos, negsuc, false, true, ◌++◌}
use Rattle.lq_meaning.proofs.worked.plain.Sort.{sort}
use Rattle.lq_templates.specs.declared.condition.Given.{Given}
use Rattle.lq_templates.specs.declared.condition.Rule.TheVariants.{BoundsHigh, BoundsLow, Effect, Fold, Input, Join, LoopAgain, LoopEntry, Pre}
use Rattle.lq_templates.specs.Classes.{ClassOf}
use Rattle.lq_templates.proofs.AccessSets.{rounds}
use Rattle.lq_templates.proofs.worked.Words.{classes}
use Rattle.lq_conditions.specs.Conditions.{conditions}
use Rattle.lq_conditions.proofs.worked.Words.{division, goal, num, pair, row, rows, sum, sym}

abbrev sort_classes : ClassOf
sort_classes = classes ((0, 0, 1) ∷ (0, 1, 2) ∷ (1, 0, 1) ∷ (1, 1, 2) ∷ (2, 0, 1) ∷ (2, 2, 2) ∷ [])

abbrev sort_facts1 : List Given
sort_facts1 = (row ((0, negsuc 0) ∷ []) (pos 0) ∷ row ((1, negsuc 0) ∷ []) (pos 0) ∷ row ((2, negsuc 0) ∷ []) (pos 0) ∷ row ((3, negsuc 0) ∷ []) (pos 0) ∷ rows 3 (sym 1 ∷ sym 0 ∷ sym 3 ∷ sym 2 ∷ sym 4 ∷ sym 5 ∷ sym 6 ∷ []) ∷ [])

abbrev sort_facts2 : List Given
sort_facts2 = sort_facts1 ++ (rows 8 (sym 1 ∷ sym 0 ∷ sym 3 ∷ sym 2 ∷ sym 4 ∷ sym 5 ∷ sym 6 ∷ sym 7 ∷ sym 8 ∷ sym 9 ∷ []) ∷ row ((6, negsuc 0) ∷ (9, pos 1) ∷ []) (negsuc 0) ∷ row ((5, negsuc 0) ∷ (7, pos 1) ∷ []) (negsuc 0) ∷ row ((6, negsuc 0) ∷ (8, pos 1) ∷ []) (negsuc 0) ∷ [])

abbrev sort_facts4 : List Given
sort_facts4 = sort_facts2 ++ (rows 1 (sym 10 ∷ []) ∷ [])

abbrev sort_facts8 : List Given
sort_facts8 = sort_facts4 ++ (rows 1 (sym 11 ∷ []) ∷ [])

abbrev sort_facts9 : List Given
sort_facts9 = sort_facts8 ++ (row ((10, pos 1) ∷ (11, negsuc 0) ∷ []) (pos 0) ∷ [])

abbrev sort_facts11 : List Given
sort_facts11 = sort_facts9 ++ (rows 2 (sym 12 ∷ []) ∷ [])

abbrev sort_facts15 : List Given
sort_facts15 = sort_facts8 ++ (row ((10, negsuc 0) ∷ (11, pos 1) ∷ []) (negsuc 0) ∷ [])

abbrev sort_facts17 : List Given
sort_facts17 = sort_facts15 ++ (rows 2 (sym 12 ∷ []) ∷ [])

abbrev sort_facts21 : List Given
sort_facts21 = sort_facts8 ++ (rows 10 (sym 1 ∷ sym 0 ∷ sym 3 ∷ sym 2 ∷ sym 4 ∷ sym 5 ∷ sym 6 ∷ sym 12 ∷ sym 13 ∷ sym 9 ∷ sym 10 ∷ sym 11 ∷ []) ∷ [])

abbrev sort_facts22 : List Given
sort_facts22 = sort_facts1 ++ (rows 8 (sym 1 ∷ sym 0 ∷ sym 3 ∷ sym 2 ∷ sym 4 ∷ sym 5 ∷ sym 6 ∷ sym 7 ∷ sym 8 ∷ sym 9 ∷ []) ∷ row ((6, negsuc 0) ∷ (9, pos 1) ∷ []) (negsuc 0) ∷ row ((5, negsuc 0) ∷ (7, pos 1) ∷ []) (negsuc 0) ∷ [])

abbrev sort_facts24 : List Given
sort_facts24 = sort_facts22 ++ (rows 1 (sym 10 ∷ []) ∷ [])

abbrev sort_facts27 : List Given
sort_facts27 = sort_facts24 ++ (rows 2 (sym 11 ∷ []) ∷ [])

abbrev sort_facts31 : List Given
sort_facts31 = sort_facts1 ++ (rows 8 (sym 1 ∷ sym 0 ∷ sym 3 ∷ sym 2 ∷ sym 4 ∷ sym 5 ∷ sym 6 ∷ sym 7 ∷ sym 8 ∷ sym 9 ∷ []) ∷ row ((6, negsuc 0) ∷ (9, pos 1) ∷ []) (negsuc 0) ∷ row ((5, pos 1) ∷ (7, negsuc 0) ∷ []) (pos 0) ∷ row ((6, negsuc 0) ∷ (8, pos 1) ∷ []) (negsuc 0) ∷ [])

abbrev sort_facts33 : List Given
sort_facts33 = sort_facts31 ++ (rows 1 (sym 10 ∷ []) ∷ [])

abbrev sort_facts36 : List Given
sort_facts36 = sort_facts33 ++ (rows 2 (sym 11 ∷ []) ∷ [])

abbrev sort_facts40 : List Given
sort_facts40 = sort_facts1 ++ (rows 8 (sym 1 ∷ sym 0 ∷ sym 3 ∷ sym 2 ∷ sym 4 ∷ sym 5 ∷ sym 6 ∷ sym 7 ∷ sym 8 ∷ sym 9 ∷ []) ∷ row ((6, negsuc 0) ∷ (9, pos 1) ∷ []) (negsuc 0) ∷ row ((5, pos 1) ∷ (7, negsuc 0) ∷ []) (pos 0) ∷ row ((6, pos 1) ∷ (8, negsuc 0) ∷ []) (pos 0) ∷ [])

abbrev sort_facts41 : List Given
sort_facts41 = sort_facts1 ++ (rows 8 (sym 1 ∷ sym 0 ∷ sym 3 ∷ sym 2 ∷ sym 4 ∷ sym 5 ∷ sym 6 ∷ sym 7 ∷ sym 8 ∷ sym 9 ∷ []) ∷ row ((6, negsuc 0) ∷ (9, pos 1) ∷ []) (negsuc 0) ∷ row ((5, pos 1) ∷ (7, negsuc 0) ∷ []) (pos 0) ∷ rows 12 (sym 1 ∷ sym 0 ∷ sym 3 ∷ sym 2 ∷ sym 4 ∷ sym 5 ∷ sym 6 ∷ sym 7 ∷ sym 10 ∷ sym 9 ∷ []) ∷ [])

abbrev sort_facts42 : List Given
sort_facts42 = sort_facts1 ++ (rows 8 (sym 1 ∷ sym 0 ∷ sym 3 ∷ sym 2 ∷ sym 4 ∷ sym 5 ∷ sym 6 ∷ sym 7 ∷ sym 8 ∷ sym 9 ∷ []) ∷ row ((6, negsuc 0) ∷ (9, pos 1) ∷ []) (negsuc 0) ∷ rows 11 (sym 1 ∷ sym 0 ∷ sym 3 ∷ sym 2 ∷ sym 4 ∷ sym 5 ∷ sym 6 ∷ sym 10 ∷ sym 11 ∷ sym 9 ∷ []) ∷ [])

abbrev sort_facts43 : List Given
sort_facts43 = sort_facts1 ++ (rows 8 (sym 1 ∷ sym 0 ∷ sym 3 ∷ sym 2 ∷ sym 4 ∷ sym 5 ∷ sym 6 ∷ sym 7 ∷ sym 8 ∷ sym 9 ∷ []) ∷ row ((6, negsuc 0) ∷ (9, pos 1) ∷ []) (negsuc 0) ∷ rows 9 (sym 1 ∷ sym 0 ∷ sym 3 ∷ sym 2 ∷ sym 4 ∷ sym 5 ∷ sym 6 ∷ sym 10 ∷ sym 11 ∷ sym 9 ∷ []) ∷ [])

abbrev sort_facts44 : List Given
sort_facts44 = sort_facts1 ++ (rows 8 (sym 1 ∷ sym 0 ∷ sym 3 ∷ sym 2 ∷ sym 4 ∷ sym 5 ∷ sym 6 ∷ sym 7 ∷ sym 8 ∷ sym 9 ∷ []) ∷ row ((6, pos 1) ∷ (9, negsuc 0) ∷ []) (pos 0) ∷ [])

abbrev sort_facts45 : List Given
sort_facts45 = sort_facts44 ++ (rows 13 (sym 1 ∷ sym 0 ∷ sym 3 ∷ sym 2 ∷ sym 4 ∷ sym 5 ∷ sym 6 ∷ sym 7 ∷ sym 8 ∷ sym 10 ∷ []) ∷ row ((6, negsuc 0) ∷ (10, pos 1) ∷ []) (negsuc 0) ∷ [])

abbrev sort_facts47 : List Given
sort_facts47 = sort_facts45 ++ (rows 2 (sym 11 ∷ []) ∷ [])

abbrev sort_facts50 : List Given
sort_facts50 = sort_facts47 ++ (rows 1 (sym 12 ∷ []) ∷ [])

abbrev sort_facts54 : List Given
sort_facts54 = (row ((0, negsuc 0) ∷ []) (pos 0) ∷ row ((1, negsuc 0) ∷ []) (pos 0) ∷ row ((2, negsuc 0) ∷ []) (pos 0) ∷ row ((3, negsuc 0) ∷ []) (pos 0) ∷ rows 14 (sym 1 ∷ sym 0 ∷ sym 3 ∷ sym 2 ∷ sym 4 ∷ sym 5 ∷ []) ∷ row ((4, pos 1) ∷ (5, negsuc 0) ∷ []) (negsuc 1) ∷ division 6 (sum ((4, negsuc 0) ∷ (5, pos 1) ∷ []) (pos 0)) (pos 2) ∷ [])

abbrev sort_facts55 : List Given
sort_facts55 = sort_facts54 ++ (rows 15 (sym 7 ∷ sym 1 ∷ sym 0 ∷ sym 3 ∷ sym 2 ∷ sym 4 ∷ sum ((4, pos 1) ∷ (6, pos 1) ∷ []) (pos 0) ∷ []) ∷ [])

abbrev sort_facts57 : List Given
sort_facts57 = sort_facts54 ++ (rows 16 (sym 7 ∷ sym 1 ∷ sym 0 ∷ sym 3 ∷ sym 2 ∷ sym 4 ∷ sum ((4, pos 1) ∷ (6, pos 1) ∷ []) (pos 0) ∷ []) ∷ [])

abbrev sort_facts59 : List Given
sort_facts59 = sort_facts54 ++ (rows 17 (sym 7 ∷ sym 1 ∷ sym 0 ∷ sym 3 ∷ sym 2 ∷ sym 4 ∷ sum ((4, pos 1) ∷ (6, pos 1) ∷ []) (pos 0) ∷ []) ∷ [])

abbrev sort_facts61 : List Given
sort_facts61 = sort_facts54 ++ (rows 18 (sym 7 ∷ sym 1 ∷ sym 0 ∷ sym 3 ∷ sym 2 ∷ sym 4 ∷ sum ((4, pos 1) ∷ (6, pos 1) ∷ []) (pos 0) ∷ []) ∷ [])

abbrev sort_facts64 : List Given
sort_facts64 = sort_facts54 ++ (rows 15 (sym 7 ∷ sym 1 ∷ sym 0 ∷ sym 3 ∷ sym 2 ∷ sum ((4, pos 1) ∷ (6, pos 1) ∷ []) (pos 0) ∷ sym 5 ∷ []) ∷ [])

abbrev sort_facts66 : List Given
sort_facts66 = sort_facts54 ++ (rows 16 (sym 7 ∷ sym 1 ∷ sym 0 ∷ sym 3 ∷ sym 2 ∷ sum ((4, pos 1) ∷ (6, pos 1) ∷ []) (pos 0) ∷ sym 5 ∷ []) ∷ [])

abbrev sort_facts68 : List Given
sort_facts68 = sort_facts54 ++ (rows 17 (sym 7 ∷ sym 1 ∷ sym 0 ∷ sym 3 ∷ sym 2 ∷ sum ((4, pos 1) ∷ (6, pos 1) ∷ []) (pos 0) ∷ sym 5 ∷ []) ∷ [])

abbrev sort_facts70 : List Given
sort_facts70 = sort_facts54 ++ (rows 18 (sym 7 ∷ sym 1 ∷ sym 0 ∷ sym 3 ∷ sym 2 ∷ sum ((4, pos 1) ∷ (6, pos 1) ∷ []) (pos 0) ∷ sym 5 ∷ []) ∷ [])

abbrev sort_facts72 : List Given
sort_facts72 = sort_facts54 ++ (rows 19 (sym 7 ∷ sym 1 ∷ sym 0 ∷ sym 3 ∷ sym 2 ∷ sym 4 ∷ sym 5 ∷ sum ((4, pos 1) ∷ (6, pos 1) ∷ []) (pos 0) ∷ []) ∷ rows 24 (sym 7 ∷ sym 1 ∷ sym 0 ∷ sym 3 ∷ sym 2 ∷ sym 4 ∷ sym 5 ∷ sum ((4, pos 1) ∷ (6, pos 1) ∷ []) (pos 0) ∷ []) ∷ [])

abbrev sort_facts73 : List Given
sort_facts73 = sort_facts54 ++ (rows 20 (sym 7 ∷ sym 1 ∷ sym 0 ∷ sym 3 ∷ sym 2 ∷ sym 4 ∷ sym 5 ∷ sum ((4, pos 1) ∷ (6, pos 1) ∷ []) (pos 0) ∷ []) ∷ rows 23 (sym 7 ∷ sym 1 ∷ sym 0 ∷ sym 3 ∷ sym 2 ∷ sym 4 ∷ sym 5 ∷ sum ((4, pos 1) ∷ (6, pos 1) ∷ []) (pos 0) ∷ []) ∷ [])

abbrev sort_facts74 : List Given
sort_facts74 = sort_facts54 ++ (rows 20 (sym 7 ∷ sym 1 ∷ sym 0 ∷ sym 3 ∷ sym 2 ∷ sym 4 ∷ sym 5 ∷ sum ((4, pos 1) ∷ (6, pos 1) ∷ []) (pos 0) ∷ []) ∷ rows 24 (sym 7 ∷ sym 1 ∷ sym 0 ∷ sym 3 ∷ sym 2 ∷ sym 4 ∷ sym 5 ∷ sum ((4, pos 1) ∷ (6, pos 1) ∷ []) (pos 0) ∷ []) ∷ [])

abbrev sort_facts75 : List Given
sort_facts75 = sort_facts54 ++ (rows 21 (sym 7 ∷ sym 1 ∷ sym 0 ∷ sym 3 ∷ sym 2 ∷ sym 4 ∷ sym 5 ∷ sum ((4, pos 1) ∷ (6, pos 1) ∷ []) (pos 0) ∷ []) ∷ rows 26 (sym 7 ∷ sym 1 ∷ sym 0 ∷ sym 3 ∷ sym 2 ∷ sym 4 ∷ sym 5 ∷ sum ((4, pos 1) ∷ (6, pos 1) ∷ []) (pos 0) ∷ []) ∷ [])

abbrev sort_facts76 : List Given
sort_facts76 = sort_facts54 ++ (rows 22 (sym 7 ∷ sym 1 ∷ sym 0 ∷ sym 3 ∷ sym 2 ∷ sym 4 ∷ sym 5 ∷ sum ((4, pos 1) ∷ (6, pos 1) ∷ []) (pos 0) ∷ []) ∷ rows 25 (sym 7 ∷ sym 1 ∷ sym 0 ∷ sym 3 ∷ sym 2 ∷ sym 4 ∷ sym 5 ∷ sum ((4, pos 1) ∷ (6, pos 1) ∷ []) (pos 0) ∷ []) ∷ [])

abbrev sort_facts77 : List Given
sort_facts77 = sort_facts54 ++ (rows 22 (sym 7 ∷ sym 1 ∷ sym 0 ∷ sym 3 ∷ sym 2 ∷ sym 4 ∷ sym 5 ∷ sum ((4, pos 1) ∷ (6, pos 1) ∷ []) (pos 0) ∷ []) ∷ rows 26 (sym 7 ∷ sym 1 ∷ sym 0 ∷ sym 3 ∷ sym 2 ∷ sym 4 ∷ sym 5 ∷ sum ((4, pos 1) ∷ (6, pos 1) ∷ []) (pos 0) ∷ []) ∷ [])

abbrev sort_facts79 : List Given
sort_facts79 = sort_facts54 ++ (rows 4 (sym 7 ∷ sym 1 ∷ sym 0 ∷ sym 3 ∷ sym 2 ∷ sym 4 ∷ sum ((4, pos 1) ∷ (6, pos 1) ∷ []) (pos 0) ∷ sym 5 ∷ []) ∷ [])

abbrev sort_facts80 : List Given
sort_facts80 = sort_facts54 ++ (rows 5 (sym 7 ∷ sym 1 ∷ sym 0 ∷ sym 3 ∷ sym 2 ∷ sym 4 ∷ sum ((4, pos 1) ∷ (6, pos 1) ∷ []) (pos 0) ∷ sym 5 ∷ []) ∷ [])

abbrev sort_facts81 : List Given
sort_facts81 = sort_facts54 ++ (rows 6 (sym 7 ∷ sym 1 ∷ sym 0 ∷ sym 3 ∷ sym 2 ∷ sym 4 ∷ sum ((4, pos 1) ∷ (6, pos 1) ∷ []) (pos 0) ∷ sym 5 ∷ []) ∷ [])

abbrev sort_facts82 : List Given
sort_facts82 = sort_facts54 ++ (rows 7 (sym 7 ∷ sym 1 ∷ sym 0 ∷ sym 3 ∷ sym 2 ∷ sym 4 ∷ sum ((4, pos 1) ∷ (6, pos 1) ∷ []) (pos 0) ∷ sym 5 ∷ []) ∷ [])

abbrev sort_facts83 : List Given
sort_facts83 = (row ((0, negsuc 0) ∷ []) (pos 0) ∷ row ((0, pos 1) ∷ (1, negsuc 0) ∷ []) (pos 0) ∷ row ((0, negsuc 0) ∷ (1, pos 1) ∷ []) (pos 0) ∷ [])

abbrev sort_facts84 : List Given
sort_facts84 = sort_facts83 ++ (row ((1, negsuc 0) ∷ []) (negsuc 0) ∷ [])

abbrev sort_facts85 : List Given
sort_facts85 = sort_facts84 ++ (row ((2, negsuc 0) ∷ []) (negsuc 0) ∷ row ((1, negsuc 0) ∷ (2, pos 1) ∷ []) (pos 0) ∷ row ((1, pos 1) ∷ (2, negsuc 0) ∷ []) (pos 0) ∷ [])

abbrev sort_facts86 : List Given
sort_facts86 = sort_facts85 ++ (rows 15 (sym 3 ∷ num 0 ∷ sym 0 ∷ num 0 ∷ sym 2 ∷ num 0 ∷ sym 1 ∷ []) ∷ [])

abbrev sort_facts87 : List Given
sort_facts87 = sort_facts85 ++ (rows 16 (sym 3 ∷ num 0 ∷ sym 0 ∷ num 0 ∷ sym 2 ∷ num 0 ∷ sym 1 ∷ []) ∷ [])

abbrev sort_facts88 : List Given
sort_facts88 = sort_facts85 ++ (rows 17 (sym 3 ∷ num 0 ∷ sym 0 ∷ num 0 ∷ sym 2 ∷ num 0 ∷ sym 1 ∷ []) ∷ [])

abbrev sort_facts89 : List Given
sort_facts89 = sort_facts85 ++ (rows 18 (sym 3 ∷ num 0 ∷ sym 0 ∷ num 0 ∷ sym 2 ∷ num 0 ∷ sym 1 ∷ []) ∷ [])

abbrev sort_facts92 : List Given
sort_facts92 = sort_facts85 ++ (rows 1 (sym 3 ∷ []) ∷ [])

abbrev sort_facts95 : List Given
sort_facts95 = sort_facts92 ++ (rows 31 (num 0 ∷ sym 0 ∷ sym 1 ∷ num 0 ∷ sym 2 ∷ sym 4 ∷ sym 5 ∷ sym 6 ∷ []) ∷ row ((1, negsuc 0) ∷ (6, pos 1) ∷ []) (negsuc 0) ∷ [])

abbrev sort_facts97 : List Given
sort_facts97 = sort_facts95 ++ (rows 1 (sym 7 ∷ []) ∷ [])

abbrev sort_facts101 : List Given
sort_facts101 = sort_facts97 ++ (rows 1 (sym 8 ∷ []) ∷ [])

abbrev sort_facts102 : List Given
sort_facts102 = sort_facts101 ++ (row ((7, negsuc 0) ∷ (8, pos 1) ∷ []) (negsuc 0) ∷ [])

abbrev sort_facts104 : List Given
sort_facts104 = sort_facts101 ++ (row ((7, pos 1) ∷ (8, negsuc 0) ∷ []) (pos 0) ∷ [])

abbrev sort_facts106 : List Given
sort_facts106 = sort_facts101 ++ (rows 32 (num 0 ∷ sym 0 ∷ sym 1 ∷ num 0 ∷ sym 2 ∷ sym 9 ∷ sym 5 ∷ sym 6 ∷ sym 7 ∷ sym 8 ∷ []) ∷ [])

abbrev sort_facts107 : List Given
sort_facts107 = sort_facts92 ++ (rows 31 (num 0 ∷ sym 0 ∷ sym 1 ∷ num 0 ∷ sym 2 ∷ sym 4 ∷ sym 5 ∷ sym 6 ∷ []) ∷ row ((1, pos 1) ∷ (6, negsuc 0) ∷ []) (pos 0) ∷ [])

abbrev sort_facts109 : List Given
sort_facts109 = sort_facts107 ++ (rows 1 (sym 7 ∷ []) ∷ [])

-- all conditions, in their order
sort-conditions : (conditions sort sort_classes (rounds sort sort_classes 3)).list ≡
    goal LoopEntry 5 3 sort_facts1 (rows 8 (sym 1 ∷ sym 0 ∷ sym 3 ∷ sym 2 ∷ sym 4 ∷ sym 5 ∷ sym 6 ∷ sym 4 ∷ sym 5 ∷ sym 4 ∷ [])) ∷ goal BoundsLow 7 7 sort_facts2 (row ((1, negsuc 0) ∷ (7, negsuc 0) ∷ []) (pos 0)) ∷ goal BoundsHigh 7 7 sort_facts2 (row ((0, negsuc 0) ∷ (1, pos 1) ∷ (7, pos 1) ∷ []) (negsuc 0)) ∷ goal Effect 7 7 sort_facts4 (rows 4 (sum ((1, pos 1) ∷ (7, pos 1) ∷ []) (pos 0) ∷ sym 1 ∷ sym 0 ∷ sym 3 ∷ sym 2 ∷ sym 4 ∷ sym 5 ∷ sym 6 ∷ [])) ∷ goal BoundsLow 8 7 sort_facts4 (row ((1, negsuc 0) ∷ (8, negsuc 0) ∷ []) (pos 0)) ∷ goal BoundsHigh 8 7 sort_facts4 (row ((0, negsuc 0) ∷ (1, pos 1) ∷ (8, pos 1) ∷ []) (negsuc 0)) ∷ goal Fold 8 7 sort_facts4 (rows 1 (sym 10 ∷ [])) ∷ goal Effect 8 7 sort_facts8 (rows 4 (sum ((1, pos 1) ∷ (8, pos 1) ∷ []) (pos 0) ∷ sym 1 ∷ sym 0 ∷ sym 3 ∷ sym 2 ∷ sym 4 ∷ sym 5 ∷ sym 6 ∷ [])) ∷ goal BoundsLow 9 21 sort_facts9 (row ((3, negsuc 0) ∷ (9, negsuc 0) ∷ []) (pos 0)) ∷ goal BoundsHigh 9 21 sort_facts9 (row ((2, negsuc 0) ∷ (3, pos 1) ∷ (9, pos 1) ∷ []) (negsuc 0)) ∷ goal Effect 9 21 sort_facts11 (rows 7 (sum ((3, pos 1) ∷ (9, pos 1) ∷ []) (pos 0) ∷ sym 1 ∷ sym 0 ∷ sym 3 ∷ sym 2 ∷ sym 4 ∷ sym 5 ∷ sym 6 ∷ [])) ∷ goal Fold 9 7 sort_facts11 (rows 1 (sym 11 ∷ [])) ∷ goal Fold 9 7 sort_facts11 (rows 2 (sym 10 ∷ [])) ∷ goal Join 9 7 sort_facts11 (rows 10 (sym 1 ∷ sym 0 ∷ sym 3 ∷ sym 2 ∷ sym 4 ∷ sym 5 ∷ sym 6 ∷ sum ((7, pos 1) ∷ []) (pos 1) ∷ sym 8 ∷ sym 9 ∷ sym 10 ∷ sym 11 ∷ [])) ∷ goal BoundsLow 9 51 sort_facts15 (row ((3, negsuc 0) ∷ (9, negsuc 0) ∷ []) (pos 0)) ∷ goal BoundsHigh 9 51 sort_facts15 (row ((2, negsuc 0) ∷ (3, pos 1) ∷ (9, pos 1) ∷ []) (negsuc 0)) ∷ goal Effect 9 51 sort_facts17 (rows 7 (sum ((3, pos 1) ∷ (9, pos 1) ∷ []) (pos 0) ∷ sym 1 ∷ sym 0 ∷ sym 3 ∷ sym 2 ∷ sym 4 ∷ sym 5 ∷ sym 6 ∷ [])) ∷ goal Fold 9 7 sort_facts17 (rows 1 (sym 11 ∷ [])) ∷ goal Fold 9 7 sort_facts17 (rows 2 (sym 11 ∷ [])) ∷ goal Join 9 7 sort_facts17 (rows 10 (sym 1 ∷ sym 0 ∷ sym 3 ∷ sym 2 ∷ sym 4 ∷ sym 5 ∷ sym 6 ∷ sym 7 ∷ sum ((8, pos 1) ∷ []) (pos 1) ∷ sym 9 ∷ sym 10 ∷ sym 11 ∷ [])) ∷ goal Join 6 5 sort_facts21 (rows 9 (sym 1 ∷ sym 0 ∷ sym 3 ∷ sym 2 ∷ sym 4 ∷ sym 5 ∷ sym 6 ∷ sym 12 ∷ sym 13 ∷ sym 9 ∷ [])) ∷ goal BoundsLow 11 7 sort_facts22 (row ((1, negsuc 0) ∷ (7, negsuc 0) ∷ []) (pos 0)) ∷ goal BoundsHigh 11 7 sort_facts22 (row ((0, negsuc 0) ∷ (1, pos 1) ∷ (7, pos 1) ∷ []) (negsuc 0)) ∷ goal Effect 11 7 sort_facts24 (rows 4 (sum ((1, pos 1) ∷ (7, pos 1) ∷ []) (pos 0) ∷ sym 1 ∷ sym 0 ∷ sym 3 ∷ sym 2 ∷ sym 4 ∷ sym 5 ∷ sym 6 ∷ [])) ∷ goal BoundsLow 11 7 sort_facts24 (row ((3, negsuc 0) ∷ (9, negsuc 0) ∷ []) (pos 0)) ∷ goal BoundsHigh 11 7 sort_facts24 (row ((2, negsuc 0) ∷ (3, pos 1) ∷ (9, pos 1) ∷ []) (negsuc 0)) ∷ goal Effect 11 7 sort_facts27 (rows 7 (sum ((3, pos 1) ∷ (9, pos 1) ∷ []) (pos 0) ∷ sym 1 ∷ sym 0 ∷ sym 3 ∷ sym 2 ∷ sym 4 ∷ sym 5 ∷ sym 6 ∷ [])) ∷ goal Fold 6 5 sort_facts27 (rows 1 (sym 10 ∷ [])) ∷ goal Fold 6 5 sort_facts27 (rows 2 (sym 10 ∷ [])) ∷ goal Join 6 5 sort_facts27 (rows 11 (sym 1 ∷ sym 0 ∷ sym 3 ∷ sym 2 ∷ sym 4 ∷ sym 5 ∷ sym 6 ∷ sum ((7, pos 1) ∷ []) (pos 1) ∷ sym 8 ∷ sym 9 ∷ [])) ∷ goal BoundsLow 14 7 sort_facts31 (row ((1, negsuc 0) ∷ (8, negsuc 0) ∷ []) (pos 0)) ∷ goal BoundsHigh 14 7 sort_facts31 (row ((0, negsuc 0) ∷ (1, pos 1) ∷ (8, pos 1) ∷ []) (negsuc 0)) ∷ goal Effect 14 7 sort_facts33 (rows 4 (sum ((1, pos 1) ∷ (8, pos 1) ∷ []) (pos 0) ∷ sym 1 ∷ sym 0 ∷ sym 3 ∷ sym 2 ∷ sym 4 ∷ sym 5 ∷ sym 6 ∷ [])) ∷ goal BoundsLow 14 7 sort_facts33 (row ((3, negsuc 0) ∷ (9, negsuc 0) ∷ []) (pos 0)) ∷ goal BoundsHigh 14 7 sort_facts33 (row ((2, negsuc 0) ∷ (3, pos 1) ∷ (9, pos 1) ∷ []) (negsuc 0)) ∷ goal Effect 14 7 sort_facts36 (rows 7 (sum ((3, pos 1) ∷ (9, pos 1) ∷ []) (pos 0) ∷ sym 1 ∷ sym 0 ∷ sym 3 ∷ sym 2 ∷ sym 4 ∷ sym 5 ∷ sym 6 ∷ [])) ∷ goal Fold 6 5 sort_facts36 (rows 1 (sym 10 ∷ [])) ∷ goal Fold 6 5 sort_facts36 (rows 2 (sym 10 ∷ [])) ∷ goal Join 6 5 sort_facts36 (rows 12 (sym 1 ∷ sym 0 ∷ sym 3 ∷ sym 2 ∷ sym 4 ∷ sym 5 ∷ sym 6 ∷ sym 7 ∷ sum ((8, pos 1) ∷ []) (pos 1) ∷ sym 9 ∷ [])) ∷ goal Join 6 5 sort_facts40 (rows 12 (sym 1 ∷ sym 0 ∷ sym 3 ∷ sym 2 ∷ sym 4 ∷ sym 5 ∷ sym 6 ∷ sym 7 ∷ sym 8 ∷ sym 9 ∷ [])) ∷ goal Join 6 5 sort_facts41 (rows 11 (sym 1 ∷ sym 0 ∷ sym 3 ∷ sym 2 ∷ sym 4 ∷ sym 5 ∷ sym 6 ∷ sym 7 ∷ sym 10 ∷ sym 9 ∷ [])) ∷ goal Join 6 5 sort_facts42 (rows 9 (sym 1 ∷ sym 0 ∷ sym 3 ∷ sym 2 ∷ sym 4 ∷ sym 5 ∷ sym 6 ∷ sym 10 ∷ sym 11 ∷ sym 9 ∷ [])) ∷ goal LoopAgain 5 3 sort_facts43 (rows 8 (sym 1 ∷ sym 0 ∷ sym 3 ∷ sym 2 ∷ sym 4 ∷ sym 5 ∷ sym 6 ∷ sym 10 ∷ sym 11 ∷ sum ((9, pos 1) ∷ []) (pos 1) ∷ [])) ∷ goal LoopEntry 19 3 sort_facts44 (rows 13 (sym 1 ∷ sym 0 ∷ sym 3 ∷ sym 2 ∷ sym 4 ∷ sym 5 ∷ sym 6 ∷ sym 7 ∷ sym 8 ∷ sym 4 ∷ [])) ∷ goal BoundsLow 19 37 sort_facts45 (row ((3, negsuc 0) ∷ (10, negsuc 0) ∷ []) (pos 0)) ∷ goal BoundsHigh 19 37 sort_facts45 (row ((2, negsuc 0) ∷ (3, pos 1) ∷ (10, pos 1) ∷ []) (negsuc 0)) ∷ goal Effect 19 37 sort_facts47 (rows 6 (sum ((3, pos 1) ∷ (10, pos 1) ∷ []) (pos 0) ∷ sym 1 ∷ sym 0 ∷ sym 3 ∷ sym 2 ∷ sym 4 ∷ sym 5 ∷ sym 6 ∷ [])) ∷ goal BoundsLow 19 37 sort_facts47 (row ((1, negsuc 0) ∷ (10, negsuc 0) ∷ []) (pos 0)) ∷ goal BoundsHigh 19 37 sort_facts47 (row ((0, negsuc 0) ∷ (1, pos 1) ∷ (10, pos 1) ∷ []) (negsuc 0)) ∷ goal Effect 19 37 sort_facts50 (rows 5 (sum ((1, pos 1) ∷ (10, pos 1) ∷ []) (pos 0) ∷ sym 1 ∷ sym 0 ∷ sym 3 ∷ sym 2 ∷ sym 4 ∷ sym 5 ∷ sym 6 ∷ [])) ∷ goal Fold 19 3 sort_facts50 (rows 1 (sym 11 ∷ [])) ∷ goal Fold 19 3 sort_facts50 (rows 2 (sym 11 ∷ [])) ∷ goal LoopAgain 19 3 sort_facts50 (rows 13 (sym 1 ∷ sym 0 ∷ sym 3 ∷ sym 2 ∷ sym 4 ∷ sym 5 ∷ sym 6 ∷ sym 7 ∷ sym 8 ∷ sum ((10, pos 1) ∷ []) (pos 1) ∷ [])) ∷ goal Pre 25 7 sort_facts54 (rows 14 (sym 1 ∷ sym 0 ∷ sym 3 ∷ sym 2 ∷ sym 4 ∷ sum ((4, pos 1) ∷ (6, pos 1) ∷ []) (pos 0) ∷ [])) ∷ goal Effect 25 7 sort_facts55 (rows 19 (sym 7 ∷ sym 1 ∷ sym 0 ∷ sym 3 ∷ sym 2 ∷ sym 4 ∷ sym 5 ∷ sum ((4, pos 1) ∷ (6, pos 1) ∷ []) (pos 0) ∷ [])) ∷ goal Effect 25 7 sort_facts55 (rows 15 (sym 7 ∷ sym 1 ∷ sym 0 ∷ sym 3 ∷ sym 2 ∷ sym 4 ∷ sym 5 ∷ [])) ∷ goal Effect 25 7 sort_facts57 (rows 20 (sym 7 ∷ sym 1 ∷ sym 0 ∷ sym 3 ∷ sym 2 ∷ sym 4 ∷ sym 5 ∷ sum ((4, pos 1) ∷ (6, pos 1) ∷ []) (pos 0) ∷ [])) ∷ goal Effect 25 7 sort_facts57 (rows 16 (sym 7 ∷ sym 1 ∷ sym 0 ∷ sym 3 ∷ sym 2 ∷ sym 4 ∷ sym 5 ∷ [])) ∷ goal Effect 25 7 sort_facts59 (rows 21 (sym 7 ∷ sym 1 ∷ sym 0 ∷ sym 3 ∷ sym 2 ∷ sym 4 ∷ sym 5 ∷ sum ((4, pos 1) ∷ (6, pos 1) ∷ []) (pos 0) ∷ [])) ∷ goal Effect 25 7 sort_facts59 (rows 17 (sym 7 ∷ sym 1 ∷ sym 0 ∷ sym 3 ∷ sym 2 ∷ sym 4 ∷ sym 5 ∷ [])) ∷ goal Effect 25 7 sort_facts61 (rows 22 (sym 7 ∷ sym 1 ∷ sym 0 ∷ sym 3 ∷ sym 2 ∷ sym 4 ∷ sym 5 ∷ sum ((4, pos 1) ∷ (6, pos 1) ∷ []) (pos 0) ∷ [])) ∷ goal Effect 25 7 sort_facts61 (rows 18 (sym 7 ∷ sym 1 ∷ sym 0 ∷ sym 3 ∷ sym 2 ∷ sym 4 ∷ sym 5 ∷ [])) ∷ goal Pre 26 7 sort_facts54 (rows 14 (sym 1 ∷ sym 0 ∷ sym 3 ∷ sym 2 ∷ sum ((4, pos 1) ∷ (6, pos 1) ∷ []) (pos 0) ∷ sym 5 ∷ [])) ∷ goal Effect 26 7 sort_facts64 (rows 23 (sym 7 ∷ sym 1 ∷ sym 0 ∷ sym 3 ∷ sym 2 ∷ sym 4 ∷ sym 5 ∷ sum ((4, pos 1) ∷ (6, pos 1) ∷ []) (pos 0) ∷ [])) ∷ goal Effect 26 7 sort_facts64 (rows 15 (sym 7 ∷ sym 1 ∷ sym 0 ∷ sym 3 ∷ sym 2 ∷ sym 4 ∷ sym 5 ∷ [])) ∷ goal Effect 26 7 sort_facts66 (rows 24 (sym 7 ∷ sym 1 ∷ sym 0 ∷ sym 3 ∷ sym 2 ∷ sym 4 ∷ sym 5 ∷ sum ((4, pos 1) ∷ (6, pos 1) ∷ []) (pos 0) ∷ [])) ∷ goal Effect 26 7 sort_facts66 (rows 16 (sym 7 ∷ sym 1 ∷ sym 0 ∷ sym 3 ∷ sym 2 ∷ sym 4 ∷ sym 5 ∷ [])) ∷ goal Effect 26 7 sort_facts68 (rows 25 (sym 7 ∷ sym 1 ∷ sym 0 ∷ sym 3 ∷ sym 2 ∷ sym 4 ∷ sym 5 ∷ sum ((4, pos 1) ∷ (6, pos 1) ∷ []) (pos 0) ∷ [])) ∷ goal Effect 26 7 sort_facts68 (rows 17 (sym 7 ∷ sym 1 ∷ sym 0 ∷ sym 3 ∷ sym 2 ∷ sym 4 ∷ sym 5 ∷ [])) ∷ goal Effect 26 7 sort_facts70 (rows 26 (sym 7 ∷ sym 1 ∷ sym 0 ∷ sym 3 ∷ sym 2 ∷ sym 4 ∷ sym 5 ∷ sum ((4, pos 1) ∷ (6, pos 1) ∷ []) (pos 0) ∷ [])) ∷ goal Effect 26 7 sort_facts70 (rows 18 (sym 7 ∷ sym 1 ∷ sym 0 ∷ sym 3 ∷ sym 2 ∷ sym 4 ∷ sym 5 ∷ [])) ∷ pair 24 3 25 5 26 5 1 false true 0 0 sort_facts72 ∷ pair 24 3 25 5 26 5 1 true false 0 0 sort_facts73 ∷ pair 24 3 25 5 26 5 1 true true 0 0 sort_facts74 ∷ pair 24 3 25 5 26 5 2 false true 0 0 sort_facts75 ∷ pair 24 3 25 5 26 5 2 true false 0 0 sort_facts76 ∷ pair 24 3 25 5 26 5 2 true true 0 0 sort_facts77 ∷ goal Pre 28 3 sort_facts54 (rows 3 (sym 1 ∷ sym 0 ∷ sym 3 ∷ sym 2 ∷ sym 4 ∷ sum ((4, pos 1) ∷ (6, pos 1) ∷ []) (pos 0) ∷ sym 5 ∷ [])) ∷ goal Effect 28 3 sort_facts79 (rows 15 (sym 7 ∷ sym 1 ∷ sym 0 ∷ sym 3 ∷ sym 2 ∷ sym 4 ∷ sym 5 ∷ [])) ∷ goal Effect 28 3 sort_facts80 (rows 16 (sym 7 ∷ sym 1 ∷ sym 0 ∷ sym 3 ∷ sym 2 ∷ sym 4 ∷ sym 5 ∷ [])) ∷ goal Effect 28 3 sort_facts81 (rows 17 (sym 7 ∷ sym 1 ∷ sym 0 ∷ sym 3 ∷ sym 2 ∷ sym 4 ∷ sym 5 ∷ [])) ∷ goal Effect 28 3 sort_facts82 (rows 18 (sym 7 ∷ sym 1 ∷ sym 0 ∷ sym 3 ∷ sym 2 ∷ sym 4 ∷ sym 5 ∷ [])) ∷ goal Input 30 1 sort_facts83 (rows 1 (sym 2 ∷ [])) ∷ goal Fold 32 3 sort_facts84 (rows 2 (num 0 ∷ [])) ∷ goal Pre 33 3 sort_facts85 (rows 14 (num 0 ∷ sym 0 ∷ num 0 ∷ sym 2 ∷ num 0 ∷ sym 1 ∷ [])) ∷ goal Effect 33 3 sort_facts86 (rows 27 (sym 3 ∷ num 0 ∷ sym 0 ∷ sym 1 ∷ [])) ∷ goal Effect 33 3 sort_facts87 (rows 28 (sym 3 ∷ num 0 ∷ sym 0 ∷ sym 1 ∷ [])) ∷ goal Effect 33 3 sort_facts88 (rows 29 (sym 3 ∷ num 0 ∷ sym 0 ∷ sym 1 ∷ [])) ∷ goal Effect 33 3 sort_facts89 (rows 30 (sym 3 ∷ num 0 ∷ sym 0 ∷ sym 1 ∷ [])) ∷ goal BoundsLow 35 3 sort_facts85 (row [] (pos 0)) ∷ goal BoundsHigh 35 3 sort_facts85 (row ((0, negsuc 0) ∷ []) (negsuc 0)) ∷ goal Effect 35 3 sort_facts92 (rows 27 (num 0 ∷ num 0 ∷ sym 0 ∷ sym 1 ∷ [])) ∷ goal Fold 36 3 sort_facts92 (rows 1 (sym 3 ∷ [])) ∷ goal LoopEntry 36 3 sort_facts92 (rows 31 (num 0 ∷ sym 0 ∷ sym 1 ∷ num 0 ∷ sym 2 ∷ num 0 ∷ sym 3 ∷ num 1 ∷ [])) ∷ goal BoundsLow 37 5 sort_facts95 (row ((6, negsuc 0) ∷ []) (negsuc 0)) ∷ goal BoundsHigh 37 5 sort_facts95 (row ((0, negsuc 0) ∷ (6, pos 1) ∷ []) (pos 0)) ∷ goal Effect 37 5 sort_facts97 (rows 27 (sum ((6, pos 1) ∷ []) (negsuc 0) ∷ num 0 ∷ sym 0 ∷ sym 1 ∷ [])) ∷ goal BoundsLow 38 5 sort_facts97 (row ((6, negsuc 0) ∷ []) (pos 0)) ∷ goal BoundsHigh 38 5 sort_facts97 (row ((0, negsuc 0) ∷ (6, pos 1) ∷ []) (negsuc 0)) ∷ goal Fold 38 5 sort_facts97 (rows 1 (sym 7 ∷ [])) ∷ goal Effect 38 5 sort_facts101 (rows 27 (sym 6 ∷ num 0 ∷ sym 0 ∷ sym 1 ∷ [])) ∷ goal Fold 39 5 sort_facts102 (rows 1 (sym 8 ∷ [])) ∷ goal Join 39 5 sort_facts102 (rows 32 (num 0 ∷ sym 0 ∷ sym 1 ∷ num 0 ∷ sym 2 ∷ sum ((4, pos 1) ∷ []) (pos 1) ∷ sym 5 ∷ sym 6 ∷ sym 7 ∷ sym 8 ∷ [])) ∷ goal Fold 39 5 sort_facts104 (rows 1 (sym 8 ∷ [])) ∷ goal Join 39 5 sort_facts104 (rows 32 (num 0 ∷ sym 0 ∷ sym 1 ∷ num 0 ∷ sym 2 ∷ sym 4 ∷ sym 5 ∷ sym 6 ∷ sym 7 ∷ sym 8 ∷ [])) ∷ goal LoopAgain 36 3 sort_facts106 (rows 31 (num 0 ∷ sym 0 ∷ sym 1 ∷ num 0 ∷ sym 2 ∷ sym 9 ∷ sum ((5, pos 1) ∷ (8, pos 1) ∷ []) (pos 0) ∷ sum ((6, pos 1) ∷ []) (pos 1) ∷ [])) ∷ goal BoundsLow 42 3 sort_facts107 (row [] (pos 0)) ∷ goal BoundsHigh 42 3 sort_facts107 (row ((0, negsuc 0) ∷ []) (negsuc 0)) ∷ goal Effect 42 3 sort_facts109 (rows 27 (num 0 ∷ num 0 ∷ sym 0 ∷ sym 1 ∷ [])) ∷ goal Fold 45 3 sort_facts109 (rows 1 (sym 7 ∷ [])) ∷ []
sort-conditions = refl
