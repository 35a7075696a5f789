-- The conditions of two blocks that write different fields of one record.
use Rattle.std.proofs.Common.{◌≡◌, refl}
use Rattle.std.specs.Prelude.{List, [], ◌∷◌, pos, negsuc, Some, true, ◌++◌}
use Rattle.lq_tree.specs.declared.plain.PKind.{Calloc, Return, Store}
use Rattle.lq_tree.specs.declared.plain.PFunc.{PFunc}
use Rattle.lq_tree.specs.declared.plain.PProgram.{PProgram}
use Rattle.lq_meaning.proofs.worked.SourceWords.{int, param, struct, struct_at}
use Rattle.lq_meaning.proofs.worked.PlainWords.{branch, cobegin, func, named, num, program, stmt}
use Rattle.lq_templates.specs.declared.condition.Given.{Given}
use Rattle.lq_templates.specs.declared.condition.Rule.TheVariants.{BoundsHigh, BoundsLow, Effect, Fold}
use Rattle.lq_templates.specs.Classes.{ClassOf}
use Rattle.lq_templates.proofs.AccessSets.{rounds}
use Rattle.lq_templates.proofs.worked.Words.{classes}
use Rattle.lq_conditions.specs.Conditions.{conditions}
use Rattle.lq_conditions.proofs.worked.Words.{goal, num as constant_of, pair, row, rows, sym}

abbrev two_fields_main : PFunc
two_fields_main = func 2 1 (Some (int 0)) "main" 0 (named "v" (struct "P" 1) ∷ [])
    (stmt 3 3 (Calloc 0 (num 1) (struct "P" 0)) ∷ stmt 4 3 (cobegin (branch 5 5 (stmt 5 7 (Store 0 (num 0) 0 (num 1)) ∷ []) ∷ branch 6 5 (stmt 6 7 (Store 0 (num 0) 1 (num 2)) ∷ []) ∷ [])) ∷ stmt 8 3 (Return (Some (num 0))) ∷ [])

abbrev pub two_fields : PProgram
two_fields = program (struct_at 1 1 "P" (param (int 0) "n" ∷ param (int 0) "m" ∷ []) ∷ []) (two_fields_main ∷ []) 0 []

abbrev two_fields_classes : ClassOf
two_fields_classes = classes ((0, 0, 1) ∷ [])

abbrev two_fields_facts2 : List Given
two_fields_facts2 = (row ((0, negsuc 0) ∷ []) (negsuc 0) ∷ row ((0, pos 1) ∷ []) (pos 1) ∷ row ((0, negsuc 0) ∷ []) (negsuc 0) ∷ [])

abbrev two_fields_facts4 : List Given
two_fields_facts4 = two_fields_facts2 ++ (rows 1 (sym 1 ∷ sym 2 ∷ []) ∷ [])

abbrev two_fields_facts12 : List Given
two_fields_facts12 = two_fields_facts2 ++ (rows 4 (sym 1 ∷ constant_of 0 ∷ sym 0 ∷ []) ∷ rows 5 (sym 1 ∷ constant_of 0 ∷ sym 0 ∷ []) ∷ [])

-- all conditions, in their order
two-fields-conditions : (conditions two_fields two_fields_classes (rounds two_fields two_fields_classes 1)).list ≡
    goal Fold 3 3 [] (rows 1 (constant_of 0 ∷ constant_of 0 ∷ [])) ∷ goal BoundsLow 5 7 two_fields_facts2 (row [] (pos 0)) ∷ goal BoundsHigh 5 7 two_fields_facts2 (row ((0, negsuc 0) ∷ []) (negsuc 0)) ∷ goal Effect 5 7 two_fields_facts4 (rows 4 (constant_of 0 ∷ constant_of 0 ∷ sym 0 ∷ [])) ∷ goal Effect 5 7 two_fields_facts4 (rows 2 (constant_of 0 ∷ [])) ∷ goal Fold 5 5 two_fields_facts4 (rows 1 (constant_of 1 ∷ sym 2 ∷ [])) ∷ goal BoundsLow 6 7 two_fields_facts2 (row [] (pos 0)) ∷ goal BoundsHigh 6 7 two_fields_facts2 (row ((0, negsuc 0) ∷ []) (negsuc 0)) ∷ goal Effect 6 7 two_fields_facts4 (rows 5 (constant_of 0 ∷ constant_of 0 ∷ sym 0 ∷ [])) ∷ goal Effect 6 7 two_fields_facts4 (rows 3 (constant_of 0 ∷ [])) ∷ goal Fold 6 5 two_fields_facts4 (rows 1 (sym 1 ∷ constant_of 2 ∷ [])) ∷ pair 4 3 5 5 6 5 1 true true 0 1 two_fields_facts12 ∷ []
two-fields-conditions = refl
