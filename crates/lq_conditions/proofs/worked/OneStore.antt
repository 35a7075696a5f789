-- The conditions of a store.
use Rattle.std.proofs.Common.{◌≡◌, refl}
use Rattle.std.specs.Prelude.{List, [], ◌∷◌, pos, negsuc, Some, ◌++◌}
use Rattle.lq_tree.specs.declared.plain.PKind.{Calloc, Return, Store}
use Rattle.lq_tree.specs.declared.plain.PFunc.{PFunc}
use Rattle.lq_tree.specs.declared.plain.PProgram.{PProgram}
use Rattle.lq_meaning.proofs.worked.SourceWords.{int}
use Rattle.lq_meaning.proofs.worked.PlainWords.{func, named, num, program, stmt}
use Rattle.lq_templates.specs.declared.condition.Given.{Given}
use Rattle.lq_templates.specs.declared.condition.Rule.TheVariants.{BoundsHigh, BoundsLow, Effect, Fold}
use Rattle.lq_templates.specs.Classes.{ClassOf}
use Rattle.lq_templates.proofs.AccessSets.{rounds}
use Rattle.lq_templates.proofs.worked.Words.{classes}
use Rattle.lq_conditions.specs.Conditions.{conditions}
use Rattle.lq_conditions.proofs.worked.Words.{goal, num as constant_of, row, rows, sym}

abbrev one_store_main : PFunc
one_store_main = func 1 1 (Some (int 0)) "main" 0 (named "a" (int 1) ∷ [])
    (stmt 2 3 (Calloc 0 (num 2) (int 0)) ∷ stmt 3 3 (Store 0 (num 1) 0 (num 7)) ∷ stmt 4 3 (Return (Some (num 0))) ∷ [])

abbrev pub one_store : PProgram
one_store = program [] (one_store_main ∷ []) 0 []

abbrev one_store_classes : ClassOf
one_store_classes = classes ((0, 0, 1) ∷ [])

abbrev one_store_facts2 : List Given
one_store_facts2 = (row ((0, negsuc 0) ∷ []) (negsuc 0) ∷ row ((0, pos 1) ∷ []) (pos 2) ∷ row ((0, negsuc 0) ∷ []) (negsuc 1) ∷ [])

abbrev one_store_facts4 : List Given
one_store_facts4 = one_store_facts2 ++ (rows 1 (sym 1 ∷ []) ∷ [])

-- all conditions, in their order
one-store-conditions : (conditions one_store one_store_classes (rounds one_store one_store_classes 1)).list ≡
    goal Fold 2 3 [] (rows 1 (constant_of 0 ∷ [])) ∷ goal BoundsLow 3 3 one_store_facts2 (row [] (pos 1)) ∷ goal BoundsHigh 3 3 one_store_facts2 (row ((0, negsuc 0) ∷ []) (negsuc 1)) ∷ goal Effect 3 3 one_store_facts4 (rows 2 (constant_of 1 ∷ [])) ∷ goal Fold 4 3 one_store_facts4 (rows 1 (constant_of 7 ∷ [])) ∷ []
one-store-conditions = refl
