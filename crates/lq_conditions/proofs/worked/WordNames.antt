-- A local that is called `result` is no name of a template.
use Rattle.std.proofs.Common.{◌≡◌, refl}
use Rattle.std.specs.Prelude.{List, [], ◌∷◌, pos, negsuc, Some}
use Rattle.lq_tree.specs.declared.plain.PKind.{Calloc, Return, Set}
use Rattle.lq_tree.specs.declared.plain.PFunc.{PFunc}
use Rattle.lq_tree.specs.declared.plain.PProgram.{PProgram}
use Rattle.lq_meaning.proofs.worked.SourceWords.{int, param, struct, struct_at}
use Rattle.lq_meaning.proofs.worked.PlainWords.{func, named, neg, num, program, stmt}
use Rattle.lq_templates.specs.declared.condition.Given.{Given}
use Rattle.lq_templates.specs.declared.condition.Rule.TheVariants.{Fold}
use Rattle.lq_templates.specs.Classes.{ClassOf}
use Rattle.lq_templates.proofs.AccessSets.{rounds}
use Rattle.lq_templates.proofs.worked.Words.{classes}
use Rattle.lq_conditions.specs.Conditions.{conditions}
use Rattle.lq_conditions.proofs.worked.Words.{goal, num as constant_of, row, rows}

abbrev word_names_main : PFunc
word_names_main = func 2 1 (Some (int 0)) "main" 0 (named "result" (int 0) ∷ named "a2" (int 1) ∷ named "a3" (int 1) ∷ named "x4" (int 0) ∷ [])
    (stmt 4 5 (Set 0 (neg (num 4))) ∷ stmt 5 5 (Calloc 1 (num 4) (int 0)) ∷ stmt 7 3 (Calloc 2 (num 3) (int 0)) ∷ stmt 8 3 (Set 3 (num 1)) ∷ stmt 9 3 (Return (Some (num 0))) ∷ [])

abbrev pub word_names : PProgram
word_names = program (struct_at 1 1 "S" (param (int 0) "n" ∷ param (int 1) "data" ∷ param (int 0) "m" ∷ param (struct "S" 1) "next" ∷ []) ∷ []) (word_names_main ∷ []) 0 []

abbrev word_names_classes : ClassOf
word_names_classes = classes ((0, 1, 1) ∷ (0, 2, 2) ∷ [])

abbrev word_names_facts2 : List Given
word_names_facts2 = (row ((0, negsuc 0) ∷ []) (negsuc 0) ∷ row ((0, pos 1) ∷ []) (pos 4) ∷ row ((0, negsuc 0) ∷ []) (negsuc 3) ∷ [])

-- all conditions, in their order
word-names-conditions : (conditions word_names word_names_classes (rounds word_names word_names_classes 1)).list ≡
    goal Fold 5 5 [] (rows 1 (constant_of 0 ∷ [])) ∷ goal Fold 7 3 word_names_facts2 (rows 2 (constant_of 0 ∷ [])) ∷ []
word-names-conditions = refl
