-- Three blocks of a `cobegin`, each of which writes one element.
use Rattle.std.proofs.Common.{refl}
use Rattle.std.specs.Prelude.{List, [], ◌∷◌, Some}
use Rattle.lq_tree.specs.declared.expr.BinOp.TheVariants.{Add}
use Rattle.lq_tree.specs.declared.plain.PExpr.{Slot}
use Rattle.lq_tree.specs.declared.plain.PKind.{Calloc, Load, Print, Return, Store}
use Rattle.lq_tree.specs.declared.plain.PFunc.{PFunc}
use Rattle.lq_tree.specs.declared.plain.PProgram.{PProgram}
use Rattle.lq_meaning.proofs.worked.SourceWords.{int}
use Rattle.lq_meaning.proofs.worked.PlainWords.{bin, branch, cobegin, func, named, num, program, stmt, unnamed}
use Rattle.lq_templates.specs.declared.template.Template.{Template}
use Rattle.lq_templates.specs.Classes.{ClassOf}
use Rattle.lq_templates.specs.Templates.{AreTemplates}
use Rattle.lq_templates.proofs.AccessSets.{templates_by}
use Rattle.lq_templates.proofs.worked.Words.{classes, number, pointer, reads, records, writes}

abbrev middle_main : PFunc
middle_main = func 1 1 (Some (int 0)) "main" 2 (named "in" (int 1) ∷ named "n" (int 0) ∷ named "a" (int 1) ∷ unnamed (int 0) ∷ []) (stmt 2 3 (Calloc 2 (num 3) (int 0)) ∷ stmt 3 3 (cobegin (branch 4 5 (stmt 4 7 (Store 2 (num 0) 0 (num 1)) ∷ []) ∷ branch 5 5 (stmt 5 7 (Store 2 (num 1) 0 (bin Add (num 9223372036854775807) (num 1))) ∷ []) ∷ branch 6 5 (stmt 6 7 (Store 2 (num 2) 0 (num 3)) ∷ []) ∷ [])) ∷ stmt 8 3 (Load 3 2 (num 0) 0) ∷ stmt 8 3 (Print (Slot 3)) ∷ stmt 9 3 (Return (Some (num 0))) ∷ [])

abbrev middle : PProgram
middle = program [] (middle_main ∷ []) 0 []

abbrev middle_classes : ClassOf
middle_classes = classes ((0, 0, 1) ∷ (0, 2, 2) ∷ [])

abbrev pub middle_templates : List Template
middle_templates = (records 1 (number ".word" ∷ []) ∷ records 2 (number ".word" ∷ []) ∷ reads 0 1 1 2 0 (pointer "in" ∷ number "n" ∷ []) ∷ writes 0 1 1 2 0 (pointer "in" ∷ number "n" ∷ []) ∷ writes 1 4 5 2 0 (pointer "in" ∷ number "n" ∷ pointer "a" ∷ []) ∷ writes 2 5 5 2 0 (pointer "in" ∷ number "n" ∷ pointer "a" ∷ []) ∷ writes 3 6 5 2 0 (pointer "in" ∷ number "n" ∷ pointer "a" ∷ []) ∷ [])

-- all templates, in their order
middle-all : AreTemplates middle middle_classes middle_templates
middle-all = templates_by middle middle_classes middle_templates refl
