-- A load, a store and a `foreach` in `main`.
use Rattle.std.proofs.Common.{refl}
use Rattle.std.specs.Prelude.{pos, List, [], ◌∷◌, Some}
use Rattle.lq_tree.specs.declared.expr.BinOp.TheVariants.{Add}
use Rattle.lq_tree.specs.declared.plain.PExpr.{Slot}
use Rattle.lq_tree.specs.declared.plain.PKind.{Calloc, Foreach, Load, Return, Store}
use Rattle.lq_tree.specs.declared.plain.PFunc.{PFunc}
use Rattle.lq_tree.specs.declared.plain.PProgram.{PProgram}
use Rattle.lq_meaning.proofs.worked.SourceWords.{int, param, struct, struct_at}
use Rattle.lq_meaning.proofs.worked.PlainWords.{bin, branch, func, named, num, program, stmt, unnamed}
use Rattle.lq_templates.specs.declared.template.Template.{Template}
use Rattle.lq_templates.specs.Classes.{ClassOf}
use Rattle.lq_templates.specs.Templates.{AreTemplates}
use Rattle.lq_templates.proofs.AccessSets.{templates_by}
use Rattle.lq_templates.proofs.worked.Words.{classes, number, pointer, reads, records, writes}

abbrev choices_main : PFunc
choices_main = func 2 1 (Some (int 0)) "main" 2 (named "in" (int 1) ∷ named "n" (int 0) ∷ named "a1" (int 1) ∷ unnamed (int 0) ∷ named "i2" (int 0) ∷ []) (stmt 3 3 (Calloc 2 (num 5) (int 0)) ∷ stmt 4 3 (Load 3 2 (num 0) 0) ∷ stmt 4 3 (Store 2 (Slot 3) 0 (num 2)) ∷ stmt 5 3 (Foreach 4 (num 0) (num 2) (pos 1) (branch 5 22 (stmt 6 5 (Store 2 (Slot 4) 0 (num 2)) ∷ stmt 7 5 (Store 2 (bin Add (Slot 4) (num 1)) 0 (num 2)) ∷ []))) ∷ stmt 9 3 (Return (Some (num 0))) ∷ [])

abbrev choices : PProgram
choices = program (struct_at 1 1 "S" (param (int 0) "n" ∷ param (int 1) "data" ∷ param (int 0) "m" ∷ param (struct "S" 1) "next" ∷ []) ∷ []) (choices_main ∷ []) 0 []

abbrev choices_classes : ClassOf
choices_classes = classes ((0, 0, 1) ∷ (0, 2, 2) ∷ [])

abbrev pub choices_templates : List Template
choices_templates = (records 1 (number ".word" ∷ []) ∷ records 2 (number ".word" ∷ []) ∷ reads 0 2 1 2 0 (pointer "in" ∷ number "n" ∷ []) ∷ writes 0 2 1 2 0 (pointer "in" ∷ number "n" ∷ []) ∷ writes 1 5 22 2 0 (pointer "in" ∷ number "n" ∷ pointer "a1" ∷ number "i2" ∷ []) ∷ [])

-- all templates, in their order
choices-all : AreTemplates choices choices_classes choices_templates
choices-all = templates_by choices choices_classes choices_templates refl
