-- A function that returns a pointer and is called, and a `foreach` with a step.
use Rattle.std.proofs.Common.{refl}
use Rattle.std.specs.Prelude.{pos, List, [], ◌∷◌, None, Some}
use Rattle.lq_tree.specs.declared.expr.BinOp.TheVariants.{Add, Lt, Mul}
use Rattle.lq_tree.specs.declared.plain.PExpr.{Slot}
use Rattle.lq_tree.specs.declared.plain.PKind.{Call, Foreach, Return, Store}
use Rattle.lq_tree.specs.declared.plain.PFunc.{PFunc}
use Rattle.lq_tree.specs.declared.plain.PProgram.{PProgram}
use Rattle.lq_meaning.proofs.worked.SourceWords.{int, param, struct, struct_at}
use Rattle.lq_meaning.proofs.worked.PlainWords.{bin, branch, func, if_else, named, num, program, stmt}
use Rattle.lq_templates.specs.declared.template.Template.{Template}
use Rattle.lq_templates.specs.Classes.{ClassOf}
use Rattle.lq_templates.specs.Templates.{AreTemplates}
use Rattle.lq_templates.proofs.AccessSets.{templates_by}
use Rattle.lq_templates.proofs.worked.Words.{after, before, classes, number, pointer, records, writes}

abbrev results_f1 : PFunc
results_f1 = func 2 1 (Some (int 1)) "f1" 2 (named "n2" (int 0) ∷ named "p3" (int 1) ∷ []) (stmt 3 3 (Store 1 (num 2) 0 (num 2)) ∷ stmt 4 3 (Return (Some (Slot 1))) ∷ [])

abbrev results_main : PFunc
results_main = func 6 1 (Some (int 0)) "main" 2 (named "in" (int 1) ∷ named "n" (int 0) ∷ named "i4" (int 0) ∷ []) (stmt 7 3 (if_else (bin Lt (Slot 1) (num 4)) (stmt 7 16 (Return (Some (num 0))) ∷ []) []) ∷ stmt 8 3 (Store 0 (num 2) 0 (bin Add (Slot 1) (num 1))) ∷ stmt 9 3 (Call None 0 ((Slot 1) ∷ (Slot 0) ∷ [])) ∷ stmt 10 3 (Foreach 2 (num 0) (num 3) (pos 2) (branch 10 25 (stmt 11 5 (Store 0 (bin Mul (num 2) (Slot 2)) 0 (num 1)) ∷ []))) ∷ stmt 13 3 (Return (Some (num 0))) ∷ [])

abbrev results : PProgram
results = program (struct_at 1 1 "S" (param (int 0) "n" ∷ param (int 1) "data" ∷ param (int 0) "m" ∷ param (struct "S" 1) "next" ∷ []) ∷ []) (results_f1 ∷ results_main ∷ []) 1 []

abbrev results_classes : ClassOf
results_classes = classes ((0, 1, 1) ∷ (0, 2, 1) ∷ (1, 0, 1) ∷ [])

abbrev pub results_templates : List Template
results_templates = (records 1 (number ".word" ∷ []) ∷ before 0 (number "n2" ∷ pointer "p3" ∷ []) ∷ after 0 (number "n2" ∷ pointer "p3" ∷ pointer "result" ∷ []) ∷ writes 0 2 1 1 0 (number "n2" ∷ pointer "p3" ∷ []) ∷ writes 1 6 1 1 0 (pointer "in" ∷ number "n" ∷ []) ∷ writes 2 10 25 1 0 (pointer "in" ∷ number "n" ∷ number "i4" ∷ []) ∷ [])

-- all templates, in their order
results-all : AreTemplates results results_classes results_templates
results-all = templates_by results results_classes results_templates refl
