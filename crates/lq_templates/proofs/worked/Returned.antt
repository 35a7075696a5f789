-- A function that returns a pointer, and a loop whose body does not live.
use Rattle.std.proofs.Common.{refl}
use Rattle.std.specs.Prelude.{List, [], ◌∷◌, Some}
use Rattle.lq_tree.specs.declared.expr.BinOp.TheVariants.{Eq, Lt, Sub}
use Rattle.lq_tree.specs.declared.plain.PExpr.{Null, Slot}
use Rattle.lq_tree.specs.declared.plain.PKind.{Calloc, Return, Store}
use Rattle.lq_tree.specs.declared.plain.PFunc.{PFunc}
use Rattle.lq_tree.specs.declared.plain.PProgram.{PProgram}
use Rattle.lq_meaning.proofs.worked.SourceWords.{int, param, struct, struct_at}
use Rattle.lq_meaning.proofs.worked.PlainWords.{bin, branch, cobegin, func, if_else, named, num, program, stmt, while}
use Rattle.lq_templates.specs.declared.template.Template.{Template}
use Rattle.lq_templates.specs.Classes.{ClassOf}
use Rattle.lq_templates.specs.Templates.{AreTemplates}
use Rattle.lq_templates.proofs.AccessSets.{templates_by}
use Rattle.lq_templates.proofs.worked.Words.{after, before, classes, number, pointer, records, writes}

abbrev returned_f1 : PFunc
returned_f1 = func 2 1 (Some (int 1)) "f1" 0 (named "a2" (int 1) ∷ named "v3" (struct "S" 1) ∷ []) (stmt 3 3 (Calloc 0 (num 3) (int 0)) ∷ stmt 4 3 (Calloc 1 (num 1) (struct "S" 0)) ∷ stmt 5 3 (Return (Some Null)) ∷ [])

abbrev returned_main : PFunc
returned_main = func 7 1 (Some (int 0)) "main" 2 (named "in" (int 1) ∷ named "n" (int 0) ∷ named "v4" (struct "S" 1) ∷ []) (stmt 8 3 (if_else (bin Lt (Slot 1) (num 1)) (stmt 8 16 (Return (Some (num 0))) ∷ []) []) ∷ stmt 9 3 (while [] (bin Eq (bin Sub (Slot 1) (num 1)) (Slot 1)) (stmt 10 5 (cobegin (branch 11 7 (stmt 12 9 (Store 0 (Slot 1) 0 (num 4)) ∷ []) ∷ branch 14 7 (stmt 15 9 (Store 0 (num 1) 0 (num 3)) ∷ []) ∷ [])) ∷ stmt 18 5 (Calloc 2 (num 3) (struct "S" 0)) ∷ stmt 19 5 (Return (Some (Slot 1))) ∷ [])) ∷ stmt 21 3 (Return (Some (num 0))) ∷ [])

abbrev returned : PProgram
returned = program (struct_at 1 1 "S" (param (int 0) "n" ∷ param (int 1) "data" ∷ param (int 0) "m" ∷ param (struct "S" 1) "next" ∷ []) ∷ []) (returned_f1 ∷ returned_main ∷ []) 1 []

abbrev returned_classes : ClassOf
returned_classes = classes ((0, 0, 1) ∷ (0, 1, 2) ∷ (0, 2, 3) ∷ (1, 0, 4) ∷ (1, 2, 5) ∷ [])

abbrev pub returned_templates : List Template
returned_templates = (records 1 (number ".word" ∷ []) ∷ records 2 (number ".n" ∷ pointer ".data" ∷ number ".m" ∷ pointer ".next" ∷ []) ∷ records 3 (number ".word" ∷ []) ∷ records 4 (number ".word" ∷ []) ∷ records 5 (number ".n" ∷ pointer ".data" ∷ number ".m" ∷ pointer ".next" ∷ []) ∷ before 0 [] ∷ after 0 (pointer "result" ∷ []) ∷ writes 1 7 1 4 0 (pointer "in" ∷ number "n" ∷ []) ∷ writes 2 11 7 4 0 (pointer "in" ∷ number "n" ∷ []) ∷ writes 3 14 7 4 0 (pointer "in" ∷ number "n" ∷ []) ∷ [])

-- all templates, in their order
returned-all : AreTemplates returned returned_classes returned_templates
returned-all = templates_by returned returned_classes returned_templates refl
