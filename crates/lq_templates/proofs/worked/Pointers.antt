-- Functions that return pointers: an offset and a length of a result.
use Rattle.std.proofs.Common.{refl}
use Rattle.std.specs.Prelude.{pos, List, [], ◌∷◌, Some}
use Rattle.lq_tree.specs.declared.expr.BinOp.TheVariants.{Lt, Sub}
use Rattle.lq_tree.specs.declared.plain.PExpr.{Null, Slot}
use Rattle.lq_tree.specs.declared.plain.PKind.{Calloc, Foreach, Return, Set, Store}
use Rattle.lq_tree.specs.declared.plain.PFunc.{PFunc}
use Rattle.lq_tree.specs.declared.plain.PProgram.{PProgram}
use Rattle.lq_meaning.proofs.worked.SourceWords.{int, param, struct, struct_at}
use Rattle.lq_meaning.proofs.worked.PlainWords.{bin, branch, cobegin, func, if_else, named, num, program, stmt}
use Rattle.lq_templates.specs.declared.template.Template.{Template}
use Rattle.lq_templates.specs.Classes.{ClassOf}
use Rattle.lq_templates.specs.Templates.{AreTemplates}
use Rattle.lq_templates.proofs.AccessSets.{templates_by}
use Rattle.lq_templates.proofs.worked.Words.{after, before, classes, number, pointer, records, writes}

abbrev pointers_f1 : PFunc
pointers_f1 = func 2 1 (Some (int 1)) "f1" 4 (named "n2" (int 0) ∷ named "s3" (struct "S" 1) ∷ named "n4" (int 0) ∷ named "n5" (int 0) ∷ named "a6" (int 1) ∷ []) (stmt 3 3 (Calloc 4 (Slot 0) (int 0)) ∷ stmt 4 3 (Return (Some Null)) ∷ [])

abbrev pointers_f7 : PFunc
pointers_f7 = func 6 1 (Some (int 1)) "f7" 1 (named "n8" (int 0) ∷ named "k" (int 0) ∷ []) (stmt 7 3 (Foreach 1 (num 0) (num 4) (pos 1) (branch 7 21 [])) ∷ stmt 9 3 (Return (Some Null)) ∷ [])

abbrev pointers_main : PFunc
pointers_main = func 11 1 (Some (int 0)) "main" 2 (named "in" (int 1) ∷ named "n" (int 0) ∷ named "x9" (int 0) ∷ []) (stmt 12 3 (if_else (bin Lt (Slot 1) (num 4)) (stmt 12 16 (Return (Some (num 0))) ∷ []) []) ∷ stmt 13 3 (cobegin (branch 14 5 (stmt 15 7 (Store 0 (bin Sub (Slot 1) (num 1)) 0 (Slot 1)) ∷ stmt 16 7 (Set 2 (Slot 1)) ∷ []) ∷ branch 18 5 [] ∷ [])) ∷ stmt 21 3 (Return (Some (num 0))) ∷ [])

abbrev pointers : PProgram
pointers = program (struct_at 1 1 "S" (param (int 0) "n" ∷ param (int 1) "data" ∷ param (int 0) "m" ∷ param (struct "S" 1) "next" ∷ []) ∷ []) (pointers_f1 ∷ pointers_f7 ∷ pointers_main ∷ []) 2 []

abbrev pointers_classes : ClassOf
pointers_classes = classes ((0, 1, 1) ∷ (0, 4, 2) ∷ (0, 5, 3) ∷ (1, 2, 4) ∷ (2, 0, 5) ∷ [])

abbrev pub pointers_templates : List Template
pointers_templates = (records 1 (number ".n" ∷ pointer ".data" ∷ number ".m" ∷ pointer ".next" ∷ []) ∷ records 2 (number ".word" ∷ []) ∷ records 3 (number ".word" ∷ []) ∷ records 4 (number ".word" ∷ []) ∷ records 5 (number ".word" ∷ []) ∷ before 0 (number "n2" ∷ pointer "s3" ∷ number "n4" ∷ number "n5" ∷ []) ∷ after 0 (number "n2" ∷ pointer "s3" ∷ number "n4" ∷ number "n5" ∷ pointer "result" ∷ []) ∷ before 1 (number "n8" ∷ []) ∷ after 1 (number "n8" ∷ pointer "result" ∷ []) ∷ writes 3 11 1 5 0 (pointer "in" ∷ number "n" ∷ []) ∷ writes 4 14 5 5 0 (pointer "in" ∷ number "n" ∷ []) ∷ [])

-- all templates, in their order
pointers-all : AreTemplates pointers pointers_classes pointers_templates
pointers-all = templates_by pointers pointers_classes pointers_templates refl
