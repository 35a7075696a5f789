-- A return in both lists of an If, and code behind it.
use Rattle.std.proofs.Common.{refl}
use Rattle.std.specs.Prelude.{pos, List, [], ◌∷◌, Some}
use Rattle.lq_tree.specs.declared.expr.BinOp.TheVariants.{Add, And, Ge, Gt, Le, Lt, Mul, Rem, Sub}
use Rattle.lq_tree.specs.declared.plain.PExpr.{Null, Slot}
use Rattle.lq_tree.specs.declared.plain.PKind.{Call, Calloc, Foreach, Load, Return, Set, Store}
use Rattle.lq_tree.specs.declared.plain.PFunc.{PFunc}
use Rattle.lq_tree.specs.declared.plain.PProgram.{PProgram}
use Rattle.lq_meaning.proofs.worked.SourceWords.{int, param, struct, struct_at}
use Rattle.lq_meaning.proofs.worked.PlainWords.{bin, branch, func, if_else, named, num, program, stmt, unnamed}
use Rattle.lq_templates.specs.declared.template.Template.{Template}
use Rattle.lq_templates.specs.Classes.{ClassOf}
use Rattle.lq_templates.specs.Templates.{AreTemplates}
use Rattle.lq_templates.proofs.AccessSets.{templates_by}
use Rattle.lq_templates.proofs.worked.Words.{after, before, classes, number, pointer, reads, records, writes}

abbrev ends_f1 : PFunc
ends_f1 = func 2 1 (Some (int 0)) "f1" 4 (named "n2" (int 0) ∷ named "s3" (struct "S" 1) ∷ named "n4" (int 0) ∷ named "n5" (int 0) ∷ named "a6" (int 1) ∷ []) (stmt 3 3 (Calloc 4 (num 4) (int 0)) ∷ stmt 4 3 (Return (Some (Slot 2))) ∷ [])

abbrev ends_main : PFunc
ends_main = func 6 1 (Some (int 0)) "main" 2 (named "in" (int 1) ∷ named "n" (int 0) ∷ named "v7" (struct "S" 1) ∷ named "i8" (int 0) ∷ named "c9" (int 0) ∷ unnamed (int 0) ∷ unnamed (int 0) ∷ unnamed (int 0) ∷ named "c10" (int 0) ∷ unnamed (int 0) ∷ unnamed (int 0) ∷ unnamed (int 0) ∷ named "c11" (int 0) ∷ unnamed (int 0) ∷ []) (stmt 7 3 (if_else (bin And (bin Le (num 0) (Slot 1)) (bin Lt (Slot 1) (Slot 1))) (stmt 8 5 (Store 0 (Slot 1) 0 (Slot 1)) ∷ stmt 9 5 (Calloc 2 (num 1) (struct "S" 0)) ∷ []) []) ∷ stmt 11 3 (Foreach 3 (num 0) (num 2) (pos 1) (branch 11 22 [])) ∷ stmt 14 3 (if_else (bin And (bin Gt (Slot 1) (num 5)) (bin Ge (bin Add (Slot 1) (Slot 1)) (Slot 1))) (stmt 15 5 (Set 5 (bin Rem (Slot 1) (num 2))) ∷ stmt 15 5 (Set 6 (bin Add (Slot 1) (Slot 1))) ∷ stmt 15 5 (Call (Some 4) 0 ((Slot 5) ∷ Null ∷ (Slot 6) ∷ (Slot 1) ∷ [])) ∷ stmt 16 5 (Load 7 0 (num 2) 0) ∷ stmt 16 5 (Return (Some (Slot 7))) ∷ []) (stmt 18 5 (Set 9 (bin Sub (Slot 1) (Slot 1))) ∷ stmt 18 5 (Set 10 (bin Add (num 0) (num 0))) ∷ stmt 18 5 (Set 11 (bin Mul (num 3) (Slot 1))) ∷ stmt 18 5 (Call (Some 8) 0 ((Slot 9) ∷ Null ∷ (Slot 10) ∷ (Slot 11) ∷ [])) ∷ stmt 19 5 (Set 13 (bin Rem (Slot 1) (num 3))) ∷ stmt 19 5 (Call (Some 12) 0 ((Slot 1) ∷ Null ∷ (Slot 13) ∷ (Slot 1) ∷ [])) ∷ stmt 20 5 (Return (Some (Slot 1))) ∷ [])) ∷ stmt 22 3 (Store 0 (Slot 1) 0 (num 5)) ∷ stmt 23 3 (Return (Some (num 0))) ∷ [])

abbrev ends : PProgram
ends = program (struct_at 1 1 "S" (param (int 0) "n" ∷ param (int 1) "data" ∷ param (int 0) "m" ∷ param (struct "S" 1) "next" ∷ []) ∷ []) (ends_f1 ∷ ends_main ∷ []) 1 []

abbrev ends_classes : ClassOf
ends_classes = classes ((0, 1, 1) ∷ (0, 4, 2) ∷ (1, 0, 3) ∷ (1, 2, 4) ∷ [])

abbrev pub ends_templates : List Template
ends_templates = (records 1 (number ".n" ∷ pointer ".data" ∷ number ".m" ∷ pointer ".next" ∷ []) ∷ records 2 (number ".word" ∷ []) ∷ records 3 (number ".word" ∷ []) ∷ records 4 (number ".n" ∷ pointer ".data" ∷ number ".m" ∷ pointer ".next" ∷ []) ∷ before 0 (number "n2" ∷ pointer "s3" ∷ number "n4" ∷ number "n5" ∷ []) ∷ after 0 (number "n2" ∷ pointer "s3" ∷ number "n4" ∷ number "n5" ∷ number "result" ∷ []) ∷ reads 1 6 1 3 0 (pointer "in" ∷ number "n" ∷ []) ∷ writes 1 6 1 3 0 (pointer "in" ∷ number "n" ∷ []) ∷ [])

-- all templates, in their order
ends-all : AreTemplates ends ends_classes ends_templates
ends-all = templates_by ends ends_classes ends_templates refl
