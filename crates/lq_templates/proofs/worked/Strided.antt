-- A `foreach` with a step, whose body has a loop.
use Rattle.std.proofs.Common.{refl}
use Rattle.std.specs.Prelude.{pos, List, [], ◌∷◌, Some}
use Rattle.lq_tree.specs.declared.expr.BinOp.TheVariants.{Add, Lt, Mul, Sub}
use Rattle.lq_tree.specs.declared.plain.PExpr.{Slot}
use Rattle.lq_tree.specs.declared.plain.PKind.{Calloc, Foreach, Load, Print, Return, Set, Store}
use Rattle.lq_tree.specs.declared.plain.PFunc.{PFunc}
use Rattle.lq_tree.specs.declared.plain.PProgram.{PProgram}
use Rattle.lq_meaning.proofs.worked.SourceWords.{int}
use Rattle.lq_meaning.proofs.worked.PlainWords.{bin, branch, func, if_else, named, num, program, stmt, unnamed, while}
use Rattle.lq_templates.specs.declared.template.Template.{Template}
use Rattle.lq_templates.specs.Classes.{ClassOf}
use Rattle.lq_templates.specs.Templates.{AreTemplates}
use Rattle.lq_templates.proofs.AccessSets.{templates_by}
use Rattle.lq_templates.proofs.worked.Words.{changed_number, classes, looped, number, pointer, reads, records, writes}

abbrev strided_main : PFunc
strided_main = func 1 1 (Some (int 0)) "main" 2 (named "in" (int 1) ∷ named "n" (int 0) ∷ named "a" (int 1) ∷ unnamed (int 0) ∷ named "i" (int 0) ∷ named "j" (int 0) ∷ unnamed (int 0) ∷ unnamed (int 0) ∷ unnamed (int 0) ∷ []) (stmt 2 3 (if_else (bin Lt (Slot 1) (num 1)) (stmt 2 16 (Return (Some (num 0))) ∷ []) []) ∷ stmt 3 3 (Set 3 (bin Mul (num 4) (Slot 1))) ∷ stmt 3 3 (Calloc 2 (Slot 3) (int 0)) ∷ stmt 4 3 (Foreach 4 (num 0) (bin Sub (bin Mul (num 4) (Slot 1)) (num 3)) (pos 4) (branch 4 32 (stmt 5 5 (Set 5 (num 0)) ∷ stmt 6 5 (while [] (bin Lt (Slot 5) (num 4)) (stmt 6 21 (Store 2 (bin Add (Slot 4) (Slot 5)) 0 (Slot 5)) ∷ stmt 6 35 (Set 5 (bin Add (Slot 5) (num 1))) ∷ [])) ∷ []))) ∷ stmt 8 3 (Load 6 2 (num 0) 0) ∷ stmt 8 3 (Print (Slot 6)) ∷ stmt 9 3 (Set 7 (bin Sub (bin Mul (num 4) (Slot 1)) (num 1))) ∷ stmt 9 3 (Load 8 2 (Slot 7) 0) ∷ stmt 9 3 (Print (Slot 8)) ∷ stmt 10 3 (Return (Some (num 0))) ∷ [])

abbrev strided : PProgram
strided = program [] (strided_main ∷ []) 0 []

abbrev strided_classes : ClassOf
strided_classes = classes ((0, 0, 1) ∷ (0, 2, 2) ∷ [])

abbrev pub strided_templates : List Template
strided_templates = (records 1 (number ".word" ∷ []) ∷ records 2 (number ".word" ∷ []) ∷ reads 0 1 1 2 0 (pointer "in" ∷ number "n" ∷ []) ∷ writes 0 1 1 2 0 (pointer "in" ∷ number "n" ∷ []) ∷ writes 1 4 32 2 0 (pointer "in" ∷ number "n" ∷ pointer "a" ∷ number "i" ∷ []) ∷ looped (pointer "in" ∷ number "n" ∷ pointer "a" ∷ number "i" ∷ changed_number "j" ∷ []) ∷ [])

-- all templates, in their order
strided-all : AreTemplates strided strided_classes strided_templates
strided-all = templates_by strided strided_classes strided_templates refl
