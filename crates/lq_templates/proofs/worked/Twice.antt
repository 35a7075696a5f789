-- A function that fills an array, called in two branches on one array.
use Rattle.std.proofs.Common.{refl}
use Rattle.std.specs.Prelude.{List, [], ◌∷◌, None, Some}
use Rattle.lq_tree.specs.declared.expr.BinOp.TheVariants.{Add, Lt}
use Rattle.lq_tree.specs.declared.plain.PExpr.{Slot}
use Rattle.lq_tree.specs.declared.plain.PKind.{Call, Calloc, Load, Print, Return, Set, Store}
use Rattle.lq_tree.specs.declared.plain.PFunc.{PFunc}
use Rattle.lq_tree.specs.declared.plain.PProgram.{PProgram}
use Rattle.lq_meaning.proofs.worked.SourceWords.{int}
use Rattle.lq_meaning.proofs.worked.PlainWords.{bin, branch, cobegin, func, if_else, named, num, program, stmt, unnamed, while}
use Rattle.lq_templates.specs.declared.template.Template.{Template}
use Rattle.lq_templates.specs.Classes.{ClassOf}
use Rattle.lq_templates.specs.Templates.{AreTemplates}
use Rattle.lq_templates.proofs.AccessSets.{templates_by}
use Rattle.lq_templates.proofs.worked.Words.{before, changed_number, classes, looped, number, pointer, reads, records, writes}

abbrev twice_fill : PFunc
twice_fill = func 1 1 None "fill" 3 (named "a" (int 1) ∷ named "n" (int 0) ∷ named "v" (int 0) ∷ named "i" (int 0) ∷ []) (stmt 2 3 (Set 3 (num 0)) ∷ stmt 3 3 (while [] (bin Lt (Slot 3) (Slot 1)) (stmt 3 19 (Store 0 (Slot 3) 0 (Slot 2)) ∷ stmt 3 29 (Set 3 (bin Add (Slot 3) (num 1))) ∷ [])) ∷ [])

abbrev twice_main : PFunc
twice_main = func 5 1 (Some (int 0)) "main" 2 (named "in" (int 1) ∷ named "n" (int 0) ∷ named "b" (int 1) ∷ unnamed (int 0) ∷ unnamed (int 0) ∷ []) (stmt 6 3 (if_else (bin Lt (Slot 1) (num 1)) (stmt 6 16 (Return (Some (num 0))) ∷ []) []) ∷ stmt 7 3 (Calloc 2 (Slot 1) (int 0)) ∷ stmt 8 3 (cobegin (branch 9 5 (stmt 9 7 (Call None 0 ((Slot 0) ∷ (Slot 1) ∷ (num 1) ∷ [])) ∷ []) ∷ branch 10 5 (stmt 10 7 (Call None 0 ((Slot 2) ∷ (Slot 1) ∷ (num 2) ∷ [])) ∷ []) ∷ [])) ∷ stmt 12 3 (Load 3 0 (num 0) 0) ∷ stmt 12 3 (Print (Slot 3)) ∷ stmt 13 3 (Load 4 2 (num 0) 0) ∷ stmt 13 3 (Print (Slot 4)) ∷ stmt 14 3 (Return (Some (num 0))) ∷ [])

abbrev twice : PProgram
twice = program [] (twice_fill ∷ twice_main ∷ []) 1 []

abbrev twice_classes : ClassOf
twice_classes = classes ((0, 0, 1) ∷ (1, 0, 1) ∷ (1, 2, 1) ∷ [])

abbrev pub twice_templates : List Template
twice_templates = (records 1 (number ".word" ∷ []) ∷ before 0 (pointer "a" ∷ number "n" ∷ number "v" ∷ []) ∷ writes 0 1 1 1 0 (pointer "a" ∷ number "n" ∷ number "v" ∷ []) ∷ looped (pointer "a" ∷ number "n" ∷ number "v" ∷ changed_number "i" ∷ []) ∷ reads 1 5 1 1 0 (pointer "in" ∷ number "n" ∷ []) ∷ writes 1 5 1 1 0 (pointer "in" ∷ number "n" ∷ []) ∷ writes 2 9 5 1 0 (pointer "in" ∷ number "n" ∷ pointer "b" ∷ []) ∷ writes 3 10 5 1 0 (pointer "in" ∷ number "n" ∷ pointer "b" ∷ []) ∷ [])

-- all templates, in their order
twice-all : AreTemplates twice twice_classes twice_templates
twice-all = templates_by twice twice_classes twice_templates refl
