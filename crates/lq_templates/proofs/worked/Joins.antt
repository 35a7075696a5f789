-- Ifs that change locals, and one of which a list does not live.
use Rattle.std.proofs.Common.{refl}
use Rattle.std.specs.Prelude.{pos, List, [], ◌∷◌, Some}
use Rattle.lq_tree.specs.declared.expr.BinOp.TheVariants.{Add, And, Div, Ge, Gt, Le, Lt, Mul, Ne, Rem}
use Rattle.lq_tree.specs.declared.plain.PExpr.{Null, Slot}
use Rattle.lq_tree.specs.declared.plain.PKind.{Calloc, Foreach, Load, Print, Return, Set, Store}
use Rattle.lq_tree.specs.declared.plain.PFunc.{PFunc}
use Rattle.lq_tree.specs.declared.plain.PProgram.{PProgram}
use Rattle.lq_meaning.proofs.worked.SourceWords.{int, param, struct, struct_at}
use Rattle.lq_meaning.proofs.worked.PlainWords.{bin, branch, cobegin, func, if_else, named, num, program, stmt, unnamed}
use Rattle.lq_templates.specs.declared.template.Template.{Template}
use Rattle.lq_templates.specs.Classes.{ClassOf}
use Rattle.lq_templates.specs.Templates.{AreTemplates}
use Rattle.lq_templates.proofs.AccessSets.{templates_by}
use Rattle.lq_templates.proofs.worked.Words.{classes, joined, number, pointer, reads, records, writes}

abbrev joins_main : PFunc
joins_main = func 2 1 (Some (int 0)) "main" 2 (named "in" (int 1) ∷ named "n" (int 0) ∷ named "z" (int 0) ∷ named "w2" (int 2) ∷ named "q3" (int 1) ∷ unnamed (int 0) ∷ unnamed (int 0) ∷ unnamed (int 0) ∷ unnamed (int 0) ∷ named "q4" (int 1) ∷ named "x5" (int 0) ∷ unnamed (int 0) ∷ named "a6" (int 1) ∷ unnamed (int 0) ∷ named "q7" (struct "S" 1) ∷ named "k" (int 0) ∷ unnamed (int 0) ∷ unnamed (int 0) ∷ []) (stmt 3 3 (if_else (bin Lt (Slot 1) (num 2)) (stmt 3 16 (Return (Some (num 0))) ∷ []) []) ∷ stmt 5 5 (Set 2 (num 1)) ∷ stmt 6 5 (if_else (bin And (bin Ge (bin Rem (Slot 1) (num 3)) (Slot 2)) (bin Le (Slot 1) (Slot 1))) (stmt 7 7 (Print (bin Div (Slot 1) (num 3))) ∷ stmt 8 7 (Return (Some (bin Mul (Slot 1) (num 4)))) ∷ []) (stmt 10 7 (Print (bin Add (num 1) (num 1))) ∷ [])) ∷ stmt 13 3 (Calloc 3 (num 3) (int 1)) ∷ stmt 14 3 (Store 3 (num 1) 0 (Slot 0)) ∷ stmt 15 3 (Load 4 3 (num 0) 0) ∷ stmt 16 3 (cobegin (branch 17 5 (stmt 18 7 (Set 5 (num 0)) ∷ stmt 18 7 (Set 6 (bin Rem (num 1) (num 4))) ∷ stmt 18 7 (Load 7 0 (Slot 1) 0) ∷ stmt 18 7 (if_else (bin Le (Slot 6) (Slot 7)) (stmt 18 7 (Load 8 0 (Slot 1) 0) ∷ stmt 18 7 (Set 5 (bin Ne (bin Gt (Slot 8) (num 3)) (num 0))) ∷ []) []) ∷ stmt 18 7 (if_else (Slot 5) (stmt 19 9 (Set 9 (Slot 0)) ∷ stmt 20 9 (Set 10 (bin Rem (Slot 1) (num 3))) ∷ []) []) ∷ []) ∷ branch 23 5 (stmt 24 7 (Store 0 (Slot 1) 0 (Slot 1)) ∷ []) ∷ [])) ∷ stmt 27 3 (if_else (bin And (bin Le (num 0) (Slot 1)) (bin Lt (Slot 1) (num 4))) (stmt 28 5 (Load 11 0 (Slot 1) 0) ∷ stmt 28 5 (Store 4 (Slot 1) 0 (Slot 11)) ∷ stmt 29 5 (Set 13 (bin Add (num 4) (Slot 1))) ∷ stmt 29 5 (Calloc 12 (Slot 13) (int 0)) ∷ []) []) ∷ stmt 31 3 (if_else (bin And (bin Le (num 0) (Slot 1)) (bin Lt (Slot 1) (num 2))) (stmt 32 5 (Store 0 (Slot 1) 0 (bin Mul (num 3) (num 0))) ∷ stmt 33 5 (Set 14 Null) ∷ []) []) ∷ stmt 35 3 (Foreach 15 (num 0) (num 2) (pos 1) (branch 35 21 (stmt 36 5 (Set 16 (num 1)) ∷ stmt 36 5 (if_else (bin Ge (bin Mul (num 2) (Slot 15)) (bin Add (num 4) (Slot 1))) [] (stmt 36 5 (Load 17 4 (Slot 15) 0) ∷ stmt 36 5 (Set 16 (bin Ne (bin Gt (Slot 17) (num 0)) (num 0))) ∷ [])) ∷ stmt 36 5 (if_else (Slot 16) [] []) ∷ []))) ∷ stmt 39 3 (Return (Some (num 0))) ∷ [])

abbrev joins : PProgram
joins = program (struct_at 1 1 "S" (param (int 0) "n" ∷ param (int 1) "data" ∷ param (int 0) "m" ∷ param (struct "S" 1) "next" ∷ []) ∷ []) (joins_main ∷ []) 0 []

abbrev joins_classes : ClassOf
joins_classes = classes ((0, 0, 1) ∷ (0, 3, 2) ∷ (0, 4, 1) ∷ (0, 9, 1) ∷ (0, 12, 3) ∷ (0, 14, 4) ∷ [])

abbrev pub joins_templates : List Template
joins_templates = (records 1 (number ".word" ∷ []) ∷ records 2 (pointer ".word" ∷ []) ∷ records 3 (number ".word" ∷ []) ∷ records 4 (number ".n" ∷ pointer ".data" ∷ number ".m" ∷ pointer ".next" ∷ []) ∷ reads 0 2 1 1 0 (pointer "in" ∷ number "n" ∷ []) ∷ writes 0 2 1 1 0 (pointer "in" ∷ number "n" ∷ []) ∷ reads 0 2 1 2 0 (pointer "in" ∷ number "n" ∷ []) ∷ writes 0 2 1 2 0 (pointer "in" ∷ number "n" ∷ []) ∷ reads 1 17 5 1 0 (pointer "in" ∷ number "n" ∷ number "z" ∷ pointer "w2" ∷ pointer "q3" ∷ []) ∷ joined (pointer "in" ∷ number "n" ∷ number "z" ∷ pointer "w2" ∷ pointer "q3" ∷ []) ∷ writes 2 23 5 1 0 (pointer "in" ∷ number "n" ∷ number "z" ∷ pointer "w2" ∷ pointer "q3" ∷ []) ∷ reads 3 35 21 1 0 (pointer "in" ∷ number "n" ∷ number "z" ∷ pointer "w2" ∷ pointer "q3" ∷ number "k" ∷ []) ∷ joined (pointer "in" ∷ number "n" ∷ number "z" ∷ pointer "w2" ∷ pointer "q3" ∷ number "k" ∷ []) ∷ [])

-- all templates, in their order
joins-all : AreTemplates joins joins_classes joins_templates
joins-all = templates_by joins joins_classes joins_templates refl
