-- Nested loops, and branches that do nothing: a local of an earlier `for` is still in scope at the next statement.
use Rattle.std.proofs.Common.{refl}
use Rattle.std.specs.Prelude.{pos, List, [], ◌∷◌, Some}
use Rattle.lq_tree.specs.declared.expr.BinOp.TheVariants.{Add, Lt}
use Rattle.lq_tree.specs.declared.plain.PExpr.{Slot}
use Rattle.lq_tree.specs.declared.plain.PKind.{Foreach, Return, Set}
use Rattle.lq_tree.specs.declared.plain.PFunc.{PFunc}
use Rattle.lq_tree.specs.declared.plain.PProgram.{PProgram}
use Rattle.lq_meaning.proofs.worked.SourceWords.{int, param, struct, struct_at}
use Rattle.lq_meaning.proofs.worked.PlainWords.{bin, branch, cobegin, func, named, num, program, stmt, while}
use Rattle.lq_templates.specs.declared.template.Template.{Template}
use Rattle.lq_templates.specs.Classes.{ClassOf}
use Rattle.lq_templates.specs.Templates.{AreTemplates}
use Rattle.lq_templates.proofs.AccessSets.{templates_by}
use Rattle.lq_templates.proofs.worked.Words.{changed_number, classes, looped, number, pointer, records}

abbrev lingering_main : PFunc
lingering_main = func 2 1 (Some (int 0)) "main" 2 (named "in" (int 1) ∷ named "n" (int 0) ∷ named "i1" (int 0) ∷ named "i2" (int 0) ∷ named "i3" (int 0) ∷ []) (stmt 3 8 (Set 2 (num 0)) ∷ stmt 3 3 (while [] (bin Lt (Slot 2) (num 4)) (stmt 4 10 (Set 3 (num 0)) ∷ stmt 4 5 (while [] (bin Lt (Slot 3) (num 4)) (stmt 4 30 (Set 3 (bin Add (Slot 3) (num 1))) ∷ [])) ∷ stmt 3 28 (Set 2 (bin Add (Slot 2) (num 1))) ∷ [])) ∷ stmt 7 3 (Foreach 4 (num 0) (num 2) (pos 3) (branch 7 25 (stmt 8 5 (cobegin (branch 9 7 [] ∷ branch 11 7 [] ∷ [])) ∷ []))) ∷ stmt 15 3 (cobegin (branch 16 5 [] ∷ branch 18 5 [] ∷ [])) ∷ stmt 21 3 (Return (Some (num 0))) ∷ [])

abbrev lingering : PProgram
lingering = program (struct_at 1 1 "S" (param (int 0) "n" ∷ param (int 1) "data" ∷ param (int 0) "m" ∷ param (struct "S" 1) "next" ∷ []) ∷ []) (lingering_main ∷ []) 0 []

abbrev lingering_classes : ClassOf
lingering_classes = classes ((0, 0, 1) ∷ [])

abbrev pub lingering_templates : List Template
lingering_templates = (records 1 (number ".word" ∷ []) ∷ looped (pointer "in" ∷ number "n" ∷ changed_number "i1" ∷ []) ∷ looped (pointer "in" ∷ number "n" ∷ number "i1" ∷ changed_number "i2" ∷ []) ∷ [])

-- all templates, in their order
lingering-all : AreTemplates lingering lingering_classes lingering_templates
lingering-all = templates_by lingering lingering_classes lingering_templates refl
