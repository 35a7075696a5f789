-- A `foreach` that does nothing: a record template alone.
use Rattle.std.proofs.Common.{refl}
use Rattle.std.specs.Prelude.{pos, List, [], ◌∷◌, Some}
use Rattle.lq_tree.specs.declared.plain.PKind.{Foreach, Return}
use Rattle.lq_tree.specs.declared.plain.PFunc.{PFunc}
use Rattle.lq_tree.specs.declared.plain.PProgram.{PProgram}
use Rattle.lq_meaning.proofs.worked.SourceWords.{int, param, struct, struct_at}
use Rattle.lq_meaning.proofs.worked.PlainWords.{branch, func, named, num, program, stmt}
use Rattle.lq_templates.specs.declared.template.Template.{Template}
use Rattle.lq_templates.specs.Classes.{ClassOf}
use Rattle.lq_templates.specs.Templates.{AreTemplates}
use Rattle.lq_templates.proofs.AccessSets.{templates_by}
use Rattle.lq_templates.proofs.worked.Words.{classes, number, records}

abbrev single_main : PFunc
single_main = func 2 1 (Some (int 0)) "main" 2 (named "in" (int 1) ∷ named "n" (int 0) ∷ named "i1" (int 0) ∷ []) (stmt 3 3 (Foreach 2 (num 0) (num 2) (pos 1) (branch 3 22 [])) ∷ stmt 5 3 (Return (Some (num 0))) ∷ [])

abbrev single : PProgram
single = program (struct_at 1 1 "S" (param (int 0) "n" ∷ param (int 1) "data" ∷ param (int 0) "m" ∷ param (struct "S" 1) "next" ∷ []) ∷ []) (single_main ∷ []) 0 []

abbrev single_classes : ClassOf
single_classes = classes ((0, 0, 1) ∷ [])

abbrev pub single_templates : List Template
single_templates = (records 1 (number ".word" ∷ []) ∷ [])

-- all templates, in their order
single-all : AreTemplates single single_classes single_templates
single-all = templates_by single single_classes single_templates refl
