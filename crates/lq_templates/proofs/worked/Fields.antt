-- Two branches that write two fields of one record.
use Rattle.std.proofs.Common.{refl}
use Rattle.std.specs.Prelude.{List, [], ◌∷◌, Some}
use Rattle.lq_tree.specs.declared.plain.PKind.{Calloc, Return, Store}
use Rattle.lq_tree.specs.declared.plain.PFunc.{PFunc}
use Rattle.lq_tree.specs.declared.plain.PProgram.{PProgram}
use Rattle.lq_meaning.proofs.worked.SourceWords.{int, param, struct, struct_at}
use Rattle.lq_meaning.proofs.worked.PlainWords.{branch, cobegin, func, named, num, program, stmt}
use Rattle.lq_templates.specs.declared.template.Template.{Template}
use Rattle.lq_templates.specs.Classes.{ClassOf}
use Rattle.lq_templates.specs.Templates.{AreTemplates}
use Rattle.lq_templates.proofs.AccessSets.{templates_by}
use Rattle.lq_templates.proofs.worked.Words.{classes, number, pointer, records, writes}

abbrev fields_main : PFunc
fields_main = func 2 1 (Some (int 0)) "main" 0 (named "v" (struct "P" 1) ∷ []) (stmt 3 3 (Calloc 0 (num 1) (struct "P" 0)) ∷ stmt 4 3 (cobegin (branch 5 5 (stmt 5 7 (Store 0 (num 0) 0 (num 1)) ∷ []) ∷ branch 6 5 (stmt 6 7 (Store 0 (num 0) 1 (num 2)) ∷ []) ∷ [])) ∷ stmt 8 3 (Return (Some (num 0))) ∷ [])

abbrev fields : PProgram
fields = program (struct_at 1 1 "P" (param (int 0) "n" ∷ param (int 0) "m" ∷ []) ∷ []) (fields_main ∷ []) 0 []

abbrev fields_classes : ClassOf
fields_classes = classes ((0, 0, 1) ∷ [])

abbrev fields_templates : List Template
fields_templates = (records 1 (number ".n" ∷ number ".m" ∷ []) ∷ writes 0 2 1 1 0 [] ∷ writes 0 2 1 1 1 [] ∷ writes 1 5 5 1 0 (pointer "v" ∷ []) ∷ writes 2 6 5 1 1 (pointer "v" ∷ []) ∷ [])

-- all templates, in their order
fields-all : AreTemplates fields fields_classes fields_templates
fields-all = templates_by fields fields_classes fields_templates refl
