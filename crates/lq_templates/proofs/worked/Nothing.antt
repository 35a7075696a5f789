-- A program without pointers has no record template.
use Rattle.std.proofs.Common.{refl}
use Rattle.std.specs.Prelude.{List, [], ◌∷◌, Some}
use Rattle.lq_tree.specs.declared.expr.BinOp.TheVariants.{Mul}
use Rattle.lq_tree.specs.declared.plain.PKind.{Return, Set}
use Rattle.lq_tree.specs.declared.plain.PFunc.{PFunc}
use Rattle.lq_tree.specs.declared.plain.PProgram.{PProgram}
use Rattle.lq_meaning.proofs.worked.SourceWords.{int, param, struct, struct_at}
use Rattle.lq_meaning.proofs.worked.PlainWords.{bin, func, named, num, program, stmt}
use Rattle.lq_templates.specs.declared.template.Template.{Template}
use Rattle.lq_templates.specs.Classes.{ClassOf}
use Rattle.lq_templates.specs.Templates.{AreTemplates}
use Rattle.lq_templates.proofs.AccessSets.{templates_by}
use Rattle.lq_templates.proofs.worked.Words.{classes}

abbrev nothing_main : PFunc
nothing_main = func 2 1 (Some (int 0)) "main" 0 (named "x1" (int 0) ∷ []) (stmt 3 3 (Set 0 (bin Mul (num 2) (bin Mul (num 4) (num 2)))) ∷ stmt 4 3 (Return (Some (num 0))) ∷ [])

abbrev nothing : PProgram
nothing = program (struct_at 1 1 "S" (param (int 0) "n" ∷ param (int 1) "data" ∷ param (int 0) "m" ∷ param (struct "S" 1) "next" ∷ []) ∷ []) (nothing_main ∷ []) 0 []

abbrev nothing_classes : ClassOf
nothing_classes = classes []

abbrev pub nothing_templates : List Template
nothing_templates = []

-- all templates, in their order
nothing-all : AreTemplates nothing nothing_classes nothing_templates
nothing-all = templates_by nothing nothing_classes nothing_templates refl
