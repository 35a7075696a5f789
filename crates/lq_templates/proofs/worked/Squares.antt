-- The templates of the program of plain.Squares: a loop and a `foreach`.
use Rattle.std.proofs.Common.{refl}
use Rattle.std.specs.Prelude.{List, [], ◌∷◌}
use Rattle.lq_meaning.proofs.worked.plain.Squares.{squares}
use Rattle.lq_templates.specs.declared.template.Template.{Template}
use Rattle.lq_templates.specs.Classes.{ClassOf}
use Rattle.lq_templates.specs.Templates.{AreTemplates}
use Rattle.lq_templates.proofs.AccessSets.{templates_by}
use Rattle.lq_templates.proofs.worked.Words.{changed_number, classes, looped, number, pointer, reads, records, writes}

abbrev squares_classes : ClassOf
squares_classes = classes ((0, 0, 1) ∷ (0, 2, 2) ∷ [])

abbrev pub squares_templates : List Template
squares_templates = (records 1 (number ".word" ∷ []) ∷ records 2 (number ".word" ∷ []) ∷ reads 0 1 1 2 0 (pointer "in" ∷ number "n" ∷ []) ∷ writes 0 1 1 2 0 (pointer "in" ∷ number "n" ∷ []) ∷ writes 1 3 21 2 0 (pointer "in" ∷ number "n" ∷ pointer "a" ∷ number "i" ∷ []) ∷ looped (pointer "in" ∷ number "n" ∷ pointer "a" ∷ changed_number "k" ∷ []) ∷ [])

-- all templates, in their order
squares-all : AreTemplates squares squares_classes squares_templates
squares-all = templates_by squares squares_classes squares_templates refl
