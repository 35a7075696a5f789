-- The templates of the program of plain.Endless: a loop that changes nothing has none.
use Rattle.std.proofs.Common.{refl}
use Rattle.std.specs.Prelude.{List, [], ◌∷◌}
use Rattle.lq_meaning.proofs.worked.plain.Endless.{endless}
use Rattle.lq_templates.specs.declared.template.Template.{Template}
use Rattle.lq_templates.specs.Classes.{ClassOf}
use Rattle.lq_templates.specs.Templates.{AreTemplates}
use Rattle.lq_templates.proofs.AccessSets.{templates_by}
use Rattle.lq_templates.proofs.worked.Words.{classes, number, pointer, records, writes}

abbrev endless_classes : ClassOf
endless_classes = classes ((0, 0, 1) ∷ (0, 2, 2) ∷ [])

abbrev endless_templates : List Template
endless_templates = (records 1 (number ".word" ∷ []) ∷ records 2 (number ".word" ∷ []) ∷ writes 0 1 1 2 0 (pointer "in" ∷ number "n" ∷ []) ∷ writes 1 4 5 2 0 (pointer "in" ∷ number "n" ∷ pointer "a" ∷ []) ∷ writes 2 5 5 2 0 (pointer "in" ∷ number "n" ∷ pointer "a" ∷ []) ∷ [])

-- all templates, in their order
endless-all : AreTemplates endless endless_classes endless_templates
endless-all = templates_by endless endless_classes endless_templates refl
