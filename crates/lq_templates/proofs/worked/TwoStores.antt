-- The templates of the program of plain.TwoStores: two blocks of a `cobegin`.
use Rattle.std.proofs.Common.{refl}
use Rattle.std.specs.Prelude.{List, [], ◌∷◌}
use Rattle.lq_meaning.proofs.worked.plain.TwoStores.{two_stores}
use Rattle.lq_templates.specs.declared.template.Template.{Template}
use Rattle.lq_templates.specs.Classes.{ClassOf}
use Rattle.lq_templates.specs.Templates.{AreTemplates}
use Rattle.lq_templates.proofs.AccessSets.{templates_by}
use Rattle.lq_templates.proofs.worked.Words.{classes, number, pointer, reads, records, writes}

abbrev two_stores_classes : ClassOf
two_stores_classes = classes ((0, 0, 1) ∷ [])

abbrev two_stores_templates : List Template
two_stores_templates = (records 1 (number ".word" ∷ []) ∷ reads 0 1 1 1 0 [] ∷ writes 0 1 1 1 0 [] ∷ writes 1 4 5 1 0 (pointer "a" ∷ []) ∷ writes 2 5 5 1 0 (pointer "a" ∷ []) ∷ [])

-- all templates, in their order
two_stores-all : AreTemplates two_stores two_stores_classes two_stores_templates
two_stores-all = templates_by two_stores two_stores_classes two_stores_templates refl
