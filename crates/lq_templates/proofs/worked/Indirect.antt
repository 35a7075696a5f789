-- The templates of the program of plain.Indirect: indices that are read from an array.
use Rattle.std.proofs.Common.{refl}
use Rattle.std.specs.Prelude.{List, [], ◌∷◌}
use Rattle.lq_meaning.proofs.worked.plain.Indirect.{indirect}
use Rattle.lq_templates.specs.declared.template.Template.{Template}
use Rattle.lq_templates.specs.Classes.{ClassOf}
use Rattle.lq_templates.specs.Templates.{AreTemplates}
use Rattle.lq_templates.proofs.AccessSets.{templates_by}
use Rattle.lq_templates.proofs.worked.Words.{changed_number, classes, looped, number, pointer, reads, records, writes}

abbrev indirect_classes : ClassOf
indirect_classes = classes ((0, 0, 1) ∷ (0, 2, 2) ∷ (0, 3, 3) ∷ [])

abbrev pub indirect_templates : List Template
indirect_templates = (records 1 (number ".word" ∷ []) ∷ records 2 (number ".word" ∷ []) ∷ records 3 (number ".word" ∷ []) ∷ reads 0 1 1 2 0 (pointer "in" ∷ number "n" ∷ []) ∷ writes 0 1 1 2 0 (pointer "in" ∷ number "n" ∷ []) ∷ reads 0 1 1 3 0 (pointer "in" ∷ number "n" ∷ []) ∷ writes 0 1 1 3 0 (pointer "in" ∷ number "n" ∷ []) ∷ looped (pointer "in" ∷ number "n" ∷ pointer "a" ∷ pointer "b" ∷ changed_number "i" ∷ []) ∷ [])

-- all templates, in their order
indirect-all : AreTemplates indirect indirect_classes indirect_templates
indirect-all = templates_by indirect indirect_classes indirect_templates refl
