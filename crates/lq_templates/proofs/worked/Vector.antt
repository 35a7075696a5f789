-- The templates of the program of plain.Vector: records with a length and a pointer.
use Rattle.std.proofs.Common.{refl}
use Rattle.std.specs.Prelude.{List, [], ◌∷◌}
use Rattle.lq_meaning.proofs.worked.plain.Vector.{vector}
use Rattle.lq_templates.specs.declared.template.Template.{Template}
use Rattle.lq_templates.specs.Classes.{ClassOf}
use Rattle.lq_templates.specs.Templates.{AreTemplates}
use Rattle.lq_templates.proofs.AccessSets.{templates_by}
use Rattle.lq_templates.proofs.worked.Words.{changed_number, classes, looped, number, pointer, reads, records, writes}

abbrev vector_classes : ClassOf
vector_classes = classes ((0, 0, 1) ∷ (0, 2, 2) ∷ (0, 3, 3) ∷ (0, 6, 3) ∷ (0, 8, 3) ∷ [])

abbrev pub vector_templates : List Template
vector_templates = (records 1 (number ".word" ∷ []) ∷ records 2 (number ".n" ∷ pointer ".data" ∷ []) ∷ records 3 (number ".word" ∷ []) ∷ reads 0 2 1 2 0 (pointer "in" ∷ number "n" ∷ []) ∷ writes 0 2 1 2 0 (pointer "in" ∷ number "n" ∷ []) ∷ reads 0 2 1 2 1 (pointer "in" ∷ number "n" ∷ []) ∷ writes 0 2 1 2 1 (pointer "in" ∷ number "n" ∷ []) ∷ reads 0 2 1 3 0 (pointer "in" ∷ number "n" ∷ []) ∷ writes 0 2 1 3 0 (pointer "in" ∷ number "n" ∷ []) ∷ looped (pointer "in" ∷ number "n" ∷ pointer "v" ∷ changed_number "i" ∷ []) ∷ [])

-- all templates, in their order
vector-all : AreTemplates vector vector_classes vector_templates
vector-all = templates_by vector vector_classes vector_templates refl
