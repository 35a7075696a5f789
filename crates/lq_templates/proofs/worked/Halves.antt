-- The templates of the program of plain.Halves: a function that is called in two branches.
use Rattle.std.proofs.Common.{refl}
use Rattle.std.specs.Prelude.{List, [], ◌∷◌}
use Rattle.lq_meaning.proofs.worked.plain.Halves.{halves}
use Rattle.lq_templates.specs.declared.template.Template.{Template}
use Rattle.lq_templates.specs.Classes.{ClassOf}
use Rattle.lq_templates.specs.Templates.{AreTemplates}
use Rattle.lq_templates.proofs.AccessSets.{templates_by}
use Rattle.lq_templates.proofs.worked.Words.{before, changed_number, classes, looped, number, pointer, reads, records, writes}

abbrev halves_classes : ClassOf
halves_classes = classes ((0, 0, 1) ∷ (1, 0, 1) ∷ [])

abbrev pub halves_templates : List Template
halves_templates = (records 1 (number ".word" ∷ []) ∷ before 0 (pointer "a" ∷ number "lo" ∷ number "hi" ∷ number "v" ∷ []) ∷ writes 0 1 1 1 0 (pointer "a" ∷ number "lo" ∷ number "hi" ∷ number "v" ∷ []) ∷ looped (pointer "a" ∷ number "lo" ∷ number "hi" ∷ number "v" ∷ changed_number "i" ∷ []) ∷ reads 1 5 1 1 0 (pointer "in" ∷ number "n" ∷ []) ∷ writes 1 5 1 1 0 (pointer "in" ∷ number "n" ∷ []) ∷ writes 2 9 5 1 0 (pointer "in" ∷ number "n" ∷ number "mid" ∷ []) ∷ writes 3 10 5 1 0 (pointer "in" ∷ number "n" ∷ number "mid" ∷ []) ∷ [])

-- all templates, in their order
halves-all : AreTemplates halves halves_classes halves_templates
halves-all = templates_by halves halves_classes halves_templates refl
