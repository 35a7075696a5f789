-- The templates of the program of plain.Sort: joins, loops, and accesses by calls of a function by itself.
use Rattle.std.proofs.Common.{refl}
use Rattle.std.specs.Prelude.{List, [], ◌∷◌}
use Rattle.lq_meaning.proofs.worked.plain.Sort.{sort}
use Rattle.lq_templates.specs.declared.template.Template.{Template}
use Rattle.lq_templates.specs.Classes.{ClassOf}
use Rattle.lq_templates.specs.Templates.{AreTemplates}
use Rattle.lq_templates.proofs.AccessSets.{templates_by}
use Rattle.lq_templates.proofs.worked.Words.{before, changed_number, classes, joined, looped, number, pointer, reads, records, writes}

abbrev sort_classes : ClassOf
sort_classes = classes ((0, 0, 1) ∷ (0, 1, 2) ∷ (1, 0, 1) ∷ (1, 1, 2) ∷ (2, 0, 1) ∷ (2, 2, 2) ∷ [])

abbrev pub sort_templates : List Template
sort_templates = (records 1 (number ".word" ∷ []) ∷ records 2 (number ".word" ∷ []) ∷ before 0 (pointer "a" ∷ pointer "t" ∷ number "lo" ∷ number "mid" ∷ number "hi" ∷ []) ∷ reads 0 1 1 1 0 (pointer "a" ∷ pointer "t" ∷ number "lo" ∷ number "mid" ∷ number "hi" ∷ []) ∷ writes 0 1 1 1 0 (pointer "a" ∷ pointer "t" ∷ number "lo" ∷ number "mid" ∷ number "hi" ∷ []) ∷ reads 0 1 1 2 0 (pointer "a" ∷ pointer "t" ∷ number "lo" ∷ number "mid" ∷ number "hi" ∷ []) ∷ writes 0 1 1 2 0 (pointer "a" ∷ pointer "t" ∷ number "lo" ∷ number "mid" ∷ number "hi" ∷ []) ∷ looped (pointer "a" ∷ pointer "t" ∷ number "lo" ∷ number "mid" ∷ number "hi" ∷ changed_number "i" ∷ changed_number "j" ∷ changed_number "k" ∷ []) ∷ joined (pointer "a" ∷ pointer "t" ∷ number "lo" ∷ number "mid" ∷ number "hi" ∷ changed_number "i" ∷ changed_number "j" ∷ number "k" ∷ []) ∷ joined (pointer "a" ∷ pointer "t" ∷ number "lo" ∷ number "mid" ∷ number "hi" ∷ changed_number "i" ∷ changed_number "j" ∷ number "k" ∷ number "x" ∷ number "y" ∷ []) ∷ joined (pointer "a" ∷ pointer "t" ∷ number "lo" ∷ number "mid" ∷ number "hi" ∷ changed_number "i" ∷ changed_number "j" ∷ number "k" ∷ []) ∷ joined (pointer "a" ∷ pointer "t" ∷ number "lo" ∷ number "mid" ∷ number "hi" ∷ number "i" ∷ changed_number "j" ∷ number "k" ∷ []) ∷ looped (pointer "a" ∷ pointer "t" ∷ number "lo" ∷ number "mid" ∷ number "hi" ∷ number "i" ∷ number "j" ∷ changed_number "k" ∷ []) ∷ before 1 (pointer "a" ∷ pointer "t" ∷ number "lo" ∷ number "hi" ∷ []) ∷ reads 1 21 1 1 0 (pointer "a" ∷ pointer "t" ∷ number "lo" ∷ number "hi" ∷ []) ∷ writes 1 21 1 1 0 (pointer "a" ∷ pointer "t" ∷ number "lo" ∷ number "hi" ∷ []) ∷ reads 1 21 1 2 0 (pointer "a" ∷ pointer "t" ∷ number "lo" ∷ number "hi" ∷ []) ∷ writes 1 21 1 2 0 (pointer "a" ∷ pointer "t" ∷ number "lo" ∷ number "hi" ∷ []) ∷ reads 2 25 5 1 0 (pointer "a" ∷ pointer "t" ∷ number "lo" ∷ number "hi" ∷ number "mid" ∷ []) ∷ writes 2 25 5 1 0 (pointer "a" ∷ pointer "t" ∷ number "lo" ∷ number "hi" ∷ number "mid" ∷ []) ∷ reads 2 25 5 2 0 (pointer "a" ∷ pointer "t" ∷ number "lo" ∷ number "hi" ∷ number "mid" ∷ []) ∷ writes 2 25 5 2 0 (pointer "a" ∷ pointer "t" ∷ number "lo" ∷ number "hi" ∷ number "mid" ∷ []) ∷ reads 3 26 5 1 0 (pointer "a" ∷ pointer "t" ∷ number "lo" ∷ number "hi" ∷ number "mid" ∷ []) ∷ writes 3 26 5 1 0 (pointer "a" ∷ pointer "t" ∷ number "lo" ∷ number "hi" ∷ number "mid" ∷ []) ∷ reads 3 26 5 2 0 (pointer "a" ∷ pointer "t" ∷ number "lo" ∷ number "hi" ∷ number "mid" ∷ []) ∷ writes 3 26 5 2 0 (pointer "a" ∷ pointer "t" ∷ number "lo" ∷ number "hi" ∷ number "mid" ∷ []) ∷ reads 4 30 1 1 0 (pointer "in" ∷ number "n" ∷ []) ∷ writes 4 30 1 1 0 (pointer "in" ∷ number "n" ∷ []) ∷ reads 4 30 1 2 0 (pointer "in" ∷ number "n" ∷ []) ∷ writes 4 30 1 2 0 (pointer "in" ∷ number "n" ∷ []) ∷ looped (pointer "in" ∷ number "n" ∷ pointer "t" ∷ changed_number "bad" ∷ changed_number "sum" ∷ changed_number "p" ∷ []) ∷ joined (pointer "in" ∷ number "n" ∷ pointer "t" ∷ changed_number "bad" ∷ number "sum" ∷ number "p" ∷ number "u" ∷ number "v" ∷ []) ∷ [])

-- all templates, in their order
sort-all : AreTemplates sort sort_classes sort_templates
sort-all = templates_by sort sort_classes sort_templates refl
