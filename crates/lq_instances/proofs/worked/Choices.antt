-- Placeholders beside `@`, each local in its order, at the templates of worked.Choices of lq_templates.
use Rattle.std.proofs.Common.{◌≡◌, refl}
use Rattle.std.specs.Prelude.{pos, negsuc, [], ◌∷◌, map}
use Rattle.lq_text.specs.declared.atom.Atom.TheVariants.{Element, Value}
use Rattle.lq_quals.specs.declared.qualifier.Qualifier.TheVariants.{AtMost, Equal}
use Rattle.lq_quals.specs.declared.quals.Quals.{Quals}
use Rattle.lq_instances.specs.Instances.{instances}
use Rattle.lq_instances.proofs.worked.Words.{any, field, local, qualifiers, row}
use Rattle.lq_templates.proofs.worked.Choices.{choices_templates}

-- the atoms of the qualifiers, and what the lines say
abbrev choices_qualifiers : Quals
choices_qualifiers = qualifiers (Value (any "x") ∷ Value (field "word") ∷ Element ∷ Value (field "m") ∷ Value (local "i2") ∷ Value (local "n") ∷ []) (AtMost (row ((0, pos 1) ∷ []) (pos 4)) ∷ AtMost (row ((1, pos 1) ∷ []) (pos 3)) ∷ AtMost (row ((0, negsuc 0) ∷ (2, pos 1) ∷ []) (pos 2)) ∷ AtMost (row ((0, negsuc 3) ∷ (2, pos 1) ∷ []) (pos 3)) ∷ Equal (row ((2, pos 1) ∷ []) (pos 0)) (row ((2, negsuc 0) ∷ []) (pos 0)) ∷ Equal (row ((3, pos 1) ∷ []) (pos 0)) (row ((3, negsuc 0) ∷ []) (pos 0)) ∷ AtMost (row ((2, pos 1) ∷ []) (pos 3)) ∷ AtMost (row ((4, pos 1) ∷ (5, negsuc 0) ∷ []) (pos 0)) ∷ AtMost (row ((5, negsuc 0) ∷ []) (pos 0)) ∷ [])

-- the instances of each
choices-instances : map (λ t. instances t choices_qualifiers) choices_templates ≡ ((row ((0, pos 1) ∷ []) (pos 3) ∷ []) ∷ (row ((0, pos 1) ∷ []) (pos 3) ∷ []) ∷ (row ((0, pos 1) ∷ (3, negsuc 0) ∷ []) (pos 2) ∷ row ((0, pos 1) ∷ (3, negsuc 3) ∷ []) (pos 3) ∷ row ((0, pos 1) ∷ []) (pos 0) ∷ row ((0, negsuc 0) ∷ []) (pos 0) ∷ row ((0, pos 1) ∷ []) (pos 3) ∷ []) ∷ (row ((0, pos 1) ∷ (3, negsuc 0) ∷ []) (pos 2) ∷ row ((0, pos 1) ∷ (3, negsuc 3) ∷ []) (pos 3) ∷ row ((0, pos 1) ∷ []) (pos 0) ∷ row ((0, negsuc 0) ∷ []) (pos 0) ∷ row ((0, pos 1) ∷ []) (pos 3) ∷ []) ∷ (row ((0, pos 1) ∷ (3, negsuc 0) ∷ []) (pos 2) ∷ row ((0, pos 1) ∷ (6, negsuc 0) ∷ []) (pos 2) ∷ row ((0, pos 1) ∷ (3, negsuc 3) ∷ []) (pos 3) ∷ row ((0, pos 1) ∷ (6, negsuc 3) ∷ []) (pos 3) ∷ row ((0, pos 1) ∷ []) (pos 0) ∷ row ((0, negsuc 0) ∷ []) (pos 0) ∷ row ((0, pos 1) ∷ []) (pos 3) ∷ []) ∷ [])
choices-instances = refl
