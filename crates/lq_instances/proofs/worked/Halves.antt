-- The instances of the templates of the program of worked.Halves of lq_templates.
use Rattle.std.proofs.Common.{◌≡◌, refl}
use Rattle.std.specs.Prelude.{pos, negsuc, [], ◌∷◌, map}
use Rattle.lq_text.specs.declared.atom.Atom.TheVariants.{Element, Length, Offset, Value}
use Rattle.lq_quals.specs.declared.qualifier.Qualifier.TheVariants.{AtMost}
use Rattle.lq_quals.specs.declared.quals.Quals.{Quals}
use Rattle.lq_instances.specs.Instances.{instances}
use Rattle.lq_instances.proofs.worked.Words.{local, qualifiers, row}
use Rattle.lq_templates.proofs.worked.Halves.{halves_templates}

-- the atoms of the qualifiers, and what the lines say
abbrev halves_qualifiers : Quals
halves_qualifiers = qualifiers (Value (local "lo") ∷ Value (local "i") ∷ Offset (local "a") ∷ Value (local "hi") ∷ Length (local "a") ∷ Element ∷ Value (local "mid") ∷ []) (AtMost (row ((0, negsuc 0) ∷ []) (pos 0)) ∷ AtMost (row ((0, pos 1) ∷ (1, negsuc 0) ∷ []) (pos 0)) ∷ AtMost (row ((2, pos 1) ∷ (3, pos 1) ∷ (4, negsuc 0) ∷ []) (pos 0)) ∷ AtMost (row ((0, pos 1) ∷ (2, pos 1) ∷ (5, negsuc 0) ∷ []) (pos 0)) ∷ AtMost (row ((2, negsuc 0) ∷ (3, negsuc 0) ∷ (5, pos 1) ∷ []) (negsuc 0)) ∷ AtMost (row ((5, pos 1) ∷ (6, negsuc 0) ∷ []) (negsuc 0)) ∷ AtMost (row ((5, negsuc 0) ∷ (6, pos 1) ∷ []) (pos 0)) ∷ [])

-- the instances of each
halves-instances : map (λ t. instances t halves_qualifiers) halves_templates ≡ ([] ∷ (row ((2, negsuc 0) ∷ []) (pos 0) ∷ row ((0, pos 1) ∷ (1, negsuc 0) ∷ (3, pos 1) ∷ []) (pos 0) ∷ []) ∷ (row ((0, negsuc 0) ∷ (1, pos 1) ∷ (3, pos 1) ∷ []) (pos 0) ∷ row ((0, pos 1) ∷ (1, negsuc 0) ∷ (4, negsuc 0) ∷ []) (negsuc 0) ∷ []) ∷ (row ((2, pos 1) ∷ (5, negsuc 0) ∷ []) (pos 0) ∷ []) ∷ [] ∷ [] ∷ (row ((0, pos 1) ∷ (4, negsuc 0) ∷ []) (negsuc 0) ∷ row ((0, negsuc 0) ∷ (4, pos 1) ∷ []) (pos 0) ∷ []) ∷ (row ((0, pos 1) ∷ (4, negsuc 0) ∷ []) (negsuc 0) ∷ row ((0, negsuc 0) ∷ (4, pos 1) ∷ []) (pos 0) ∷ []) ∷ [])
halves-instances = refl
