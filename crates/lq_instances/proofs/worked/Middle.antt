-- The instances of the templates of the program of worked.Middle of lq_templates.
use Rattle.std.proofs.Common.{◌≡◌, refl}
use Rattle.std.specs.Prelude.{pos, negsuc, [], ◌∷◌, map}
use Rattle.lq_text.specs.declared.atom.Atom.TheVariants.{Element}
use Rattle.lq_quals.specs.declared.qualifier.Qualifier.TheVariants.{Equal}
use Rattle.lq_quals.specs.declared.quals.Quals.{Quals}
use Rattle.lq_instances.specs.Instances.{instances}
use Rattle.lq_instances.proofs.worked.Words.{qualifiers, row}
use Rattle.lq_templates.proofs.worked.Middle.{middle_templates}

-- the atoms of the qualifiers, and what the lines say
abbrev middle_qualifiers : Quals
middle_qualifiers = qualifiers (Element ∷ []) (Equal (row ((0, pos 1) ∷ []) (pos 0)) (row ((0, negsuc 0) ∷ []) (pos 0)) ∷ Equal (row ((0, pos 1) ∷ []) (pos 1)) (row ((0, negsuc 0) ∷ []) (negsuc 0)) ∷ Equal (row ((0, pos 1) ∷ []) (pos 2)) (row ((0, negsuc 0) ∷ []) (negsuc 1)) ∷ [])

-- the instances of each
middle-instances : map (λ t. instances t middle_qualifiers) middle_templates ≡ ([] ∷ [] ∷ (row ((0, pos 1) ∷ []) (pos 0) ∷ row ((0, negsuc 0) ∷ []) (pos 0) ∷ row ((0, pos 1) ∷ []) (pos 1) ∷ row ((0, negsuc 0) ∷ []) (negsuc 0) ∷ row ((0, pos 1) ∷ []) (pos 2) ∷ row ((0, negsuc 0) ∷ []) (negsuc 1) ∷ []) ∷ (row ((0, pos 1) ∷ []) (pos 0) ∷ row ((0, negsuc 0) ∷ []) (pos 0) ∷ row ((0, pos 1) ∷ []) (pos 1) ∷ row ((0, negsuc 0) ∷ []) (negsuc 0) ∷ row ((0, pos 1) ∷ []) (pos 2) ∷ row ((0, negsuc 0) ∷ []) (negsuc 1) ∷ []) ∷ (row ((0, pos 1) ∷ []) (pos 0) ∷ row ((0, negsuc 0) ∷ []) (pos 0) ∷ row ((0, pos 1) ∷ []) (pos 1) ∷ row ((0, negsuc 0) ∷ []) (negsuc 0) ∷ row ((0, pos 1) ∷ []) (pos 2) ∷ row ((0, negsuc 0) ∷ []) (negsuc 1) ∷ []) ∷ (row ((0, pos 1) ∷ []) (pos 0) ∷ row ((0, negsuc 0) ∷ []) (pos 0) ∷ row ((0, pos 1) ∷ []) (pos 1) ∷ row ((0, negsuc 0) ∷ []) (negsuc 0) ∷ row ((0, pos 1) ∷ []) (pos 2) ∷ row ((0, negsuc 0) ∷ []) (negsuc 1) ∷ []) ∷ (row ((0, pos 1) ∷ []) (pos 0) ∷ row ((0, negsuc 0) ∷ []) (pos 0) ∷ row ((0, pos 1) ∷ []) (pos 1) ∷ row ((0, negsuc 0) ∷ []) (negsuc 0) ∷ row ((0, pos 1) ∷ []) (pos 2) ∷ row ((0, negsuc 0) ∷ []) (negsuc 1) ∷ []) ∷ [])
middle-instances = refl
