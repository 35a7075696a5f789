-- The instances of the templates of the program of worked.Strided of lq_templates.
use Rattle.std.proofs.Common.{◌≡◌, refl}
use Rattle.std.specs.Prelude.{pos, negsuc, [], ◌∷◌, map}
use Rattle.lq_text.specs.declared.atom.Atom.TheVariants.{Element, Value}
use Rattle.lq_quals.specs.declared.qualifier.Qualifier.TheVariants.{AtMost}
use Rattle.lq_quals.specs.declared.quals.Quals.{Quals}
use Rattle.lq_instances.specs.Instances.{instances}
use Rattle.lq_instances.proofs.worked.Words.{local, qualifiers, row}
use Rattle.lq_templates.proofs.worked.Strided.{strided_templates}

-- the atoms of the qualifiers, and what the lines say
abbrev strided_qualifiers : Quals
strided_qualifiers = qualifiers (Value (local "j") ∷ Value (local "i") ∷ Element ∷ []) (AtMost (row ((0, negsuc 0) ∷ []) (pos 0)) ∷ AtMost (row ((1, pos 1) ∷ (2, negsuc 0) ∷ []) (pos 0)) ∷ AtMost (row ((1, negsuc 0) ∷ (2, pos 1) ∷ []) (pos 3)) ∷ [])

-- the instances of each
strided-instances : map (λ t. instances t strided_qualifiers) strided_templates ≡ ([] ∷ [] ∷ [] ∷ [] ∷ (row ((0, negsuc 0) ∷ (6, pos 1) ∷ []) (pos 0) ∷ row ((0, pos 1) ∷ (6, negsuc 0) ∷ []) (pos 3) ∷ []) ∷ (row ((6, negsuc 0) ∷ []) (pos 0) ∷ []) ∷ [])
strided-instances = refl
