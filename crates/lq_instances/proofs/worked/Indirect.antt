-- The instances of the templates of the program of worked.Indirect of lq_templates.
use Rattle.std.proofs.Common.{◌≡◌, refl}
use Rattle.std.specs.Prelude.{pos, negsuc, [], ◌∷◌, map}
use Rattle.lq_text.specs.declared.atom.Atom.TheVariants.{Value}
use Rattle.lq_quals.specs.declared.qualifier.Qualifier.TheVariants.{AtMost}
use Rattle.lq_quals.specs.declared.quals.Quals.{Quals}
use Rattle.lq_instances.specs.Instances.{instances}
use Rattle.lq_instances.proofs.worked.Words.{field, local, qualifiers, row}
use Rattle.lq_templates.proofs.worked.Indirect.{indirect_templates}

-- the atoms of the qualifiers, and what the lines say
abbrev indirect_qualifiers : Quals
indirect_qualifiers = qualifiers (Value (local "i") ∷ Value (field "word") ∷ []) (AtMost (row ((0, negsuc 0) ∷ []) (pos 0)) ∷ AtMost (row ((1, negsuc 0) ∷ []) (pos 0)) ∷ AtMost (row ((1, pos 1) ∷ []) (pos 3)) ∷ [])

-- the instances of each
indirect-instances : map (λ t. instances t indirect_qualifiers) indirect_templates ≡ ((row ((0, negsuc 0) ∷ []) (pos 0) ∷ row ((0, pos 1) ∷ []) (pos 3) ∷ []) ∷ (row ((0, negsuc 0) ∷ []) (pos 0) ∷ row ((0, pos 1) ∷ []) (pos 3) ∷ []) ∷ (row ((0, negsuc 0) ∷ []) (pos 0) ∷ row ((0, pos 1) ∷ []) (pos 3) ∷ []) ∷ [] ∷ [] ∷ [] ∷ [] ∷ (row ((7, negsuc 0) ∷ []) (pos 0) ∷ []) ∷ [])
indirect-instances = refl
