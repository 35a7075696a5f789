-- The instances of the templates of the program of worked.Vector of lq_templates.
use Rattle.std.proofs.Common.{◌≡◌, refl}
use Rattle.std.specs.Prelude.{pos, negsuc, [], ◌∷◌, map}
use Rattle.lq_text.specs.declared.atom.Atom.TheVariants.{Length, Offset, Value}
use Rattle.lq_quals.specs.declared.qualifier.Qualifier.TheVariants.{AtMost}
use Rattle.lq_quals.specs.declared.quals.Quals.{Quals}
use Rattle.lq_instances.specs.Instances.{instances}
use Rattle.lq_instances.proofs.worked.Words.{field, local, qualifiers, row}
use Rattle.lq_templates.proofs.worked.Vector.{vector_templates}

-- the atoms of the qualifiers, and what the lines say
abbrev vector_qualifiers : Quals
vector_qualifiers = qualifiers (Value (local "i") ∷ Offset (field "data") ∷ Value (field "n") ∷ Length (field "data") ∷ []) (AtMost (row ((0, negsuc 0) ∷ []) (pos 0)) ∷ AtMost (row ((1, pos 1) ∷ (2, pos 1) ∷ (3, negsuc 0) ∷ []) (pos 0)) ∷ [])

-- the instances of each
vector-instances : map (λ t. instances t vector_qualifiers) vector_templates ≡ ([] ∷ (row ((0, pos 1) ∷ (1, pos 1) ∷ (2, negsuc 0) ∷ []) (pos 0) ∷ []) ∷ [] ∷ [] ∷ [] ∷ [] ∷ [] ∷ [] ∷ [] ∷ (row ((5, negsuc 0) ∷ []) (pos 0) ∷ []) ∷ [])
vector-instances = refl
