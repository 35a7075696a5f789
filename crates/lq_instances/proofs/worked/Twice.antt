-- The instances of the templates of the program of worked.Twice of lq_templates.
use Rattle.std.proofs.Common.{◌≡◌, refl}
use Rattle.std.specs.Prelude.{pos, negsuc, [], ◌∷◌, map}
use Rattle.lq_text.specs.declared.atom.Atom.TheVariants.{Length, Offset, Value}
use Rattle.lq_quals.specs.declared.qualifier.Qualifier.TheVariants.{AtMost}
use Rattle.lq_quals.specs.declared.quals.Quals.{Quals}
use Rattle.lq_instances.specs.Instances.{instances}
use Rattle.lq_instances.proofs.worked.Words.{local, qualifiers, row}
use Rattle.lq_templates.proofs.worked.Twice.{twice_templates}

-- the atoms of the qualifiers, and what the lines say
abbrev twice_qualifiers : Quals
twice_qualifiers = qualifiers (Value (local "i") ∷ Offset (local "a") ∷ Value (local "n") ∷ Length (local "a") ∷ []) (AtMost (row ((0, negsuc 0) ∷ []) (pos 0)) ∷ AtMost (row ((1, pos 1) ∷ (2, pos 1) ∷ (3, negsuc 0) ∷ []) (pos 0)) ∷ [])

-- the instances of each
twice-instances : map (λ t. instances t twice_qualifiers) twice_templates ≡ ([] ∷ (row ((0, pos 1) ∷ (1, negsuc 0) ∷ (2, pos 1) ∷ []) (pos 0) ∷ []) ∷ [] ∷ (row ((4, negsuc 0) ∷ []) (pos 0) ∷ []) ∷ [] ∷ [] ∷ [] ∷ [] ∷ [])
twice-instances = refl
