-- The instances of the templates of the program of worked.Lingering of lq_templates.
use Rattle.std.proofs.Common.{◌≡◌, refl}
use Rattle.std.specs.Prelude.{pos, negsuc, [], ◌∷◌, map}
use Rattle.lq_text.specs.declared.atom.Atom.TheVariants.{Element, Length, Offset, Value}
use Rattle.lq_quals.specs.declared.qualifier.Qualifier.TheVariants.{AtMost, Equal}
use Rattle.lq_quals.specs.declared.quals.Quals.{Quals}
use Rattle.lq_instances.specs.Instances.{instances}
use Rattle.lq_instances.proofs.worked.Words.{any, field, local, qualifiers, row}
use Rattle.lq_templates.proofs.worked.Lingering.{lingering_templates}

-- the atoms of the qualifiers, and what the lines say
abbrev lingering_qualifiers : Quals
lingering_qualifiers = qualifiers (Value (any "x") ∷ Length (any "p") ∷ Value (field "m") ∷ Offset (any "p") ∷ Element ∷ Value (local "i1") ∷ []) (AtMost (row ((0, pos 1) ∷ (1, negsuc 0) ∷ []) (pos 0)) ∷ Equal (row ((2, pos 1) ∷ []) (pos 0)) (row ((2, negsuc 0) ∷ []) (pos 0)) ∷ AtMost (row ((0, pos 1) ∷ (1, negsuc 0) ∷ (3, pos 1) ∷ []) (negsuc 0)) ∷ AtMost (row ((4, pos 1) ∷ (5, negsuc 0) ∷ []) (negsuc 0)) ∷ [])

-- the instances of each
lingering-instances : map (λ t. instances t lingering_qualifiers) lingering_templates ≡ ([] ∷ (row ((1, negsuc 0) ∷ (3, pos 1) ∷ []) (pos 0) ∷ row ((0, pos 1) ∷ (1, negsuc 0) ∷ (3, pos 1) ∷ []) (negsuc 0) ∷ []) ∷ (row ((1, negsuc 0) ∷ (4, pos 1) ∷ []) (pos 0) ∷ row ((0, pos 1) ∷ (1, negsuc 0) ∷ (4, pos 1) ∷ []) (negsuc 0) ∷ []) ∷ [])
lingering-instances = refl
