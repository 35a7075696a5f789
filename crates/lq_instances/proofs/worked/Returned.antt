-- The instances of the templates of the program of worked.Returned of lq_templates.
use Rattle.std.proofs.Common.{◌≡◌, refl}
use Rattle.std.specs.Prelude.{pos, negsuc, [], ◌∷◌, map}
use Rattle.lq_text.specs.declared.atom.Subject.TheVariants.{Returned}
use Rattle.lq_text.specs.declared.atom.Atom.TheVariants.{Element, Length, Offset, Value}
use Rattle.lq_quals.specs.declared.qualifier.Qualifier.TheVariants.{AtMost, Equal}
use Rattle.lq_quals.specs.declared.quals.Quals.{Quals}
use Rattle.lq_instances.specs.Instances.{instances}
use Rattle.lq_instances.proofs.worked.Words.{any, qualifiers, row}
use Rattle.lq_templates.proofs.worked.Returned.{returned_templates}

-- the atoms of the qualifiers, and what the lines say
abbrev returned_qualifiers : Quals
returned_qualifiers = qualifiers (Element ∷ Value (any "x") ∷ Offset Returned ∷ Offset (any "p") ∷ Length (any "p") ∷ []) (Equal (row ((0, pos 1) ∷ []) (pos 1)) (row ((0, negsuc 0) ∷ []) (negsuc 0)) ∷ AtMost (row ((0, negsuc 0) ∷ (1, pos 2) ∷ []) (pos 0)) ∷ AtMost (row ((0, pos 1) ∷ []) (pos 3)) ∷ Equal (row ((2, pos 1) ∷ []) (pos 0)) (row ((2, negsuc 0) ∷ []) (pos 0)) ∷ AtMost (row ((1, pos 1) ∷ (3, pos 1) ∷ (4, negsuc 0) ∷ []) (pos 0)) ∷ [])

-- the instances of each
returned-instances : map (λ t. instances t returned_qualifiers) returned_templates ≡ ([] ∷ [] ∷ [] ∷ [] ∷ [] ∷ [] ∷ (row ((0, pos 1) ∷ []) (pos 0) ∷ row ((0, negsuc 0) ∷ []) (pos 0) ∷ []) ∷ (row ((0, pos 1) ∷ []) (pos 1) ∷ row ((0, negsuc 0) ∷ []) (negsuc 0) ∷ row ((0, negsuc 0) ∷ (3, pos 2) ∷ []) (pos 0) ∷ row ((0, pos 1) ∷ []) (pos 3) ∷ []) ∷ (row ((0, pos 1) ∷ []) (pos 1) ∷ row ((0, negsuc 0) ∷ []) (negsuc 0) ∷ row ((0, negsuc 0) ∷ (3, pos 2) ∷ []) (pos 0) ∷ row ((0, pos 1) ∷ []) (pos 3) ∷ []) ∷ (row ((0, pos 1) ∷ []) (pos 1) ∷ row ((0, negsuc 0) ∷ []) (negsuc 0) ∷ row ((0, negsuc 0) ∷ (3, pos 2) ∷ []) (pos 0) ∷ row ((0, pos 1) ∷ []) (pos 3) ∷ []) ∷ [])
returned-instances = refl
