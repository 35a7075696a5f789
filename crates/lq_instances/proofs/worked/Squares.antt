-- The instances of the templates of the program of worked.Squares of lq_templates.
use Rattle.std.proofs.Common.{◌≡◌, refl}
use Rattle.std.specs.Prelude.{pos, negsuc, [], ◌∷◌, map}
use Rattle.lq_text.specs.declared.atom.Atom.TheVariants.{Element, Value}
use Rattle.lq_quals.specs.declared.qualifier.Qualifier.TheVariants.{AtMost, Equal}
use Rattle.lq_quals.specs.declared.quals.Quals.{Quals}
use Rattle.lq_instances.specs.Instances.{instances}
use Rattle.lq_instances.proofs.worked.Words.{local, qualifiers, row}
use Rattle.lq_templates.proofs.worked.Squares.{squares_templates}

-- the atoms of the qualifiers, and what the lines say
abbrev squares_qualifiers : Quals
squares_qualifiers = qualifiers (Value (local "k") ∷ Element ∷ Value (local "i") ∷ []) (AtMost (row ((0, negsuc 0) ∷ []) (pos 0)) ∷ Equal (row ((1, pos 1) ∷ (2, negsuc 0) ∷ []) (pos 0)) (row ((1, negsuc 0) ∷ (2, pos 1) ∷ []) (pos 0)) ∷ [])

-- the instances of each
squares-instances : map (λ t. instances t squares_qualifiers) squares_templates ≡ ([] ∷ [] ∷ [] ∷ [] ∷ (row ((0, pos 1) ∷ (6, negsuc 0) ∷ []) (pos 0) ∷ row ((0, negsuc 0) ∷ (6, pos 1) ∷ []) (pos 0) ∷ []) ∷ (row ((5, negsuc 0) ∷ []) (pos 0) ∷ []) ∷ [])
squares-instances = refl
