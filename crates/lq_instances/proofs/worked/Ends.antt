-- The instances of the templates of the program of worked.Ends of lq_templates.
use Rattle.std.proofs.Common.{◌≡◌, refl}
use Rattle.std.specs.Prelude.{pos, negsuc, [], ◌∷◌, map}
use Rattle.lq_text.specs.declared.atom.Subject.TheVariants.{Returned}
use Rattle.lq_text.specs.declared.atom.Atom.TheVariants.{Element, Length, Offset, Value}
use Rattle.lq_quals.specs.declared.qualifier.Qualifier.TheVariants.{AtMost, Equal}
use Rattle.lq_quals.specs.declared.quals.Quals.{Quals}
use Rattle.lq_instances.specs.Instances.{instances}
use Rattle.lq_instances.proofs.worked.Words.{any, field, local, qualifiers, row}
use Rattle.lq_templates.proofs.worked.Ends.{ends_templates}

-- the atoms of the qualifiers, and what the lines say
abbrev ends_qualifiers : Quals
ends_qualifiers = qualifiers (Element ∷ Offset (any "p") ∷ Value (any "x") ∷ Offset (field "next") ∷ Length (field "next") ∷ Length (any "p") ∷ Value Returned ∷ Value (any "y") ∷ Length Returned ∷ Value (local "n") ∷ Value (local "n2") ∷ Value (local "c11") ∷ []) (AtMost (row ((0, pos 1) ∷ (1, negsuc 0) ∷ (2, negsuc 0) ∷ []) (negsuc 0)) ∷ AtMost (row ((0, pos 1) ∷ (2, negsuc 0) ∷ []) (pos 0)) ∷ AtMost (row ((3, pos 1) ∷ []) (pos 0)) ∷ AtMost (row ((4, negsuc 0) ∷ []) (negsuc 2)) ∷ Equal (row ((0, pos 1) ∷ []) (pos 0)) (row ((0, negsuc 0) ∷ []) (pos 0)) ∷ AtMost (row ((2, pos 1) ∷ (5, negsuc 0) ∷ []) (pos 0)) ∷ AtMost (row ((2, pos 1) ∷ (6, negsuc 0) ∷ []) (pos 0)) ∷ AtMost (row ((2, pos 1) ∷ (7, negsuc 0) ∷ []) (pos 1)) ∷ AtMost (row ((2, negsuc 0) ∷ (6, pos 1) ∷ []) (negsuc 0)) ∷ AtMost (row ((0, pos 1) ∷ (2, negsuc 0) ∷ []) (pos 2)) ∷ Equal (row ((2, negsuc 0) ∷ (8, pos 1) ∷ []) (pos 0)) (row ((2, pos 1) ∷ (8, negsuc 0) ∷ []) (pos 0)) ∷ AtMost (row ((0, pos 1) ∷ (2, negsuc 1) ∷ []) (pos 1)) ∷ AtMost (row ((0, pos 1) ∷ (9, negsuc 0) ∷ []) (negsuc 0)) ∷ AtMost (row ((10, pos 1) ∷ (11, negsuc 0) ∷ []) (pos 0)) ∷ [])

-- the instances of each
ends-instances : map (λ t. instances t ends_qualifiers) ends_templates ≡ ((row ((4, pos 1) ∷ []) (pos 0) ∷ row ((5, negsuc 0) ∷ []) (negsuc 2) ∷ []) ∷ [] ∷ [] ∷ (row ((4, pos 1) ∷ []) (pos 0) ∷ row ((5, negsuc 0) ∷ []) (negsuc 2) ∷ []) ∷ (row ((0, pos 1) ∷ (2, negsuc 0) ∷ []) (pos 0) ∷ row ((2, negsuc 0) ∷ (3, pos 1) ∷ []) (pos 0) ∷ row ((2, negsuc 0) ∷ (4, pos 1) ∷ []) (pos 0) ∷ row ((0, pos 1) ∷ (3, negsuc 0) ∷ []) (pos 1) ∷ row ((0, pos 1) ∷ (4, negsuc 0) ∷ []) (pos 1) ∷ row ((0, negsuc 0) ∷ (3, pos 1) ∷ []) (pos 1) ∷ row ((3, pos 1) ∷ (4, negsuc 0) ∷ []) (pos 1) ∷ row ((0, negsuc 0) ∷ (4, pos 1) ∷ []) (pos 1) ∷ row ((3, negsuc 0) ∷ (4, pos 1) ∷ []) (pos 1) ∷ []) ∷ (row ((0, pos 1) ∷ (5, negsuc 0) ∷ []) (pos 0) ∷ row ((3, pos 1) ∷ (5, negsuc 0) ∷ []) (pos 0) ∷ row ((4, pos 1) ∷ (5, negsuc 0) ∷ []) (pos 0) ∷ row ((0, negsuc 0) ∷ (5, pos 1) ∷ []) (negsuc 0) ∷ row ((3, negsuc 0) ∷ (5, pos 1) ∷ []) (negsuc 0) ∷ row ((4, negsuc 0) ∷ (5, pos 1) ∷ []) (negsuc 0) ∷ []) ∷ (row ((0, pos 1) ∷ (1, negsuc 0) ∷ (3, negsuc 0) ∷ []) (negsuc 0) ∷ row ((0, pos 1) ∷ (3, negsuc 0) ∷ []) (pos 0) ∷ row ((0, pos 1) ∷ []) (pos 0) ∷ row ((0, negsuc 0) ∷ []) (pos 0) ∷ row ((0, pos 1) ∷ (3, negsuc 0) ∷ []) (pos 2) ∷ row ((0, pos 1) ∷ (3, negsuc 1) ∷ []) (pos 1) ∷ row ((0, pos 1) ∷ (3, negsuc 0) ∷ []) (negsuc 0) ∷ []) ∷ (row ((0, pos 1) ∷ (1, negsuc 0) ∷ (3, negsuc 0) ∷ []) (negsuc 0) ∷ row ((0, pos 1) ∷ (3, negsuc 0) ∷ []) (pos 0) ∷ row ((0, pos 1) ∷ []) (pos 0) ∷ row ((0, negsuc 0) ∷ []) (pos 0) ∷ row ((0, pos 1) ∷ (3, negsuc 0) ∷ []) (pos 2) ∷ row ((0, pos 1) ∷ (3, negsuc 1) ∷ []) (pos 1) ∷ row ((0, pos 1) ∷ (3, negsuc 0) ∷ []) (negsuc 0) ∷ []) ∷ [])
ends-instances = refl
