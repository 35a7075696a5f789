-- The instances of the templates of the program of worked.Pointers of lq_templates.
use Rattle.std.proofs.Common.{◌≡◌, refl}
use Rattle.std.specs.Prelude.{pos, negsuc, [], ◌∷◌, map}
use Rattle.lq_text.specs.declared.atom.Subject.TheVariants.{Returned}
use Rattle.lq_text.specs.declared.atom.Atom.TheVariants.{Element, Length, Offset, Value}
use Rattle.lq_quals.specs.declared.qualifier.Qualifier.TheVariants.{AtMost, Equal}
use Rattle.lq_quals.specs.declared.quals.Quals.{Quals}
use Rattle.lq_instances.specs.Instances.{instances}
use Rattle.lq_instances.proofs.worked.Words.{any, field, local, qualifiers, row}
use Rattle.lq_templates.proofs.worked.Pointers.{pointers_templates}

-- the atoms of the qualifiers, and what the lines say
abbrev pointers_qualifiers : Quals
pointers_qualifiers = qualifiers (Element ∷ Value (any "x") ∷ Offset (any "p") ∷ Length (any "p") ∷ Value (field "n") ∷ Value (field "m") ∷ Value (any "y") ∷ Value (any "z") ∷ Length Returned ∷ Value Returned ∷ Value (local "n2") ∷ Value (local "n") ∷ []) (AtMost (row ((0, pos 1) ∷ (1, negsuc 0) ∷ []) (negsuc 0)) ∷ AtMost (row ((0, negsuc 0) ∷ (1, pos 1) ∷ (2, pos 1) ∷ []) (pos 0)) ∷ AtMost (row ((0, negsuc 0) ∷ (1, pos 4) ∷ []) (pos 0)) ∷ AtMost (row ((1, pos 1) ∷ (3, negsuc 0) ∷ []) (negsuc 0)) ∷ AtMost (row ((1, negsuc 0) ∷ []) (negsuc 0)) ∷ AtMost (row ((4, pos 1) ∷ (5, negsuc 0) ∷ []) (pos 0)) ∷ AtMost (row ((1, pos 1) ∷ (6, pos 1) ∷ (7, negsuc 0) ∷ []) (pos 0)) ∷ AtMost (row ((8, negsuc 0) ∷ []) (negsuc 0)) ∷ Equal (row ((1, negsuc 0) ∷ (8, pos 1) ∷ []) (pos 0)) (row ((1, pos 1) ∷ (8, negsuc 0) ∷ []) (pos 0)) ∷ Equal (row ((1, pos 1) ∷ (6, negsuc 0) ∷ []) (pos 0)) (row ((1, negsuc 0) ∷ (6, pos 1) ∷ []) (pos 0)) ∷ AtMost (row ((3, negsuc 0) ∷ []) (negsuc 0)) ∷ AtMost (row ((9, negsuc 0) ∷ []) (pos 0)) ∷ Equal (row ((0, pos 1) ∷ (1, negsuc 0) ∷ (2, negsuc 0) ∷ []) (pos 0)) (row ((0, negsuc 0) ∷ (1, pos 1) ∷ (2, pos 1) ∷ []) (pos 0)) ∷ AtMost (row ((0, pos 1) ∷ (1, negsuc 0) ∷ []) (pos 2)) ∷ AtMost (row ((10, negsuc 0) ∷ []) (pos 0)) ∷ AtMost (row ((0, pos 1) ∷ (11, negsuc 0) ∷ []) (negsuc 0)) ∷ [])

-- the instances of each
pointers-instances : map (λ t. instances t pointers_qualifiers) pointers_templates ≡ ((row ((0, pos 1) ∷ (3, negsuc 0) ∷ []) (pos 0) ∷ []) ∷ [] ∷ [] ∷ [] ∷ [] ∷ (row ((0, pos 1) ∷ (2, negsuc 0) ∷ []) (negsuc 0) ∷ row ((2, negsuc 0) ∷ (3, pos 1) ∷ []) (negsuc 0) ∷ row ((2, negsuc 0) ∷ (4, pos 1) ∷ []) (negsuc 0) ∷ row ((0, negsuc 0) ∷ []) (negsuc 0) ∷ row ((3, negsuc 0) ∷ []) (negsuc 0) ∷ row ((4, negsuc 0) ∷ []) (negsuc 0) ∷ row ((0, pos 1) ∷ (3, pos 1) ∷ (4, negsuc 0) ∷ []) (pos 0) ∷ row ((0, pos 1) ∷ (3, negsuc 0) ∷ (4, pos 1) ∷ []) (pos 0) ∷ row ((0, negsuc 0) ∷ (3, pos 1) ∷ (4, pos 1) ∷ []) (pos 0) ∷ row ((0, pos 1) ∷ (3, negsuc 0) ∷ []) (pos 0) ∷ row ((0, negsuc 0) ∷ (3, pos 1) ∷ []) (pos 0) ∷ row ((0, pos 1) ∷ (4, negsuc 0) ∷ []) (pos 0) ∷ row ((0, negsuc 0) ∷ (4, pos 1) ∷ []) (pos 0) ∷ row ((3, pos 1) ∷ (4, negsuc 0) ∷ []) (pos 0) ∷ row ((3, negsuc 0) ∷ (4, pos 1) ∷ []) (pos 0) ∷ row ((2, negsuc 0) ∷ []) (negsuc 0) ∷ row ((0, negsuc 0) ∷ []) (pos 0) ∷ []) ∷ (row ((6, negsuc 0) ∷ []) (negsuc 0) ∷ row ((0, negsuc 0) ∷ (6, pos 1) ∷ []) (pos 0) ∷ row ((0, pos 1) ∷ (6, negsuc 0) ∷ []) (pos 0) ∷ row ((3, negsuc 0) ∷ (6, pos 1) ∷ []) (pos 0) ∷ row ((3, pos 1) ∷ (6, negsuc 0) ∷ []) (pos 0) ∷ row ((4, negsuc 0) ∷ (6, pos 1) ∷ []) (pos 0) ∷ row ((4, pos 1) ∷ (6, negsuc 0) ∷ []) (pos 0) ∷ []) ∷ (row ((0, negsuc 0) ∷ []) (negsuc 0) ∷ []) ∷ (row ((2, negsuc 0) ∷ []) (negsuc 0) ∷ row ((0, negsuc 0) ∷ (2, pos 1) ∷ []) (pos 0) ∷ row ((0, pos 1) ∷ (2, negsuc 0) ∷ []) (pos 0) ∷ []) ∷ (row ((0, pos 1) ∷ (3, negsuc 0) ∷ []) (negsuc 0) ∷ row ((0, negsuc 0) ∷ (1, pos 1) ∷ (3, pos 1) ∷ []) (pos 0) ∷ row ((0, negsuc 0) ∷ (3, pos 4) ∷ []) (pos 0) ∷ row ((0, pos 1) ∷ (1, negsuc 0) ∷ (3, negsuc 0) ∷ []) (pos 0) ∷ row ((0, pos 1) ∷ (3, negsuc 0) ∷ []) (pos 2) ∷ []) ∷ (row ((0, pos 1) ∷ (3, negsuc 0) ∷ []) (negsuc 0) ∷ row ((0, negsuc 0) ∷ (1, pos 1) ∷ (3, pos 1) ∷ []) (pos 0) ∷ row ((0, negsuc 0) ∷ (3, pos 4) ∷ []) (pos 0) ∷ row ((0, pos 1) ∷ (1, negsuc 0) ∷ (3, negsuc 0) ∷ []) (pos 0) ∷ row ((0, pos 1) ∷ (3, negsuc 0) ∷ []) (pos 2) ∷ []) ∷ [])
pointers-instances = refl
