-- The instances of the templates of the program of worked.Joins of lq_templates.
use Rattle.std.proofs.Common.{◌≡◌, refl}
use Rattle.std.specs.Prelude.{pos, negsuc, [], ◌∷◌, map}
use Rattle.lq_text.specs.declared.atom.Subject.TheVariants.{Returned}
use Rattle.lq_text.specs.declared.atom.Atom.TheVariants.{Element, Length, Offset, Value}
use Rattle.lq_quals.specs.declared.qualifier.Qualifier.TheVariants.{AtMost, Equal}
use Rattle.lq_quals.specs.declared.quals.Quals.{Quals}
use Rattle.lq_instances.specs.Instances.{instances}
use Rattle.lq_instances.proofs.worked.Words.{any, field, local, qualifiers, row}
use Rattle.lq_templates.proofs.worked.Joins.{joins_templates}

-- the atoms of the qualifiers, and what the lines say
abbrev joins_qualifiers : Quals
joins_qualifiers = qualifiers (Offset (any "p") ∷ Value (any "x") ∷ Element ∷ Offset (field "next") ∷ Value (any "y") ∷ Value Returned ∷ Length (any "p") ∷ Value (local "x5") ∷ []) (AtMost (row ((0, pos 1) ∷ (1, pos 1) ∷ (2, negsuc 0) ∷ []) (pos 0)) ∷ Equal (row ((1, negsuc 0) ∷ (2, pos 1) ∷ []) (pos 0)) (row ((1, pos 1) ∷ (2, negsuc 0) ∷ []) (pos 0)) ∷ AtMost (row ((3, pos 1) ∷ []) (pos 0)) ∷ AtMost (row ((1, pos 1) ∷ (4, negsuc 0) ∷ []) (pos 0)) ∷ AtMost (row ((1, negsuc 0) ∷ (2, pos 1) ∷ []) (pos 2)) ∷ AtMost (row ((1, negsuc 0) ∷ (2, pos 1) ∷ []) (pos 0)) ∷ AtMost (row ((5, negsuc 0) ∷ []) (pos 0)) ∷ AtMost (row ((1, pos 1) ∷ (6, negsuc 0) ∷ []) (pos 0)) ∷ AtMost (row ((1, negsuc 1) ∷ (4, pos 1) ∷ []) (pos 1)) ∷ AtMost (row ((1, pos 1) ∷ (6, negsuc 0) ∷ []) (negsuc 0)) ∷ AtMost (row ((7, negsuc 0) ∷ []) (pos 0)) ∷ [])

-- the instances of each
joins-instances : map (λ t. instances t joins_qualifiers) joins_templates ≡ ([] ∷ [] ∷ [] ∷ (row ((4, pos 1) ∷ []) (pos 0) ∷ []) ∷ (row ((0, negsuc 0) ∷ (1, pos 1) ∷ (3, pos 1) ∷ []) (pos 0) ∷ row ((0, pos 1) ∷ (3, negsuc 0) ∷ []) (pos 0) ∷ row ((0, negsuc 0) ∷ (3, pos 1) ∷ []) (pos 0) ∷ row ((0, pos 1) ∷ (3, negsuc 0) ∷ []) (pos 2) ∷ []) ∷ (row ((0, negsuc 0) ∷ (1, pos 1) ∷ (3, pos 1) ∷ []) (pos 0) ∷ row ((0, pos 1) ∷ (3, negsuc 0) ∷ []) (pos 0) ∷ row ((0, negsuc 0) ∷ (3, pos 1) ∷ []) (pos 0) ∷ row ((0, pos 1) ∷ (3, negsuc 0) ∷ []) (pos 2) ∷ []) ∷ (row ((0, negsuc 0) ∷ (1, pos 1) ∷ (3, pos 1) ∷ []) (pos 0) ∷ row ((0, pos 1) ∷ (3, negsuc 0) ∷ []) (pos 0) ∷ row ((0, negsuc 0) ∷ (3, pos 1) ∷ []) (pos 0) ∷ row ((0, pos 1) ∷ (3, negsuc 0) ∷ []) (pos 2) ∷ []) ∷ (row ((0, negsuc 0) ∷ (1, pos 1) ∷ (3, pos 1) ∷ []) (pos 0) ∷ row ((0, pos 1) ∷ (3, negsuc 0) ∷ []) (pos 0) ∷ row ((0, negsuc 0) ∷ (3, pos 1) ∷ []) (pos 0) ∷ row ((0, pos 1) ∷ (3, negsuc 0) ∷ []) (pos 2) ∷ []) ∷ (row ((0, negsuc 0) ∷ (1, pos 1) ∷ (3, pos 1) ∷ []) (pos 0) ∷ row ((0, negsuc 0) ∷ (1, pos 1) ∷ (4, pos 1) ∷ []) (pos 0) ∷ row ((0, negsuc 0) ∷ (3, pos 1) ∷ (5, pos 1) ∷ []) (pos 0) ∷ row ((0, negsuc 0) ∷ (4, pos 1) ∷ (5, pos 1) ∷ []) (pos 0) ∷ row ((0, negsuc 0) ∷ (3, pos 1) ∷ (7, pos 1) ∷ []) (pos 0) ∷ row ((0, negsuc 0) ∷ (4, pos 1) ∷ (7, pos 1) ∷ []) (pos 0) ∷ row ((0, pos 1) ∷ (3, negsuc 0) ∷ []) (pos 0) ∷ row ((0, negsuc 0) ∷ (3, pos 1) ∷ []) (pos 0) ∷ row ((0, pos 1) ∷ (4, negsuc 0) ∷ []) (pos 0) ∷ row ((0, negsuc 0) ∷ (4, pos 1) ∷ []) (pos 0) ∷ row ((0, pos 1) ∷ (3, negsuc 0) ∷ []) (pos 2) ∷ row ((0, pos 1) ∷ (4, negsuc 0) ∷ []) (pos 2) ∷ []) ∷ [] ∷ (row ((0, negsuc 0) ∷ (1, pos 1) ∷ (3, pos 1) ∷ []) (pos 0) ∷ row ((0, negsuc 0) ∷ (1, pos 1) ∷ (4, pos 1) ∷ []) (pos 0) ∷ row ((0, negsuc 0) ∷ (3, pos 1) ∷ (5, pos 1) ∷ []) (pos 0) ∷ row ((0, negsuc 0) ∷ (4, pos 1) ∷ (5, pos 1) ∷ []) (pos 0) ∷ row ((0, negsuc 0) ∷ (3, pos 1) ∷ (7, pos 1) ∷ []) (pos 0) ∷ row ((0, negsuc 0) ∷ (4, pos 1) ∷ (7, pos 1) ∷ []) (pos 0) ∷ row ((0, pos 1) ∷ (3, negsuc 0) ∷ []) (pos 0) ∷ row ((0, negsuc 0) ∷ (3, pos 1) ∷ []) (pos 0) ∷ row ((0, pos 1) ∷ (4, negsuc 0) ∷ []) (pos 0) ∷ row ((0, negsuc 0) ∷ (4, pos 1) ∷ []) (pos 0) ∷ row ((0, pos 1) ∷ (3, negsuc 0) ∷ []) (pos 2) ∷ row ((0, pos 1) ∷ (4, negsuc 0) ∷ []) (pos 2) ∷ []) ∷ (row ((0, negsuc 0) ∷ (1, pos 1) ∷ (3, pos 1) ∷ []) (pos 0) ∷ row ((0, negsuc 0) ∷ (1, pos 1) ∷ (4, pos 1) ∷ []) (pos 0) ∷ row ((0, negsuc 0) ∷ (1, pos 1) ∷ (9, pos 1) ∷ []) (pos 0) ∷ row ((0, negsuc 0) ∷ (3, pos 1) ∷ (5, pos 1) ∷ []) (pos 0) ∷ row ((0, negsuc 0) ∷ (4, pos 1) ∷ (5, pos 1) ∷ []) (pos 0) ∷ row ((0, negsuc 0) ∷ (5, pos 1) ∷ (9, pos 1) ∷ []) (pos 0) ∷ row ((0, negsuc 0) ∷ (3, pos 1) ∷ (7, pos 1) ∷ []) (pos 0) ∷ row ((0, negsuc 0) ∷ (4, pos 1) ∷ (7, pos 1) ∷ []) (pos 0) ∷ row ((0, negsuc 0) ∷ (7, pos 1) ∷ (9, pos 1) ∷ []) (pos 0) ∷ row ((0, pos 1) ∷ (3, negsuc 0) ∷ []) (pos 0) ∷ row ((0, negsuc 0) ∷ (3, pos 1) ∷ []) (pos 0) ∷ row ((0, pos 1) ∷ (4, negsuc 0) ∷ []) (pos 0) ∷ row ((0, negsuc 0) ∷ (4, pos 1) ∷ []) (pos 0) ∷ row ((0, pos 1) ∷ (9, negsuc 0) ∷ []) (pos 0) ∷ row ((0, negsuc 0) ∷ (9, pos 1) ∷ []) (pos 0) ∷ row ((0, pos 1) ∷ (3, negsuc 0) ∷ []) (pos 2) ∷ row ((0, pos 1) ∷ (4, negsuc 0) ∷ []) (pos 2) ∷ row ((0, pos 1) ∷ (9, negsuc 0) ∷ []) (pos 2) ∷ []) ∷ [] ∷ [])
joins-instances = refl
