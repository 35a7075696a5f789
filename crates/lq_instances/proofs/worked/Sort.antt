-- The instances of the templates of the program of worked.Sort of lq_templates.
use Rattle.std.proofs.Common.{◌≡◌, refl}
use Rattle.std.specs.Prelude.{pos, negsuc, [], ◌∷◌, map}
use Rattle.lq_text.specs.declared.atom.Atom.TheVariants.{Element, Length, Offset, Value}
use Rattle.lq_quals.specs.declared.qualifier.Qualifier.TheVariants.{AtMost}
use Rattle.lq_quals.specs.declared.quals.Quals.{Quals}
use Rattle.lq_instances.specs.Instances.{instances}
use Rattle.lq_instances.proofs.worked.Words.{local, qualifiers, row}
use Rattle.lq_templates.proofs.worked.Sort.{sort_templates}

-- the atoms of the qualifiers, and what the lines say
abbrev sort_qualifiers : Quals
sort_qualifiers = qualifiers (Value (local "lo") ∷ Value (local "mid") ∷ Value (local "hi") ∷ Value (local "i") ∷ Value (local "j") ∷ Value (local "k") ∷ Value (local "p") ∷ Offset (local "a") ∷ Length (local "a") ∷ Offset (local "t") ∷ Length (local "t") ∷ Element ∷ []) (AtMost (row ((0, negsuc 0) ∷ []) (pos 0)) ∷ AtMost (row ((1, negsuc 0) ∷ []) (pos 0)) ∷ AtMost (row ((0, pos 1) ∷ (1, negsuc 0) ∷ []) (pos 0)) ∷ AtMost (row ((1, pos 1) ∷ (2, negsuc 0) ∷ []) (pos 0)) ∷ AtMost (row ((0, pos 1) ∷ (3, negsuc 0) ∷ []) (pos 0)) ∷ AtMost (row ((1, pos 1) ∷ (4, negsuc 0) ∷ []) (pos 0)) ∷ AtMost (row ((0, pos 1) ∷ (5, negsuc 0) ∷ []) (pos 0)) ∷ AtMost (row ((6, negsuc 0) ∷ []) (negsuc 0)) ∷ AtMost (row ((2, pos 1) ∷ (7, pos 1) ∷ (8, negsuc 0) ∷ []) (pos 0)) ∷ AtMost (row ((2, pos 1) ∷ (9, pos 1) ∷ (10, negsuc 0) ∷ []) (pos 0)) ∷ AtMost (row ((0, pos 1) ∷ (7, pos 1) ∷ (11, negsuc 0) ∷ []) (pos 0)) ∷ AtMost (row ((2, negsuc 0) ∷ (7, negsuc 0) ∷ (11, pos 1) ∷ []) (negsuc 0)) ∷ AtMost (row ((1, pos 1) ∷ (7, pos 1) ∷ (11, negsuc 0) ∷ []) (pos 0)) ∷ AtMost (row ((1, negsuc 0) ∷ (7, negsuc 0) ∷ (11, pos 1) ∷ []) (negsuc 0)) ∷ AtMost (row ((0, pos 1) ∷ (9, pos 1) ∷ (11, negsuc 0) ∷ []) (pos 0)) ∷ AtMost (row ((2, negsuc 0) ∷ (9, negsuc 0) ∷ (11, pos 1) ∷ []) (negsuc 0)) ∷ AtMost (row ((1, pos 1) ∷ (9, pos 1) ∷ (11, negsuc 0) ∷ []) (pos 0)) ∷ AtMost (row ((1, negsuc 0) ∷ (9, negsuc 0) ∷ (11, pos 1) ∷ []) (negsuc 0)) ∷ [])

-- the instances of each
sort-instances : map (λ t. instances t sort_qualifiers) sort_templates ≡ ([] ∷ [] ∷ (row ((4, negsuc 0) ∷ []) (pos 0) ∷ row ((5, negsuc 0) ∷ []) (pos 0) ∷ row ((4, pos 1) ∷ (5, negsuc 0) ∷ []) (pos 0) ∷ row ((5, pos 1) ∷ (6, negsuc 0) ∷ []) (pos 0) ∷ row ((0, pos 1) ∷ (1, negsuc 0) ∷ (6, pos 1) ∷ []) (pos 0) ∷ row ((2, pos 1) ∷ (3, negsuc 0) ∷ (6, pos 1) ∷ []) (pos 0) ∷ []) ∷ (row ((0, negsuc 0) ∷ (1, pos 1) ∷ (5, pos 1) ∷ []) (pos 0) ∷ row ((0, pos 1) ∷ (1, negsuc 0) ∷ (7, negsuc 0) ∷ []) (negsuc 0) ∷ row ((0, negsuc 0) ∷ (1, pos 1) ∷ (6, pos 1) ∷ []) (pos 0) ∷ row ((0, pos 1) ∷ (1, negsuc 0) ∷ (6, negsuc 0) ∷ []) (negsuc 0) ∷ row ((0, negsuc 0) ∷ (3, pos 1) ∷ (5, pos 1) ∷ []) (pos 0) ∷ row ((0, pos 1) ∷ (3, negsuc 0) ∷ (7, negsuc 0) ∷ []) (negsuc 0) ∷ row ((0, negsuc 0) ∷ (3, pos 1) ∷ (6, pos 1) ∷ []) (pos 0) ∷ row ((0, pos 1) ∷ (3, negsuc 0) ∷ (6, negsuc 0) ∷ []) (negsuc 0) ∷ []) ∷ (row ((0, negsuc 0) ∷ (1, pos 1) ∷ (5, pos 1) ∷ []) (pos 0) ∷ row ((0, pos 1) ∷ (1, negsuc 0) ∷ (7, negsuc 0) ∷ []) (negsuc 0) ∷ row ((0, negsuc 0) ∷ (1, pos 1) ∷ (6, pos 1) ∷ []) (pos 0) ∷ row ((0, pos 1) ∷ (1, negsuc 0) ∷ (6, negsuc 0) ∷ []) (negsuc 0) ∷ row ((0, negsuc 0) ∷ (3, pos 1) ∷ (5, pos 1) ∷ []) (pos 0) ∷ row ((0, pos 1) ∷ (3, negsuc 0) ∷ (7, negsuc 0) ∷ []) (negsuc 0) ∷ row ((0, negsuc 0) ∷ (3, pos 1) ∷ (6, pos 1) ∷ []) (pos 0) ∷ row ((0, pos 1) ∷ (3, negsuc 0) ∷ (6, negsuc 0) ∷ []) (negsuc 0) ∷ []) ∷ (row ((0, negsuc 0) ∷ (1, pos 1) ∷ (5, pos 1) ∷ []) (pos 0) ∷ row ((0, pos 1) ∷ (1, negsuc 0) ∷ (7, negsuc 0) ∷ []) (negsuc 0) ∷ row ((0, negsuc 0) ∷ (1, pos 1) ∷ (6, pos 1) ∷ []) (pos 0) ∷ row ((0, pos 1) ∷ (1, negsuc 0) ∷ (6, negsuc 0) ∷ []) (negsuc 0) ∷ row ((0, negsuc 0) ∷ (3, pos 1) ∷ (5, pos 1) ∷ []) (pos 0) ∷ row ((0, pos 1) ∷ (3, negsuc 0) ∷ (7, negsuc 0) ∷ []) (negsuc 0) ∷ row ((0, negsuc 0) ∷ (3, pos 1) ∷ (6, pos 1) ∷ []) (pos 0) ∷ row ((0, pos 1) ∷ (3, negsuc 0) ∷ (6, negsuc 0) ∷ []) (negsuc 0) ∷ []) ∷ (row ((0, negsuc 0) ∷ (1, pos 1) ∷ (5, pos 1) ∷ []) (pos 0) ∷ row ((0, pos 1) ∷ (1, negsuc 0) ∷ (7, negsuc 0) ∷ []) (negsuc 0) ∷ row ((0, negsuc 0) ∷ (1, pos 1) ∷ (6, pos 1) ∷ []) (pos 0) ∷ row ((0, pos 1) ∷ (1, negsuc 0) ∷ (6, negsuc 0) ∷ []) (negsuc 0) ∷ row ((0, negsuc 0) ∷ (3, pos 1) ∷ (5, pos 1) ∷ []) (pos 0) ∷ row ((0, pos 1) ∷ (3, negsuc 0) ∷ (7, negsuc 0) ∷ []) (negsuc 0) ∷ row ((0, negsuc 0) ∷ (3, pos 1) ∷ (6, pos 1) ∷ []) (pos 0) ∷ row ((0, pos 1) ∷ (3, negsuc 0) ∷ (6, negsuc 0) ∷ []) (negsuc 0) ∷ []) ∷ (row ((4, pos 1) ∷ (7, negsuc 0) ∷ []) (pos 0) ∷ row ((5, pos 1) ∷ (8, negsuc 0) ∷ []) (pos 0) ∷ row ((4, pos 1) ∷ (9, negsuc 0) ∷ []) (pos 0) ∷ []) ∷ (row ((4, pos 1) ∷ (7, negsuc 0) ∷ []) (pos 0) ∷ row ((5, pos 1) ∷ (8, negsuc 0) ∷ []) (pos 0) ∷ []) ∷ (row ((4, pos 1) ∷ (7, negsuc 0) ∷ []) (pos 0) ∷ row ((5, pos 1) ∷ (8, negsuc 0) ∷ []) (pos 0) ∷ []) ∷ (row ((4, pos 1) ∷ (7, negsuc 0) ∷ []) (pos 0) ∷ row ((5, pos 1) ∷ (8, negsuc 0) ∷ []) (pos 0) ∷ []) ∷ (row ((5, pos 1) ∷ (8, negsuc 0) ∷ []) (pos 0) ∷ []) ∷ (row ((4, pos 1) ∷ (9, negsuc 0) ∷ []) (pos 0) ∷ []) ∷ (row ((4, negsuc 0) ∷ []) (pos 0) ∷ row ((0, pos 1) ∷ (1, negsuc 0) ∷ (5, pos 1) ∷ []) (pos 0) ∷ row ((2, pos 1) ∷ (3, negsuc 0) ∷ (5, pos 1) ∷ []) (pos 0) ∷ []) ∷ (row ((0, negsuc 0) ∷ (1, pos 1) ∷ (5, pos 1) ∷ []) (pos 0) ∷ row ((0, pos 1) ∷ (1, negsuc 0) ∷ (6, negsuc 0) ∷ []) (negsuc 0) ∷ row ((0, negsuc 0) ∷ (3, pos 1) ∷ (5, pos 1) ∷ []) (pos 0) ∷ row ((0, pos 1) ∷ (3, negsuc 0) ∷ (6, negsuc 0) ∷ []) (negsuc 0) ∷ []) ∷ (row ((0, negsuc 0) ∷ (1, pos 1) ∷ (5, pos 1) ∷ []) (pos 0) ∷ row ((0, pos 1) ∷ (1, negsuc 0) ∷ (6, negsuc 0) ∷ []) (negsuc 0) ∷ row ((0, negsuc 0) ∷ (3, pos 1) ∷ (5, pos 1) ∷ []) (pos 0) ∷ row ((0, pos 1) ∷ (3, negsuc 0) ∷ (6, negsuc 0) ∷ []) (negsuc 0) ∷ []) ∷ (row ((0, negsuc 0) ∷ (1, pos 1) ∷ (5, pos 1) ∷ []) (pos 0) ∷ row ((0, pos 1) ∷ (1, negsuc 0) ∷ (6, negsuc 0) ∷ []) (negsuc 0) ∷ row ((0, negsuc 0) ∷ (3, pos 1) ∷ (5, pos 1) ∷ []) (pos 0) ∷ row ((0, pos 1) ∷ (3, negsuc 0) ∷ (6, negsuc 0) ∷ []) (negsuc 0) ∷ []) ∷ (row ((0, negsuc 0) ∷ (1, pos 1) ∷ (5, pos 1) ∷ []) (pos 0) ∷ row ((0, pos 1) ∷ (1, negsuc 0) ∷ (6, negsuc 0) ∷ []) (negsuc 0) ∷ row ((0, negsuc 0) ∷ (3, pos 1) ∷ (5, pos 1) ∷ []) (pos 0) ∷ row ((0, pos 1) ∷ (3, negsuc 0) ∷ (6, negsuc 0) ∷ []) (negsuc 0) ∷ []) ∷ (row ((0, negsuc 0) ∷ (1, pos 1) ∷ (5, pos 1) ∷ []) (pos 0) ∷ row ((0, pos 1) ∷ (1, negsuc 0) ∷ (6, negsuc 0) ∷ []) (negsuc 0) ∷ row ((0, negsuc 0) ∷ (1, pos 1) ∷ (7, pos 1) ∷ []) (pos 0) ∷ row ((0, pos 1) ∷ (1, negsuc 0) ∷ (7, negsuc 0) ∷ []) (negsuc 0) ∷ row ((0, negsuc 0) ∷ (3, pos 1) ∷ (5, pos 1) ∷ []) (pos 0) ∷ row ((0, pos 1) ∷ (3, negsuc 0) ∷ (6, negsuc 0) ∷ []) (negsuc 0) ∷ row ((0, negsuc 0) ∷ (3, pos 1) ∷ (7, pos 1) ∷ []) (pos 0) ∷ row ((0, pos 1) ∷ (3, negsuc 0) ∷ (7, negsuc 0) ∷ []) (negsuc 0) ∷ []) ∷ (row ((0, negsuc 0) ∷ (1, pos 1) ∷ (5, pos 1) ∷ []) (pos 0) ∷ row ((0, pos 1) ∷ (1, negsuc 0) ∷ (6, negsuc 0) ∷ []) (negsuc 0) ∷ row ((0, negsuc 0) ∷ (1, pos 1) ∷ (7, pos 1) ∷ []) (pos 0) ∷ row ((0, pos 1) ∷ (1, negsuc 0) ∷ (7, negsuc 0) ∷ []) (negsuc 0) ∷ row ((0, negsuc 0) ∷ (3, pos 1) ∷ (5, pos 1) ∷ []) (pos 0) ∷ row ((0, pos 1) ∷ (3, negsuc 0) ∷ (6, negsuc 0) ∷ []) (negsuc 0) ∷ row ((0, negsuc 0) ∷ (3, pos 1) ∷ (7, pos 1) ∷ []) (pos 0) ∷ row ((0, pos 1) ∷ (3, negsuc 0) ∷ (7, negsuc 0) ∷ []) (negsuc 0) ∷ []) ∷ (row ((0, negsuc 0) ∷ (1, pos 1) ∷ (5, pos 1) ∷ []) (pos 0) ∷ row ((0, pos 1) ∷ (1, negsuc 0) ∷ (6, negsuc 0) ∷ []) (negsuc 0) ∷ row ((0, negsuc 0) ∷ (1, pos 1) ∷ (7, pos 1) ∷ []) (pos 0) ∷ row ((0, pos 1) ∷ (1, negsuc 0) ∷ (7, negsuc 0) ∷ []) (negsuc 0) ∷ row ((0, negsuc 0) ∷ (3, pos 1) ∷ (5, pos 1) ∷ []) (pos 0) ∷ row ((0, pos 1) ∷ (3, negsuc 0) ∷ (6, negsuc 0) ∷ []) (negsuc 0) ∷ row ((0, negsuc 0) ∷ (3, pos 1) ∷ (7, pos 1) ∷ []) (pos 0) ∷ row ((0, pos 1) ∷ (3, negsuc 0) ∷ (7, negsuc 0) ∷ []) (negsuc 0) ∷ []) ∷ (row ((0, negsuc 0) ∷ (1, pos 1) ∷ (5, pos 1) ∷ []) (pos 0) ∷ row ((0, pos 1) ∷ (1, negsuc 0) ∷ (6, negsuc 0) ∷ []) (negsuc 0) ∷ row ((0, negsuc 0) ∷ (1, pos 1) ∷ (7, pos 1) ∷ []) (pos 0) ∷ row ((0, pos 1) ∷ (1, negsuc 0) ∷ (7, negsuc 0) ∷ []) (negsuc 0) ∷ row ((0, negsuc 0) ∷ (3, pos 1) ∷ (5, pos 1) ∷ []) (pos 0) ∷ row ((0, pos 1) ∷ (3, negsuc 0) ∷ (6, negsuc 0) ∷ []) (negsuc 0) ∷ row ((0, negsuc 0) ∷ (3, pos 1) ∷ (7, pos 1) ∷ []) (pos 0) ∷ row ((0, pos 1) ∷ (3, negsuc 0) ∷ (7, negsuc 0) ∷ []) (negsuc 0) ∷ []) ∷ (row ((0, negsuc 0) ∷ (1, pos 1) ∷ (5, pos 1) ∷ []) (pos 0) ∷ row ((0, pos 1) ∷ (1, negsuc 0) ∷ (6, negsuc 0) ∷ []) (negsuc 0) ∷ row ((0, negsuc 0) ∷ (1, pos 1) ∷ (7, pos 1) ∷ []) (pos 0) ∷ row ((0, pos 1) ∷ (1, negsuc 0) ∷ (7, negsuc 0) ∷ []) (negsuc 0) ∷ row ((0, negsuc 0) ∷ (3, pos 1) ∷ (5, pos 1) ∷ []) (pos 0) ∷ row ((0, pos 1) ∷ (3, negsuc 0) ∷ (6, negsuc 0) ∷ []) (negsuc 0) ∷ row ((0, negsuc 0) ∷ (3, pos 1) ∷ (7, pos 1) ∷ []) (pos 0) ∷ row ((0, pos 1) ∷ (3, negsuc 0) ∷ (7, negsuc 0) ∷ []) (negsuc 0) ∷ []) ∷ (row ((0, negsuc 0) ∷ (1, pos 1) ∷ (5, pos 1) ∷ []) (pos 0) ∷ row ((0, pos 1) ∷ (1, negsuc 0) ∷ (6, negsuc 0) ∷ []) (negsuc 0) ∷ row ((0, negsuc 0) ∷ (1, pos 1) ∷ (7, pos 1) ∷ []) (pos 0) ∷ row ((0, pos 1) ∷ (1, negsuc 0) ∷ (7, negsuc 0) ∷ []) (negsuc 0) ∷ row ((0, negsuc 0) ∷ (3, pos 1) ∷ (5, pos 1) ∷ []) (pos 0) ∷ row ((0, pos 1) ∷ (3, negsuc 0) ∷ (6, negsuc 0) ∷ []) (negsuc 0) ∷ row ((0, negsuc 0) ∷ (3, pos 1) ∷ (7, pos 1) ∷ []) (pos 0) ∷ row ((0, pos 1) ∷ (3, negsuc 0) ∷ (7, negsuc 0) ∷ []) (negsuc 0) ∷ []) ∷ (row ((0, negsuc 0) ∷ (1, pos 1) ∷ (5, pos 1) ∷ []) (pos 0) ∷ row ((0, pos 1) ∷ (1, negsuc 0) ∷ (6, negsuc 0) ∷ []) (negsuc 0) ∷ row ((0, negsuc 0) ∷ (1, pos 1) ∷ (7, pos 1) ∷ []) (pos 0) ∷ row ((0, pos 1) ∷ (1, negsuc 0) ∷ (7, negsuc 0) ∷ []) (negsuc 0) ∷ row ((0, negsuc 0) ∷ (3, pos 1) ∷ (5, pos 1) ∷ []) (pos 0) ∷ row ((0, pos 1) ∷ (3, negsuc 0) ∷ (6, negsuc 0) ∷ []) (negsuc 0) ∷ row ((0, negsuc 0) ∷ (3, pos 1) ∷ (7, pos 1) ∷ []) (pos 0) ∷ row ((0, pos 1) ∷ (3, negsuc 0) ∷ (7, negsuc 0) ∷ []) (negsuc 0) ∷ []) ∷ (row ((0, negsuc 0) ∷ (1, pos 1) ∷ (5, pos 1) ∷ []) (pos 0) ∷ row ((0, pos 1) ∷ (1, negsuc 0) ∷ (6, negsuc 0) ∷ []) (negsuc 0) ∷ row ((0, negsuc 0) ∷ (1, pos 1) ∷ (7, pos 1) ∷ []) (pos 0) ∷ row ((0, pos 1) ∷ (1, negsuc 0) ∷ (7, negsuc 0) ∷ []) (negsuc 0) ∷ row ((0, negsuc 0) ∷ (3, pos 1) ∷ (5, pos 1) ∷ []) (pos 0) ∷ row ((0, pos 1) ∷ (3, negsuc 0) ∷ (6, negsuc 0) ∷ []) (negsuc 0) ∷ row ((0, negsuc 0) ∷ (3, pos 1) ∷ (7, pos 1) ∷ []) (pos 0) ∷ row ((0, pos 1) ∷ (3, negsuc 0) ∷ (7, negsuc 0) ∷ []) (negsuc 0) ∷ []) ∷ [] ∷ [] ∷ [] ∷ [] ∷ (row ((7, negsuc 0) ∷ []) (negsuc 0) ∷ []) ∷ [] ∷ [])
sort-instances = refl
