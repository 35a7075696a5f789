-- Placeholders for which there are no locals, at the template of worked.Single of lq_templates.
use Rattle.std.proofs.Common.{◌≡◌, refl}
use Rattle.std.specs.Prelude.{pos, negsuc, [], ◌∷◌, map}
use Rattle.lq_text.specs.declared.atom.Subject.TheVariants.{Returned}
use Rattle.lq_text.specs.declared.atom.Atom.TheVariants.{Element, Length, Offset, Value}
use Rattle.lq_quals.specs.declared.qualifier.Qualifier.TheVariants.{AtMost, Equal}
use Rattle.lq_quals.specs.declared.quals.Quals.{Quals}
use Rattle.lq_instances.specs.Instances.{instances}
use Rattle.lq_instances.proofs.worked.Words.{any, field, local, qualifiers, row}
use Rattle.lq_templates.proofs.worked.Single.{single_templates}

-- the atoms of the qualifiers, and what the lines say
abbrev single_qualifiers : Quals
single_qualifiers = qualifiers (Element ∷ Value (any "x") ∷ Length (any "p") ∷ Value Returned ∷ Offset (field "next") ∷ Value (field "word") ∷ Offset (any "p") ∷ Value (any "y") ∷ Offset (field "data") ∷ Value (field "n") ∷ Length (field "data") ∷ Value (local "i1") ∷ []) (AtMost (row ((0, pos 1) ∷ (1, negsuc 0) ∷ []) (pos 2)) ∷ Equal (row ((2, pos 1) ∷ []) (pos 0)) (row ((2, negsuc 0) ∷ []) (pos 0)) ∷ AtMost (row ((0, negsuc 0) ∷ (1, pos 2) ∷ []) (pos 0)) ∷ AtMost (row ((0, pos 1) ∷ (1, negsuc 0) ∷ []) (pos 0)) ∷ Equal (row ((0, pos 1) ∷ []) (pos 0)) (row ((0, negsuc 0) ∷ []) (pos 0)) ∷ AtMost (row ((3, negsuc 0) ∷ []) (pos 0)) ∷ AtMost (row ((4, pos 1) ∷ []) (pos 0)) ∷ AtMost (row ((1, negsuc 0) ∷ []) (pos 0)) ∷ Equal (row ((5, pos 1) ∷ []) (pos 0)) (row ((5, negsuc 0) ∷ []) (pos 0)) ∷ AtMost (row ((0, negsuc 0) ∷ (6, pos 1) ∷ []) (pos 0)) ∷ AtMost (row ((1, pos 1) ∷ (7, negsuc 0) ∷ []) (pos 0)) ∷ AtMost (row ((8, pos 1) ∷ (9, pos 1) ∷ (10, negsuc 0) ∷ []) (pos 0)) ∷ AtMost (row ((1, negsuc 0) ∷ (2, pos 1) ∷ []) (pos 0)) ∷ AtMost (row ((11, negsuc 0) ∷ []) (pos 0)) ∷ [])

-- the instances of each
single-instances : map (λ t. instances t single_qualifiers) single_templates ≡ ((row ((0, pos 1) ∷ []) (pos 0) ∷ row ((0, negsuc 0) ∷ []) (pos 0) ∷ []) ∷ [])
single-instances = refl
