-- Qualifiers that speak of what a function returns, at the templates of worked.Results of lq_templates.
use Rattle.std.proofs.Common.{◌≡◌, refl}
use Rattle.std.specs.Prelude.{pos, negsuc, [], ◌∷◌, map}
use Rattle.lq_text.specs.declared.atom.Subject.TheVariants.{Returned}
use Rattle.lq_text.specs.declared.atom.Atom.TheVariants.{Element, Length, Offset, Value}
use Rattle.lq_quals.specs.declared.qualifier.Qualifier.TheVariants.{AtMost, Equal}
use Rattle.lq_quals.specs.declared.quals.Quals.{Quals}
use Rattle.lq_instances.specs.Instances.{instances}
use Rattle.lq_instances.proofs.worked.Words.{any, field, qualifiers, row}
use Rattle.lq_templates.proofs.worked.Results.{results_templates}

-- the atoms of the qualifiers, and what the lines say
abbrev results_qualifiers : Quals
results_qualifiers = qualifiers (Length Returned ∷ Value (any "x") ∷ Value (any "y") ∷ Element ∷ Value (field "n") ∷ Length (any "p") ∷ Offset (any "p") ∷ Value (field "word") ∷ []) (AtMost (row ((0, negsuc 0) ∷ []) (negsuc 0)) ∷ AtMost (row ((1, pos 1) ∷ (2, negsuc 0) ∷ []) (pos 0)) ∷ Equal (row ((1, negsuc 0) ∷ (3, pos 1) ∷ []) (pos 0)) (row ((1, pos 1) ∷ (3, negsuc 0) ∷ []) (pos 0)) ∷ AtMost (row ((4, negsuc 0) ∷ []) (pos 0)) ∷ AtMost (row ((1, negsuc 0) ∷ (5, pos 1) ∷ []) (pos 0)) ∷ AtMost (row ((1, pos 1) ∷ (5, negsuc 0) ∷ (6, pos 1) ∷ []) (negsuc 0)) ∷ Equal (row ((3, pos 1) ∷ []) (pos 1)) (row ((3, negsuc 0) ∷ []) (negsuc 0)) ∷ Equal (row ((7, pos 1) ∷ []) (pos 0)) (row ((7, negsuc 0) ∷ []) (pos 0)) ∷ [])

-- the instances of each
results-instances : map (λ t. instances t results_qualifiers) results_templates ≡ ((row ((0, pos 1) ∷ []) (pos 0) ∷ row ((0, negsuc 0) ∷ []) (pos 0) ∷ []) ∷ (row ((0, negsuc 0) ∷ (2, pos 1) ∷ []) (pos 0) ∷ row ((0, pos 1) ∷ (1, pos 1) ∷ (2, negsuc 0) ∷ []) (negsuc 0) ∷ []) ∷ (row ((4, negsuc 0) ∷ []) (negsuc 0) ∷ []) ∷ (row ((0, pos 1) ∷ (1, negsuc 0) ∷ []) (pos 0) ∷ row ((0, negsuc 0) ∷ (1, pos 1) ∷ []) (pos 0) ∷ row ((0, pos 1) ∷ []) (pos 1) ∷ row ((0, negsuc 0) ∷ []) (negsuc 0) ∷ []) ∷ (row ((0, pos 1) ∷ (3, negsuc 0) ∷ []) (pos 0) ∷ row ((0, negsuc 0) ∷ (3, pos 1) ∷ []) (pos 0) ∷ row ((0, pos 1) ∷ []) (pos 1) ∷ row ((0, negsuc 0) ∷ []) (negsuc 0) ∷ []) ∷ (row ((0, pos 1) ∷ (3, negsuc 0) ∷ []) (pos 0) ∷ row ((0, negsuc 0) ∷ (3, pos 1) ∷ []) (pos 0) ∷ row ((0, pos 1) ∷ (4, negsuc 0) ∷ []) (pos 0) ∷ row ((0, negsuc 0) ∷ (4, pos 1) ∷ []) (pos 0) ∷ row ((0, pos 1) ∷ []) (pos 1) ∷ row ((0, negsuc 0) ∷ []) (negsuc 0) ∷ []) ∷ [])
results-instances = refl
