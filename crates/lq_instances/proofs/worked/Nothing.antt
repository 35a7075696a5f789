-- The instances of the templates of the program of worked.Nothing of lq_templates.
use Rattle.std.proofs.Common.{◌≡◌, refl}
use Rattle.std.specs.Prelude.{pos, negsuc, [], ◌∷◌, map}
use Rattle.lq_text.specs.declared.atom.Atom.TheVariants.{Value}
use Rattle.lq_quals.specs.declared.qualifier.Qualifier.TheVariants.{AtMost}
use Rattle.lq_quals.specs.declared.quals.Quals.{Quals}
use Rattle.lq_instances.specs.Instances.{instances}
use Rattle.lq_instances.proofs.worked.Words.{any, field, qualifiers, row}
use Rattle.lq_templates.proofs.worked.Nothing.{nothing_templates}

-- the atoms of the qualifiers, and what the lines say
abbrev nothing_qualifiers : Quals
nothing_qualifiers = qualifiers (Value (field "word") ∷ Value (any "x") ∷ []) (AtMost (row ((0, pos 1) ∷ []) (pos 3)) ∷ AtMost (row ((1, negsuc 0) ∷ []) (negsuc 0)) ∷ [])

-- the instances of each
nothing-instances : map (λ t. instances t nothing_qualifiers) nothing_templates ≡ []
nothing-instances = refl
