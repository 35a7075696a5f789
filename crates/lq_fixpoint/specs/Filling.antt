-- Terms added up. Helpers of private functions.
use Rattle.std.specs.Prelude.{List, [], ◌∷◌}
use Rattle.lq_linear.specs.Terms.{Term}
use Rattle.lq_linear.specs.Collect.{with_term}

-- terms, each put among collected ones
abbrev pub with_terms : List Term → List Term → List Term
with_terms [] base = base
with_terms (term ∷ terms) base = with_term term (with_terms terms base)
