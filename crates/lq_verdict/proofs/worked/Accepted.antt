-- squares.c is accepted with the lines `0 <= k` and `@ == i`: its greatest assignment is of instances, and each goal is shown by a
-- combination.
use Rattle.std.proofs.Common.{refl}
use Rattle.std.specs.Prelude.{ℕ, Bool, false, pos, negsuc, List, [], ◌∷◌}
use Rattle.lq_text.specs.declared.atom.Atom.TheVariants.{Element, Value}
use Rattle.lq_linear.specs.Derivation.{Part, Combination}
use Rattle.lq_quals.specs.declared.qualifier.Qualifier.TheVariants.{AtMost, Equal}
use Rattle.lq_quals.specs.declared.quals.Quals.{Quals}
use Rattle.lq_validity.specs.Mults.{multipliers_for}
use Rattle.lq_meaning.proofs.worked.plain.Squares.{squares}
use Rattle.lq_templates.specs.declared.condition.Assign.{Assign}
use Rattle.lq_templates.specs.declared.condition.Conditions.{Conditions}
use Rattle.lq_templates.specs.Classes.{ClassOf}
use Rattle.lq_templates.specs.Conditions.{none, kept}
use Rattle.lq_templates.proofs.AccessSets.{rounds}
use Rattle.lq_templates.proofs.worked.Words.{classes}
use Rattle.lq_instances.proofs.worked.Words.{local, qualifiers, row}
use Rattle.lq_conditions.specs.Conditions.{conditions}
use Rattle.lq_verdict.specs.Verdict.{Accepts}
use Rattle.lq_verdict.proofs.Shown.{Showing, good_by}

-- a combination of parts, each a multiplier and the number of a fact
abbrev pub combo : (void : Bool) → (divisor : ℕ) → List Part → Combination
combo void divisor parts = record { void = void; divisor = divisor; parts = parts }

abbrev squares_classes : ClassOf
squares_classes = classes ((0, 0, 1) ∷ (0, 2, 2) ∷ [])

abbrev squares_qualifiers : Quals
squares_qualifiers =
    qualifiers (Value (local "k") ∷ Element ∷ Value (local "i") ∷ [])
    (AtMost (row ((0, negsuc 0) ∷ []) (pos 0)) ∷ Equal (row ((1, pos 1) ∷ (2, negsuc 0) ∷ []) (pos 0)) (row ((1, negsuc 0) ∷ (2, pos 1) ∷ []) (pos 0)) ∷ [])

abbrev squares_asked : Conditions
squares_asked = conditions squares squares_classes (rounds squares squares_classes 1)

abbrev squares_greatest : Assign
squares_greatest = record { rows = ([] ∷ [] ∷ [] ∷ [] ∷ (row ((0, pos 1) ∷ (6, negsuc 0) ∷ []) (pos 0) ∷ row ((0, negsuc 0) ∷ (6, pos 1) ∷ []) (pos 0) ∷ []) ∷ (row ((5, negsuc 0) ∷ []) (pos 0) ∷ []) ∷ []) }

-- the combinations for the goals of each condition
abbrev squares_showings : List Showing
squares_showings = (([], []) ∷ ([], []) ∷ ([], (combo false 1 ((1, 7) ∷ []) ∷ [])) ∷ ([], (combo false 1 ((1, 6) ∷ (1, 8) ∷ []) ∷ [])) ∷ ([], (combo false 1 [] ∷ combo false 1 [] ∷ [])) ∷ ([], []) ∷ ([], []) ∷ ([], (combo false 1 ((1, 8) ∷ (1, 10) ∷ (1, 13) ∷ []) ∷ [])) ∷ ([], (combo false 1 [] ∷ [])) ∷ ([], (combo false 1 ((1, 7) ∷ []) ∷ [])) ∷ ([], (combo false 1 ((1, 6) ∷ (1, 8) ∷ []) ∷ [])) ∷ ([], []) ∷ ([], []) ∷ ([], (combo false 1 ((1, 7) ∷ []) ∷ [])) ∷ [])

squares-accepted : Accepts squares squares_qualifiers squares_asked
squares-accepted = record {
  assign = squares_greatest;
  within = (none, (none, (none, (none, (kept (kept none), (kept none, tt))))));
  good = good_by (multipliers_for squares squares_qualifiers) squares_greatest squares_asked.list squares_showings refl;
}
