-- `exact` lines, contradictions, goals past the bounds, many facts and the order of names, on conditions made by hand.
use Rattle.std.proofs.Common.{List, [], ◌∷◌, refl}
use Rattle.std.specs.Prelude.{pos, negsuc, replicate, Some, None, Option}
use Rattle.lq_linear.specs.Form.{Linear}
use Rattle.lq_linear.specs.Collect.{constant, symbol}
use Rattle.lq_linear.specs.declared.divisor.Divisor.{Divisor}
use Rattle.lq_linear.specs.declared.item.Item.TheVariants.{Division}
use Rattle.std.specs.Fmt.{digits}
use Rattle.lq_cert.specs.Numeral.{numeral}
use Rattle.lq_meaning.proofs.worked.SourceWords.{at}
use Rattle.lq_templates.specs.declared.condition.Given.{Given}
use Rattle.lq_templates.specs.declared.condition.Given.TheVariants.{Fixed, Of}
use Rattle.lq_templates.specs.declared.condition.Rule.TheVariants.{BoundsHigh, LoopAgain}
use Rattle.lq_templates.specs.declared.condition.Condition.{Condition}
use Rattle.lq_templates.specs.declared.condition.Conditions.{Conditions}
use Rattle.lq_templates.specs.Conditions.{site, asks}
use Rattle.lq_templates.proofs.worked.Words.{number, looped}
use Rattle.lq_symbolic.specs.Value.{divisor_of}
use Rattle.lq_verdict.specs.Audit.{IsRightFor, IsFirstBadFor}
use Rattle.lq_verdict.proofs.worked.Files.{file, first, second, row, cond, exact, goal, void, local, right_by, wrong_line}
use Rattle.lq_verdict.proofs.worked.OneStoreProofs.{given}

abbrev halved : Option Divisor → List Given
halved None = []
halved (Some d) = Fixed (Division 1 (symbol 0) d) ∷ []

-- s0 >= 0, and s1 is the half of s0: so 2*s1 <= s0
abbrev half : List Given
half = given ((0, negsuc 0) ∷ []) (pos 0) ∷ halved (divisor_of (Some (pos 2)))

abbrev halving : Condition
halving = asks BoundsHigh (site (at 1 1)) half (given ((0, negsuc 0) ∷ (1, pos 2) ∷ []) (pos 0))

abbrev half_asked : Conditions
half_asked = record { templates = []; list = halving ∷ [] }

-- the third row of the division is fact 4
half-right : IsRightFor half_asked (file ("proof 2" ∷ "cond 1" ∷ "exact 1 1 1:1" ∷ "goal 1 1 1:4" ∷ "end" ∷ []))
unfolding numeral digits
half-right = right_by _ _ (second ∷ cond 1 ∷ exact 1 1 ((1, 1) ∷ []) ∷ goal 1 1 ((1, 4) ∷ []) ∷ []) refl refl tt

-- without its `exact` line it may not be used
no-exact : IsFirstBadFor half_asked (file ("proof 2" ∷ "cond 1" ∷ "goal 1 1 1:4" ∷ "end" ∷ [])) 3
unfolding numeral digits
no-exact = wrong_line _ _ (second ∷ cond 1 ∷ []) (goal 1 1 ((1, 4) ∷ [])) refl refl refl

-- an `exact` line uses facts before its item
exact-by-itself : IsFirstBadFor half_asked (file ("proof 2" ∷ "cond 1" ∷ "exact 1 1 1:2" ∷ "goal 1 1 1:4" ∷ "end" ∷ [])) 3
unfolding numeral digits
exact-by-itself = wrong_line _ _ (second ∷ cond 1 ∷ []) (exact 1 1 ((1, 2) ∷ [])) refl refl refl

-- and only of items that are there
exact-of-nothing : IsFirstBadFor half_asked (file ("proof 2" ∷ "cond 1" ∷ "exact 2 1 1:1" ∷ "goal 1 1 1:4" ∷ "end" ∷ [])) 3
unfolding numeral digits
exact-of-nothing = wrong_line _ _ (second ∷ cond 1 ∷ []) (exact 2 1 ((1, 1) ∷ [])) refl refl refl

-- once for each
exact-twice : IsFirstBadFor half_asked (file ("proof 2" ∷ "cond 1" ∷ "exact 1 1 1:1" ∷ "exact 1 1 1:1" ∷ "goal 1 1 1:4" ∷ "end" ∷ [])) 4
unfolding numeral digits
exact-twice = wrong_line _ _ (second ∷ cond 1 ∷ exact 1 1 ((1, 1) ∷ []) ∷ []) (exact 1 1 ((1, 1) ∷ [])) refl refl refl

-- and before the goals
abbrev easy_asked : Conditions
easy_asked = record { templates = []; list = asks BoundsHigh (site (at 1 1)) half (given [] (pos 1)) ∷ [] }

exact-before-goal : IsRightFor easy_asked (file ("proof 2" ∷ "cond 1" ∷ "exact 1 1 1:1" ∷ "goal 1 1" ∷ "end" ∷ []))
unfolding numeral digits
exact-before-goal = right_by _ _ (second ∷ cond 1 ∷ exact 1 1 ((1, 1) ∷ []) ∷ goal 1 1 [] ∷ []) refl refl tt

exact-behind-goal : IsFirstBadFor easy_asked (file ("proof 2" ∷ "cond 1" ∷ "goal 1 1" ∷ "exact 1 1 1:1" ∷ "end" ∷ [])) 4
unfolding numeral digits
exact-behind-goal = wrong_line _ _ (second ∷ cond 1 ∷ goal 1 1 [] ∷ []) (exact 1 1 ((1, 1) ∷ [])) refl refl refl

-- the same condition twice
abbrev halves_asked : Conditions
halves_asked = record { templates = []; list = halving ∷ halving ∷ [] }

-- an `exact` line is of its condition alone
exact-of-other-condition : IsFirstBadFor halves_asked (file ("proof 2" ∷ "cond 1" ∷ "exact 1 1 1:1" ∷ "goal 1 1 1:4" ∷ "cond 2" ∷ "goal 1 1 1:4" ∷ "end" ∷ [])) 6
unfolding numeral digits
exact-of-other-condition = wrong_line _ _ (second ∷ cond 1 ∷ exact 1 1 ((1, 1) ∷ []) ∷ goal 1 1 ((1, 4) ∷ []) ∷ cond 2 ∷ []) (goal 1 1 ((1, 4) ∷ [])) refl refl refl

-- s0 <= 0 and s0 >= 1
abbrev void_asked : Conditions
void_asked = record { templates = []; list = asks BoundsHigh (site (at 1 1)) (given ((0, pos 1) ∷ []) (pos 0) ∷ given ((0, negsuc 0) ∷ []) (negsuc 0) ∷ []) (given ((1, pos 1) ∷ []) (negsuc 6)) ∷ [] }

-- whatever follows
contradiction : IsRightFor void_asked (file ("proof 1" ∷ "cond 1" ∷ "void 1 1:1 1:2" ∷ "end" ∷ []))
unfolding numeral digits
contradiction = right_by _ _ (first ∷ cond 1 ∷ void 1 ((1, 1) ∷ (1, 2) ∷ []) ∷ []) refl refl tt

-- but not as a consequence
contradiction-as-consequence : IsFirstBadFor void_asked (file ("proof 1" ∷ "cond 1" ∷ "goal 1 1 1:1 1:2" ∷ "end" ∷ [])) 3
unfolding numeral digits
contradiction-as-consequence = wrong_line _ _ (first ∷ cond 1 ∷ []) (goal 1 1 ((1, 1) ∷ (1, 2) ∷ [])) refl refl refl

-- a loop that doubles k
abbrev twice : Linear
twice = record { terms = (0, pos 2) ∷ []; constant = pos 0 }

abbrev steep_asked : Conditions
steep_asked = record { templates = looped (number "k" ∷ []) ∷ []; list = asks LoopAgain (site (at 1 1)) (Of 1 (symbol 0 ∷ []) ∷ []) (Of 1 (twice ∷ [])) ∷ [] }

-- a goal within the bounds follows
shallow : IsRightFor steep_asked (file ("proof 2" ∷ "row 1 32768 k <= 0" ∷ "cond 1" ∷ "goal 1 1 2:1" ∷ "end" ∷ []))
unfolding numeral digits
shallow = right_by _ _ (second ∷ row 1 ((pos 32768, local "k") ∷ []) (pos 0) ∷ cond 1 ∷ goal 1 1 ((2, 1) ∷ []) ∷ []) refl refl tt

-- one that passes them is there, and can't be shown
steep : IsFirstBadFor steep_asked (file ("proof 2" ∷ "row 1 65536 k <= 0" ∷ "cond 1" ∷ "goal 1 1 2:1" ∷ "end" ∷ [])) 4
unfolding numeral digits
steep = wrong_line _ _ (second ∷ row 1 ((pos 65536, local "k") ∷ []) (pos 0) ∷ cond 1 ∷ []) (goal 1 1 ((2, 1) ∷ [])) refl refl refl

-- a condition without goals that has 513 facts
abbrev long_asked : Conditions
long_asked = record { templates = looped (number "k" ∷ []) ∷ []; list = asks LoopAgain (site (at 1 1)) (replicate 513 (given [] (pos 0))) (Of 1 (symbol 0 ∷ [])) ∷ [] }

too-many-facts : IsFirstBadFor long_asked (file ("proof 1" ∷ "cond 1" ∷ "end" ∷ [])) 2
unfolding numeral digits
too-many-facts = wrong_line _ _ (first ∷ []) (cond 1) refl refl refl

-- in version 2 it has no line
not-looked-at : IsRightFor long_asked (file ("proof 2" ∷ "end" ∷ []))
unfolding numeral digits
not-looked-at = right_by _ _ (second ∷ []) refl refl tt

-- a template with two names
abbrev two_names_asked : Conditions
two_names_asked = record { templates = looped (number "i" ∷ number "j" ∷ []) ∷ []; list = [] }

names-in-order : IsRightFor two_names_asked (file ("proof 2" ∷ "row 1 1 i -1 j <= 0" ∷ "end" ∷ []))
unfolding numeral digits
names-in-order = right_by _ _ (second ∷ row 1 ((pos 1, local "i") ∷ (negsuc 0, local "j") ∷ []) (pos 0) ∷ []) refl refl tt

-- the names of a row stand in the order of those of its template
names-out-of-order : IsFirstBadFor two_names_asked (file ("proof 2" ∷ "row 1 -1 j 1 i <= 0" ∷ "end" ∷ [])) 2
unfolding numeral digits
names-out-of-order = wrong_line _ _ (second ∷ []) (row 1 ((negsuc 0, local "j") ∷ (pos 1, local "i") ∷ []) (pos 0)) refl refl refl
