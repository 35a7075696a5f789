-- What conditions of squares.c come to under its greatest assignment, and rows at their bounds and past them.
use Rattle.std.proofs.Common.{◌≡◌, refl}
use Rattle.std.specs.Prelude.{ℤ, List, [], ◌∷◌, pos, negsuc, true}
use Rattle.lq_linear.specs.Terms.{Term}
use Rattle.lq_linear.specs.Row.{Inequality}
use Rattle.lq_linear.specs.declared.item.Item.{Item}
use Rattle.lq_linear.specs.declared.item.Item.TheVariants.{Holds}
use Rattle.lq_templates.specs.declared.condition.Rule.TheVariants.{Effect, LoopAgain}
use Rattle.lq_templates.specs.declared.condition.Condition.{Condition}
use Rattle.lq_templates.specs.declared.condition.Assign.{Assign}
use Rattle.lq_templates.specs.Conditions.{facts_of, goals_of}
use Rattle.lq_conditions.proofs.worked.Words.{goal, num, pair, row, rows, sum, sym}

abbrev at_most : List Term → ℤ → Inequality
at_most terms most = record { terms = terms; most = most }

abbrev holds : List Term → ℤ → Item
holds terms most = Holds (at_most terms most)

-- the rows that are kept: `@ == i` at template 5, and `0 <= k` at template 6
abbrev greatest : Assign
greatest = record { rows = [] ∷ [] ∷ [] ∷ [] ∷ (at_most ((0, pos 1) ∷ (6, negsuc 0) ∷ []) (pos 0) ∷ at_most ((0, negsuc 0) ∷ (6, pos 1) ∷ []) (pos 0) ∷ []) ∷ (at_most ((5, negsuc 0) ∷ []) (pos 0) ∷ []) ∷ [] }

-- two iterations on one element
abbrev meeting : Condition
meeting = pair 3 3 3 21 3 21 2 true true 0 0
    (row ((3, negsuc 0) ∷ []) (pos 0) ∷ row ((3, pos 1) ∷ (4, negsuc 0) ∷ []) (negsuc 0) ∷ row ((4, pos 1) ∷ []) (pos 4)
    ∷ rows 5 (sym 5 ∷ num 0 ∷ sym 0 ∷ sym 1 ∷ num 0 ∷ sym 2 ∷ sym 3 ∷ []) ∷ rows 5 (sym 5 ∷ num 0 ∷ sym 0 ∷ sym 1 ∷ num 0 ∷ sym 2 ∷ sym 4 ∷ []) ∷ [])

-- its facts, newest first: the element is either index
meeting-facts : facts_of greatest meeting ≡
    holds ((4, pos 1) ∷ (5, negsuc 0) ∷ []) (pos 0) ∷ holds ((4, negsuc 0) ∷ (5, pos 1) ∷ []) (pos 0)
    ∷ holds ((3, pos 1) ∷ (5, negsuc 0) ∷ []) (pos 0) ∷ holds ((3, negsuc 0) ∷ (5, pos 1) ∷ []) (pos 0)
    ∷ holds ((4, pos 1) ∷ []) (pos 4) ∷ holds ((3, pos 1) ∷ (4, negsuc 0) ∷ []) (negsuc 0) ∷ holds ((3, negsuc 0) ∷ []) (pos 0) ∷ []
meeting-facts = refl

meeting-goals : goals_of greatest meeting ≡ at_most [] (negsuc 0) ∷ []
meeting-goals = refl

-- an iteration writes at its index; a goal is not collected
writing-goals : goals_of greatest (goal Effect 3 23 [] (rows 5 (sym 3 ∷ num 0 ∷ sym 0 ∷ sym 1 ∷ num 0 ∷ sym 2 ∷ sym 3 ∷ []))) ≡
    at_most ((3, pos 1) ∷ (3, negsuc 0) ∷ []) (pos 0) ∷ at_most ((3, negsuc 0) ∷ (3, pos 1) ∷ []) (pos 0) ∷ []
writing-goals = refl

-- the constant of a form goes to the other side
again-goals : goals_of greatest (goal LoopAgain 5 3 [] (rows 6 (num 0 ∷ sym 0 ∷ sym 1 ∷ num 0 ∷ sym 2 ∷ sum ((3, pos 1) ∷ []) (pos 1) ∷ []))) ≡
    at_most ((3, negsuc 0) ∷ []) (pos 1) ∷ []
again-goals = refl

-- a row at the bounds is a fact, one past them is none; as a goal it stays
abbrev steep : Assign
steep = record { rows = (at_most ((0, pos 65536) ∷ []) (pos 0) ∷ at_most ((0, pos 1) ∷ (1, pos 65536) ∷ []) (pos 0) ∷ []) ∷ [] }

abbrev sloping : Condition
sloping = goal LoopAgain 1 1 (rows 1 (sym 7 ∷ sym 7 ∷ []) ∷ []) (rows 1 (sym 7 ∷ sym 7 ∷ []))

sloping-facts : facts_of steep sloping ≡ holds ((7, pos 65536) ∷ []) (pos 0) ∷ []
sloping-facts = refl

sloping-goals : goals_of steep sloping ≡ at_most ((7, pos 65536) ∷ []) (pos 0) ∷ at_most ((7, pos 1) ∷ (7, pos 65536) ∷ []) (pos 0) ∷ []
sloping-goals = refl
