-- Right proofs of one-store.c.
use Rattle.std.proofs.Common.{◌≡◌, List, [], ◌∷◌, ◌++◌, refl}
use Rattle.std.specs.Prelude.{pos, negsuc}
use Rattle.lq_text.specs.declared.atom.Atom.TheVariants.{Element}
use Rattle.std.specs.Fmt.{digits}
use Rattle.lq_cert.specs.Numeral.{numeral}
use Rattle.lq_templates.proofs.AccessSets.{rounds}
use Rattle.lq_conditions.specs.Conditions.{conditions}
use Rattle.lq_conditions.proofs.worked.OneStore.{one_store}
use Rattle.lq_verdict.specs.Audit.{IsRightFor}
use Rattle.lq_verdict.proofs.worked.Files.{file, first, second, row, cond, goal, field, right_by}
use Rattle.lq_templates.specs.declared.condition.Given.{Given}
use Rattle.lq_templates.specs.declared.condition.Given.TheVariants.{Fixed, Of}
use Rattle.lq_templates.specs.declared.condition.Rule.TheVariants.{BoundsHigh, BoundsLow, Effect, Fold}
use Rattle.lq_templates.specs.declared.condition.Conditions.{Conditions}
use Rattle.lq_templates.specs.Conditions.{site, asks}
use Rattle.lq_linear.specs.Terms.{Term}
use Rattle.lq_linear.specs.Collect.{constant, symbol}
use Rattle.lq_linear.specs.declared.item.Item.TheVariants.{Holds}
use Rattle.lq_meaning.proofs.worked.SourceWords.{at}
use Rattle.lq_templates.proofs.worked.Words.{classes, records, number, writes}
use Rattle.std.specs.Prelude.{ℤ}

abbrev pub given : List Term → ℤ → Given
given terms most = Fixed (Holds (record { terms = terms; most = most }))

abbrev block : List Given
block = given ((0, negsuc 0) ∷ []) (negsuc 0) ∷ given ((0, pos 1) ∷ []) (pos 2) ∷ given ((0, negsuc 0) ∷ []) (negsuc 1) ∷ []

-- the conditions of one-store.c
abbrev pub one_store_asked : Conditions
one_store_asked = record {
  templates = records 1 (number ".word" ∷ []) ∷ writes 0 1 1 1 0 [] ∷ [];
  list =
      asks Fold (site (at 2 3)) [] (Of 1 (constant (pos 0) ∷ [])) ∷ asks BoundsLow (site (at 3 3)) block (given [] (pos 1))
      ∷ asks BoundsHigh (site (at 3 3)) block (given ((0, negsuc 0) ∷ []) (negsuc 1)) ∷ asks Effect (site (at 3 3)) (block ++ Of 1 (symbol 1 ∷ []) ∷ []) (Of 2 (constant (pos 1) ∷ []))
      ∷ asks Fold (site (at 4 3)) (block ++ Of 1 (symbol 1 ∷ []) ∷ []) (Of 1 (constant (pos 7) ∷ [])) ∷ [];
}

-- they are those of the program
one-store-asked : conditions one_store (classes ((0, 0, 1) ∷ [])) (rounds one_store (classes ((0, 0, 1) ∷ [])) 1) ≡ one_store_asked
one-store-asked = refl

-- the proof of one store
one-store : IsRightFor one_store_asked (file ("proof 1" ∷ "cond 1" ∷ "cond 2" ∷ "goal 1 1" ∷ "cond 3" ∷ "goal 1 1 1:3" ∷ "cond 4" ∷ "cond 5" ∷ "end" ∷ []))
unfolding numeral digits
one-store = right_by _ _ (first ∷ cond 1 ∷ cond 2 ∷ goal 1 1 [] ∷ cond 3 ∷ goal 1 1 ((1, 3) ∷ []) ∷ cond 4 ∷ cond 5 ∷ []) refl refl tt

-- another multiple and divisor
other-multiple : IsRightFor one_store_asked (file ("proof 1" ∷ "cond 1" ∷ "cond 2" ∷ "goal 1 1" ∷ "cond 3" ∷ "goal 1 2 2:3" ∷ "cond 4" ∷ "cond 5" ∷ "end" ∷ []))
unfolding numeral digits
other-multiple = right_by _ _ (first ∷ cond 1 ∷ cond 2 ∷ goal 1 1 [] ∷ cond 3 ∷ goal 1 2 ((2, 3) ∷ []) ∷ cond 4 ∷ cond 5 ∷ []) refl refl tt

-- a row that no qualifier gave
row-of-its-own : IsRightFor one_store_asked (file ("proof 1" ∷ "row 2 -1 @ <= -1" ∷ "cond 1" ∷ "cond 2" ∷ "goal 1 1" ∷ "cond 3" ∷ "goal 1 1 1:3" ∷ "cond 4" ∷ "goal 1 1" ∷ "cond 5" ∷ "end" ∷ []))
unfolding numeral digits
row-of-its-own = right_by _ _ (first ∷ row 2 ((negsuc 0, Element) ∷ []) (negsuc 0) ∷ cond 1 ∷ cond 2 ∷ goal 1 1 [] ∷ cond 3 ∷ goal 1 1 ((1, 3) ∷ []) ∷ cond 4 ∷ goal 1 1 [] ∷ cond 5 ∷ []) refl refl tt

-- a divisor that doesn't divide rounds in the right direction
two-facts-and-divisor : IsRightFor one_store_asked (file ("proof 1" ∷ "cond 1" ∷ "cond 2" ∷ "goal 1 1" ∷ "cond 3" ∷ "goal 1 2 1:1 1:3" ∷ "cond 4" ∷ "cond 5" ∷ "end" ∷ []))
unfolding numeral digits
two-facts-and-divisor = right_by _ _ (first ∷ cond 1 ∷ cond 2 ∷ goal 1 1 [] ∷ cond 3 ∷ goal 1 2 ((1, 1) ∷ (1, 3) ∷ []) ∷ cond 4 ∷ cond 5 ∷ []) refl refl tt

-- a multiple that no literal gives
multiple-of-three : IsRightFor one_store_asked (file ("proof 1" ∷ "cond 1" ∷ "cond 2" ∷ "goal 1 1" ∷ "cond 3" ∷ "goal 1 3 3:3" ∷ "cond 4" ∷ "cond 5" ∷ "end" ∷ []))
unfolding numeral digits
multiple-of-three = right_by _ _ (first ∷ cond 1 ∷ cond 2 ∷ goal 1 1 [] ∷ cond 3 ∷ goal 1 3 ((3, 3) ∷ []) ∷ cond 4 ∷ cond 5 ∷ []) refl refl tt

-- a row on the records
row-on-record : IsRightFor one_store_asked (file ("proof 1" ∷ "row 1 1 .word <= 7" ∷ "cond 1" ∷ "goal 1 1" ∷ "cond 2" ∷ "goal 1 1" ∷ "cond 3" ∷ "goal 1 1 1:3" ∷ "cond 4" ∷ "cond 5" ∷ "goal 1 1" ∷ "end" ∷ []))
unfolding numeral digits
row-on-record = right_by _ _ (first ∷ row 1 ((pos 1, field "word") ∷ []) (pos 7) ∷ cond 1 ∷ goal 1 1 [] ∷ cond 2 ∷ goal 1 1 [] ∷ cond 3 ∷ goal 1 1 ((1, 3) ∷ []) ∷ cond 4 ∷ cond 5 ∷ goal 1 1 [] ∷ []) refl refl tt

-- the largest coefficient and constant of a row
row-largest : IsRightFor one_store_asked (file ("proof 1" ∷ "row 2 65536 @ <= 1099511627776" ∷ "cond 1" ∷ "cond 2" ∷ "goal 1 1" ∷ "cond 3" ∷ "goal 1 1 1:3" ∷ "cond 4" ∷ "goal 1 1" ∷ "cond 5" ∷ "end" ∷ []))
unfolding numeral digits
row-largest = right_by _ _ (first ∷ row 2 ((pos 65536, Element) ∷ []) (pos 1099511627776) ∷ cond 1 ∷ cond 2 ∷ goal 1 1 [] ∷ cond 3 ∷ goal 1 1 ((1, 3) ∷ []) ∷ cond 4 ∷ goal 1 1 [] ∷ cond 5 ∷ []) refl refl tt

-- two rows of one template
two-rows : IsRightFor one_store_asked (file ("proof 1" ∷ "row 2 -1 @ <= -1" ∷ "row 2 1 @ <= 1" ∷ "cond 1" ∷ "cond 2" ∷ "goal 1 1" ∷ "cond 3" ∷ "goal 1 1 1:3" ∷ "cond 4" ∷ "goal 1 1" ∷ "goal 2 1" ∷ "cond 5" ∷ "end" ∷ []))
unfolding numeral digits
two-rows = right_by _ _ (first ∷ row 2 ((negsuc 0, Element) ∷ []) (negsuc 0) ∷ row 2 ((pos 1, Element) ∷ []) (pos 1) ∷ cond 1 ∷ cond 2 ∷ goal 1 1 [] ∷ cond 3 ∷ goal 1 1 ((1, 3) ∷ []) ∷ cond 4 ∷ goal 1 1 [] ∷ goal 2 1 [] ∷ cond 5 ∷ []) refl refl tt

-- the second version has only the conditions with a goal
second-version : IsRightFor one_store_asked (file ("proof 2" ∷ "cond 2" ∷ "goal 1 1" ∷ "cond 3" ∷ "goal 1 1 1:3" ∷ "end" ∷ []))
unfolding numeral digits
second-version = right_by _ _ (second ∷ cond 2 ∷ goal 1 1 [] ∷ cond 3 ∷ goal 1 1 ((1, 3) ∷ []) ∷ []) refl refl tt

-- a row makes a condition that has a goal
second-version-row : IsRightFor one_store_asked (file ("proof 2" ∷ "row 2 -1 @ <= -1" ∷ "cond 2" ∷ "goal 1 1" ∷ "cond 3" ∷ "goal 1 1 1:3" ∷ "cond 4" ∷ "goal 1 1" ∷ "end" ∷ []))
unfolding numeral digits
second-version-row = right_by _ _ (second ∷ row 2 ((negsuc 0, Element) ∷ []) (negsuc 0) ∷ cond 2 ∷ goal 1 1 [] ∷ cond 3 ∷ goal 1 1 ((1, 3) ∷ []) ∷ cond 4 ∷ goal 1 1 [] ∷ []) refl refl tt
