-- What is written of a row, without its blanks, is a comparison.
use Rattle.std.proofs.Common.{◌≡◌, ℕ, suc, ◌+◌, ◌^◌, ◌<◌, Bool, true, false, not, List, [], ◌∷◌, ◌++◌, length, Option, Some, None, ℤ, pos, negsuc, neg_ℤ, refl, sym, subst, arith, append-nil}
use Rattle.std.specs.Prelude.{codes, int_lt, slice_get, unsigned_abs, IsSomeAnd}
use Rattle.std.specs.List.{AllByRecursion}
use Rattle.std.proofs.lemmas.Bool.{le-ltb}
use Rattle.std.proofs.lemmas.Fmt.{digits_value-decimal}
use Rattle.std.proofs.lemmas.Int.{ints}
use Rattle.lq_text.specs.Atom.{IsAtom, atom_text}
use Rattle.lq_text.specs.Numeral.{place_value, decimal_of}
use Rattle.lq_text.specs.declared.atom.Atom.{Atom}
use Rattle.lq_text.proofs.LiteralLemmas.{literal_decimal}
use Rattle.lq_text.proofs.NumeralLemmas.{own}
use Rattle.lq_linear.specs.Terms.{IsCoefficient, IsWithin}
use Rattle.lq_quals.specs.declared.term.Addend.{Addend}
use Rattle.lq_quals.specs.declared.comparison.Relation.{Relation}
use Rattle.lq_quals.specs.declared.comparison.Comparison.{Comparison}
use Rattle.lq_quals.specs.Term.{addend, IsTerm}
use Rattle.lq_quals.specs.Term.IsTerm.{number, multiple}
use Rattle.lq_quals.specs.Side.{AreMore, IsSide}
use Rattle.lq_quals.specs.Side.AreMore.{none, plus, minus}
use Rattle.lq_quals.specs.Side.IsSide.{plain, opposite}
use Rattle.lq_quals.specs.Comparison.{relation_text, is_reversed, IsComparison}
use Rattle.lq_quals.specs.Writing.{multiple_text}

-- the sign of a multiple without its blanks
abbrev pub bare_sign : Bool → Bool → List ℕ
bare_sign true false = []
bare_sign true true = codes "-"
bare_sign false false = codes "+"
bare_sign false true = codes "-"

-- the terms of a row without their blanks
abbrev pub bare_terms : Bool → List Atom → List (ℕ × ℤ) → List ℕ
bare_terms at_front atoms [] = []
bare_terms at_front atoms (term ∷ terms) = bare_sign at_front (int_lt term.1 (pos 0)) ++ (multiple_text term.1 (slice_get atoms term.0) ++ bare_terms false atoms terms)

-- the terms as addends
abbrev pub addends_of : List Atom → List (ℕ × ℤ) → List Addend
addends_of atoms [] = []
addends_of atoms (term ∷ terms) = record { coefficient = term.1; atom = slice_get atoms term.0 } ∷ addends_of atoms terms

-- what a row is at most, as the addend of the other side
abbrev pub most_addend : ℤ → Addend
most_addend most = record { coefficient = neg_ℤ most; atom = None }

-- each term is a multiple, within the bounds, of an atom that is there
abbrev pub AreReadable : List Atom → List (ℕ × ℤ) → Type 0
AreReadable atoms terms = AllByRecursion (λ term. IsCoefficient term.1 × IsSomeAnd (slice_get atoms term.0) IsAtom) terms

-- ---- terms

value_back : (n : ℕ) → n < 2 ^ 63 → place_value (decimal_of (pos n)) ≡ n
value_back n h = digits_value-decimal own n (omega arith)

number_back : (negated : Bool) (n : ℕ) → n < 2 ^ 63 → IsTerm negated (decimal_of (pos n)) (addend negated n None)
number_back negated n h = subst (λ m. IsTerm negated (decimal_of (pos n)) (addend negated m None)) (value_back n h) (number (literal_decimal n h))

multiple_back : (negated : Bool) (n : ℕ) (atom : Atom) → n < 2 ^ 63 → IsAtom atom → IsTerm negated (decimal_of (pos n) ++ (codes "*" ++ atom_text atom)) (addend negated n (Some atom))
multiple_back negated n atom h k = subst (λ m. IsTerm negated (decimal_of (pos n) ++ (codes "*" ++ atom_text atom)) (addend negated m (Some atom))) (value_back n h) (multiple (literal_decimal n h) k)

pub small : (z : ℤ) → IsCoefficient z → unsigned_abs z < 2 ^ 63
small (pos n) h = let high = h.within.high in omega (arith, ints)
small (negsuc n) h = let low = h.within.low in omega (arith, ints)

term_read : (z : ℤ) (o : Option Atom) → IsCoefficient z → IsSomeAnd o IsAtom → IsTerm (int_lt z (pos 0)) (multiple_text z o) (record { coefficient = z; atom = o })
term_read z None h k = absurd k
term_read (pos n) (Some atom) h k =
    let read : IsTerm false (multiple_text (pos n) (Some atom)) (record { coefficient = pos n; atom = Some atom }) = multiple_back false n atom (small (pos n) h) k in
    subst (λ b. IsTerm b (multiple_text (pos n) (Some atom)) (record { coefficient = pos n; atom = Some atom })) (sym (le-ltb n 0 (omega arith))) read
term_read (negsuc n) (Some atom) h k = multiple_back true (suc n) atom (small (negsuc n) h) k

-- ---- sides

more_by : (b : Bool) {text rest : List ℕ} {first : Addend} {later : List Addend} → IsTerm b text first → AreMore false rest later → AreMore false (bare_sign false b ++ (text ++ rest)) (first ∷ later)
more_by false h k = plus h k
more_by true h k = minus h k

side_by : (b : Bool) {text rest : List ℕ} {first : Addend} {later : List Addend} → IsTerm b text first → AreMore false rest later → IsSide false (bare_sign true b ++ (text ++ rest)) (first ∷ later)
side_by false h k = plain h k
side_by true h k = opposite h k

more_read : (atoms : List Atom) (terms : List (ℕ × ℤ)) → AreReadable atoms terms → AreMore false (bare_terms false atoms terms) (addends_of atoms terms)
more_read atoms [] h = none
more_read atoms (term ∷ terms) h = more_by (int_lt term.1 (pos 0)) (term_read term.1 (slice_get atoms term.0) h.0.0 h.0.1) (more_read atoms terms h.1)

side_read : (atoms : List Atom) (terms : List (ℕ × ℤ)) → 0 < length terms → AreReadable atoms terms → IsSide false (bare_terms true atoms terms) (addends_of atoms terms)
side_read atoms [] some h = absurd (omega arith)
side_read atoms (term ∷ terms) some h = side_by (int_lt term.1 (pos 0)) (term_read term.1 (slice_get atoms term.0) h.0.0 h.0.1) (more_read atoms terms h.1)

most_read : (z : ℤ) → IsWithin (2 ^ 40) z → IsSide true (decimal_of z) (most_addend z ∷ [])
most_read (pos n) h =
    let high = h.high in
    let small : n < 2 ^ 63 = omega (arith, ints) in
    subst (λ t. IsSide true t (most_addend (pos n) ∷ [])) (append-nil (decimal_of (pos n))) (plain (number_back true n small) none)
most_read (negsuc n) h =
    let low = h.low in
    let small : suc n < 2 ^ 63 = omega (arith, ints) in
    subst (λ t. IsSide true (45 ∷ t) (most_addend (negsuc n) ∷ [])) (append-nil (decimal_of (pos (suc n)))) (opposite (number_back false (suc n) small) none)

-- ---- comparisons

-- the text of a row without its blanks
abbrev pub bare_row : List Atom → List (ℕ × ℤ) → Relation → ℤ → List ℕ
bare_row atoms terms relation most = bare_terms true atoms terms ++ (relation_text relation ++ decimal_of most)

-- the comparison that it is
abbrev pub written : List Atom → List (ℕ × ℤ) → Relation → ℤ → Comparison
written atoms terms relation most = record { relation = relation; addends = addends_of atoms terms ++ most_addend most ∷ [] }

pub row_read : (atoms : List Atom) (terms : List (ℕ × ℤ)) (relation : Relation) (most : ℤ) → is_reversed relation ≡ false → 0 < length terms → AreReadable atoms terms → IsWithin (2 ^ 40) most → IsComparison (bare_row atoms terms relation most) (written atoms terms relation most)
row_read atoms terms relation most forward some h w = record {
  left = bare_terms true atoms terms;
  right = decimal_of most;
  first = addends_of atoms terms;
  later = most_addend most ∷ [];
  spelled = refl;
  left_side = subst (λ b. IsSide b (bare_terms true atoms terms) (addends_of atoms terms)) (sym forward) (side_read atoms terms some h);
  right_side = subst (λ b. IsSide (not b) (decimal_of most) (most_addend most ∷ [])) (sym forward) (most_read most w);
  joined = refl;
}
