-- Addends collected, and atoms numbered.
use Rattle.std.proofs.Common.{◌≡◌, ◌<◌, ℕ, suc, ◌+◌, List, [], ◌∷◌, ◌++◌, length, get_or, drop, drop-cons, add-one, Bool, true, false, not, cond, ◌^◌, Option, Some, ℤ, pos, to_z, of_z, sym, ap, subst, ◌∙◌, arith}
use Rattle.std.proofs.lemmas.Int.{ints, to_z-of_z}
use Rattle.std.specs.List.{AllByRecursion, list_any}
use Rattle.std.specs.Int.{w128}
use Rattle.std.specs.Ordering.{int_eq}
use Rattle.std.proofs.lemmas.Bool.{false_from_ne_true}
use Rattle.std.proofs.lemmas.Bool.Decides.{Decides-int_eq}
use Rattle.lq_linear.specs.Terms.{AreTerms, IsCoefficient, IsWithin}
use Rattle.lq_linear.proofs.FormLemmas.{within_more}
use Rattle.lq_text.proofs.Lists.{all_right}
use Rattle.lq_text.specs.declared.atom.Atom.{Atom}
use Rattle.lq_quals.specs.declared.term.Addend.{Addend}
use Rattle.lq_quals.specs.Collect.{same_atom, coefficient_of, stays, with_atom, terms_of}
use Rattle.lq_quals.specs.Term.{signed}

-- the element at a place, and what is behind it
pub drop_here : {X : Type 0} (xs : List X) (i : ℕ) (x : X) → i < length xs → x ≡ get_or xs i x → drop i xs ≡ x ∷ drop (i + 1) xs
drop_here xs i x h e = rw (add-one, drop-cons xs i x) (ap (λ y. y ∷ drop (suc i) xs) (sym e))

-- ---- one atom

-- an atom that is there already
pub atom_among : (all : List Addend) (atoms : List Atom) (o : Option Atom) (atom : Atom) → o ≡ Some atom → list_any (λ other. same_atom atom other) atoms ≡ true → atoms ≡ with_atom all atoms o
atom_among all atoms o atom e is =
    sym (ap (with_atom all atoms) e ∙ ap (λ b. cond b atoms (cond (stays all atom) (atoms ++ atom ∷ []) atoms)) is)

-- an atom that does not stay
pub atom_gone : (all : List Addend) (atoms : List Atom) (o : Option Atom) (atom : Atom) → o ≡ Some atom → list_any (λ other. same_atom atom other) atoms ≡ false → stays all atom ≡ false → atoms ≡ with_atom all atoms o
atom_gone all atoms o atom e out gone =
    sym (ap (with_atom all atoms) e ∙ ap (λ b. cond b atoms (cond (stays all atom) (atoms ++ atom ∷ []) atoms)) out ∙ ap (λ b. cond b (atoms ++ atom ∷ []) atoms) gone)

-- a new atom
pub atom_added : (all : List Addend) (atoms : List Atom) (o : Option Atom) (atom : Atom) → o ≡ Some atom → list_any (λ other. same_atom atom other) atoms ≡ false → stays all atom ≡ true → atoms ++ atom ∷ [] ≡ with_atom all atoms o
atom_added all atoms o atom e out kept =
    sym (ap (with_atom all atoms) e ∙ ap (λ b. cond b atoms (cond (stays all atom) (atoms ++ atom ∷ []) atoms)) out ∙ ap (λ b. cond b (atoms ++ atom ∷ []) atoms) kept)

-- ---- the terms of a row

kept_at : (all : List Addend) (atom : Atom) → ¬ (coefficient_of atom all ≡ pos 0) → stays all atom ≡ true
kept_at all atom h = ap not (false_from_ne_true (int_eq (coefficient_of atom all) (pos 0)) (λ is. h ((Decides-int_eq (coefficient_of atom all) (pos 0)).0 is)))

abbrev Rest : Bool → List Addend → ℕ → List Atom → List (ℕ × ℤ)
Rest negated all n atoms = terms_of negated all n (drop n atoms)

next_term : (negated : Bool) (all : List Addend) (atoms : List Atom) (n : ℕ) (atom : Atom) (sum : ℤ) → n < length atoms → atom ≡ get_or atoms n atom → sum ≡ coefficient_of atom all → ¬ (sum ≡ pos 0) → Rest negated all n atoms ≡ (n, signed negated sum) ∷ Rest negated all (n + 1) atoms
next_term negated all atoms n atom sum h e is some =
    ap (terms_of negated all n) (drop_here atoms n atom h e)
    ∙ ap (λ b. cond b ((n, signed negated (coefficient_of atom all)) ∷ Rest negated all (n + 1) atoms) (Rest negated all (n + 1) atoms)) (kept_at all atom (λ zero. some (is ∙ zero)))
    ∙ ap (λ z. (n, signed negated z) ∷ Rest negated all (n + 1) atoms) (sym is)

-- a small number is held by 128 bits
held : (negated : Bool) (z : ℤ) → IsWithin (2 ^ 16) (signed negated z) → to_z w128 (of_z w128 z) ≡ z
held true z h = to_z-of_z w128 z (omega (arith, ints, h.low, h.high))
held false z h = to_z-of_z w128 z (omega (arith, ints, h.low, h.high))

-- a sum past the bounds of a row is none of a form
pub no_terms : (negated : Bool) (all : List Addend) (atoms : List Atom) (n : ℕ) (atom : Atom) (sum : ℤ) (terms whole : List (ℕ × ℤ)) → n < length atoms → atom ≡ get_or atoms n atom → sum ≡ coefficient_of atom all → ¬ (sum ≡ pos 0) → ¬ IsWithin (2 ^ 40) (signed negated (to_z w128 (of_z w128 sum))) → terms ++ Rest negated all n atoms ≡ whole → ¬ AreTerms whole
no_terms negated all atoms n atom sum terms whole h e is some past so_far are =
    let here = next_term negated all atoms n atom sum h e is some in
    let split : whole ≡ terms ++ ((n, signed negated sum) ∷ Rest negated all (n + 1) atoms) = sym so_far ∙ ap (λ l. terms ++ l) here in
    let each = all_right (λ term. IsCoefficient term.1) terms ((n, signed negated sum) ∷ Rest negated all (n + 1) atoms) (subst (AllByRecursion (λ term. IsCoefficient term.1)) split are.coefficients) in
    past (rw (held negated sum each.0.within) (within_more (2 ^ 16) (2 ^ 40) (signed negated sum) (omega arith) each.0.within))
