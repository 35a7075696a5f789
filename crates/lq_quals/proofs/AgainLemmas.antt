-- The atoms of a line that stay, each with its multiple: read again they give the same rows.
use Rattle.std.proofs.Common.{◌≡◌, ◌≢◌, ℕ, ◌+◌, Bool, true, false, not, cond, List, [], ◌∷◌, ◌++◌, length, Option, Some, ℤ, pos, neg_ℤ, ◌+ℤ◌, refl, sym, ap, subst, ◌∙◌, arith, append_assoc, append-nil}
use Rattle.std.specs.Prelude.{slice_get}
use Rattle.std.specs.List.{AllByRecursion}
use Rattle.std.specs.Ordering.{int_eq}
use Rattle.std.proofs.lemmas.Bool.{not-false}
use Rattle.std.proofs.lemmas.Bool.Decides.{Decides-int_eq}
use Rattle.std.proofs.lemmas.Int.{ints}
use Rattle.std.proofs.lemmas.List.{length_push}
use Rattle.lq_text.specs.declared.atom.Atom.{Atom}
use Rattle.lq_text.proofs.Lists.{all_right}
use Rattle.lq_quals.specs.declared.term.Addend.{Addend}
use Rattle.lq_quals.specs.Term.{signed}
use Rattle.lq_quals.specs.Collect.{multiple_in, number_in, coefficient_of, constant_of, stays, with_atom, numbered, terms_of}
use Rattle.lq_quals.proofs.NumberingLemmas.{same_atom_self, other_atoms, Distinct, distinct_front, among_none, among_here}
use Rattle.lq_quals.proofs.SpellingLemmas.{addends_of, most_addend}

-- what holds where two other facts hold
pub all_both : {X : Type 0} (P Q R : X → Type 0) → ((x : X) → P x → Q x → R x) → (xs : List X) → AllByRecursion P xs → AllByRecursion Q xs → AllByRecursion R xs
all_both P Q R f [] h k = tt
all_both P Q R f (x ∷ xs) h k = (f x h.0 k.0, all_both P Q R f xs h.1 k.1)

-- the sum of an atom's multiples as one addend
abbrev collected : List Addend → Atom → Addend
collected all atom = record { coefficient = coefficient_of atom all; atom = Some atom }

-- of those of the atoms that stay
abbrev pub again : List Addend → List Atom → List Addend
again all [] = []
again all (atom ∷ atoms) = cond (stays all atom) (collected all atom ∷ again all atoms) (again all atoms)

-- these, and what they are at most
abbrev pub rewritten : List Addend → List Atom → ℤ → List Addend
rewritten all atoms most = again all atoms ++ most_addend most ∷ []

-- ---- multiples

coefficient_joined : (atom : Atom) (a b : List Addend) → coefficient_of atom (a ++ b) ≡ coefficient_of atom a +ℤ coefficient_of atom b
coefficient_joined atom [] b = omega (arith, ints)
coefficient_joined atom (x ∷ a) b = omega (arith, ints, coefficient_joined atom a b)

zero_put : (atom : Atom) (b : Bool) (x : Addend) (xs : List Addend) → multiple_in atom x ≡ pos 0 → coefficient_of atom (cond b (x ∷ xs) xs) ≡ coefficient_of atom xs
zero_put atom true x xs h = omega (arith, ints, h)
zero_put atom false x xs h = refl

other_again : (all : List Addend) (atom first : Atom) (atoms : List Atom) → atom ≢ first → coefficient_of atom (again all (first ∷ atoms)) ≡ coefficient_of atom (again all atoms)
other_again all atom first atoms apart =
    zero_put atom (stays all first) (collected all first) (again all atoms) (ap (λ b. cond b (coefficient_of first all) (pos 0)) (other_atoms atom first apart))

none_again : (all : List Addend) (atom : Atom) (atoms : List Atom) → AllByRecursion (λ later. atom ≢ later) atoms → coefficient_of atom (again all atoms) ≡ pos 0
none_again all atom [] h = refl
none_again all atom (first ∷ atoms) h = other_again all atom first atoms h.0 ∙ none_again all atom atoms h.1

gone : (all : List Addend) (atom : Atom) → stays all atom ≡ false → coefficient_of atom all ≡ pos 0
gone all atom h = (Decides-int_eq (coefficient_of atom all) (pos 0)).0 (not-false (int_eq (coefficient_of atom all) (pos 0)) h)

own_put : (all : List Addend) (atom : Atom) (xs : List Addend) (left : Bool) → stays all atom ≡ left → coefficient_of atom xs ≡ pos 0 → coefficient_of atom (cond left (collected all atom ∷ xs) xs) ≡ coefficient_of atom all
own_put all atom xs true h none =
    let own : multiple_in atom (collected all atom) ≡ coefficient_of atom all = ap (λ b. cond b (coefficient_of atom all) (pos 0)) (same_atom_self atom) in
    ap (λ z. z +ℤ coefficient_of atom xs) own ∙ omega (arith, ints, none)
own_put all atom xs false h none = none ∙ sym (gone all atom h)

same_again : (all : List Addend) (atoms : List Atom) → Distinct atoms → AllByRecursion (λ atom. coefficient_of atom (again all atoms) ≡ coefficient_of atom all) atoms
same_again all [] d = tt
same_again all (first ∷ atoms) d = (
  own_put all first (again all atoms) (stays all first) refl (none_again all first atoms d.0),
  all_both (λ later. first ≢ later) (λ atom. coefficient_of atom (again all atoms) ≡ coefficient_of atom all) (λ atom. coefficient_of atom (again all (first ∷ atoms)) ≡ coefficient_of atom all)
      (λ atom apart same. other_again all atom first atoms (λ e. apart (sym e)) ∙ same) atoms d.0 (same_again all atoms d.1),
)

pub same_coefficients : (all : List Addend) (atoms : List Atom) (most : ℤ) → Distinct atoms → AllByRecursion (λ atom. coefficient_of atom (rewritten all atoms most) ≡ coefficient_of atom all) atoms
same_coefficients all atoms most d =
    all_both (λ atom. coefficient_of atom (again all atoms) ≡ coefficient_of atom all) (λ atom. coefficient_of atom (again all atoms) ≡ coefficient_of atom all) (λ atom. coefficient_of atom (rewritten all atoms most) ≡ coefficient_of atom all)
    (λ atom same _. coefficient_joined atom (again all atoms) (most_addend most ∷ []) ∙ ap (λ z. z +ℤ (pos 0 +ℤ pos 0)) same ∙ omega (arith, ints)) atoms (same_again all atoms d) (same_again all atoms d)

-- sums of multiples alone make the terms
term_put : Bool → ℕ → ℤ → List (ℕ × ℤ) → List (ℕ × ℤ)
term_put negated n z terms = cond (not (int_eq z (pos 0))) ((n, signed negated z) ∷ terms) terms

pub terms_same : (negated : Bool) (a b : List Addend) (first : ℕ) (atoms : List Atom) → AllByRecursion (λ atom. coefficient_of atom a ≡ coefficient_of atom b) atoms → terms_of negated a first atoms ≡ terms_of negated b first atoms
unfolding term_put
terms_same negated a b first [] h = refl
terms_same negated a b first (atom ∷ atoms) h =
    ap (λ z. term_put negated first z (terms_of negated a (first + 1) atoms)) h.0
    ∙ ap (λ ts. term_put negated first (coefficient_of atom b) ts) (terms_same negated a b (first + 1) atoms h.1)

-- ---- numbers

constant_joined : (a b : List Addend) → constant_of (a ++ b) ≡ constant_of a +ℤ constant_of b
constant_joined [] b = omega (arith, ints)
constant_joined (x ∷ a) b = omega (arith, ints, constant_joined a b)

constant_put : (b : Bool) (x : Addend) (xs : List Addend) → number_in x ≡ pos 0 → constant_of (cond b (x ∷ xs) xs) ≡ constant_of xs
constant_put true x xs h = omega (arith, ints, h)
constant_put false x xs h = refl

constant_again : (all : List Addend) (atoms : List Atom) → constant_of (again all atoms) ≡ pos 0
constant_again all [] = refl
constant_again all (atom ∷ atoms) = constant_put (stays all atom) (collected all atom) (again all atoms) refl ∙ constant_again all atoms

pub constant_rewritten : (all : List Addend) (atoms : List Atom) (most : ℤ) → constant_of (rewritten all atoms most) ≡ neg_ℤ most
constant_rewritten all atoms most =
    constant_joined (again all atoms) (most_addend most ∷ []) ∙ ap (λ z. z +ℤ (neg_ℤ most +ℤ pos 0)) (constant_again all atoms) ∙ omega (arith, ints)

-- ---- atoms numbered again

numbered_joined : (all : List Addend) (atoms : List Atom) (a b : List Addend) → numbered all atoms (a ++ b) ≡ numbered all (numbered all atoms a) b
numbered_joined all atoms [] b = refl
numbered_joined all atoms (x ∷ a) b = numbered_joined all (with_atom all atoms x.atom) a b

put_joined : (b : Bool) (x : Addend) (xs ys : List Addend) → cond b (x ∷ (xs ++ ys)) (xs ++ ys) ≡ cond b (x ∷ xs) xs ++ ys
put_joined true x xs ys = refl
put_joined false x xs ys = refl

again_joined : (all : List Addend) (a b : List Atom) → again all (a ++ b) ≡ again all a ++ again all b
again_joined all [] b = refl
again_joined all (atom ∷ a) b =
    ap (λ xs. cond (stays all atom) (collected all atom ∷ xs) xs) (again_joined all a b) ∙ put_joined (stays all atom) (collected all atom) (again all a) (again all b)

known_put : (all : List Addend) (atoms : List Atom) (b : Bool) (x : Addend) (xs : List Addend) → with_atom all atoms x.atom ≡ atoms → numbered all atoms (cond b (x ∷ xs) xs) ≡ numbered all atoms xs
known_put all atoms true x xs h = ap (λ l. numbered all l xs) h
known_put all atoms false x xs h = refl

-- atoms that are there add none
known_again : (all old : List Addend) (front later : List Atom) → numbered all (front ++ later) (again old later) ≡ front ++ later
known_again all old front [] = refl
known_again all old front (atom ∷ later) =
    let whole : List Atom = front ++ atom ∷ later in
    known_put all whole (stays old atom) (collected old atom) (again old later) (ap (λ b. cond b whole (cond (stays all atom) (whole ++ atom ∷ []) whole)) (among_here front atom later))
    ∙ subst (λ l. numbered all l (again old later) ≡ l) (append_assoc front (atom ∷ []) later) (known_again all old (front ++ atom ∷ []) later)

-- new ones that stay are added in their order
new_again : (all old : List Addend) (front later : List Atom) → Distinct (front ++ later) → AllByRecursion (λ atom. stays old atom ≡ true) later → AllByRecursion (λ atom. stays all atom ≡ true) later → numbered all front (again old later) ≡ front ++ later
new_again all old front [] d h k = sym (append-nil front)
new_again all old front (atom ∷ later) d h k =
    let xs : List Addend = again old later in
    let more : List Atom = front ++ atom ∷ [] in
    ap (λ b. numbered all front (cond b (collected old atom ∷ xs) xs)) h.0
    ∙ ap (λ b. numbered all (cond b front (cond (stays all atom) more front)) xs) (among_none front atom (distinct_front front atom later d))
    ∙ ap (λ b. numbered all (cond b more front) xs) k.0
    ∙ new_again all old more later (subst Distinct (sym (append_assoc front (atom ∷ []) later)) d) h.1 k.1
    ∙ append_assoc front (atom ∷ []) later

pub numbered_again : (old : List Addend) (before added : List Atom) (most : ℤ) → Distinct (before ++ added) → AllByRecursion (λ atom. stays old atom ≡ true) added
    → numbered (rewritten old (before ++ added) most) before (rewritten old (before ++ added) most) ≡ before ++ added
numbered_again old before added most d h =
    let all : List Addend = rewritten old (before ++ added) most in
    let same = all_right (λ atom. coefficient_of atom all ≡ coefficient_of atom old) before added (same_coefficients old (before ++ added) most d) in
    let stay : AllByRecursion (λ atom. stays all atom ≡ true) added =
    all_both (λ atom. coefficient_of atom all ≡ coefficient_of atom old) (λ atom. stays old atom ≡ true) (λ atom. stays all atom ≡ true) (λ atom e k. ap (λ z. not (int_eq z (pos 0))) e ∙ k) added same h in
    numbered_joined all before (again old (before ++ added)) (most_addend most ∷ [])
    ∙ ap (numbered all before) (again_joined old before added)
    ∙ numbered_joined all before (again old before) (again old added)
    ∙ ap (λ l. numbered all l (again old added)) (known_again all old [] before)
    ∙ new_again all old before added d h stay

-- ---- the terms of a row as addends

get_here : (front : List Atom) (atom : Atom) (later : List Atom) → slice_get (front ++ atom ∷ later) (length front) ≡ Some atom
get_here [] atom later = refl
get_here (first ∷ front) atom later = get_here front atom later

addend_put : (b : Bool) (atoms : List Atom) (term : ℕ × ℤ) (terms : List (ℕ × ℤ)) (x : Addend) (xs : List Addend) → record { coefficient = term.1; atom = slice_get atoms term.0 } ≡ x → addends_of atoms terms ≡ xs → addends_of atoms (cond b (term ∷ terms) terms) ≡ cond b (x ∷ xs) xs
addend_put true atoms term terms x xs h k = ap (λ y. y ∷ addends_of atoms terms) h ∙ ap (λ l. x ∷ l) k
addend_put false atoms term terms x xs h k = k

pub addends_again : (all : List Addend) (atoms front later rest : List Atom) → atoms ≡ front ++ (later ++ rest) → addends_of atoms (terms_of false all (length front) later) ≡ again all later
addends_again all atoms front [] rest e = refl
addends_again all atoms front (atom ∷ later) rest e =
    let n = length front in
    let made : Option Atom → Addend = λ o. record { coefficient = coefficient_of atom all; atom = o } in
    addend_put (stays all atom) atoms (n, coefficient_of atom all) (terms_of false all (n + 1) later) (collected all atom) (again all later)
    (ap made (ap (λ l. slice_get l n) e ∙ get_here front atom (later ++ rest)))
    (subst (λ m. addends_of atoms (terms_of false all m later) ≡ again all later) (length_push front atom)
    (addends_again all atoms (front ++ atom ∷ []) later rest (e ∙ sym (append_assoc front (atom ∷ []) (later ++ rest)))))
