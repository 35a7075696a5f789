-- Atoms numbered: those that a line adds are new, and stay.
use Rattle.std.proofs.Common.{◌≡◌, ◌≢◌, Bool, true, false, cond, List, [], ◌∷◌, ◌++◌, Option, Some, None, refl, sym, ap, ◌∙◌, append_assoc, append-nil}
use Rattle.std.specs.Prelude.{IfSome}
use Rattle.std.specs.List.{AllByRecursion, list_any}
use Rattle.std.proofs.lemmas.Bool.{true≢false, false_from_ne_true, or_parts, or_from, or_left, or_right}
use Rattle.std.proofs.lemmas.Slice.Eq.{bytes_eq-Decides}
use Rattle.lq_text.specs.Atom.{IsAtom}
use Rattle.lq_text.specs.declared.atom.Subject.{Subject}
use Rattle.lq_text.specs.declared.atom.Subject.TheVariants.{Field, Local, Placeholder, Returned}
use Rattle.lq_text.specs.declared.atom.Atom.{Atom}
use Rattle.lq_text.specs.declared.atom.Atom.TheVariants.{Element, Value, Offset, Length}
use Rattle.lq_text.proofs.Lists.{all_joined, all_right}
use Rattle.lq_quals.specs.declared.term.Addend.{Addend}
use Rattle.lq_quals.specs.Collect.{same_subject, same_atom, stays, with_atom, numbered}

-- ---- the same atom

same_subject_self : (s : Subject) → same_subject s s ≡ true
same_subject_self (Field name) = (bytes_eq-Decides name name).1 refl
same_subject_self (Local name) = (bytes_eq-Decides name name).1 refl
same_subject_self (Placeholder name) = (bytes_eq-Decides name name).1 refl
same_subject_self Returned = refl

pub same_atom_self : (a : Atom) → same_atom a a ≡ true
same_atom_self Element = refl
same_atom_self (Value s) = same_subject_self s
same_atom_self (Offset s) = same_subject_self s
same_atom_self (Length s) = same_subject_self s

same_subject_is : (s t : Subject) → same_subject s t ≡ true → s ≡ t
same_subject_is (Field m) (Field n) h = ap Field ((bytes_eq-Decides m n).0 h)
same_subject_is (Local m) (Local n) h = ap Local ((bytes_eq-Decides m n).0 h)
same_subject_is (Placeholder m) (Placeholder n) h = ap Placeholder ((bytes_eq-Decides m n).0 h)
same_subject_is Returned Returned h = refl
same_subject_is s t h = absurd (true≢false (sym h))

same_atom_is : (a b : Atom) → same_atom a b ≡ true → a ≡ b
same_atom_is Element Element h = refl
same_atom_is (Value s) (Value t) h = ap Value (same_subject_is s t h)
same_atom_is (Offset s) (Offset t) h = ap Offset (same_subject_is s t h)
same_atom_is (Length s) (Length t) h = ap Length (same_subject_is s t h)
same_atom_is a b h = absurd (true≢false (sym h))

pub other_atoms : (a b : Atom) → a ≢ b → same_atom a b ≡ false
other_atoms a b apart = false_from_ne_true (same_atom a b) (λ same. apart (same_atom_is a b same))

-- ---- distinct atoms

-- each atom stands once
abbrev pub Distinct : List Atom → Type 0
Distinct [] = Unit {0}
Distinct (atom ∷ atoms) = AllByRecursion (λ later. atom ≢ later) atoms × Distinct atoms

distinct_put : (atoms : List Atom) (atom : Atom) → AllByRecursion (λ each. each ≢ atom) atoms → Distinct atoms → Distinct (atoms ++ atom ∷ [])
distinct_put [] atom h d = (tt, tt)
distinct_put (first ∷ atoms) atom h d = (all_joined (λ later. first ≢ later) atoms (atom ∷ []) d.0 (h.0, tt), distinct_put atoms atom h.1 d.1)

pub distinct_front : (atoms : List Atom) (atom : Atom) (later : List Atom) → Distinct (atoms ++ atom ∷ later) → AllByRecursion (λ each. each ≢ atom) atoms
distinct_front [] atom later d = tt
distinct_front (first ∷ atoms) atom later d = ((all_right (λ x. first ≢ x) atoms (atom ∷ later) d.0).0, distinct_front atoms atom later d.1)

-- the atom is one of these
abbrev pub is_among : Atom → List Atom → Bool
is_among atom atoms = list_any (λ other. same_atom atom other) atoms

not_among : (atoms : List Atom) (atom : Atom) → is_among atom atoms ≡ false → AllByRecursion (λ each. each ≢ atom) atoms
not_among [] atom h = tt
not_among (first ∷ atoms) atom h =
    let parts = or_parts (same_atom atom first) (is_among atom atoms) h in
    (λ same. true≢false (sym (ap (same_atom atom) same ∙ same_atom_self atom) ∙ parts.0), not_among atoms atom parts.1)

pub among_none : (atoms : List Atom) (atom : Atom) → AllByRecursion (λ each. each ≢ atom) atoms → is_among atom atoms ≡ false
among_none [] atom h = refl
among_none (first ∷ atoms) atom h = or_from (same_atom atom first) (is_among atom atoms) (other_atoms atom first (λ same. h.0 (sym same))) (among_none atoms atom h.1)

pub among_here : (atoms : List Atom) (atom : Atom) (later : List Atom) → is_among atom (atoms ++ atom ∷ later) ≡ true
among_here [] atom later = or_left (same_atom atom atom) (is_among atom later) (same_atom_self atom)
among_here (first ∷ atoms) atom later = or_right (same_atom atom first) (is_among atom (atoms ++ atom ∷ later)) (among_here atoms atom later)

-- ---- atoms numbered

-- the atoms behind those before are new and stay
pub record Numbers (all : List Addend) (before after : List Atom) : Type 0 where
  pub added : List Atom
  pub joined : after ≡ before ++ added
  pub stay : AllByRecursion (λ atom. stays all atom ≡ true) added
  pub distinct : Distinct before → Distinct after

numbers_none : (all : List Addend) (atoms : List Atom) → Numbers all atoms atoms
numbers_none all atoms = record { added = []; joined = sym (append-nil atoms); stay = tt; distinct = λ d. d }

numbers_more : {all : List Addend} {a b c : List Atom} → Numbers all a b → Numbers all b c → Numbers all a c
numbers_more {all} {a} g h = record {
  added = g.added ++ h.added;
  joined = h.joined ∙ ap (λ l. l ++ h.added) g.joined ∙ append_assoc a g.added h.added;
  stay = all_joined (λ atom. stays all atom ≡ true) g.added h.added g.stay h.stay;
  distinct = λ d. h.distinct (g.distinct d);
}

numbers_put : (all : List Addend) (atoms : List Atom) (atom : Atom) (among left : Bool) → is_among atom atoms ≡ among → stays all atom ≡ left → Numbers all atoms (cond among atoms (cond left (atoms ++ atom ∷ []) atoms))
numbers_put all atoms atom true left h k = numbers_none all atoms
numbers_put all atoms atom false true h k = record { added = atom ∷ []; joined = refl; stay = (k, tt); distinct = λ d. distinct_put atoms atom (not_among atoms atom h) d }
numbers_put all atoms atom false false h k = numbers_none all atoms

numbers_with : (all : List Addend) (atoms : List Atom) (o : Option Atom) → Numbers all atoms (with_atom all atoms o)
numbers_with all atoms None = numbers_none all atoms
numbers_with all atoms (Some atom) = numbers_put all atoms atom (is_among atom atoms) (stays all atom) refl refl

pub numbers : (all : List Addend) (atoms : List Atom) (addends : List Addend) → Numbers all atoms (numbered all atoms addends)
numbers all atoms [] = numbers_none all atoms
numbers all atoms (x ∷ later) = numbers_more (numbers_with all atoms x.atom) (numbers all (with_atom all atoms x.atom) later)

-- an addend is a number, or a multiple of what is an atom
abbrev pub HasAtom : Addend → Type 0
HasAtom x = IfSome x.atom IsAtom

atoms_put : (among left : Bool) (atoms : List Atom) (atom : Atom) → AllByRecursion IsAtom atoms → IsAtom atom → AllByRecursion IsAtom (cond among atoms (cond left (atoms ++ atom ∷ []) atoms))
atoms_put true left atoms atom h k = h
atoms_put false true atoms atom h k = all_joined IsAtom atoms (atom ∷ []) h (k, tt)
atoms_put false false atoms atom h k = h

atoms_with_one : (all : List Addend) (atoms : List Atom) (o : Option Atom) → AllByRecursion IsAtom atoms → IfSome o IsAtom → AllByRecursion IsAtom (with_atom all atoms o)
atoms_with_one all atoms None h k = h
atoms_with_one all atoms (Some atom) h k = atoms_put (is_among atom atoms) (stays all atom) atoms atom h k

pub numbered_are_atoms : (all : List Addend) (atoms : List Atom) (addends : List Addend) → AllByRecursion IsAtom atoms → AllByRecursion HasAtom addends → AllByRecursion IsAtom (numbered all atoms addends)
numbered_are_atoms all atoms [] h k = h
numbered_are_atoms all atoms (x ∷ later) h k = numbered_are_atoms all (with_atom all atoms x.atom) later (atoms_with_one all atoms x.atom h k.0) k.1
