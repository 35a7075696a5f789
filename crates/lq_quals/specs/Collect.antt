-- Addends collected, and atoms numbered. docs/CHECKING.md, "Qualifier text".
use Rattle.std.specs.Prelude.{ℕ, ◌+◌, Bool, false, true, not, if◌then◌else◌, List, [], ◌∷◌, ◌++◌, Option, Some, None, ℤ, pos, ◌+ℤ◌}
use Rattle.std.specs.List.{list_any}
use Rattle.std.specs.Str.{bytes_eq}
use Rattle.std.specs.Option.{is_some}
use Rattle.std.specs.Ordering.{int_eq}
use Rattle.lq_text.specs.declared.atom.Subject.{Subject}
use Rattle.lq_text.specs.declared.atom.Subject.TheVariants.{Field, Local, Placeholder, Returned}
use Rattle.lq_text.specs.declared.atom.Atom.{Atom}
use Rattle.lq_text.specs.declared.atom.Atom.TheVariants.{Element, Value, Offset, Length}
use Rattle.lq_quals.specs.declared.term.Addend.{Addend}
use Rattle.lq_quals.specs.Term.{signed}

-- two subjects are the same
abbrev pub same_subject : Subject → Subject → Bool
same_subject (Field name) (Field other) = bytes_eq name other
same_subject (Local name) (Local other) = bytes_eq name other
same_subject (Placeholder name) (Placeholder other) = bytes_eq name other
same_subject Returned Returned = true
same_subject _ _ = false

-- two atoms are the same
abbrev pub same_atom : Atom → Atom → Bool
same_atom Element Element = true
same_atom (Value subject) (Value other) = same_subject subject other
same_atom (Offset subject) (Offset other) = same_subject subject other
same_atom (Length subject) (Length other) = same_subject subject other
same_atom _ _ = false

-- how much of an atom an addend is: its coefficient, where it is a multiple of the atom
abbrev pub multiple_in : Atom → Addend → ℤ
multiple_in atom addend = elim addend.atom as (λ _. ℤ) [ None ↦ pos 0 | Some other ↦ if same_atom atom other then addend.coefficient else pos 0 ]

-- the number that an addend is; a multiple of an atom is none
abbrev pub number_in : Addend → ℤ
number_in addend = if is_some addend.atom then pos 0 else addend.coefficient

-- the multiples of an atom added up
abbrev pub coefficient_of : Atom → List Addend → ℤ
coefficient_of atom [] = pos 0
coefficient_of atom (addend ∷ addends) = multiple_in atom addend +ℤ coefficient_of atom addends

-- the numbers added up
abbrev pub constant_of : List Addend → ℤ
constant_of [] = pos 0
constant_of (addend ∷ addends) = number_in addend +ℤ constant_of addends

-- an atom stays where its multiples don't add up to 0
abbrev pub stays : List Addend → Atom → Bool
stays addends atom = not (int_eq (coefficient_of atom addends) (pos 0))

-- the atoms, and behind them this one if it stays and isn't among them
abbrev pub with_atom : List Addend → List Atom → Option Atom → List Atom
with_atom addends atoms None = atoms
with_atom addends atoms (Some atom) =
    if list_any (λ other. same_atom atom other) atoms then atoms else (if stays addends atom then atoms ++ atom ∷ [] else atoms)

-- the atoms, and behind them those of some of the addends that stay and aren't among them, in the order in which they come first
abbrev pub numbered : List Addend → List Atom → List Addend → List Atom
numbered addends atoms [] = atoms
numbered addends atoms (addend ∷ later) = numbered addends (with_atom addends atoms addend.atom) later

-- each of the atoms that stays, numbered from `first` on, with the sum of its multiples, or what is opposite to it
abbrev pub terms_of : Bool → List Addend → ℕ → List Atom → List (ℕ × ℤ)
terms_of negated addends first [] = []
terms_of negated addends first (atom ∷ atoms) =
    if stays addends atom then (first, signed negated (coefficient_of atom addends)) ∷ terms_of negated addends (first + 1) atoms
    else terms_of negated addends (first + 1) atoms
