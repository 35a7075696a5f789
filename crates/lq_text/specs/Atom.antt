-- Atoms of rows and qualifiers, and how they are spelled.
use Rattle.std.specs.Prelude.{◌≢◌, ℕ, Bool, true, false, List, ◌++◌, codes}
use Rattle.lq_text.specs.Name.{IsName}
use Rattle.lq_text.specs.declared.atom.Subject.{Subject}
use Rattle.lq_text.specs.declared.atom.Subject.TheVariants.{Field, Local, Placeholder, Returned}
use Rattle.lq_text.specs.declared.atom.Atom.{Atom}
use Rattle.lq_text.specs.declared.atom.Atom.TheVariants.{Element, Value, Offset, Length}

-- the name of a local that an atom may name (docs/CHECKING.md, "Templates")
abbrev pub IsLocalName : List ℕ → Type 0
IsLocalName text = IsName text × (text ≢ codes "off") × (text ≢ codes "len") × (text ≢ codes "result")

-- the names of a subject are names
abbrev pub IsSubject : Subject → Type 0
IsSubject (Field name) = IsName name
IsSubject (Local name) = IsLocalName name
IsSubject (Placeholder name) = IsName name
IsSubject Returned = Unit {0}

-- how a subject is spelled (docs/CHECKING.md, "Qualifier text")
abbrev pub subject_text : Subject → List ℕ
subject_text (Field name) = codes "." ++ name
subject_text (Local name) = name
subject_text (Placeholder name) = codes "?" ++ name
subject_text Returned = codes "result"

-- the names of an atom are names
abbrev pub IsAtom : Atom → Type 0
IsAtom Element = Unit {0}
IsAtom (Value subject) = IsSubject subject
IsAtom (Offset subject) = IsSubject subject
IsAtom (Length subject) = IsSubject subject

-- how an atom is spelled (docs/CHECKING.md, "Qualifier text")
abbrev pub atom_text : Atom → List ℕ
atom_text Element = codes "@"
atom_text (Value subject) = subject_text subject
atom_text (Offset subject) = codes "off(" ++ (subject_text subject ++ codes ")")
atom_text (Length subject) = codes "len(" ++ (subject_text subject ++ codes ")")

-- the subject stands for a local that is still to be chosen (docs/CHECKING.md, "Qualifier text")
abbrev pub is_placeholder : Subject → Bool
is_placeholder (Placeholder name) = true
is_placeholder subject = false

-- the atom speaks of such a subject; in a row none does
abbrev pub has_placeholder : Atom → Bool
has_placeholder Element = false
has_placeholder (Value subject) = is_placeholder subject
has_placeholder (Offset subject) = is_placeholder subject
has_placeholder (Length subject) = is_placeholder subject
