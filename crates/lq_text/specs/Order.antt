-- The order of the atoms of a row.
use Rattle.std.specs.Prelude.{◌≡◌, ◌≢◌, ℕ, ◌≤◌, ◌⊎◌, List, [], ◌∷◌, Option, Some, None}
use Rattle.std.specs.List.{AllByRecursion}
use Rattle.lq_text.specs.declared.atom.Subject.{Subject}
use Rattle.lq_text.specs.declared.atom.Subject.TheVariants.{Field, Local, Placeholder, Returned}
use Rattle.lq_text.specs.declared.atom.Atom.{Atom}
use Rattle.lq_text.specs.declared.atom.Atom.TheVariants.{Element, Value, Offset, Length}

-- the subject of an atom, which `@` has none of
abbrev pub subject_of : Atom → Option Subject
subject_of Element = None
subject_of (Value subject) = Some subject
subject_of (Offset subject) = Some subject
subject_of (Length subject) = Some subject

-- the kinds of atoms in the order in which they stand in a row: `@`, fields, locals (and what stands for one), `result` (docs/PROOF-FILE.md, "Rows")
abbrev pub subject_rank : Subject → ℕ
subject_rank (Field name) = 1
subject_rank (Local name) = 2
subject_rank (Placeholder name) = 2
subject_rank Returned = 3

-- the same of atoms
abbrev pub rank : Atom → ℕ
rank Element = 0
rank (Value subject) = subject_rank subject
rank (Offset subject) = subject_rank subject
rank (Length subject) = subject_rank subject

-- `off(w)` and `len(w)` of one subject w
abbrev pub ArePair : Atom → Atom → Type 0
ArePair atom next = (w : Subject) × (atom ≡ Offset w) × (next ≡ Length w)

-- an atom may stand before another: it has no later kind, and another subject
abbrev pub MayPrecede : Atom → Atom → Type 0
MayPrecede atom other = (rank atom ≤ rank other) × (subject_of atom ≢ subject_of other)

-- an atom may stand before these: directly behind `off(w)` also `len(w)` may stand
abbrev pub MayStandBefore : Atom → List Atom → Type 0
MayStandBefore atom [] = Unit {0}
MayStandBefore atom (next ∷ later) = (MayPrecede atom next ⊎ ArePair atom next) × AllByRecursion (MayPrecede atom) later

-- the order of the atoms of a row; so each stands once (docs/PROOF-FILE.md, "Rows")
abbrev pub AreInOrder : List Atom → Type 0
AreInOrder [] = Unit {0}
AreInOrder (atom ∷ atoms) = MayStandBefore atom atoms × AreInOrder atoms
