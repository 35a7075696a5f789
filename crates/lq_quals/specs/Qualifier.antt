-- The rows of a line. docs/CHECKING.md, "Qualifier text".
use Rattle.std.specs.Prelude.{◌≡◌, ℕ, ◌<◌, ◌^◌, Bool, true, false, ◌&&◌, ◌||◌, if◌then◌else◌, List, [], ◌∷◌, length, slice_get, Option, Some, None, ℤ, pos, neg_ℤ, ◌-ℤ◌}
use Rattle.std.specs.List.{AllByRecursion, list_any}
use Rattle.lq_text.specs.declared.atom.Subject.{Subject}
use Rattle.lq_text.specs.declared.atom.Subject.TheVariants.{Field, Local, Placeholder, Returned}
use Rattle.lq_text.specs.declared.atom.Atom.{Atom}
use Rattle.lq_text.specs.declared.atom.Atom.TheVariants.{Element, Value, Offset, Length}
use Rattle.lq_linear.specs.Row.{Inequality}
use Rattle.lq_linear.specs.Terms.{AreTerms, IsWithin}
use Rattle.lq_quals.specs.Collect.{constant_of, terms_of}
use Rattle.lq_quals.specs.Comparison.{is_strict}
use Rattle.lq_quals.specs.Term.{signed}
use Rattle.lq_quals.specs.declared.comparison.Relation.TheVariants.{Equal}
use Rattle.lq_quals.specs.declared.comparison.Comparison.{Comparison}
use Rattle.lq_quals.specs.declared.qualifier.Qualifier.{Qualifier}
use Rattle.lq_quals.specs.declared.qualifier.Qualifier.TheVariants as qualifier
use Rattle.lq_quals.specs.declared.qualifier.Kind.{Kind}
use Rattle.lq_quals.specs.declared.qualifier.Kind.TheVariants as kind

-- what the multiples of a comparison are at most: the numbers brought to the other side, and one less where the sides aren't equal
abbrev pub most_of : Comparison → ℤ
most_of c = neg_ℤ (constant_of c.addends) -ℤ (if is_strict c.relation then pos 1 else pos 0)

-- the row of a comparison, or what is opposite to it; symbol k is atom k
abbrev pub row_of : Bool → Comparison → List Atom → Inequality
row_of negated c atoms = record { terms = terms_of negated c.addends 0 atoms; most = signed negated (most_of c) }

-- `A == B` is `A - B <= 0` and `B - A <= 0`; any other comparison is one row
abbrev pub qualifier_of : Comparison → List Atom → Qualifier
qualifier_of c atoms = elim c.relation as (λ _. Qualifier) [ Equal ↦ qualifier.Equal (row_of false c atoms) (row_of true c atoms) | _ ↦ qualifier.AtMost (row_of false c atoms) ]

-- the rows of a qualifier
abbrev pub rows_of : Qualifier → List Inequality
rows_of (qualifier.AtMost row) = row ∷ []
rows_of (qualifier.Equal row opposite) = row ∷ opposite ∷ []

-- the kind of the atoms of a subject
abbrev pub subject_kind : Subject → Kind
subject_kind (Field name) = kind.Field
subject_kind (Local name) = kind.Local
subject_kind (Placeholder name) = kind.Local
subject_kind Returned = kind.Returned

-- the kind of an atom: `@`, of a field, of what a function returns, or of a local
abbrev pub kind_of : Atom → Kind
kind_of Element = kind.Element
kind_of (Value subject) = subject_kind subject
kind_of (Offset subject) = subject_kind subject
kind_of (Length subject) = subject_kind subject

-- two kinds are the same
abbrev pub is_same_kind : Kind → Kind → Bool
is_same_kind kind.Element kind.Element = true
is_same_kind kind.Field kind.Field = true
is_same_kind kind.Local kind.Local = true
is_same_kind kind.Returned kind.Returned = true
is_same_kind _ _ = false

-- there is an atom, of this kind
abbrev pub is_kind_at : Kind → Option Atom → Bool
is_kind_at kind None = false
is_kind_at kind (Some atom) = is_same_kind kind (kind_of atom)

-- one of the terms is a multiple of an atom of this kind
abbrev pub has_kind : Kind → List Atom → List (ℕ × ℤ) → Bool
has_kind kind atoms terms = list_any (λ term. is_kind_at kind (slice_get atoms term.0)) terms

-- atoms that may stand in one line: those of fields not beside others, and `@` not beside those of what a function returns
pub record AreTogether (atoms : List Atom) (terms : List (ℕ × ℤ)) : Type 0 where
  pub one_kind : has_kind kind.Field atoms terms && (has_kind kind.Element atoms terms || (has_kind kind.Local atoms terms || has_kind kind.Returned atoms terms)) ≡ false
  pub apart : has_kind kind.Element atoms terms && has_kind kind.Returned atoms terms ≡ false

-- a row that a line may have
pub record IsGoodRow (atoms : List Atom) (row : Inequality) : Type 0 where
  pub are_terms : AreTerms row.terms
  pub within : IsWithin (2 ^ 40) row.most
  pub some : 0 < length row.terms
  pub together : AreTogether atoms row.terms

-- the rows of a comparison are good
abbrev pub IsGood : Comparison → List Atom → Type 0
IsGood c atoms = AllByRecursion (IsGoodRow atoms) (rows_of (qualifier_of c atoms))
