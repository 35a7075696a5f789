-- Qualifiers written. docs/CHECKING.md, "Qualifier text".
use Rattle.std.specs.Prelude.{ℕ, Bool, true, false, List, [], ◌∷◌, ◌++◌, slice_get, Option, Some, None, ℤ, pos, int_lt, unsigned_abs, codes}
use Rattle.std.specs.List.{flat_map}
use Rattle.lq_text.specs.Atom.{atom_text}
use Rattle.lq_text.specs.Numeral.{decimal_of}
use Rattle.lq_text.specs.declared.atom.Atom.{Atom}
use Rattle.lq_linear.specs.Row.{Inequality}
use Rattle.lq_quals.specs.declared.qualifier.Qualifier.{Qualifier}
use Rattle.lq_quals.specs.declared.qualifier.Qualifier.TheVariants as qualifier
use Rattle.lq_quals.specs.declared.quals.Quals.{Quals}

-- what stands before a multiple, at the front of a row or not, negative or not
abbrev pub sign_text : Bool → Bool → List ℕ
sign_text true false = []
sign_text true true = codes "-"
sign_text false false = codes " + "
sign_text false true = codes " - "

-- the text of an atom, if there is one
abbrev pub atom_text_at : Option Atom → List ℕ
atom_text_at None = []
atom_text_at (Some atom) = atom_text atom

-- a multiple of an atom, without its sign
abbrev pub multiple_text : ℤ → Option Atom → List ℕ
multiple_text z atom = decimal_of (pos (unsigned_abs z)) ++ (codes "*" ++ atom_text_at atom)

-- a term, at the front of a row or behind another
abbrev pub term_text : Bool → List Atom → ℕ × ℤ → List ℕ
term_text at_front atoms term = sign_text at_front (int_lt term.1 (pos 0)) ++ multiple_text term.1 (slice_get atoms term.0)

-- the terms of a row, or what is left of them behind others
abbrev pub terms_text : Bool → List Atom → List (ℕ × ℤ) → List ℕ
terms_text at_front atoms [] = []
terms_text at_front atoms (term ∷ terms) = term_text at_front atoms term ++ terms_text false atoms terms

-- a row with this between its terms and what they are at most
abbrev pub row_text : List Atom → List ℕ → Inequality → List ℕ
row_text atoms between row = terms_text true atoms row.terms ++ (between ++ decimal_of row.most)

-- a qualifier: its first row
abbrev pub qualifier_text : List Atom → Qualifier → List ℕ
qualifier_text atoms (qualifier.AtMost row) = row_text atoms (codes " <= ") row
qualifier_text atoms (qualifier.Equal row opposite) = row_text atoms (codes " == ") row

-- one line for each qualifier
abbrev pub quals_text : Quals → List ℕ
quals_text quals = flat_map (λ each. qualifier_text quals.atoms each ++ 10 ∷ []) quals.list
