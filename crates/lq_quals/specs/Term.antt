-- Terms of a line. docs/CHECKING.md, "Qualifier text".
use Rattle.std.specs.Prelude.{ℕ, Bool, if◌then◌else◌, List, ◌++◌, Option, Some, None, ℤ, pos, neg_ℤ, codes}
use Rattle.lq_text.specs.Atom.{IsAtom, atom_text}
use Rattle.lq_text.specs.Literal.{IsLiteral}
use Rattle.lq_text.specs.Numeral.{place_value}
use Rattle.lq_text.specs.declared.atom.Atom.{Atom}
use Rattle.lq_quals.specs.declared.term.Addend.{Addend}

-- the number, or what is opposite to it
abbrev pub signed : Bool → ℤ → ℤ
signed negated z = if negated then neg_ℤ z else z

-- n times an atom, or the number n where there is no atom; or what is opposite to it
abbrev pub addend : Bool → ℕ → Option Atom → Addend
addend negated n atom = record { coefficient = signed negated (pos n); atom = atom }

-- what a term adds, or subtracts where it is negated
pub data IsTerm (negated : Bool) : List ℕ → Addend → Type 0 where
  number : {text : List ℕ} → IsLiteral text → IsTerm negated text (addend negated (place_value text) None)
  multiple : {text : List ℕ} {atom : Atom} → IsLiteral text → IsAtom atom → IsTerm negated (text ++ (codes "*" ++ atom_text atom)) (addend negated (place_value text) (Some atom))
  single : {atom : Atom} → IsAtom atom → IsTerm negated (atom_text atom) (addend negated 1 (Some atom))
