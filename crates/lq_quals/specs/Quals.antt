-- Files of qualifiers. docs/CHECKING.md, "Qualifier text".
use Rattle.std.specs.Prelude.{◌≡◌, ℕ, ◌+◌, true, false, List, [], ◌∷◌, ◌++◌, length}
use Rattle.lq_text.specs.Numbers.{lines_of}
use Rattle.lq_text.specs.declared.atom.Atom.{Atom}
use Rattle.lq_quals.specs.Spacing.{without_return, without_blanks, is_skipped, IsSpaced}
use Rattle.lq_quals.specs.Comparison.{IsComparison}
use Rattle.lq_quals.specs.Collect.{numbered}
use Rattle.lq_quals.specs.Qualifier.{qualifier_of, IsGood}
use Rattle.lq_quals.specs.declared.comparison.Comparison.{Comparison}
use Rattle.lq_quals.specs.declared.quals.Quals.{Quals}

-- no qualifiers yet
abbrev pub no_quals : Quals
no_quals = record { atoms = []; list = [] }

-- the atoms that a line begins with and those that it adds
abbrev pub atoms_with : List Atom → Comparison → List Atom
atoms_with atoms c = numbered c.addends atoms c.addends

-- the qualifiers and one more
abbrev pub with_comparison : Quals → Comparison → Quals
with_comparison quals c = record { atoms = atoms_with quals.atoms c; list = quals.list ++ qualifier_of c (atoms_with quals.atoms c) ∷ [] }

-- a line behind these qualifiers makes them those: it is skipped, or is a comparison with good rows
pub data ReadsLine (quals : Quals) (line : List ℕ) : Quals → Type 0 where
  skipped : is_skipped (without_blanks (without_return line)) ≡ true → ReadsLine quals line quals
  comparison : {text : List ℕ} {c : Comparison} → IsSpaced (without_return line) text → is_skipped text ≡ false → IsComparison text c → IsGood c (atoms_with quals.atoms c) → ReadsLine quals line (with_comparison quals c)

-- lines one behind the other make of the first qualifiers the last
pub data ReadsLines : Quals → List (List ℕ) → Quals → Type 0 where
  none : {quals : Quals} → ReadsLines quals [] quals
  more : {before between after : Quals} {line : List ℕ} {lines : List (List ℕ)} → ReadsLine before line between → ReadsLines between lines after → ReadsLines before (line ∷ lines) after

-- the text is that of these qualifiers
abbrev pub IsQualsText : List ℕ → Quals → Type 0
IsQualsText text quals = ReadsLines no_quals (lines_of text) quals

-- `line` is the number, from 1, of the first bad line
pub record IsFirstBadLine (text : List ℕ) (line : ℕ) : Type 0 where
  pub before : List (List ℕ)
  pub bad : List ℕ
  pub after : List (List ℕ)
  pub quals : Quals
  pub lines : lines_of text ≡ before ++ bad ∷ after
  pub counted : line ≡ length before + 1
  pub good_before : ReadsLines no_quals before quals
  pub is_bad : (more : Quals) → ¬ ReadsLine quals bad more
