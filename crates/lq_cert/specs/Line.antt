-- Lines of proof files, and how they are spelled.
use Rattle.std.specs.Prelude.{◌≡◌, ℕ, ◌≤◌, ◌^◌, false, List, [], ◌∷◌, ◌++◌, length, map, codes}
use Rattle.std.specs.List.{AllByRecursion, flat_map, join_with_byte}
use Rattle.lq_text.specs.Numeral.{decimal_of}
use Rattle.lq_text.specs.Atom.{IsAtom, has_placeholder, atom_text}
use Rattle.lq_text.specs.Order.{AreInOrder}
use Rattle.lq_text.specs.declared.atom.Atom.{Atom}
use Rattle.lq_text.specs.declared.order.Term.{Term}
use Rattle.lq_linear.specs.Terms.{IsCoefficient, IsWithin}
use Rattle.lq_cert.specs.Right.{IsAllowed}
use Rattle.lq_cert.specs.Numeral.{numeral}
use Rattle.lq_cert.specs.declared.line.Part.{Part}
use Rattle.lq_cert.specs.declared.line.FileVersion.{FileVersion}
use Rattle.lq_cert.specs.declared.line.FileVersion.TheVariants.{One, Two}
use Rattle.lq_cert.specs.declared.line.Line.{Line}
use Rattle.lq_cert.specs.declared.line.Line.TheVariants.{Version, Row, Condition, Exact, Goal, Void, End}

-- an atom of a row: none stands for a local that is still to be chosen (docs/PROOF-FILE.md, "Rows")
abbrev pub IsRowAtom : Atom → Type 0
IsRowAtom atom = IsAtom atom × (has_placeholder atom ≡ false)

-- a term of a row
abbrev pub IsTerm : Term → Type 0
IsTerm term = IsCoefficient term.coefficient × IsRowAtom term.atom

-- the terms of a row (docs/PROOF-FILE.md, "Rows")
pub record AreRowTerms (terms : List Term) : Type 0 where
  pub some : 1 ≤ length terms
  pub few : length terms ≤ 16
  pub are_terms : AllByRecursion IsTerm terms
  pub ordered : AreInOrder (map (λ term. term.atom) terms)

-- a multiple of a fact
abbrev pub IsPart : Part → Type 0
IsPart part = IsAllowed part.multiplier × (1 ≤ part.fact)

-- the multiples of a combination (docs/PROOF-FILE.md, "Combinations")
abbrev pub AreParts : List Part → Type 0
AreParts parts = (length parts ≤ 256) × AllByRecursion IsPart parts

-- what a line must meet by itself (docs/PROOF-FILE.md, "Lines")
abbrev pub IsLine : Line → Type 0
IsLine (Version version) = Unit {0}
IsLine (Row template terms most) = (1 ≤ template) × AreRowTerms terms × IsWithin (2 ^ 40) most
IsLine (Condition number) = 1 ≤ number
IsLine (Exact item divisor parts) = (1 ≤ item) × IsAllowed divisor × AreParts parts
IsLine (Goal goal divisor parts) = (1 ≤ goal) × IsAllowed divisor × AreParts parts
IsLine (Void goal parts) = (1 ≤ goal) × AreParts parts
IsLine End = Unit {0}

-- how many facts a line combines
abbrev pub fact_count : Line → ℕ
fact_count (Exact item divisor parts) = length parts
fact_count (Goal goal divisor parts) = length parts
fact_count (Void goal parts) = length parts
fact_count _ = 0

-- the word of a version
abbrev pub version_text : FileVersion → List ℕ
version_text One = codes "1"
version_text Two = codes "2"

-- the two words of a term
abbrev pub term_words : Term → List (List ℕ)
term_words term = decimal_of term.coefficient ∷ atom_text term.atom ∷ []

-- the word of a part: its two numbers with a colon between them
abbrev pub part_word : Part → List ℕ
part_word part = numeral part.multiplier ++ (codes ":" ++ numeral part.fact)

-- the words of a line (docs/PROOF-FILE.md, "Lines")
abbrev pub line_words : Line → List (List ℕ)
line_words (Version version) = codes "proof" ∷ version_text version ∷ []
line_words (Row template terms most) =
    codes "row" ∷ numeral template ∷ flat_map term_words terms ++ codes "<=" ∷ decimal_of most ∷ []
line_words (Condition number) = codes "cond" ∷ numeral number ∷ []
line_words (Exact item divisor parts) = codes "exact" ∷ numeral item ∷ numeral divisor ∷ map part_word parts
line_words (Goal goal divisor parts) = codes "goal" ∷ numeral goal ∷ numeral divisor ∷ map part_word parts
line_words (Void goal parts) = codes "void" ∷ numeral goal ∷ map part_word parts
line_words End = codes "end" ∷ []

-- the text of a line: its words with one space between them
abbrev pub line_text : Line → List ℕ
line_text line = join_with_byte 32 (line_words line)
