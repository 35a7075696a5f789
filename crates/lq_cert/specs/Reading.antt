-- What readers tell. Helpers of private functions.
use Rattle.std.specs.Prelude.{ℕ, ◌≤◌, List, ◌∷◌, Option, map, codes}
use Rattle.std.specs.Borrow.{Bor}
use Rattle.lq_cert.specs.Numeral.{numeral}
use Rattle.lq_cert.specs.Right.{IsAllowed}
use Rattle.lq_cert.specs.Line.{AreParts, IsLine, part_word, line_words}
use Rattle.lq_text.specs.Reads.{Reads}
use Rattle.lq_cert.specs.declared.line.Part.{Part}
use Rattle.lq_cert.specs.declared.line.Line.{Line}
use Rattle.lq_cert.specs.declared.reading.Keyword.{Keyword}
use Rattle.lq_cert.specs.declared.reading.Keyword.TheVariants as keyword

-- the words that are lent
abbrev pub texts_of : List (Bor (List ℕ)) → List (List ℕ)
texts_of words = map (λ word. word.now) words

-- the first word of a line of each kind
abbrev pub keyword_text : Keyword → List ℕ
keyword_text keyword.Proof = codes "proof"
keyword_text keyword.Row = codes "row"
keyword_text keyword.Cond = codes "cond"
keyword_text keyword.Exact = codes "exact"
keyword_text keyword.Goal = codes "goal"
keyword_text keyword.Void = codes "void"
keyword_text keyword.End = codes "end"

-- what the words behind a keyword tell
abbrev pub ReadsBehind : Keyword → List (List ℕ) → Option Line → Type 0
ReadsBehind word texts line = Reads IsLine line_words (keyword_text word ∷ texts) line

-- the number, the divisor and the parts of a consequence
abbrev pub Consequence : Type 0
Consequence = ℕ × ℕ × List Part

-- what they must meet
abbrev pub IsWritten : Consequence → Type 0
IsWritten c = (1 ≤ c.0) × IsAllowed c.1 × AreParts c.2

-- their words
abbrev pub consequence_words : Consequence → List (List ℕ)
consequence_words c = numeral c.0 ∷ numeral c.1 ∷ map part_word c.2
