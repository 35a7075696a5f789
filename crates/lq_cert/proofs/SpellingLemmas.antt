-- No two numbers, atoms, terms, parts or lines have one spelling.
use Rattle.std.proofs.Common.{◌≡◌, ℕ, ◌+◌, ◌*◌, ◌^◌, ◌<◌, List, [], ◌∷◌, ◌++◌, map, length, length-append, get_or, ℤ, refl, sym, ap, ◌∙◌, arith}
use Rattle.std.specs.Prelude.{codes}
use Rattle.std.specs.List.{AllByRecursion, flat_map}
use Rattle.lq_text.specs.Numeral.{place_value, decimal_of}
use Rattle.lq_linear.specs.Terms.{IsWithin}
use Rattle.lq_cert.specs.Numeral.{numeral}
use Rattle.lq_cert.specs.Line.{IsTerm, IsLine, version_text, term_words, part_word, line_words}
use Rattle.lq_text.specs.Atom.{atom_text}
use Rattle.lq_text.specs.declared.atom.Atom.{Atom}
use Rattle.lq_text.specs.declared.order.Term.{Term}
use Rattle.lq_cert.specs.declared.line.Part.{Part}
use Rattle.lq_cert.specs.declared.line.FileVersion.{FileVersion}
use Rattle.lq_cert.specs.declared.line.FileVersion.TheVariants.{One, Two}
use Rattle.lq_cert.specs.declared.line.Line.{Line}
use Rattle.lq_cert.specs.declared.line.Line.TheVariants.{Version, Row, Condition, Exact, Goal, Void, End}
use Rattle.lq_cert.specs.Split.{Avoids}
use Rattle.lq_cert.specs.Reading.{Consequence, IsWritten, consequence_words, keyword_text}
use Rattle.lq_cert.specs.declared.reading.Keyword.{Keyword}
use Rattle.lq_cert.specs.declared.reading.Keyword.TheVariants as keyword
use Rattle.lq_text.proofs.Lists.{all_weaker, same_split}
use Rattle.lq_text.proofs.NumeralLemmas.{one_value_of}
use Rattle.lq_text.proofs.AtomLemmas.{atom_inject}
use Rattle.lq_cert.proofs.NumbersLemmas.{text_of_within}
use Rattle.lq_cert.proofs.NumeralLemmas.{numeral_digits, place_value-numeral}

pub numeral_inject : (m n : ℕ) → numeral m ≡ numeral n → m ≡ n
numeral_inject m n e = sym (place_value-numeral m) ∙ ap place_value e ∙ place_value-numeral n

pub numeral_avoids : (byte n : ℕ) → 57 < byte → Avoids byte (numeral n)
numeral_avoids byte n other = all_weaker _ _ (λ c d same. omega arith) (numeral n) (numeral_digits n).all

pub decimal_inject : (most : ℕ) (y z : ℤ) → most < 2 ^ 63 → IsWithin most y → IsWithin most z → decimal_of y ≡ decimal_of z → y ≡ z
decimal_inject most y z small h k e =
    one_value_of (decimal_of z) y z (text_of_within most y (decimal_of z) small h e).0 (text_of_within most z (decimal_of z) small k refl).0

-- ---- terms and parts

same_term : (a b : Term) → a.coefficient ≡ b.coefficient → a.atom ≡ b.atom → a ≡ b
same_term a b e f =
    let make : ℤ → Atom → Term = λ c t. record { coefficient = c; atom = t } in
    ap (λ c. make c a.atom) e ∙ ap (λ t. make b.coefficient t) f

term_inject : (a b : Term) → IsTerm a → IsTerm b → decimal_of a.coefficient ≡ decimal_of b.coefficient → atom_text a.atom ≡ atom_text b.atom → a ≡ b
term_inject a b h k e f =
    same_term a b (decimal_inject (2 ^ 16) a.coefficient b.coefficient (omega arith) h.0.within k.0.within e) (atom_inject a.atom b.atom h.1.0 k.1.0 f)

pub terms_inject : (a b : List Term) → AllByRecursion IsTerm a → AllByRecursion IsTerm b → flat_map term_words a ≡ flat_map term_words b → a ≡ b
terms_inject [] [] h k e = refl
terms_inject [] (y ∷ b) h k e = absurd cc
terms_inject (x ∷ a) [] h k e = absurd cc
terms_inject (x ∷ a) (y ∷ b) h k e =
    let coefficient : decimal_of x.coefficient ≡ decimal_of y.coefficient = cc in
    let atom : atom_text x.atom ≡ atom_text y.atom = cc in
    let rest : flat_map term_words a ≡ flat_map term_words b = cc in
    let first = term_inject x y h.0 k.0 coefficient atom in
    let others = terms_inject a b h.1 k.1 rest in
    cc

same_part : (a b : Part) → a.multiplier ≡ b.multiplier → a.fact ≡ b.fact → a ≡ b
same_part a b e f =
    let make : ℕ → ℕ → Part = λ q n. record { multiplier = q; fact = n } in
    ap (λ q. make q a.fact) e ∙ ap (λ n. make b.multiplier n) f

part_inject : (a b : Part) → part_word a ≡ part_word b → a ≡ b
part_inject a b e =
    let r = same_split 58 (numeral a.multiplier) (numeral a.fact) (numeral b.multiplier) (numeral b.fact) (numeral_avoids 58 a.multiplier (omega arith)) (numeral_avoids 58 b.multiplier (omega arith)) e in
    same_part a b (numeral_inject a.multiplier b.multiplier r.0) (numeral_inject a.fact b.fact r.1)

pub parts_inject : (a b : List Part) → map part_word a ≡ map part_word b → a ≡ b
parts_inject [] [] e = refl
parts_inject [] (y ∷ b) e = absurd cc
parts_inject (x ∷ a) [] e = absurd cc
parts_inject (x ∷ a) (y ∷ b) e =
    let first : part_word x ≡ part_word y = cc in
    let rest : map part_word a ≡ map part_word b = cc in
    let same = part_inject x y first in
    let others = parts_inject a b rest in
    cc

-- ---- lines

-- lists that end in two more elements
pub last_two : {X : Type 0} (a b : List X) (u v x y : X) → a ++ u ∷ v ∷ [] ≡ b ++ x ∷ y ∷ [] → (a ≡ b) × (u ≡ x) × (v ≡ y)
last_two [] [] u v x y e = (refl, cc, cc)
last_two [] (q ∷ b) u v x y e = absurd (omega (arith, ap length e, length-append b (x ∷ y ∷ [])))
last_two (p ∷ a) [] u v x y e = absurd (omega (arith, ap length e, length-append a (u ∷ v ∷ [])))
last_two (p ∷ a) (q ∷ b) u v x y e =
    let first : p ≡ q = cc in
    let rest : a ++ u ∷ v ∷ [] ≡ b ++ x ∷ y ∷ [] = cc in
    let r = last_two a b u v x y rest in
    let same : a ≡ b = r.0 in
    (cc, r.1, r.2)

-- the first two bytes of the first word tell the kind of a line
abbrev key : List (List ℕ) → ℕ
key words = get_or (get_or words 0 []) 0 0 * 256 + get_or (get_or words 0 []) 1 0

-- the words of a row behind its keyword
abbrev pub row_words : ℕ → List Term → ℤ → List (List ℕ)
row_words template terms most = numeral template ∷ flat_map term_words terms ++ codes "<=" ∷ decimal_of most ∷ []

-- what the row is whose words these are
pub record IsRowOf (line : Line) (words : List (List ℕ)) : Type 0 where
  pub template : ℕ
  pub terms : List Term
  pub most : ℤ
  pub row : line ≡ Row template terms most
  pub words_are : row_words template terms most ≡ words

pub row_of : (line : Line) (words : List (List ℕ)) → line_words line ≡ codes "row" ∷ words → IsRowOf line words
row_of (Row template terms most) words e = record { template = template; terms = terms; most = most; row = refl; words_are = cc }
row_of _ words e = absurd (omega (arith, ap key e))

pub version_of : (line : Line) (words : List (List ℕ)) → line_words line ≡ codes "proof" ∷ words → (version : FileVersion) × (version_text version ∷ [] ≡ words)
version_of (Version version) words e = (version, cc)
version_of _ words e = absurd (omega (arith, ap key e))

pub exact_of : (line : Line) (words : List (List ℕ)) → IsLine line → line_words line ≡ codes "exact" ∷ words → (c : Consequence) × IsWritten c × (consequence_words c ≡ words)
exact_of (Exact item divisor parts) words h e = ((item, divisor, parts), h, cc)
exact_of _ words h e = absurd (omega (arith, ap key e))

pub goal_of : (line : Line) (words : List (List ℕ)) → IsLine line → line_words line ≡ codes "goal" ∷ words → (c : Consequence) × IsWritten c × (consequence_words c ≡ words)
goal_of (Goal goal divisor parts) words h e = ((goal, divisor, parts), h, cc)
goal_of _ words h e = absurd (omega (arith, ap key e))

-- each line begins with a keyword
pub keyword_of : (line : Line) → (word : Keyword) × (words : List (List ℕ)) × (line_words line ≡ keyword_text word ∷ words)
keyword_of (Version version) = (keyword.Proof, version_text version ∷ [], refl)
keyword_of (Row template terms most) = (keyword.Row, row_words template terms most, refl)
keyword_of (Condition number) = (keyword.Cond, numeral number ∷ [], refl)
keyword_of (Exact item divisor parts) = (keyword.Exact, consequence_words (item, divisor, parts), refl)
keyword_of (Goal goal divisor parts) = (keyword.Goal, consequence_words (goal, divisor, parts), refl)
keyword_of (Void goal parts) = (keyword.Void, numeral goal ∷ map part_word parts, refl)
keyword_of End = (keyword.End, [], refl)

row_inject : (m n : ℕ) (a b : List Term) (y z : ℤ) → AllByRecursion IsTerm a → AllByRecursion IsTerm b → IsWithin (2 ^ 40) y → IsWithin (2 ^ 40) z → row_words m a y ≡ row_words n b z → Row m a y ≡ Row n b z
row_inject m n a b y z h k p q e =
    let template : numeral m ≡ numeral n = cc in
    let rest : flat_map term_words a ++ codes "<=" ∷ decimal_of y ∷ [] ≡ flat_map term_words b ++ codes "<=" ∷ decimal_of z ∷ [] = cc in
    let parts = last_two (flat_map term_words a) (flat_map term_words b) (codes "<=") (decimal_of y) (codes "<=") (decimal_of z) rest in
    let first = numeral_inject m n template in
    let terms = terms_inject a b h k parts.0 in
    let most = decimal_inject (2 ^ 40) y z (omega arith) p q parts.2 in
    cc

consequence_inject : (m n d e : ℕ) (a b : List Part) → consequence_words (m, d, a) ≡ consequence_words (n, e, b) → (m ≡ n) × (d ≡ e) × (a ≡ b)
consequence_inject m n d e a b same =
    let number : numeral m ≡ numeral n = cc in
    let divisor : numeral d ≡ numeral e = cc in
    let parts : map part_word a ≡ map part_word b = cc in
    (numeral_inject m n number, numeral_inject d e divisor, parts_inject a b parts)

version_inject : (a b : FileVersion) → version_text a ≡ version_text b → a ≡ b
version_inject One One e = refl
version_inject One Two e = absurd (omega (arith, ap (λ t. get_or t 0 0) e))
version_inject Two One e = absurd (omega (arith, ap (λ t. get_or t 0 0) e))
version_inject Two Two e = refl

-- no two lines have the same words
pub words_inject : (a b : Line) → IsLine a → IsLine b → line_words a ≡ line_words b → a ≡ b
words_inject (Version a) (Version b) h k e = let same : version_text a ≡ version_text b = cc in ap Version (version_inject a b same)
words_inject (Version a) _ h k e = absurd (omega (arith, ap key e))
words_inject (Row m a y) (Row n b z) h k e =
    let same : row_words m a y ≡ row_words n b z = cc in
    row_inject m n a b y z h.1.are_terms k.1.are_terms h.2 k.2 same
words_inject (Row m a y) _ h k e = absurd (omega (arith, ap key e))
words_inject (Condition m) (Condition n) h k e = let same : numeral m ≡ numeral n = cc in ap Condition (numeral_inject m n same)
words_inject (Condition m) _ h k e = absurd (omega (arith, ap key e))
words_inject (Exact m d a) (Exact n c b) h k e =
    let same : consequence_words (m, d, a) ≡ consequence_words (n, c, b) = cc in
    let parts = consequence_inject m n d c a b same in
    cc (parts.0, parts.1, parts.2)
words_inject (Exact m d a) _ h k e = absurd (omega (arith, ap key e))
words_inject (Goal m d a) (Goal n c b) h k e =
    let same : consequence_words (m, d, a) ≡ consequence_words (n, c, b) = cc in
    let parts = consequence_inject m n d c a b same in
    cc (parts.0, parts.1, parts.2)
words_inject (Goal m d a) _ h k e = absurd (omega (arith, ap key e))
words_inject (Void m a) (Void n b) h k e =
    let number : numeral m ≡ numeral n = cc in
    let parts : map part_word a ≡ map part_word b = cc in
    cc (numeral_inject m n number, parts_inject a b parts)
words_inject (Void m a) _ h k e = absurd (omega (arith, ap key e))
words_inject End End h k e = refl
words_inject End _ h k e = absurd (omega (arith, ap key e))
