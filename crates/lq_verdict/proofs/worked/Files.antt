-- Proof files told line by line, and tests that tell where they are right.
use Prim.Native.String.{String}
use Rattle.std.proofs.Common.{◌≡◌, ◌≢◌, ℕ, suc, ◌+◌, ◌<◌, Bool, true, false, not, List, [], ◌∷◌, ◌++◌, length, map, reverse, get_or, drop, refl, sym, ap, subst, ◌∙◌, ◌^◌, inl, arith}
use Rattle.std.specs.Prelude.{◌&&◌, ◌||◌, ◌==◌, nat_lt, nat_le, ℤ, pos, codes}
use Rattle.std.specs.List.{list_all, list_any, flat_map, slice_split}
use Rattle.std.specs.Ordering.{int_eq}
use Rattle.std.specs.Str.{bytes_eq}
use Rattle.std.proofs.lemmas.Bool.{true≢false, and_parts, leb-true, ltb-true}
use Rattle.std.proofs.lemmas.Bool.Decides.{Decides-eqb, Decides-int_eq}
use Rattle.std.proofs.lemmas.List.Sums.{AllPass-from_list_all}
use Rattle.lq_text.specs.Byte.{is_letter, is_name_byte}
use Rattle.lq_text.specs.Word.{is_reserved}
use Rattle.lq_text.specs.Name.{IsName}
use Rattle.lq_text.specs.Numbers.{lines_of}
use Rattle.lq_text.specs.declared.atom.Subject.TheVariants.{Field, Local, Placeholder, Returned}
use Rattle.lq_text.specs.declared.atom.Atom.{Atom}
use Rattle.lq_text.specs.declared.atom.Atom.TheVariants.{Element, Value, Offset, Length}
use Rattle.lq_text.specs.declared.order.Term.{Term}
use Rattle.lq_text.specs.Order.{MayPrecede}
use Rattle.lq_linear.specs.Collect.{is_within}
use Rattle.lq_symbolic.proofs.Collected.{within_if}
use Rattle.lq_cert.specs.Line.{IsRowAtom, IsTerm, AreRowTerms, IsPart, AreParts, IsLine, fact_count, version_text, line_words, line_text}
use Rattle.lq_cert.specs.ProofFile.{most_facts, IsLineOf, AreLines, lines_text}
use Rattle.lq_cert.specs.declared.line.Part.{Part}
use Rattle.lq_cert.specs.declared.line.FileVersion.{FileVersion}
use Rattle.lq_cert.specs.declared.line.FileVersion.TheVariants.{One, Two}
use Rattle.lq_cert.specs.declared.line.Line.{Line}
use Rattle.lq_cert.specs.declared.line.Line.TheVariants.{Version, Row, Condition as Begins, Exact, Goal, Void, End}
use Rattle.lq_cert.proofs.FileLemmas.{line_inject}
use Rattle.lq_cert.proofs.InkLemmas.{split_words}
use Rattle.lq_cert.proofs.SpellingLemmas.{version_of}
use Rattle.lq_templates.specs.declared.condition.Conditions.{Conditions}
use Rattle.lq_verdict.specs.Audit.{IsRightBehind, AreRight, HasEnded, IsRightFor, IsBad, IsFirstBadFor}
use Rattle.lq_verdict.proofs.Deciding.{all_if, if_not, is_allowed, decides_allowed}
use Rattle.lq_verdict.proofs.DecidingLines.{is_right_behind, decides_behind, are_right, decides_lines}

-- ---- short words

-- the text of lines
abbrev pub file : List String → List ℕ
file lines = flat_map (λ line. codes line ++ 10 ∷ []) lines

abbrev parts_of : List (ℕ × ℕ) → List Part
parts_of parts = map (λ (p : ℕ × ℕ). record { multiplier = p.0; fact = p.1 }) parts

abbrev pub first : Line
first = Version One

abbrev pub second : Line
second = Version Two

abbrev pub row : (template : ℕ) → List (ℤ × Atom) → ℤ → Line
row template terms most = Row template (map (λ (t : ℤ × Atom). record { coefficient = t.0; atom = t.1 }) terms) most

abbrev pub cond : ℕ → Line
cond number = Begins number

abbrev pub exact : (item divisor : ℕ) → List (ℕ × ℕ) → Line
exact item divisor parts = Exact item divisor (parts_of parts)

abbrev pub goal : (goal divisor : ℕ) → List (ℕ × ℕ) → Line
goal number divisor parts = Goal number divisor (parts_of parts)

abbrev pub void : (goal : ℕ) → List (ℕ × ℕ) → Line
void number parts = Void number (parts_of parts)

abbrev pub field : String → Atom
field name = Value (Field (codes name))

abbrev pub local : String → Atom
local name = Value (Local (codes name))

-- ---- lines that are well-formed by themselves

abbrev is_name_text : List ℕ → Bool
is_name_text [] = false
is_name_text (byte ∷ more) = is_letter byte && (list_all is_name_byte more && not (is_reserved (byte ∷ more)))

a_name : (text : List ℕ) → is_name_text text ≡ true → IsName text
a_name [] e = absurd (true≢false (sym e))
a_name (byte ∷ more) e =
    let outer = and_parts (is_letter byte) _ e in
    let inner = and_parts (list_all is_name_byte more) (not (is_reserved (byte ∷ more))) outer.1 in
    record { identifier = (outer.0, AllPass-from_list_all is_name_byte more inner.0); free = if_not (is_reserved (byte ∷ more)) inner.1 }

-- atoms as they stand in these files: `@`, a field, a local of one letter
abbrev is_plain : Atom → Bool
is_plain Element = true
is_plain (Value (Field name)) = is_name_text name
is_plain (Value (Local (letter ∷ []))) = is_name_text (letter ∷ [])
is_plain atom = false

longer : (letter : ℕ) (text : List ℕ) → nat_le 2 (length text) ≡ true → letter ∷ [] ≢ text
longer letter text long e = let count = leb-true 2 (length text) long in absurd (omega (arith, count, ap length e))

a_plain : (atom : Atom) → is_plain atom ≡ true → IsRowAtom atom
a_plain Element e = (tt, refl)
a_plain (Value (Field name)) e = (a_name name e, refl)
a_plain (Value (Local [])) e = absurd (true≢false (sym e))
a_plain (Value (Local (letter ∷ []))) e = ((a_name (letter ∷ []) e, longer letter (codes "off") refl, longer letter (codes "len") refl, longer letter (codes "result") refl), refl)
a_plain (Value (Local (letter ∷ next ∷ more))) e = absurd (true≢false (sym e))
a_plain (Value (Placeholder name)) e = absurd (true≢false (sym e))
a_plain (Value Returned) e = absurd (true≢false (sym e))
a_plain (Offset subject) e = absurd (true≢false (sym e))
a_plain (Length subject) e = absurd (true≢false (sym e))

abbrev is_term : Term → Bool
is_term term = not (int_eq term.coefficient (pos 0)) && (is_within (2 ^ 16) term.coefficient && is_plain term.atom)

a_term : (term : Term) → is_term term ≡ true → IsTerm term
a_term term e =
    let outer = and_parts (not (int_eq term.coefficient (pos 0))) _ e in
    let inner = and_parts (is_within (2 ^ 16) term.coefficient) (is_plain term.atom) outer.1 in
    (record { not_zero = λ zero. true≢false (sym ((Decides-int_eq term.coefficient (pos 0)).1 zero) ∙ if_not (int_eq term.coefficient (pos 0)) outer.0); within = within_if (2 ^ 16) term.coefficient inner.0 }, a_plain term.atom inner.1)

-- `@` may stand before a field, and a local before another
abbrev may_precede : Atom → Atom → Bool
may_precede Element (Value (Field name)) = true
may_precede (Value (Local (letter ∷ []))) (Value (Local (other ∷ []))) = not (letter == other)
may_precede atom other = false

in_order : (atom other : Atom) → may_precede atom other ≡ true → MayPrecede atom other
in_order Element (Value (Field name)) e = (omega arith, λ same. absurd cc)
in_order (Value (Local (letter ∷ []))) (Value (Local (other ∷ []))) e =
    (omega arith, λ same. let one : letter ≡ other = cc in true≢false (sym ((Decides-eqb letter other).1 one) ∙ if_not (letter == other) e))
in_order _ _ e = absurd (true≢false (sym e))

-- one term, or two
abbrev are_terms : List Term → Bool
are_terms [] = false
are_terms (term ∷ []) = is_term term
are_terms (term ∷ other ∷ []) = (is_term term && is_term other) && may_precede term.atom other.atom
are_terms (term ∷ other ∷ next ∷ terms) = false

some_terms : (terms : List Term) → are_terms terms ≡ true → AreRowTerms terms
some_terms [] e = absurd (true≢false (sym e))
some_terms (term ∷ []) e = record { some = omega arith; few = omega arith; are_terms = (a_term term e, tt); ordered = (tt, tt) }
some_terms (term ∷ other ∷ []) e =
    let outer = and_parts (is_term term && is_term other) (may_precede term.atom other.atom) e in
    let terms = and_parts (is_term term) (is_term other) outer.0 in
    record {
      some = omega arith;
      few = omega arith;
      are_terms = (a_term term terms.0, (a_term other terms.1, tt));
      ordered = ((inl (in_order term.atom other.atom outer.1), tt), (tt, tt));
    }
some_terms (term ∷ other ∷ next ∷ terms) e = absurd (true≢false (sym e))

abbrev is_part : Part → Bool
is_part part = is_allowed part.multiplier && nat_le 1 part.fact

a_part : (part : Part) → is_part part ≡ true → IsPart part
a_part part e = let both = and_parts (is_allowed part.multiplier) (nat_le 1 part.fact) e in ((decides_allowed part.multiplier).0 both.0, leb-true 1 part.fact both.1)

abbrev are_parts : List Part → Bool
are_parts parts = nat_le (length parts) 256 && list_all is_part parts

some_parts : (parts : List Part) → are_parts parts ≡ true → AreParts parts
some_parts parts e = let both = and_parts (nat_le (length parts) 256) (list_all is_part parts) e in (leb-true (length parts) 256 both.0, all_if IsPart is_part a_part parts both.1)

abbrev is_line : Line → Bool
is_line (Version version) = true
is_line (Row template terms most) = nat_le 1 template && (are_terms terms && is_within (2 ^ 40) most)
is_line (Begins number) = nat_le 1 number
is_line (Exact item divisor parts) = nat_le 1 item && (is_allowed divisor && are_parts parts)
is_line (Goal goal divisor parts) = nat_le 1 goal && (is_allowed divisor && are_parts parts)
is_line (Void goal parts) = nat_le 1 goal && are_parts parts
is_line End = true

a_line : (line : Line) → is_line line ≡ true → IsLine line
a_line (Version version) e = tt
a_line (Row template terms most) e =
    let outer = and_parts (nat_le 1 template) _ e in
    let inner = and_parts (are_terms terms) (is_within (2 ^ 40) most) outer.1 in
    (leb-true 1 template outer.0, some_terms terms inner.0, within_if (2 ^ 40) most inner.1)
a_line (Begins number) e = leb-true 1 number e
a_line (Exact item divisor parts) e =
    let outer = and_parts (nat_le 1 item) _ e in
    let inner = and_parts (is_allowed divisor) (are_parts parts) outer.1 in
    (leb-true 1 item outer.0, (decides_allowed divisor).0 inner.0, some_parts parts inner.1)
a_line (Goal goal divisor parts) e =
    let outer = and_parts (nat_le 1 goal) _ e in
    let inner = and_parts (is_allowed divisor) (are_parts parts) outer.1 in
    (leb-true 1 goal outer.0, (decides_allowed divisor).0 inner.0, some_parts parts inner.1)
a_line (Void goal parts) e = let both = and_parts (nat_le 1 goal) (are_parts parts) e in (leb-true 1 goal both.0, some_parts parts both.1)
a_line End e = tt

abbrev is_line_of : List Line → Line → Bool
is_line_of lines line = is_line line && nat_le (fact_count line) (most_facts lines)

abbrev are_lines : List Line → Bool
are_lines lines = list_all (is_line_of lines) lines

some_lines : (lines : List Line) → are_lines lines ≡ true → AreLines lines
some_lines lines e =
    all_if (IsLineOf lines) (is_line_of lines)
    (λ line h. let both = and_parts (is_line line) (nat_le (fact_count line) (most_facts lines)) h in (a_line line both.0, leb-true (fact_count line) (most_facts lines) both.1))
    lines e

-- ---- right proofs

module _ (asked : Conditions) where
  abbrev is_front : List Line → Bool
  is_front lines = are_lines lines && are_right asked (reverse lines)

  a_front : (lines : List Line) → is_front lines ≡ true → AreLines lines × AreRight asked (reverse lines)
  a_front lines e = let both = and_parts (are_lines lines) (are_right asked (reverse lines)) e in (some_lines lines both.0, (decides_lines asked (reverse lines)).0 both.1)

  -- the lines are right, and `end` stands behind them
  pub right_by : (text : List ℕ) (lines : List Line) → text ≡ lines_text (lines ++ End ∷ []) → is_front (lines ++ End ∷ []) ≡ true → HasEnded (reverse (lines ++ End ∷ [])) → IsRightFor asked text
  right_by text lines spelled good ended =
      let front = a_front (lines ++ End ∷ []) good in
      record { lines = lines ++ End ∷ []; is_text = record { formed = front.0; spelled = spelled }; right = front.1; ended = ended }

  -- ---- first bad entries

  -- what stands behind so many lines, and behind the next
  abbrev bytes_at : (text : List ℕ) → List Line → List ℕ
  bytes_at text lines = get_or (lines_of text) (length lines) []

  abbrev behind_next : (text : List ℕ) → List Line → List (List ℕ)
  behind_next text lines = drop (suc (length lines)) (lines_of text)

  -- the text begins with these lines, and a line feed ends the next
  abbrev goes_on : (text : List ℕ) → List Line → Bool
  goes_on text lines = is_front lines && nat_lt 0 (length (behind_next text lines))

  bad_before : (lines : List Line) (bytes : List ℕ) (after : List (List ℕ)) → 0 < length after → ((line : Line) → IsLineOf lines line → bytes ≡ line_text line → IsRightBehind asked (reverse lines) line → ⊥) → IsBad asked lines bytes after
  bad_before lines bytes [] some none = absurd (omega arith)
  bad_before lines bytes (next ∷ later) some none = none

  -- no right line is spelled so
  not_there : (text : List ℕ) (lines : List Line) (bytes : List ℕ) → lines_of text ≡ map line_text lines ++ bytes ∷ behind_next text lines → goes_on text lines ≡ true
      → ((line : Line) → IsLineOf lines line → bytes ≡ line_text line → IsRightBehind asked (reverse lines) line → ⊥) → IsFirstBadFor asked text (length lines + 1)
  not_there text lines bytes split good none =
      let both = and_parts (is_front lines) (nat_lt 0 (length (behind_next text lines))) good in
      let front = a_front lines both.0 in
      record {
        lines = lines;
        bad = bytes;
        after = behind_next text lines;
        split = split;
        counted = refl;
        formed = front.0;
        right = front.1;
        is_bad = bad_before lines bytes (behind_next text lines) (ltb-true 0 (length (behind_next text lines)) both.1) none;
      }

  -- behind these lines this one is wrong
  abbrev is_wrong : List Line → Line → Bool
  is_wrong lines line = is_line line && not (is_right_behind asked (reverse lines) line)

  pub wrong_line : (text : List ℕ) (lines : List Line) (line : Line) → lines_of text ≡ map line_text lines ++ line_text line ∷ behind_next text lines → goes_on text lines ≡ true → is_wrong lines line ≡ true → IsFirstBadFor asked text (length lines + 1)
  wrong_line text lines line split good wrong =
      let both = and_parts (is_line line) (not (is_right_behind asked (reverse lines) line)) wrong in
      not_there text lines (line_text line) split good (λ other formed same right.
      let one : line ≡ other = line_inject line other (a_line line both.0) formed.0 same in
      let here : IsRightBehind asked (reverse lines) line = subst (IsRightBehind asked (reverse lines)) (sym one) right in
      true≢false (sym ((decides_behind asked (reverse lines) line).1 here) ∙ if_not (is_right_behind asked (reverse lines) line) both.1))

  behind_end : (back : List Line) → HasEnded back → (line : Line) → IsRightBehind asked back line → ⊥
  behind_end [] ended line right = ended
  behind_end (End ∷ back) ended line right = right
  behind_end (_ ∷ back) ended line right = ended

  -- whatever stands behind `end`
  pub past_end : (text : List ℕ) (lines : List Line) → lines_of text ≡ map line_text lines ++ bytes_at text lines ∷ behind_next text lines → goes_on text lines ≡ true → HasEnded (reverse lines) → IsFirstBadFor asked text (length lines + 1)
  past_end text lines split good ended = not_there text lines (bytes_at text lines) split good (λ other formed same right. behind_end (reverse lines) ended other right)

  -- no line is spelled so
  pub unread : (text : List ℕ) (lines : List Line) → lines_of text ≡ map line_text lines ++ bytes_at text lines ∷ behind_next text lines → goes_on text lines ≡ true → ((line : Line) → IsLine line → bytes_at text lines ≡ line_text line → ⊥) → IsFirstBadFor asked text (length lines + 1)
  unread text lines split good none = not_there text lines (bytes_at text lines) split good (λ other formed same right. none other formed.0 same)

  -- the last line has no line feed
  pub no_line_feed : (text : List ℕ) (lines : List Line) → lines_of text ≡ map line_text lines ++ bytes_at text lines ∷ [] → is_front lines ≡ true → nat_lt 0 (length (bytes_at text lines)) ≡ true → IsFirstBadFor asked text (length lines + 1)
  no_line_feed text lines split good some =
      let front = a_front lines good in
      record {
        lines = lines;
        bad = bytes_at text lines;
        after = [];
        split = split;
        counted = refl;
        formed = front.0;
        right = front.1;
        is_bad = λ none. let long = ltb-true 0 (length (bytes_at text lines)) some in absurd (omega (arith, long, ap length none));
      }

  -- the file ends too early
  pub too_early : (text : List ℕ) (lines : List Line) → lines_of text ≡ map line_text lines ++ [] ∷ [] → is_front lines ≡ true → (HasEnded (reverse lines) → ⊥) → IsFirstBadFor asked text (length lines + 1)
  too_early text lines split good unended =
      let front = a_front lines good in
      record { lines = lines; bad = []; after = []; split = split; counted = refl; formed = front.0; right = front.1; is_bad = λ none. unended }

-- ---- what no line is

-- the words of a line whose text is this
words_are : (bad : List ℕ) (line : Line) → IsLine line → bad ≡ line_text line → slice_split (λ byte. byte == 32) bad ≡ line_words line
words_are bad line h e = ap (slice_split (λ byte. byte == 32)) e ∙ split_words line h

-- one of the words with which lines begin
abbrev is_keyword : List ℕ → Bool
is_keyword word = list_any (bytes_eq word) (codes "proof" ∷ codes "row" ∷ codes "cond" ∷ codes "exact" ∷ codes "goal" ∷ codes "void" ∷ codes "end" ∷ [])

abbrev begins_well : List (List ℕ) → Bool
begins_well [] = false
begins_well (word ∷ words) = is_keyword word

line_begins : (line : Line) → begins_well (line_words line) ≡ true
line_begins (Version version) = refl
line_begins (Row template terms most) = refl
line_begins (Begins number) = refl
line_begins (Exact item divisor parts) = refl
line_begins (Goal goal divisor parts) = refl
line_begins (Void goal parts) = refl
line_begins End = refl

pub no_keyword : (bad : List ℕ) → begins_well (slice_split (λ byte. byte == 32) bad) ≡ false → (line : Line) → IsLine line → bad ≡ line_text line → ⊥
no_keyword bad none line h e = true≢false (sym (line_begins line) ∙ ap begins_well (sym (words_are bad line h e)) ∙ none)

-- the words behind `proof` say a version
abbrev says_version : List (List ℕ) → Bool
says_version (word ∷ []) = bytes_eq word (codes "1") || bytes_eq word (codes "2")
says_version words = false

version_said : (version : FileVersion) → says_version (version_text version ∷ []) ≡ true
version_said One = refl
version_said Two = refl

-- no version is spelled so
pub no_version : (bad : List ℕ) (words : List (List ℕ)) → slice_split (λ byte. byte == 32) bad ≡ codes "proof" ∷ words → says_version words ≡ false → (line : Line) → IsLine line → bad ≡ line_text line → ⊥
no_version bad words split none line h e =
    let version = version_of line words (sym (words_are bad line h e) ∙ split) in
    true≢false (sym (version_said version.0) ∙ ap says_version version.1 ∙ none)
