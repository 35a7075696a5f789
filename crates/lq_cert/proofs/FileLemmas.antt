-- Proof files and their lines.
use Rattle.std.proofs.Common.{◌≡◌, ℕ, ◌+◌, ◌<◌, ◌≤◌, eqb, cond, true, false, List, [], ◌∷◌, ◌++◌, length, map, refl, sym, ap, subst, ◌∙◌, arith, inl, inr, append_assoc, length-append}
use Rattle.std.specs.List.{AllByRecursion, slice_split, onto_first}
use Rattle.std.proofs.lemmas.Bool.{cases_lt}
use Rattle.std.proofs.lemmas.List.{append-nil, length-map}
use Rattle.std.proofs.lemmas.Grind.{flat_map-append}
use Rattle.lq_text.specs.Numbers.{lines_of}
use Rattle.lq_text.proofs.Lists.{all_joined, all_right, all_weaker, same_split}
use Rattle.lq_cert.specs.Line.{IsLine, fact_count, line_words, line_text}
use Rattle.lq_cert.specs.ProofFile.{most_facts, most_facts_by, IsLineOf, AreLines, lines_text, IsProofText, IsLineText, IsBadLine, IsFirstBadLine}
use Rattle.lq_cert.specs.Split.{Avoids, IsSplitAt}
use Rattle.lq_cert.specs.declared.line.FileVersion.TheVariants.{One}
use Rattle.lq_cert.specs.declared.line.Line.{Line}
use Rattle.lq_cert.specs.declared.line.Line.TheVariants.{Version}
use Rattle.lq_cert.proofs.InkLemmas.{words_avoid, split_words}
use Rattle.lq_cert.proofs.SpellingLemmas.{words_inject}
use Rattle.lq_cert.proofs.SplitLemmas.{split_first, split_none, avoids_joined}

-- a line's text holds no line feed
line_avoids : (line : Line) → IsLine line → Avoids 10 (line_text line)
line_avoids line h = avoids_joined 10 32 (line_words line) (omega arith) (words_avoid 10 line (omega arith) h)

-- no two lines have one text
pub line_inject : (a b : Line) → IsLine a → IsLine b → line_text a ≡ line_text b → a ≡ b
line_inject a b h k e =
    words_inject a b h k (sym (split_words a h) ∙ ap (slice_split (λ byte. eqb byte 32)) e ∙ split_words b k)

-- a line with too many facts leaves none for its text
pub too_many : (lines : List Line) (text : List ℕ) (line : Line) → IsLine line → line_text line ≡ text → most_facts lines < fact_count line → (other : Line) → IsLineOf lines other → line_text other ≡ text → ⊥
too_many lines text line is e many other h same =
    let count : fact_count line ≡ fact_count other = ap fact_count (line_inject line other is h.0 (e ∙ sym same)) in
    omega (arith, h.1)

-- ---- what stands between the line feeds

pub lines_of-lines_text : (lines : List Line) (rest : List ℕ) → AllByRecursion IsLine lines → lines_of (lines_text lines ++ rest) ≡ map line_text lines ++ lines_of rest
lines_of-lines_text [] rest h = refl
lines_of-lines_text (line ∷ lines) rest h =
    let text : List ℕ = line_text line in
    let more : List ℕ = lines_text lines in
    let moved : ((text ++ 10 ∷ []) ++ more) ++ rest ≡ text ++ 10 ∷ (more ++ rest) = append_assoc (text ++ 10 ∷ []) more rest ∙ append_assoc text (10 ∷ []) (more ++ rest) in
    ap lines_of moved ∙ split_first 10 text (more ++ rest) (line_avoids line h.0) ∙ ap (λ ts. text ∷ ts) (lines_of-lines_text lines rest h.1)

-- the lines of a proof file are well-formed by themselves
pub are_formed : (lines : List Line) → AreLines lines → AllByRecursion IsLine lines
are_formed lines h = all_weaker (IsLineOf lines) IsLine (λ line is. is.0) lines h

onto_some : (x : ℕ) (parts : List (List ℕ)) → (first : List ℕ) × (rest : List (List ℕ)) × (onto_first x parts ≡ first ∷ rest)
onto_some x [] = (x ∷ [], [], refl)
onto_some x (part ∷ parts) = (x ∷ part, parts, refl)

-- some bytes, or none, stand behind the last line feed
lines_some : (text : List ℕ) → (first : List ℕ) × (rest : List (List ℕ)) × (lines_of text ≡ first ∷ rest)
lines_some [] = ([], [], refl)
lines_some (x ∷ text) =
    elim (eqb x 10) as (λ b. (first : List ℕ) × (rest : List (List ℕ)) × (cond b ([] ∷ lines_of text) (onto_first x (lines_of text)) ≡ first ∷ rest)) [
      | true ↦ ([], lines_of text, refl)
      | false ↦ onto_some x (lines_of text)
    ]

-- ---- lines and the version of their file

-- the first line has no more facts than it allows itself
first_fits : (line : Line) → fact_count line ≤ 256 → fact_count line ≤ most_facts_by line
first_fits (Version One) h = omega arith
first_fits _ h = h

fits_first : (line : Line) → fact_count line ≤ most_facts_by line → fact_count line ≤ 256
fits_first (Version One) h = omega arith
fits_first _ h = h

-- a line that may stand behind these makes them one more
one_more : (lines : List Line) (line : Line) → AreLines lines → IsLineOf lines line → AreLines (lines ++ line ∷ [])
one_more [] line h k = ((k.0, first_fits line k.1), tt)
one_more (first ∷ later) line h k = all_joined (IsLineOf (first ∷ later)) (first ∷ later) (line ∷ []) h (k, tt)

-- a line of a file may stand behind those before it
pub stands_behind : (before later : List Line) (line : Line) → IsLineOf (before ++ line ∷ later) line → IsLineOf before line
stands_behind [] later line h = (h.0, fits_first line h.1)
stands_behind (first ∷ before) later line h = h

-- ---- reading

-- the lines so far were read from the front of a text
pub record ReadLines (text rest : List ℕ) (lines : List Line) (entry : ℕ) : Type 0 where
  pub formed : AreLines lines
  pub joined : lines_text lines ++ rest ≡ text
  pub counted : entry ≡ length lines
  pub room : entry + length rest ≤ length text

pub read_more : (text rest bytes behind : List ℕ) (lines : List Line) (line : Line) (entry : ℕ) → ReadLines text rest lines entry → IsSplitAt 10 rest bytes behind → IsLineOf lines line → line_text line ≡ bytes → ReadLines text behind (lines ++ line ∷ []) (entry + 1)
read_more text rest bytes behind lines line entry r s h e =
    let cut : rest ≡ (line_text line ++ 10 ∷ []) ++ behind = s.joined ∙ ap (λ t. t ++ 10 ∷ behind) (sym e) ∙ sym (append_assoc (line_text line) (10 ∷ []) behind) in
    record {
      formed = one_more lines line r.formed h;
      joined = ap (λ t. t ++ behind) (flat_map-append (λ l. line_text l ++ 10 ∷ []) lines (line ∷ []) ∙ ap (λ t. lines_text lines ++ t) (append-nil (line_text line ++ 10 ∷ [])))
          ∙ append_assoc (lines_text lines) (line_text line ++ 10 ∷ []) behind ∙ ap (λ t. lines_text lines ++ t) (sym cut) ∙ r.joined;
      counted = omega (arith, r.counted, length-append lines (line ∷ []));
      room = omega (arith, r.room, ap length cut, length-append (line_text line ++ 10 ∷ []) behind, length-append (line_text line) (10 ∷ []));
    }

pub read_all : (text rest : List ℕ) (lines : List Line) (entry : ℕ) → ReadLines text rest lines entry → length rest ≡ 0 → IsProofText text lines
read_all text [] lines entry r none = record {
  formed = r.formed;
  spelled = sym r.joined ∙ append-nil (lines_text lines);
}
read_all text (x ∷ rest) lines entry r none = absurd (omega arith)

bad_line : (text rest bad : List ℕ) (after : List (List ℕ)) (lines : List Line) (entry : ℕ) → ReadLines text rest lines entry → lines_of rest ≡ bad ∷ after → IsBadLine lines bad after → IsFirstBadLine text (entry + 1)
bad_line text rest bad after lines entry r e is_bad = record {
  before = lines;
  bad = bad;
  after = after;
  split = ap lines_of (sym r.joined) ∙ lines_of-lines_text lines rest (are_formed lines r.formed) ∙ ap (λ ls. map line_text lines ++ ls) e;
  counted = omega (arith, r.counted);
  good_before = r.formed;
  is_bad = is_bad;
}

-- the rest has no line feed
pub no_line_feed : (text rest : List ℕ) (lines : List Line) (entry : ℕ) → ReadLines text rest lines entry → 0 < length rest → Avoids 10 rest → IsFirstBadLine text (entry + 1)
no_line_feed text rest lines entry r some h =
    bad_line text rest rest [] lines entry r (split_none 10 rest h) (λ none. omega (arith, ap length none))

-- the next line spells none that may stand there
pub no_line : (text rest bytes behind : List ℕ) (lines : List Line) (entry : ℕ) → ReadLines text rest lines entry → IsSplitAt 10 rest bytes behind → ((line : Line) → IsLineOf lines line → line_text line ≡ bytes → ⊥) → IsFirstBadLine text (entry + 1)
no_line text rest bytes behind lines entry r s none =
    let more = lines_some behind in
    bad_line text rest bytes (more.0 ∷ more.1) lines entry r
    (ap lines_of s.joined ∙ split_first 10 bytes behind s.first ∙ ap (λ ls. bytes ∷ ls) more.2)
    (λ spelled. none spelled.0 spelled.1 (sym spelled.2))

-- ---- one proof, and one first bad line

pub lines_inject : (a b : List Line) → AllByRecursion IsLine a → AllByRecursion IsLine b → lines_text a ≡ lines_text b → a ≡ b
lines_inject [] [] h k e = refl
lines_inject [] (y ∷ b) h k e =
    absurd (omega (arith, ap length e, length-append (line_text y ++ 10 ∷ []) (lines_text b), length-append (line_text y) (10 ∷ [])))
lines_inject (x ∷ a) [] h k e =
    absurd (omega (arith, ap length e, length-append (line_text x ++ 10 ∷ []) (lines_text a), length-append (line_text x) (10 ∷ [])))
lines_inject (x ∷ a) (y ∷ b) h k e =
    let moved : line_text x ++ 10 ∷ lines_text a ≡ line_text y ++ 10 ∷ lines_text b = sym (append_assoc (line_text x) (10 ∷ []) (lines_text a)) ∙ e ∙ append_assoc (line_text y) (10 ∷ []) (lines_text b) in
    let parts = same_split 10 (line_text x) (lines_text a) (line_text y) (lines_text b) (line_avoids x h.0) (line_avoids y k.0) moved in
    let first = line_inject x y h.0 k.0 parts.0 in
    let others = lines_inject a b h.1 k.1 parts.1 in
    cc

pub one_proof : (text : List ℕ) (lines others : List Line) → IsProofText text lines → IsProofText text others → lines ≡ others
one_proof text lines others p q =
    lines_inject lines others (are_formed lines p.formed) (are_formed others q.formed) (sym p.spelled ∙ q.spelled)

-- what stands behind the texts of some of the lines is the text of the next
pub next_line : (before lines : List Line) (tail after : List (List ℕ)) (bad : List ℕ) → AllByRecursion IsLine before → AllByRecursion IsLine lines → map line_text lines ++ tail ≡ map line_text before ++ bad ∷ after → length before < length lines
    → (line : Line) × (later : List Line) × (lines ≡ before ++ line ∷ later) × (bad ≡ line_text line) × (map line_text later ++ tail ≡ after)
next_line [] [] tail after bad h k e lt = absurd (omega arith)
next_line [] (line ∷ later) tail after bad h k e lt = (line, later, refl, cc, cc)
next_line (x ∷ before) [] tail after bad h k e lt = absurd (omega arith)
next_line (x ∷ before) (y ∷ lines) tail after bad h k e lt =
    let texts : line_text x ≡ line_text y = cc in
    let rest : map line_text lines ++ tail ≡ map line_text before ++ bad ∷ after = cc in
    let same = line_inject x y h.0 k.0 texts in
    let found = next_line before lines tail after bad h.1 k.1 rest (omega arith) in
    let behind : lines ≡ before ++ found.0 ∷ found.1 = found.2 in
    (found.0, found.1, cc, found.3, found.4)

-- a line with a line feed behind it is bad only if it spells none
not_bad : (before : List Line) (bytes : List ℕ) (after : List (List ℕ)) → 0 < length after → IsLineText before bytes → IsBadLine before bytes after → ⊥
not_bad before bytes [] some spelled is_bad = omega arith
not_bad before bytes (next ∷ later) some spelled is_bad = is_bad spelled

-- no bad line stands among the lines of a proof file with more behind them
bad_among : (lines before : List Line) (tail after : List (List ℕ)) (bad : List ℕ) → AreLines lines → AreLines before → 0 < length tail → map line_text lines ++ tail ≡ map line_text before ++ bad ∷ after → length before < length lines → IsBadLine before bad after → ⊥
bad_among lines before tail after bad h k some e lt is_bad =
    let next = next_line before lines tail after bad (are_formed before k) (are_formed lines h) e lt in
    let each : AllByRecursion (IsLineOf lines) (before ++ next.0 ∷ next.1) = subst (AllByRecursion (IsLineOf lines)) next.2 h in
    let here : IsLineOf lines next.0 = (all_right (IsLineOf lines) before (next.0 ∷ next.1) each).0 in
    let behind : IsLineOf before next.0 = stands_behind before next.1 next.0 (subst (λ ls. IsLineOf ls next.0) next.2 here) in
    not_bad before bad after (omega (arith, ap length next.4, length-append (map line_text next.1) tail)) (next.0, behind, next.3) is_bad

-- behind the last line feed of a proof stands nothing, which is no bad line
nothing_bad : (lines : List Line) (front before after : List (List ℕ)) (bad : List ℕ) → front ++ [] ∷ [] ≡ before ++ bad ∷ after → length front ≤ length before → IsBadLine lines bad after → ⊥
nothing_bad lines [] [] [] bad e le is_bad = let same : bad ≡ [] = cc in is_bad same
nothing_bad lines [] [] (next ∷ later) bad e le is_bad = omega (arith, ap length e)
nothing_bad lines [] (x ∷ before) after bad e le is_bad =
    omega (arith, ap length e, length-append before (bad ∷ after))
nothing_bad lines (y ∷ front) [] after bad e le is_bad = omega arith
nothing_bad lines (y ∷ front) (x ∷ before) after bad e le is_bad =
    let rest : front ++ [] ∷ [] ≡ before ++ bad ∷ after = cc in
    nothing_bad lines front before after bad rest (omega arith) is_bad

pub proof_has_no_bad_line : (text : List ℕ) (lines : List Line) (entry : ℕ) → IsProofText text lines → IsFirstBadLine text entry → ⊥
proof_has_no_bad_line text lines entry p b =
    let whole : text ≡ lines_text lines ++ [] = p.spelled ∙ sym (append-nil (lines_text lines)) in
    let split : map line_text lines ++ [] ∷ [] ≡ map line_text b.before ++ b.bad ∷ b.after = sym (lines_of-lines_text lines [] (are_formed lines p.formed)) ∙ ap lines_of (sym whole) ∙ b.split in
    elim (cases_lt (length b.before) (length lines)) [
      | inl lt ↦ bad_among lines b.before ([] ∷ []) b.after b.bad p.formed b.good_before (omega arith) split lt b.is_bad
      | inr le ↦ nothing_bad b.before (map line_text lines) (map line_text b.before) b.after b.bad split (omega (arith, length-map lines line_text, length-map b.before line_text)) b.is_bad
    ]

no_earlier : (text : List ℕ) (entry other : ℕ) (b : IsFirstBadLine text entry) (d : IsFirstBadLine text other) → length b.before < length d.before → ⊥
no_earlier text entry other b d lt =
    bad_among d.before b.before (d.bad ∷ d.after) b.after b.bad d.good_before b.good_before (omega arith) (sym d.split ∙ b.split) lt b.is_bad

pub one_bad_line : (text : List ℕ) (entry other : ℕ) → IsFirstBadLine text entry → IsFirstBadLine text other → entry ≡ other
one_bad_line text entry other b d =
    elim (cases_lt (length b.before) (length d.before)) [
      | inl lt ↦ absurd (no_earlier text entry other b d lt)
      | inr le ↦ elim (cases_lt (length d.before) (length b.before)) [
        | inl lt ↦ absurd (no_earlier text other entry d b lt)
        | inr ge ↦ omega (arith, b.counted, d.counted)
      ]
    ]
