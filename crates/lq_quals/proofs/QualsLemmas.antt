-- Files of qualifiers: one list for each text, and one first bad line.
use Rattle.std.proofs.Common.{◌≡◌, ℕ, suc, ◌+◌, ◌<◌, false, List, [], ◌∷◌, ◌++◌, Bor, length, get_or, take, drop, drop-cons, refl, sym, ap, subst, ◌∙◌, arith, inl, inr, length-append}
use Rattle.std.proofs.lemmas.Bool.{true≢false, cases_lt}
use Rattle.std.proofs.lemmas.List.{take-append-drop, map-append, length-map}
use Rattle.lq_text.proofs.Lists.{front_of}
use Rattle.lq_text.proofs.NumbersLemmas.{lines_at}
use Rattle.lq_text.specs.Numbers.{lines_of}
use Rattle.lq_quals.specs.Spacing.{without_return, without_blanks, is_skipped, IsTorn}
use Rattle.lq_quals.specs.Comparison.{IsComparison}
use Rattle.lq_quals.specs.Qualifier.{IsGood, qualifier_of}
use Rattle.lq_text.specs.declared.atom.Atom.{Atom}
use Rattle.lq_quals.specs.declared.qualifier.Qualifier.{Qualifier}
use Rattle.lq_quals.specs.declared.comparison.Comparison.{Comparison}
use Rattle.lq_quals.specs.declared.quals.Quals.{Quals}
use Rattle.lq_quals.specs.Quals.{no_quals, atoms_with, with_comparison, ReadsLine, ReadsLines, IsQualsText, IsFirstBadLine}
use Rattle.lq_quals.specs.Quals.ReadsLine.{skipped, comparison}
use Rattle.lq_quals.specs.Quals.ReadsLines.{none, more}
use Rattle.lq_quals.proofs.SideLemmas.{one_comparison}

-- a line makes of qualifiers at most one list
pub one_line : {quals a b : Quals} {line : List ℕ} → ReadsLine quals line a → ReadsLine quals line b → a ≡ b
one_line (skipped h) (skipped k) = refl
one_line (skipped h) (comparison s out p good) = absurd (true≢false (sym h ∙ ap is_skipped s.text_left ∙ out))
one_line (comparison s out p good) (skipped h) = absurd (true≢false (sym h ∙ ap is_skipped s.text_left ∙ out))
one_line {quals} (comparison {text = u} {c} s out p good) (comparison {text = v} {c = d} t not k well) =
    ap (with_comparison quals) (one_comparison u v c d p k (sym s.text_left ∙ t.text_left))

pub one_end : {quals a b : Quals} {lines : List (List ℕ)} → ReadsLines quals lines a → ReadsLines quals lines b → a ≡ b
one_end none none = refl
one_end {b} (more {lines} h p) (more k q) = one_end p (subst (λ between. ReadsLines between lines b) (one_line k h) q)

pub one_list : (text : List ℕ) (quals others : Quals) → IsQualsText text quals → IsQualsText text others → quals ≡ others
one_list text quals others p q = one_end p q

-- one line more
pub line_more : {quals before after : Quals} {lines : List (List ℕ)} {line : List ℕ} → ReadsLines quals lines before → ReadsLine before line after → ReadsLines quals (lines ++ line ∷ []) after
line_more none h = more h none
line_more (more k p) h = more k (line_more p h)

-- what is read in front of a line, and the line
front_read : {quals end : Quals} (before : List (List ℕ)) (line : List ℕ) (after : List (List ℕ)) → ReadsLines quals (before ++ line ∷ after) end
    → (between : Quals) × (next : Quals) × ReadsLines quals before between × ReadsLine between line next
front_read {quals} [] line after (more {between} h p) = (quals, between, none, h)
front_read (first ∷ before) line after (more h p) =
    let r = front_read before line after p in
    (r.0, r.1, more h r.2, r.3)

-- no bad line stands among lines that are read
no_bad_among : {end : Quals} (text : List ℕ) (line : ℕ) (b : IsFirstBadLine text line) (after : List (List ℕ)) → ReadsLines no_quals (b.before ++ b.bad ∷ after) end → ⊥
no_bad_among text line b after p =
    let r = front_read b.before b.bad after p in
    b.is_bad r.1 (subst (λ quals. ReadsLine quals b.bad r.1) (one_end r.2 b.good_before) r.3)

pub no_bad_line : (text : List ℕ) (quals : Quals) (line : ℕ) → IsQualsText text quals → IsFirstBadLine text line → ⊥
no_bad_line text quals line p b = no_bad_among text line b b.after (subst (λ ls. ReadsLines no_quals ls quals) b.lines p)

bad_in_front : (text : List ℕ) (m : ℕ) (b : IsFirstBadLine text m) (quals : Quals) (x rest : List (List ℕ)) → ReadsLines no_quals (b.before ++ x) quals → b.bad ∷ b.after ≡ x ++ rest → 0 < length x → ⊥
bad_in_front text m b quals [] rest p e some = omega arith
bad_in_front text m b quals (line ∷ x) rest p e some =
    let same : line ≡ b.bad = cc in
    no_bad_among text m b x (subst (λ l. ReadsLines no_quals (b.before ++ l ∷ x) quals) same p)

first_is_no_later : (text : List ℕ) (m n : ℕ) (b : IsFirstBadLine text m) (d : IsFirstBadLine text n) → length b.before < length d.before → ⊥
first_is_no_later text m n b d lt =
    let r = front_of b.before (b.bad ∷ b.after) d.before (d.bad ∷ d.after) (sym b.lines ∙ d.lines) (omega arith) in
    bad_in_front text m b d.quals r.0 (d.bad ∷ d.after) (subst (λ ls. ReadsLines no_quals ls d.quals) r.1 d.good_before) r.2 (omega (arith, length-append b.before r.0, ap length r.1))

pub one_bad : (text : List ℕ) (m n : ℕ) → IsFirstBadLine text m → IsFirstBadLine text n → m ≡ n
one_bad text m n b d =
    elim (cases_lt (length b.before) (length d.before)) [
      | inl lt ↦ absurd (first_is_no_later text m n b d lt)
      | inr le ↦ elim (cases_lt (length d.before) (length b.before)) [
        | inl lt ↦ absurd (first_is_no_later text n m d b lt)
        | inr ge ↦ omega (arith, b.counted, d.counted)
      ]
    ]

-- ---- one line read

-- what a line says that isn't skipped
record SaysMore (quals : Quals) (line text : List ℕ) : Type 0 where
  c : Comparison
  whole : ¬ IsTorn line
  is_comparison : IsComparison text c
  good : IsGood c (atoms_with quals.atoms c)

says_more : {quals more : Quals} {line : List ℕ} → ReadsLine quals line more → is_skipped (without_blanks (without_return line)) ≡ false → SaysMore quals (without_return line) (without_blanks (without_return line))
says_more (skipped h) out = absurd (true≢false (sym h ∙ out))
says_more (comparison {c} s _ p good) out = record { c = c; whole = s.whole; is_comparison = subst (λ t. IsComparison t c) (sym s.text_left) p; good = good }

abbrev pub Bad : Quals → List ℕ → Type 0
Bad quals line = (more : Quals) → ¬ ReadsLine quals line more

pub bad_torn : (quals : Quals) (line : List ℕ) → is_skipped (without_blanks (without_return line)) ≡ false → IsTorn (without_return line) → Bad quals line
bad_torn quals line out torn next r = (says_more r out).whole torn

pub bad_comparison : (quals : Quals) (line : List ℕ) → is_skipped (without_blanks (without_return line)) ≡ false → ((c : Comparison) → ¬ IsComparison (without_blanks (without_return line)) c) → Bad quals line
bad_comparison quals line out other next r = let s = says_more r out in other s.c s.is_comparison

pub bad_rows : (quals : Quals) (line : List ℕ) (c : Comparison) → is_skipped (without_blanks (without_return line)) ≡ false → IsComparison (without_blanks (without_return line)) c → ¬ IsGood c (atoms_with quals.atoms c) → Bad quals line
bad_rows quals line c out p bad next r =
    let s = says_more r out in
    let text = without_blanks (without_return line) in
    bad (subst (λ d. IsGood d (atoms_with quals.atoms d)) (one_comparison text text s.c c s.is_comparison p refl) s.good)

pub line_read : (quals : Quals) (line : List ℕ) (c : Comparison) → is_skipped (without_blanks (without_return line)) ≡ false → ¬ IsTorn (without_return line) → IsComparison (without_blanks (without_return line)) c → IsGood c (atoms_with quals.atoms c) → ReadsLine quals line (with_comparison quals c)
line_read quals line c out whole p good = comparison (record { text_left = refl; whole = whole }) out p good

-- the qualifiers with one more, by their parts
pub read_as : (quals : Quals) (line : List ℕ) (c : Comparison) (atoms : List Atom) (list : List Qualifier) → atoms ≡ atoms_with quals.atoms c → list ≡ quals.list ++ qualifier_of c (atoms_with quals.atoms c) ∷ [] → ReadsLine quals line (with_comparison quals c) → ReadsLine quals line (record { atoms = atoms; list = list })
read_as quals line c atoms list e k r =
    let by_atoms : List Atom → Quals = λ l. record { atoms = l; list = quals.list ++ qualifier_of c (atoms_with quals.atoms c) ∷ [] } in
    let by_list : List Qualifier → Quals = λ l. record { atoms = atoms; list = l } in
    subst (ReadsLine quals line) (ap by_atoms (sym e) ∙ ap by_list (sym k)) r

-- ---- line by line

-- the lines so far were read as the qualifiers so far
pub record ReadSoFar (lines : List (List ℕ)) (quals : Quals) (line : ℕ) : Type 0 where
  pub said : ReadsLines no_quals lines quals
  pub counted : line ≡ length lines

pub read_none : ReadSoFar [] no_quals 0
read_none = record { said = none; counted = refl }

pub line_turn : {quals next : Quals} {count : ℕ} (yielded : List (Bor (List ℕ))) (x : Bor (List ℕ)) → ReadSoFar (lines_at yielded) quals count → ReadsLine quals x.now next → ReadSoFar (lines_at (yielded ++ x ∷ [])) next (count + 1)
line_turn {next} {count} yielded x r s =
    subst (λ ls. ReadSoFar ls next (count + 1)) (sym (map-append (λ (y : Bor (List ℕ)). y.now) yielded (x ∷ [])))
    (record { said = line_more r.said s; counted = omega (arith, r.counted, length-append (lines_at yielded) (x.now ∷ [])) })

-- where the next line is bad, it is the first such line
first_bad : (text : List ℕ) (before : List (List ℕ)) (quals : Quals) (count : ℕ) (bad : List ℕ) → ReadSoFar before quals count → before ≡ take (length before) (lines_of text) → length before < length (lines_of text) → bad ≡ get_or (lines_of text) (length before) bad → Bad quals bad → IsFirstBadLine text (count + 1)
first_bad text before quals count bad r front lt at is_bad = record {
  before = before;
  bad = bad;
  after = drop (suc (length before)) (lines_of text);
  quals = quals;
  lines = sym (take-append-drop (length before) (lines_of text)) ∙ ap (λ (ls : List (List ℕ)). ls ++ drop (length before) (lines_of text)) (sym front) ∙ ap (λ (ls : List (List ℕ)). before ++ ls) (drop-cons (lines_of text) (length before) bad lt ∙ ap (λ l. l ∷ drop (suc (length before)) (lines_of text)) (sym at));
  counted = omega (arith, r.counted);
  good_before = r.said;
  is_bad = is_bad;
}

pub bad_turn : {quals : Quals} {count : ℕ} (text : List ℕ) (yielded : List (Bor (List ℕ))) (x : Bor (List ℕ)) → ReadSoFar (lines_at yielded) quals count → lines_at yielded ≡ take (length yielded) (lines_of text) → (length yielded < length (lines_of text)) × (x.now ≡ get_or (lines_of text) (length yielded) x.now) → Bad quals x.now → IsFirstBadLine text (count + 1)
bad_turn {quals} {count} text yielded x r front turn is_bad =
    let n : length yielded ≡ length (lines_at yielded) = sym (length-map yielded (λ (y : Bor (List ℕ)). y.now)) in
    first_bad text (lines_at yielded) quals count x.now r
    (front ∙ ap (λ k. take k (lines_of text)) n)
    (subst (λ k. k < length (lines_of text)) n turn.0)
    (turn.1 ∙ ap (λ k. get_or (lines_of text) k x.now) n)
    is_bad

pub read_end : {quals : Quals} {count : ℕ} (text : List ℕ) {lines : List (List ℕ)} → ReadSoFar lines quals count → lines ≡ lines_of text → IsQualsText text quals
read_end {quals} text r e = subst (λ ls. ReadsLines no_quals ls quals) e r.said
