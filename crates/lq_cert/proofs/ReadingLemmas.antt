-- What words of lines are read as.
use Rattle.std.proofs.Common.{◌≡◌, ℕ, suc, zero, ◌+◌, ◌-◌, ◌^◌, ◌<◌, ◌≤◌, List, [], ◌∷◌, ◌++◌, length, get_or, take, drop, map, Bor, Option, Some, None, Result, Ok, Err, true, eqb, ℤ, w64, to_z, of_z, refl, sym, ap, subst, ◌∙◌, arith, append_assoc, drop-cons}
use Rattle.std.specs.Prelude.{codes, IfOk, MatchOption, IsSomeAnd}
use Rattle.std.specs.List.{AllByRecursion, flat_map, slice_split, join_with_byte}
use Rattle.std.proofs.Math.ListN.{drop_of_length-le}
use Rattle.std.proofs.lemmas.Bool.{true≢false}
use Rattle.std.proofs.lemmas.Int.{to_z-of_z}
use Rattle.std.proofs.lemmas.List.{take-append-drop, take_all, map-append, length-map, append-nil}
use Rattle.std.proofs.lemmas.List.Splits.{join_with_byte-slice_split}
use Rattle.std.proofs.lemmas.Grind.{flat_map-append}
use Rattle.lq_linear.specs.Terms.{IsCoefficient, IsWithin}
use Rattle.lq_text.specs.Numeral.{decimal_of}
use Rattle.lq_cert.specs.Numeral.{numeral}
use Rattle.lq_text.specs.Atom.{IsAtom, has_placeholder, atom_text}
use Rattle.lq_text.specs.Order.{AreInOrder}
use Rattle.lq_cert.specs.Line.{IsRowAtom, IsTerm, AreRowTerms, IsPart, AreParts, IsLine, version_text, term_words, part_word, line_words, line_text}
use Rattle.lq_cert.specs.Reading.{texts_of, keyword_text}
use Rattle.lq_text.specs.Reads.{Reads}
use Rattle.lq_cert.specs.declared.reading.Keyword.{Keyword}
use Rattle.lq_cert.specs.Split.{Avoids, IsSplitAt}
use Rattle.lq_text.specs.declared.atom.Atom.{Atom}
use Rattle.lq_text.specs.declared.order.Term.{Term}
use Rattle.lq_cert.specs.declared.line.Part.{Part}
use Rattle.lq_cert.specs.declared.line.FileVersion.{FileVersion}
use Rattle.lq_cert.specs.declared.line.Line.{Line}
use Rattle.lq_cert.specs.declared.line.Line.TheVariants.{Version}
use Rattle.lq_text.proofs.Lists.{all_joined, meets, same_split}
use Rattle.lq_text.proofs.AtomLemmas.{reads_mapped, atom_inject}
use Rattle.lq_cert.proofs.NumbersLemmas.{word_of_within}
use Rattle.lq_cert.proofs.InkLemmas.{split_words}
use Rattle.lq_cert.proofs.SpellingLemmas.{numeral_avoids, terms_inject, last_two, version_of, row_words, row_of, keyword_of}

-- ---- words by their places

module _ {X : Type 0} where
  pub one_word : (words : List X) (d : X) → 1 ≤ length words → length words < 2 → words ≡ get_or words 0 d ∷ []
  one_word [] d some few = absurd (omega arith)
  one_word (x ∷ []) d some few = refl
  one_word (x ∷ y ∷ words) d some few = absurd (omega arith)

  pub two_words : (words : List X) (d : X) → 2 ≤ length words → words ≡ get_or words 0 d ∷ get_or words 1 d ∷ take (length words - 2) (drop 2 words)
  two_words [] d some = absurd (omega arith)
  two_words (x ∷ []) d some = absurd (omega arith)
  two_words (x ∷ y ∷ words) d some =
      let whole : take (length (x ∷ y ∷ words) - 2) words ≡ words = take_all _ words (omega arith) in
      ap (λ ws. x ∷ y ∷ ws) (sym whole)

  -- the last two behind `k` others
  last_words : (words : List X) (d : X) (k : ℕ) → k + 2 ≡ length words → words ≡ take k words ++ get_or words k d ∷ get_or words (suc k) d ∷ []
  last_words words d k e =
      let front = take-append-drop k words in
      let next = drop-cons words k d (omega arith) in
      let last = drop-cons words (suc k) d (omega arith) in
      let none : drop (suc (suc k)) words ≡ [] = drop_of_length-le words {i = suc (suc k)} (omega arith) in
      sym front ∙ ap (λ ws. take k words ++ ws) (next ∙ ap (λ ws. get_or words k d ∷ ws) (last ∙ ap (λ ws. get_or words (suc k) d ∷ ws) none))

  -- the first, the middle and the last two, where the places are told by numbers
  abbrev IsPlaced : X → List X → X → ℕ → ℕ → ℕ → Type 0
  IsPlaced first rest d m i j =
      first ∷ rest ≡ first ∷ take m rest ++ get_or (first ∷ rest) i d ∷ get_or (first ∷ rest) j d ∷ []

  placed : (first : X) (rest : List X) (d : X) (k m i j : ℕ) → k ≡ m → suc k ≡ i → suc (suc k) ≡ j → k + 2 ≡ length rest → IsPlaced first rest d m i j
  placed first rest d k m i j em ei ej e =
      let plain : IsPlaced first rest d k (suc k) (suc (suc k)) = ap (λ ws. first ∷ ws) (last_words rest d k e) in
      let middle : IsPlaced first rest d m (suc k) (suc (suc k)) = subst (λ n. IsPlaced first rest d n (suc k) (suc (suc k))) em plain in
      let sign : IsPlaced first rest d m i (suc (suc k)) = subst (λ n. IsPlaced first rest d m n (suc (suc k))) ei middle in
      subst (λ n. IsPlaced first rest d m i n) ej sign

  pub row_places : (words : List X) (d : X) → 3 ≤ length words → words ≡ get_or words 0 d ∷ take (length words - 2 - 1) (drop 1 words) ++ get_or words (length words - 2) d ∷ get_or words (length words - 1) d ∷ []
  row_places [] d some = absurd (omega arith)
  row_places (first ∷ rest) d some =
      placed first rest d (length rest - 2) (length (first ∷ rest) - 2 - 1) (length (first ∷ rest) - 2) (length (first ∷ rest) - 1) (omega arith) (omega arith) (omega arith) (omega arith)

-- ---- versions

version_words : (words : List (Bor (List ℕ))) (d : Bor (List ℕ)) (version : FileVersion) → 1 ≤ length words → length words < 2 → version_text version ≡ (get_or words 0 d).now → line_words (Version version) ≡ codes "proof" ∷ texts_of words
version_words words d version some few e =
    ap (λ ws. codes "proof" ∷ ws) (ap (λ w. w ∷ []) e ∙ ap texts_of (sym (one_word words d some few)))

version_back : (words : List (Bor (List ℕ))) (d : Bor (List ℕ)) → 1 ≤ length words → (line : Line) → line_words line ≡ codes "proof" ∷ texts_of words → (version : FileVersion) × Unit {0} × (version_text version ≡ (get_or words 0 d).now)
version_back [] d some line same = absurd (omega arith)
version_back (word ∷ words) d some line same =
    let v = version_of line (texts_of (word ∷ words)) same in
    (v.0, tt, cc (v.1))

pub version_read : (words : List (Bor (List ℕ))) (d : Bor (List ℕ)) (o : Option FileVersion) (r : Option Line) → 1 ≤ length words → length words < 2 → Reads (λ _. Unit {0}) version_text (get_or words 0 d).now o → MatchOption o (r ≡ None) (λ version. IsSomeAnd r (λ line. line ≡ Version version)) → Reads IsLine line_words (codes "proof" ∷ texts_of words) r
version_read words d o r some few reads made =
    reads_mapped (λ _. Unit {0}) version_text (get_or words 0 d).now IsLine line_words (codes "proof" ∷ texts_of words) Version
    (λ version yes e. (tt, version_words words d version some few e)) (λ line is same. version_back words d some line same) o r reads made

-- ---- parts

-- a word without a colon is no part
pub no_colon : (word : List ℕ) → Avoids 58 word → (part : Part) → IsPart part → part_word part ≡ word → ⊥
no_colon word h part is e =
    meets 58 (numeral part.multiplier) (numeral part.fact) (subst (Avoids 58) (sym e) h)

-- what stands around the colon of a part
pub around_colon : (word front back : List ℕ) → IsSplitAt 58 word front back → (part : Part) → part_word part ≡ word → (numeral part.multiplier ≡ front) × (numeral part.fact ≡ back)
around_colon word front back s part e =
    same_split 58 (numeral part.multiplier) (numeral part.fact) front back (numeral_avoids 58 part.multiplier (omega arith)) s.first (e ∙ s.joined)

-- what holds of the words of parts holds of each of them
pub part_at : (parts : List Part) (words : List (Bor (List ℕ))) (i : ℕ) (d : Bor (List ℕ)) → AllByRecursion IsPart parts → map part_word parts ≡ texts_of words → i < length words → (part : Part) × IsPart part × (part_word part ≡ (get_or words i d).now)
part_at [] [] i d h e lt = absurd (omega arith)
part_at [] (word ∷ words) i d h e lt = absurd cc
part_at (part ∷ parts) [] i d h e lt = absurd cc
part_at (part ∷ parts) (word ∷ words) zero d h e lt = (part, h.0, cc)
part_at (part ∷ parts) (word ∷ words) (suc i) d h e lt =
    let rest : map part_word parts ≡ texts_of words = cc in
    part_at parts words i d h.1 rest (omega arith)

pub parts_all : (parts : List Part) (words : List (Bor (List ℕ))) (n : ℕ) → AllByRecursion IsPart parts → map part_word parts ≡ texts_of (take n words) → length words ≤ n → length words ≤ 256 → AreParts parts × (map part_word parts ≡ texts_of words)
parts_all parts words n h e whole few =
    let same : map part_word parts ≡ texts_of words = e ∙ ap texts_of (take_all n words whole) in
    let count : length parts ≡ length words = sym (length-map parts part_word) ∙ ap length same ∙ length-map words (λ (word : Bor (List ℕ)). word.now) in
    ((omega arith, h), same)

-- ---- terms

-- an atom with a placeholder leaves none for its text that a row may have
pub no_row_atom : (text : List ℕ) (atom : Atom) → IsAtom atom → atom_text atom ≡ text → has_placeholder atom ≡ true → (other : Atom) → IsRowAtom other → atom_text other ≡ text → ⊥
no_row_atom text atom is e open_still other h same =
    let equal = atom_inject atom other is h.0 (e ∙ sym same) in
    true≢false (sym open_still ∙ ap has_placeholder equal ∙ h.1)

-- some terms have these words
abbrev pub AreReadable : List (List ℕ) → Type 0
AreReadable texts = (terms : List Term) × AllByRecursion IsTerm terms × (flat_map term_words terms ≡ texts)

-- the terms were read from the front of all words, and where all are readable, so is the rest
pub record ReadTerms (all rest : List (List ℕ)) (terms : List Term) : Type 0 where
  pub formed : AllByRecursion IsTerm terms
  pub joined : flat_map term_words terms ++ rest ≡ all
  pub left : AreReadable all → AreReadable rest

-- what readable words begin with
readable_front : (coefficient atom : List ℕ) (more : List (List ℕ)) → AreReadable (coefficient ∷ atom ∷ more) → (term : Term) × IsTerm term × (decimal_of term.coefficient ≡ coefficient) × (atom_text term.atom ≡ atom) × AreReadable more
readable_front coefficient atom more ([], h, e) = absurd cc
readable_front coefficient atom more (term ∷ terms, h, e) = (term, h.0, cc, cc, (terms, h.1, cc))

pub read_term : (all rest more : List (List ℕ)) (coefficient atom : List ℕ) (terms : List Term) (term : Term) → ReadTerms all rest terms → rest ≡ coefficient ∷ atom ∷ more → IsTerm term → decimal_of term.coefficient ≡ coefficient → atom_text term.atom ≡ atom → ReadTerms all more (terms ++ term ∷ [])
read_term all rest more coefficient atom terms term r e h c a = record {
  formed = all_joined _ terms (term ∷ []) r.formed (h, tt);
  joined = ap (λ ws. ws ++ more) (flat_map-append term_words terms (term ∷ [])) ∙ append_assoc (flat_map term_words terms) (term_words term) more ∙ ap (λ ws. flat_map term_words terms ++ ws) (ap (λ w. w ∷ atom_text term.atom ∷ more) c ∙ ap (λ w. coefficient ∷ w ∷ more) a ∙ sym e) ∙ r.joined;
  left = λ readable. (readable_front coefficient atom more (subst AreReadable e (r.left readable))).4;
}

pub no_coefficient : (all rest more : List (List ℕ)) (coefficient atom : List ℕ) (terms : List Term) → ReadTerms all rest terms → rest ≡ coefficient ∷ atom ∷ more → ((z : ℤ) → IsCoefficient z → decimal_of z ≡ coefficient → ⊥) → (others : List Term) → AllByRecursion IsTerm others → flat_map term_words others ≡ all → ⊥
no_coefficient all rest more coefficient atom terms r e none others h same =
    let front = readable_front coefficient atom more (subst AreReadable e (r.left (others, h, same))) in
    none front.0.coefficient front.1.0 front.2

pub no_atom : (all rest more : List (List ℕ)) (coefficient atom : List ℕ) (terms : List Term) → ReadTerms all rest terms → rest ≡ coefficient ∷ atom ∷ more → ((a : Atom) → IsRowAtom a → atom_text a ≡ atom → ⊥) → (others : List Term) → AllByRecursion IsTerm others → flat_map term_words others ≡ all → ⊥
no_atom all rest more coefficient atom terms r e none others h same =
    let front = readable_front coefficient atom more (subst AreReadable e (r.left (others, h, same))) in
    none front.0.atom front.1.1 front.3

odd_word : (rest : List (List ℕ)) → length rest ≡ 1 → AreReadable rest → ⊥
odd_word rest one ([], h, e) = omega (arith, ap length e)
odd_word rest one (term ∷ terms, h, e) = omega (arith, ap length e)

pub no_odd_word : (all rest : List (List ℕ)) (terms : List Term) → ReadTerms all rest terms → length rest ≡ 1 → (others : List Term) → AllByRecursion IsTerm others → flat_map term_words others ≡ all → ⊥
no_odd_word all rest terms r one others h same = odd_word rest one (r.left (others, h, same))

pub terms_all : (all rest : List (List ℕ)) (terms : List Term) → ReadTerms all rest terms → length rest ≡ 0 → AllByRecursion IsTerm terms × (flat_map term_words terms ≡ all)
terms_all all [] terms r none = (r.formed, sym (append-nil (flat_map term_words terms)) ∙ r.joined)
terms_all all (word ∷ rest) terms r none = absurd (omega arith)

pub coefficient_kept : (z : ℤ) → IsCoefficient z → to_z w64 (of_z w64 z) ≡ z
coefficient_kept z h = to_z-of_z w64 z (word_of_within (2 ^ 16) z (omega arith) h.within)

pub constant_kept : (z : ℤ) → IsWithin (2 ^ 40) z → to_z w64 (of_z w64 z) ≡ z
constant_kept z h = to_z-of_z w64 z (word_of_within (2 ^ 40) z (omega arith) h)

-- ---- rows

-- terms whose words these are and that are not those of a row leave none that are
pub no_row_terms : (texts : List (List ℕ)) (terms : List Term) → AllByRecursion IsTerm terms → flat_map term_words terms ≡ texts → ((1 ≤ length terms) × (length terms ≤ 16) × AreInOrder (map (λ term. term.atom) terms) → ⊥) → (others : List Term) → AreRowTerms others → flat_map term_words others ≡ texts → ⊥
no_row_terms texts terms h e none others row same =
    let equal : others ≡ terms = terms_inject others terms row.are_terms h (same ∙ sym e) in
    let row' = subst AreRowTerms equal row in
    none (row'.some, row'.few, row'.ordered)

-- the words of a row behind its keyword
pub record IsRowTexts (texts : List (List ℕ)) (template : List ℕ) (terms : List (List ℕ)) (sign most : List ℕ) : Type 0 where
  pub parts : texts ≡ template ∷ terms ++ sign ∷ most ∷ []

pub row_texts : (words : List (Bor (List ℕ))) (d : Bor (List ℕ)) → 3 ≤ length words → IsRowTexts (texts_of words) (get_or words 0 d).now (texts_of (take (length words - 2 - 1) (drop 1 words))) (get_or words (length words - 2) d).now (get_or words (length words - 1) d).now
row_texts words d some = record {
  parts = ap texts_of (row_places words d some) ∙ ap (λ ws. (get_or words 0 d).now ∷ ws) (map-append (λ (word : Bor (List ℕ)). word.now) (take (length words - 2 - 1) (drop 1 words)) (get_or words (length words - 2) d ∷ get_or words (length words - 1) d ∷ []));
}

-- what the row is whose words these are
pub record HasRow (template : List ℕ) (terms : List (List ℕ)) (sign most : List ℕ) : Type 0 where
  pub number : ℕ
  pub positive : 1 ≤ number
  pub numbered : numeral number ≡ template
  pub row : List Term
  pub is_row : AreRowTerms row
  pub spelled : flat_map term_words row ≡ terms
  pub signed : codes "<=" ≡ sign
  pub bound : ℤ
  pub within : IsWithin (2 ^ 40) bound
  pub bounded : decimal_of bound ≡ most

pub has_row : {texts terms : List (List ℕ)} {template sign most : List ℕ} → IsRowTexts texts template terms sign most → (line : Line) → IsLine line → line_words line ≡ codes "row" ∷ texts → HasRow template terms sign most
has_row {texts} {terms} {template} {sign} {most} split line h e =
    let r = row_of line texts e in
    let is = subst IsLine r.row h in
    let same : numeral r.template ∷ flat_map term_words r.terms ++ codes "<=" ∷ decimal_of r.most ∷ [] ≡ template ∷ terms ++ sign ∷ most ∷ [] = r.words_are ∙ split.parts in
    let first : numeral r.template ≡ template = cc in
    let rest : flat_map term_words r.terms ++ codes "<=" ∷ decimal_of r.most ∷ [] ≡ terms ++ sign ∷ most ∷ [] = cc in
    let parts = last_two (flat_map term_words r.terms) terms (codes "<=") (decimal_of r.most) sign most rest in
    record {
      number = r.template;
      positive = is.0;
      numbered = first;
      row = r.terms;
      is_row = is.1;
      spelled = parts.0;
      signed = parts.1;
      bound = r.most;
      within = is.2;
      bounded = parts.2;
    }

pub row_made : {texts terms : List (List ℕ)} {template sign most : List ℕ} → IsRowTexts texts template terms sign most → (n : ℕ) (row : List Term) (z : ℤ) → numeral n ≡ template → flat_map term_words row ≡ terms → codes "<=" ≡ sign → decimal_of z ≡ most → codes "row" ∷ row_words n row z ≡ codes "row" ∷ texts
row_made split n row z a b c d =
    ap (λ ws. codes "row" ∷ ws) (rw (a, b, c, d) (sym split.parts))

-- ---- words

-- where no keyword is first, the words are those of no line
pub no_keyword : (texts rest : List (List ℕ)) (first : List ℕ) → texts ≡ first ∷ rest → ((word : Keyword) → Unit {0} → keyword_text word ≡ first → ⊥) → (line : Line) → IsLine line → line_words line ≡ texts → ⊥
no_keyword texts rest first e none line h same =
    let r = keyword_of line in
    let both : keyword_text r.0 ∷ r.1 ≡ first ∷ rest = sym r.2 ∙ same ∙ e in
    let equal : keyword_text r.0 ≡ first = cc in
    none r.0 tt equal

-- a text of which the words were read
pub text_read : (text : List ℕ) (words : List (List ℕ)) (line : Option Line) → words ≡ slice_split (λ byte. eqb byte 32) text → Reads IsLine line_words words line → Reads IsLine line_text text line
text_read text words None e reads =
    λ line h same. reads line h (sym (split_words line h) ∙ ap (slice_split (λ byte. eqb byte 32)) same ∙ sym e)
text_read text words (Some line) e reads =
    (reads.0, ap (join_with_byte 32) (reads.1 ∙ e) ∙ join_with_byte-slice_split 32 text)

pub result_read : {E : Type 0} (r : Result (Option Line) E) (text : List ℕ) (words : List (List ℕ)) → words ≡ slice_split (λ byte. eqb byte 32) text → IfOk r (Reads IsLine line_words words) → IfOk r (Reads IsLine line_text text)
result_read (Ok line) text words e reads = text_read text words line e reads
result_read (Err x) text words e reads = tt
