-- What is written of qualifiers reads as them.
use Rattle.std.proofs.Common.{◌≡◌, ◌≢◌, ℕ, zero, suc, ◌+◌, ◌<◌, Bool, true, false, cond, eqb, ◌||◌, List, [], ◌∷◌, ◌++◌, length, map, ℤ, pos, neg_ℤ, ◌-ℤ◌, refl, sym, ap, subst, ◌∙◌, arith, append_assoc, append-nil}
use Rattle.std.specs.Prelude.{codes, slice_get, IsSomeAnd}
use Rattle.std.specs.List.{AllByRecursion, list_any, flat_map}
use Rattle.std.proofs.lemmas.Bool.{ne_eqb, eqb-false, or_parts}
use Rattle.std.proofs.lemmas.Int.{ints}
use Rattle.std.proofs.lemmas.List.Elements.{All-from_recursion}
use Rattle.std.proofs.lemmas.List.Splits.{slice_split_at}
use Rattle.lq_text.specs.Atom.{IsAtom}
use Rattle.lq_text.specs.Numbers.{lines_of}
use Rattle.lq_text.specs.declared.atom.Atom.{Atom}
use Rattle.lq_text.proofs.Lists.{Avoids, all_joined, all_weaker}
use Rattle.lq_linear.specs.Row.{Inequality}
use Rattle.lq_linear.specs.Terms.{IsCoefficient}
use Rattle.lq_quals.specs.declared.term.Addend.{Addend}
use Rattle.lq_quals.specs.declared.comparison.Relation.{Relation}
use Rattle.lq_quals.specs.declared.comparison.Relation.TheVariants.{AtMost, Less, AtLeast, More, Equal}
use Rattle.lq_quals.specs.declared.comparison.Comparison.{Comparison}
use Rattle.lq_quals.specs.declared.qualifier.Qualifier.{Qualifier}
use Rattle.lq_quals.specs.declared.qualifier.Qualifier.TheVariants as qualifier
use Rattle.lq_quals.specs.declared.quals.Quals.{Quals}
use Rattle.lq_quals.specs.Term.{signed, IsTerm}
use Rattle.lq_quals.specs.Term.IsTerm.{number, multiple, single}
use Rattle.lq_quals.specs.Side.{AreMore, IsSide}
use Rattle.lq_quals.specs.Side.AreMore.{none as no_terms, plus, minus}
use Rattle.lq_quals.specs.Side.IsSide.{plain, opposite}
use Rattle.lq_quals.specs.Comparison.{relation_text, is_reversed, is_strict, IsComparison}
use Rattle.lq_quals.specs.Collect.{constant_of, numbered, terms_of}
use Rattle.lq_quals.specs.Qualifier.{most_of, row_of, qualifier_of, rows_of, IsGoodRow, IsGood}
use Rattle.lq_quals.specs.Spacing.{without_blanks}
use Rattle.lq_quals.specs.Quals.{no_quals, atoms_with, with_comparison, ReadsLine, ReadsLines, IsQualsText}
use Rattle.lq_quals.specs.Quals.ReadsLine.{skipped, comparison}
use Rattle.lq_quals.specs.Quals.ReadsLines.{none, more}
use Rattle.lq_quals.specs.Writing.{row_text, qualifier_text, quals_text}
use Rattle.lq_quals.proofs.QualsLemmas.{line_more}
use Rattle.lq_quals.proofs.NumberingLemmas.{Distinct, numbers, HasAtom, numbered_are_atoms}
use Rattle.lq_quals.proofs.GrowthLemmas.{Grows, grows_none, Below, terms_below, lines_grow}
use Rattle.lq_quals.proofs.SpellingLemmas.{AreReadable, most_addend, bare_row, row_read}
use Rattle.lq_quals.proofs.BlanksLemmas.{row_avoids, IsBetween, between_at_most, between_equal, row_spaced, row_said}
use Rattle.lq_quals.proofs.AgainLemmas.{all_both, rewritten, same_coefficients, terms_same, constant_rewritten, numbered_again, addends_again}

-- ---- the addends of a comparison

term_has : {negated : Bool} {text : List ℕ} {x : Addend} → IsTerm negated text x → HasAtom x
term_has (number h) = tt
term_has (multiple h k) = k
term_has (single k) = k

more_have : {negated : Bool} {text : List ℕ} {xs : List Addend} → AreMore negated text xs → AllByRecursion HasAtom xs
more_have no_terms = tt
more_have (plus h k) = (term_has h, more_have k)
more_have (minus h k) = (term_has h, more_have k)

side_has : {negated : Bool} {text : List ℕ} {xs : List Addend} → IsSide negated text xs → AllByRecursion HasAtom xs
side_has (plain h k) = (term_has h, more_have k)
side_has (opposite h k) = (term_has h, more_have k)

pub comparison_has : {text : List ℕ} {c : Comparison} → IsComparison text c → AllByRecursion HasAtom c.addends
comparison_has p = subst (AllByRecursion HasAtom) (sym p.joined) (all_joined HasAtom p.first p.later (side_has p.left_side) (side_has p.right_side))

-- ---- rows that can be read

there : (atoms rest : List Atom) (k : ℕ) → k < length atoms → AllByRecursion IsAtom atoms → IsSomeAnd (slice_get (atoms ++ rest) k) IsAtom
there [] rest k h all = absurd (omega arith)
there (atom ∷ atoms) rest zero h all = all.0
there (atom ∷ atoms) rest (suc k) h all = there atoms rest k (omega arith) all.1

readable : (atoms rest : List Atom) (terms : List (ℕ × ℤ)) → AllByRecursion IsAtom atoms → Below (length atoms) terms → AllByRecursion (λ term. IsCoefficient term.1) terms → AreReadable (atoms ++ rest) terms
readable atoms rest terms all below h =
    all_both (λ term. IsCoefficient term.1) (λ term. term.0 < length atoms) (λ term. IsCoefficient term.1 × IsSomeAnd (slice_get (atoms ++ rest) term.0) IsAtom)
    (λ term small near. (small, there atoms rest term.0 near all)) terms h below

-- ---- one line

row_same : (negated : Bool) (c d : Comparison) (atoms : List Atom) → terms_of negated c.addends 0 atoms ≡ terms_of negated d.addends 0 atoms → most_of c ≡ most_of d → row_of negated c atoms ≡ row_of negated d atoms
row_same negated c d atoms h k =
    let by_terms : List (ℕ × ℤ) → Inequality = λ ts. record { terms = ts; most = signed negated (most_of c) } in
    let by_most : ℤ → Inequality = λ z. record { terms = terms_of negated d.addends 0 atoms; most = signed negated z } in
    ap by_terms h ∙ ap by_most k

most_back : (relation : Relation) (old : List Addend) (atoms : List Atom) (most : ℤ) → is_strict relation ≡ false → most_of (record { relation = relation; addends = rewritten old atoms most }) ≡ most
most_back relation old atoms most h =
    ap (λ b. neg_ℤ (constant_of (rewritten old atoms most)) -ℤ cond b (pos 1) (pos 0)) h ∙ ap (λ z. neg_ℤ z -ℤ pos 0) (constant_rewritten old atoms most) ∙ omega (arith, ints)

lacking : (text : List ℕ) → list_any (λ byte. eqb byte 13 || (eqb byte 35 || eqb byte 10)) text ≡ false → AllByRecursion (λ byte. (byte ≢ 13) × (byte ≢ 35) × (byte ≢ 10)) text
lacking [] h = tt
lacking (byte ∷ text) h =
    let parts = or_parts (eqb byte 13 || (eqb byte 35 || eqb byte 10)) (list_any (λ each. eqb each 13 || (eqb each 35 || eqb each 10)) text) h in
    let others = or_parts (eqb byte 13) (eqb byte 35 || eqb byte 10) parts.0 in
    let last = or_parts (eqb byte 35) (eqb byte 10) others.1 in
    ((eqb-false byte 13 others.0, eqb-false byte 35 last.0, eqb-false byte 10 last.1), lacking text parts.1)

-- a relation that is written, and what stands between the terms and the number for it
record IsWrittenAs (relation : Relation) (between : List ℕ) : Type 0 where
  pub forward : is_reversed relation ≡ false
  pub loose : is_strict relation ≡ false
  pub bare : without_blanks between ≡ relation_text relation
  pub no_return : Avoids 13 between
  pub no_hash : Avoids 35 between
  pub no_feed : Avoids 10 between
  pub is_between : IsBetween between

written_by : (relation : Relation) (between : List ℕ) → is_reversed relation ≡ false → is_strict relation ≡ false → without_blanks between ≡ relation_text relation → list_any (λ byte. eqb byte 13 || (eqb byte 35 || eqb byte 10)) between ≡ false → IsBetween between → IsWrittenAs relation between
written_by relation between forward loose bare lacks fits = record {
  forward = forward;
  loose = loose;
  bare = bare;
  no_return = all_weaker _ _ (λ byte out. out.0) between (lacking between lacks);
  no_hash = all_weaker _ _ (λ byte out. out.1) between (lacking between lacks);
  no_feed = all_weaker _ _ (λ byte out. out.2) between (lacking between lacks);
  is_between = fits;
}

-- a line whose comparison is c, behind these qualifiers, written over its atoms and more
module _ (quals : Quals) (c : Comparison) (rest : List Atom) (distinct : Distinct quals.atoms) (are_atoms : AllByRecursion IsAtom quals.atoms) (has : AllByRecursion HasAtom c.addends) where
  abbrev atoms : List Atom
  atoms = atoms_with quals.atoms c

  abbrev row : Inequality
  row = row_of false c atoms

  -- the comparison that is written
  abbrev rewriting : Relation → Comparison
  rewriting relation = record { relation = relation; addends = rewritten c.addends atoms (most_of c) }

  new_distinct : Distinct atoms
  new_distinct = (numbers c.addends quals.atoms c.addends).distinct distinct

  row_readable : IsGoodRow atoms row → AreReadable (atoms ++ rest) row.terms
  row_readable good =
      readable atoms rest row.terms (numbered_are_atoms c.addends quals.atoms c.addends are_atoms has) (terms_below false c.addends (length atoms) 0 atoms (omega arith)) good.are_terms.coefficients

  row_clear : (relation : Relation) (between : List ℕ) → IsWrittenAs relation between → IsGoodRow atoms row → Avoids 10 (row_text (atoms ++ rest) between row)
  row_clear relation between w good =
      row_avoids 10 (atoms ++ rest) between row refl (λ e. omega arith) (λ e. omega arith) (λ e. omega arith) (λ e. omega arith) w.no_feed (row_readable good) good.within

  comparison_back : (relation : Relation) (between : List ℕ) → IsWrittenAs relation between → IsGoodRow atoms row → IsComparison (bare_row (atoms ++ rest) row.terms relation (most_of c)) (rewriting relation)
  comparison_back relation between w good =
      let by_addends : List Addend → Comparison = λ xs. record { relation = relation; addends = xs ++ most_addend (most_of c) ∷ [] } in
      subst (λ xs. IsComparison (bare_row (atoms ++ rest) row.terms relation (most_of c)) (by_addends xs)) (addends_again c.addends (atoms ++ rest) [] atoms rest refl)
      (row_read (atoms ++ rest) row.terms relation (most_of c) w.forward good.some (row_readable good) good.within)

  atoms_back : (relation : Relation) → atoms_with quals.atoms (rewriting relation) ≡ atoms
  atoms_back relation =
      let n = numbers c.addends quals.atoms c.addends in
      subst (λ l. numbered (rewritten c.addends l (most_of c)) quals.atoms (rewritten c.addends l (most_of c)) ≡ l) (sym n.joined)
      (numbered_again c.addends quals.atoms n.added (most_of c) (subst Distinct n.joined new_distinct) n.stay)

  row_back : (negated : Bool) (relation : Relation) → is_strict relation ≡ false → row_of negated (rewriting relation) atoms ≡ row_of negated c atoms
  row_back negated relation loose =
      row_same negated (rewriting relation) c atoms (terms_same negated (rewritten c.addends atoms (most_of c)) c.addends 0 atoms (same_coefficients c.addends atoms (most_of c) new_distinct)) (most_back relation c.addends atoms (most_of c) loose)

  line_by : (relation : Relation) (between : List ℕ) → IsWrittenAs relation between → IsGoodRow atoms row → IsGood c atoms → qualifier_of (rewriting relation) atoms ≡ qualifier_of c atoms → ReadsLine quals (row_text (atoms ++ rest) between row) (with_comparison quals c)
  line_by relation between w good all same =
      let by_atoms : List Atom → Quals = λ l. record { atoms = l; list = quals.list ++ qualifier_of (rewriting relation) l ∷ [] } in
      let by_qualifier : Qualifier → Quals = λ q. record { atoms = atoms; list = quals.list ++ q ∷ [] } in
      let is_good : IsGood (rewriting relation) (atoms_with quals.atoms (rewriting relation)) =
      subst (λ l. AllByRecursion (IsGoodRow l) (rows_of (qualifier_of (rewriting relation) l))) (sym (atoms_back relation)) (subst (λ q. AllByRecursion (IsGoodRow atoms) (rows_of q)) (sym same) all) in
      let read : ReadsLine quals (row_text (atoms ++ rest) between row) (with_comparison quals (rewriting relation)) =
      comparison (row_spaced (atoms ++ rest) between (relation_text relation) row w.no_return w.bare w.is_between (row_readable good) good.within)
      (row_said (atoms ++ rest) between (relation_text relation) row w.no_hash w.bare (row_readable good) good.within) (comparison_back relation between w good) is_good in
      subst (ReadsLine quals (row_text (atoms ++ rest) between row)) (ap by_atoms (atoms_back relation) ∙ ap by_qualifier same) read

-- a written qualifier holds no line feed, and reads as the qualifier
record IsBack (quals after : Quals) (line : List ℕ) : Type 0 where
  pub clear : Avoids 10 line
  pub read : ReadsLine quals line after

at_most_back : (quals : Quals) (c : Comparison) (rest : List Atom) → Distinct quals.atoms → AllByRecursion IsAtom quals.atoms → AllByRecursion HasAtom c.addends
    → qualifier_of c (atoms_with quals.atoms c) ≡ qualifier.AtMost (row_of false c (atoms_with quals.atoms c)) → IsGood c (atoms_with quals.atoms c) → IsGoodRow (atoms_with quals.atoms c) (row_of false c (atoms_with quals.atoms c))
    → IsBack quals (with_comparison quals c) (row_text (atoms_with quals.atoms c ++ rest) (codes " <= ") (row_of false c (atoms_with quals.atoms c)))
at_most_back quals c rest d a h is all good = record {
  clear = row_clear quals c rest d a h AtMost (codes " <= ") (written_by AtMost (codes " <= ") refl refl refl refl between_at_most) good;
  read = line_by quals c rest d a h AtMost (codes " <= ") (written_by AtMost (codes " <= ") refl refl refl refl between_at_most) good all (ap qualifier.AtMost (row_back quals c rest d a h false AtMost refl) ∙ sym is);
}

line_back : (quals : Quals) (relation : Relation) (addends : List Addend) (rest : List Atom) → Distinct quals.atoms → AllByRecursion IsAtom quals.atoms → AllByRecursion HasAtom addends
    → IsGood (record { relation = relation; addends = addends }) (numbered addends quals.atoms addends)
    → IsBack quals (with_comparison quals (record { relation = relation; addends = addends })) (qualifier_text (numbered addends quals.atoms addends ++ rest) (qualifier_of (record { relation = relation; addends = addends }) (numbered addends quals.atoms addends)))
line_back quals AtMost addends rest d a h good = at_most_back quals (record { relation = AtMost; addends = addends }) rest d a h refl good good.0
line_back quals Less addends rest d a h good = at_most_back quals (record { relation = Less; addends = addends }) rest d a h refl good good.0
line_back quals AtLeast addends rest d a h good = at_most_back quals (record { relation = AtLeast; addends = addends }) rest d a h refl good good.0
line_back quals More addends rest d a h good = at_most_back quals (record { relation = More; addends = addends }) rest d a h refl good good.0
line_back quals Equal addends rest d a h good =
    let c : Comparison = record { relation = Equal; addends = addends } in
    let row = row_back quals c rest d a h false Equal refl in
    let opposite = row_back quals c rest d a h true Equal refl in
    record {
      clear = row_clear quals c rest d a h Equal (codes " == ") (written_by Equal (codes " == ") refl refl refl refl between_equal) good.0;
      read = line_by quals c rest d a h Equal (codes " == ") (written_by Equal (codes " == ") refl refl refl refl between_equal) good.0 good
          (ap (λ r. qualifier.Equal r (row_of true (rewriting quals c rest d a h Equal) (atoms_with quals.atoms c))) row ∙ ap (λ r. qualifier.Equal (row_of false c (atoms_with quals.atoms c)) r) opposite);
    }

-- ---- all lines

-- the qualifiers behind those before, written over all atoms, read as them
record AreBack (before after : Quals) (all : List Atom) : Type 0 where
  pub later : List Qualifier
  pub listed : after.list ≡ before.list ++ later
  pub clear : AllByRecursion (λ each. Avoids 10 (qualifier_text all each)) later
  pub read : ReadsLines before (map (qualifier_text all) later) after

lines_back : {before after : Quals} {texts : List (List ℕ)} → ReadsLines before texts after → Distinct before.atoms → AllByRecursion IsAtom before.atoms → (all : List Atom) → Grows after.atoms all → AreBack before after all
lines_back {before} none d a all g = record { later = []; listed = sym (append-nil before.list); clear = tt; read = none }
lines_back (more (skipped h) p) d a all g = lines_back p d a all g
lines_back {before} {after} (more (comparison {c} s out read good) p) d a all g =
    let n = numbers c.addends before.atoms c.addends in
    let b = lines_back p (n.distinct d) (numbered_are_atoms c.addends before.atoms c.addends a (comparison_has read)) all g in
    let q : Qualifier = qualifier_of c (atoms_with before.atoms c) in
    let atoms : List Atom = atoms_with before.atoms c in
    let grown = lines_grow p in
    let joined : all ≡ atoms ++ (grown.added ++ g.added) = g.joined ∙ ap (λ l. l ++ g.added) grown.joined ∙ append_assoc atoms grown.added g.added in
    let line : IsBack before (with_comparison before c) (qualifier_text all q) =
    subst (λ l. IsBack before (with_comparison before c) (qualifier_text l q)) (sym joined) (line_back before c.relation c.addends (grown.added ++ g.added) d a (comparison_has read) good) in
    record {
      later = q ∷ b.later;
      listed = b.listed ∙ append_assoc before.list (q ∷ []) b.later;
      clear = (line.clear, b.clear);
      read = more line.read b.read;
    }

-- ---- the text

lines_cut : (all : List Atom) (list : List Qualifier) → AllByRecursion (λ each. Avoids 10 (qualifier_text all each)) list → lines_of (flat_map (λ each. qualifier_text all each ++ 10 ∷ []) list) ≡ map (qualifier_text all) list ++ [] ∷ []
lines_cut all [] h = refl
lines_cut all (each ∷ list) h =
    let line : List ℕ = qualifier_text all each in
    let rest : List ℕ = flat_map (λ each. qualifier_text all each ++ 10 ∷ []) list in
    ap lines_of (append_assoc line (10 ∷ []) rest)
    ∙ slice_split_at (λ byte. eqb byte 10) line 10 rest (All-from_recursion (λ byte. eqb byte 10 ≡ false) line (all_weaker (λ byte. byte ≢ 10) (λ byte. eqb byte 10 ≡ false) (λ byte out. ne_eqb byte 10 out) line h.0)) refl
    ∙ ap (λ ls. line ∷ ls) (lines_cut all list h.1)

pub text_back : (text : List ℕ) (quals : Quals) → IsQualsText text quals → IsQualsText (quals_text quals) quals
text_back text quals p =
    let b = lines_back p tt tt quals.atoms (grows_none quals.atoms) in
    let cut : lines_of (flat_map (λ each. qualifier_text quals.atoms each ++ 10 ∷ []) b.later) ≡ map (qualifier_text quals.atoms) b.later ++ [] ∷ [] = lines_cut quals.atoms b.later b.clear in
    let read : ReadsLines no_quals (map (qualifier_text quals.atoms) b.later ++ [] ∷ []) quals = line_more b.read (skipped refl) in
    subst (λ list. ReadsLines no_quals (lines_of (flat_map (λ each. qualifier_text quals.atoms each ++ 10 ∷ []) list)) quals) (sym b.listed)
    (subst (λ ls. ReadsLines no_quals ls quals) (sym cut) read)
