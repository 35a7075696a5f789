-- A right proof has no bad entry, and no file has two first ones.
use Rattle.std.proofs.Common.{◌≡◌, ℕ, ◌+◌, ◌<◌, ◌≤◌, List, [], ◌∷◌, ◌++◌, length, map, reverse, inl, inr, refl, sym, ap, subst, ◌∙◌, arith, length-append, append_assoc}
use Rattle.std.specs.List.{AllByRecursion}
use Rattle.std.proofs.lemmas.Bool.{cases_lt}
use Rattle.std.proofs.lemmas.List.{append-nil, reverse-append}
use Rattle.std.proofs.lemmas.Grind.{reverse_onto}
use Rattle.lq_text.specs.Numbers.{lines_of}
use Rattle.lq_text.proofs.Lists.{all_right}
use Rattle.lq_cert.specs.Line.{IsLine, line_text}
use Rattle.lq_cert.specs.ProofFile.{IsLineOf, AreLines, lines_text}
use Rattle.lq_cert.specs.declared.line.Line.{Line}
use Rattle.lq_cert.proofs.FileLemmas.{line_inject, lines_of-lines_text, are_formed, stands_behind, next_line}
use Rattle.lq_templates.specs.declared.condition.Conditions.{Conditions}
use Rattle.lq_verdict.specs.Audit.{IsRightBehind, AreRight, HasEnded, IsRightFor, IsBad, IsFirstBadFor}

-- what stands last stands first
reverse_parts : {X : Type 0} (xs ys : List X) (y : X) → reverse (xs ++ y ∷ ys) ≡ reverse ys ++ y ∷ reverse xs
reverse_parts xs ys y = reverse-append xs (y ∷ ys) ∙ ap (λ l. l ++ reverse xs) (reverse_onto ys y []) ∙ append_assoc (reverse ys) (y ∷ []) (reverse xs)

module _ (asked : Conditions) where
  right_inside : (front before : List Line) (line : Line) → AreRight asked (front ++ line ∷ before) → IsRightBehind asked before line
  right_inside [] before line right = right.0
  right_inside (x ∷ front) before line right = right_inside front before line right.1

  -- a right line that a line feed ends is not bad
  not_bad : (lines : List Line) (line : Line) (bytes : List ℕ) (after : List (List ℕ)) → 0 < length after → IsLineOf lines line → bytes ≡ line_text line → IsRightBehind asked (reverse lines) line → IsBad asked lines bytes after → ⊥
  not_bad lines line bytes [] some formed same right is_bad = omega arith
  not_bad lines line bytes (next ∷ later) some formed same right is_bad = is_bad line formed same right

  -- nothing is bad among right lines
  bad_among : (all lines : List Line) (tail after : List (List ℕ)) (bad : List ℕ) → AreLines all → AreRight asked (reverse all) → AreLines lines → 0 < length tail
      → map line_text all ++ tail ≡ map line_text lines ++ bad ∷ after → length lines < length all → IsBad asked lines bad after → ⊥
  bad_among all lines tail after bad formed right before some e lt is_bad =
      let next = next_line lines all tail after bad (are_formed lines before) (are_formed all formed) e lt in
      let each : AllByRecursion (IsLineOf all) (lines ++ next.0 ∷ next.1) = subst (AllByRecursion (IsLineOf all)) next.2 formed in
      let here : IsLineOf all next.0 = (all_right (IsLineOf all) lines (next.0 ∷ next.1) each).0 in
      let behind : IsLineOf lines next.0 = stands_behind lines next.1 next.0 (subst (λ ls. IsLineOf ls next.0) next.2 here) in
      let parts : AreRight asked (reverse next.1 ++ next.0 ∷ reverse lines) = subst (AreRight asked) (ap reverse next.2 ∙ reverse_parts lines next.1 next.0) right in
      not_bad lines next.0 bad after (omega (arith, ap length next.4, length-append (map line_text next.1) tail)) behind next.3 (right_inside (reverse next.1) (reverse lines) next.0 parts) is_bad

  -- the lines of a file, and nothing behind them
  all_lines : (all lines : List Line) (bad : List ℕ) (after : List (List ℕ)) → AllByRecursion IsLine all → AllByRecursion IsLine lines → map line_text all ++ [] ∷ [] ≡ map line_text lines ++ bad ∷ after → length all ≤ length lines
      → (all ≡ lines) × (bad ≡ []) × (after ≡ [])
  all_lines [] [] bad after h k e le = (refl, cc, cc)
  all_lines [] (x ∷ lines) bad after h k e le = absurd (omega (arith, ap length e, length-append (map line_text lines) (bad ∷ after)))
  all_lines (y ∷ all) [] bad after h k e le = absurd (omega arith)
  all_lines (y ∷ all) (x ∷ lines) bad after h k e le =
      let texts : line_text y ≡ line_text x = cc in
      let rest : map line_text all ++ [] ∷ [] ≡ map line_text lines ++ bad ∷ after = cc in
      let first = line_inject y x h.0 k.0 texts in
      let others = all_lines all lines bad after h.1 k.1 rest (omega arith) in
      let same : all ≡ lines = others.0 in
      (cc, others.1, others.2)

  pub proof_is_not_bad : (text : List ℕ) (entry : ℕ) → IsRightFor asked text → IsFirstBadFor asked text entry → ⊥
  proof_is_not_bad text entry p b =
      let whole : text ≡ lines_text p.lines ++ [] = (p.is_text).spelled ∙ sym (append-nil (lines_text p.lines)) in
      let split : map line_text p.lines ++ [] ∷ [] ≡ map line_text b.lines ++ b.bad ∷ b.after =
      sym (lines_of-lines_text p.lines [] (are_formed p.lines (p.is_text).formed)) ∙ ap lines_of (sym whole) ∙ b.split in
      elim (cases_lt (length b.lines) (length p.lines)) [
        | inl lt ↦ bad_among p.lines b.lines ([] ∷ []) b.after b.bad (p.is_text).formed p.right b.formed (omega arith) split lt b.is_bad
        | inr le ↦
            let same = all_lines p.lines b.lines b.bad b.after (are_formed p.lines (p.is_text).formed) (are_formed b.lines b.formed) split le in
            let is_bad : IsBad asked b.lines b.bad [] = subst (IsBad asked b.lines b.bad) same.2 b.is_bad in
            is_bad same.1 (subst (λ ls. HasEnded (reverse ls)) same.0 p.ended)
      ]

  none_earlier : (text : List ℕ) (entry other : ℕ) (b : IsFirstBadFor asked text entry) (d : IsFirstBadFor asked text other) → length b.lines < length d.lines → ⊥
  none_earlier text entry other b d lt =
      bad_among d.lines b.lines (d.bad ∷ d.after) b.after b.bad d.formed d.right b.formed (omega arith) (sym d.split ∙ b.split) lt b.is_bad

  pub one_first_bad : (text : List ℕ) (entry other : ℕ) → IsFirstBadFor asked text entry → IsFirstBadFor asked text other → entry ≡ other
  one_first_bad text entry other b d =
      elim (cases_lt (length b.lines) (length d.lines)) [
        | inl lt ↦ absurd (none_earlier text entry other b d lt)
        | inr le ↦ elim (cases_lt (length d.lines) (length b.lines)) [
          | inl lt ↦ absurd (none_earlier text other entry d b lt)
          | inr ge ↦ omega (arith, b.counted, d.counted)
        ]
      ]
