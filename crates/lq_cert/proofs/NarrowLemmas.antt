-- A right certificate whose combinations a search may find is a derivation.
use Rattle.std.proofs.Common.{◌≡◌, ℕ, zero, suc, ◌+◌, ◌≤◌, inl, inr, List, [], ◌∷◌, ◌++◌, length, reverse, sym, ap, ◌∙◌, arith, subst, append_assoc, length-append, append-nil}
use Rattle.std.proofs.lemmas.List.{reverse-append}
use Rattle.std.proofs.lemmas.Grind.{reverse_onto}
use Rattle.std.specs.List.{AllByRecursion}
use Rattle.lq_linear.specs.Row.{Inequality}
use Rattle.lq_linear.specs.Item.{dividend_row}
use Rattle.lq_linear.specs.Derivation.{Combination, IsCombination, IsMultiplier, IsFact, Derives}
use Rattle.lq_linear.specs.Certificate.{Exactness, Certificate}
use Rattle.lq_linear.specs.declared.item.Item.{Item}
use Rattle.lq_linear.specs.declared.combination.TheConstants.{WIDTH}
use Rattle.lq_linear.proofs.LawLemmas.{all_usable}
use Rattle.lq_validity.specs.Derives.{divisions}
use Rattle.lq_cert.specs.Right.{MayUse, IsRight, IsRightEntry, IsRightCertificate, IsNarrow}
use Rattle.lq_cert.proofs.RisingLemmas.{all_both}
use Rattle.lq_cert.proofs.SoundLemmas.{entry_of, third_divides, right_before}

-- a fact stays one when more items come
fact_later : (multipliers : List ℕ) (later items : List Item) (n : ℕ) → IsFact multipliers items n → IsFact multipliers (later ++ items) n
fact_later multipliers [] items n h = h
fact_later multipliers (x ∷ later) items n h = inl (fact_later multipliers later items n h)

reverse_split : (before after : List Item) (item : Item) → reverse (before ++ item ∷ after) ≡ reverse after ++ item ∷ reverse before
reverse_split before after item =
    reverse-append before (item ∷ after) ∙ ap (λ l. l ++ reverse before) (reverse_onto after item []) ∙ append_assoc (reverse after) (item ∷ []) (reverse before)

module _ (multipliers : List ℕ) (items : List Item) (entries : List Exactness)
    (right : AllByRecursion (λ e. IsRightEntry entries items e × IsNarrow multipliers e.combination) entries) where
  narrowed : (front : List Item) (goal : Inequality) (c : Combination) → IsNarrow multipliers c → IsRight entries front goal c → ((n : ℕ) → MayUse entries front n → IsFact multipliers (reverse front) n)
      → IsCombination WIDTH (IsMultiplier multipliers) (IsFact multipliers (reverse front)) c
  narrowed front goal c w r f = record {
    few = w.few;
    ascending = r.0.ascending;
    multipliers = w.multiplied;
    usable = all_usable (MayUse entries front) (IsFact multipliers (reverse front)) c.parts f r.0.usable;
    allowed = w.divided;
  }

  pub used_fact : (m : ℕ) (front back : List Item) → length front ≤ m → items ≡ front ++ back → (n : ℕ) → MayUse entries front n → IsFact multipliers (reverse front) n
  used_fact zero front back l e n h = absurd (omega (arith, l, ap length h.parts, length-append h.before (h.item ∷ h.after)))
  used_fact (suc m) front back l e n h =
      let whole : items ≡ h.before ++ h.item ∷ (h.after ++ back) = e ∙ ap (λ x. x ++ back) h.parts ∙ append_assoc h.before (h.item ∷ h.after) back in
      subst (λ x. IsFact multipliers x n) (sym (ap reverse h.parts ∙ reverse_split h.before h.after h.item))
      (fact_later multipliers (reverse h.after) (h.item ∷ reverse h.before) n (inr (
        h.place,
        h.counted,
        record {
          there = h.fact.there;
          bounded = h.fact.bounded;
          third = λ t.
              let found = entry_of (λ e. IsRightEntry entries items e × IsNarrow multipliers e.combination) entries (divisions (reverse h.before) + 1) (h.fact.third t) right in
              let entry = found.0 in
              let here = right_before entries items h.before (h.after ++ back) h.item entry whole (third_divides h.item h.place h.fact.there t) found.2.0 found.1 in
              let deeper = used_fact m h.before (h.item ∷ (h.after ++ back)) (omega (arith, l, ap length h.parts, length-append h.before (h.item ∷ h.after))) whole in
              (entry.combination, narrowed h.before (dividend_row h.item) entry.combination found.2.1 here deeper, (found.2.0).directly, here.1);
        },
      )))

pub narrow_derives : (multipliers : List ℕ) (items : List Item) (goal : Inequality) (certificate : Certificate)
    → IsRightCertificate items goal certificate → IsNarrow multipliers certificate.goal → AllByRecursion (λ e. IsNarrow multipliers e.combination) certificate.exacts
    → Derives multipliers (reverse items) goal
narrow_derives multipliers items goal certificate h w ws =
    let right = all_both (IsRightEntry certificate.exacts items) (λ e. IsNarrow multipliers e.combination) certificate.exacts h.entries ws in (
      certificate.goal,
      narrowed multipliers items certificate.exacts right items goal certificate.goal w h.goal_right
          (used_fact multipliers items certificate.exacts right (length items) items [] (omega arith) (sym (append-nil items))),
      h.goal_right.1,
    )
