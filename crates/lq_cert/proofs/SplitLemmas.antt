-- Bytes cut at a byte.
use Rattle.std.proofs.Common.{◌≡◌, ◌≢◌, ℕ, suc, ◌+◌, ◌<◌, ◌≤◌, true, not, eqb, List, [], ◌∷◌, ◌++◌, length, take, drop, Some, None, refl, ap, sym, subst, ◌∙◌, inl, inr, arith}
use Rattle.std.specs.List.{AllByRecursion, list_all, position, position_or_len, slice_split, onto_first, join_with_byte}
use Rattle.std.proofs.lemmas.Bool.{cond-true, cond-false, ne_eqb, eq-eqb, cases_eq, cases_lt, lt-ltb, le-ltb, and_parts, not-true, eqb-false}
use Rattle.lq_text.proofs.Lists.{all_joined}
use Rattle.lq_cert.specs.Split.{Avoids, IsSplitAt}

-- bytes in which a test finds no such byte
pub avoids_by_test : (byte : ℕ) (bytes : List ℕ) → list_all (λ each. not (eqb each byte)) bytes ≡ true → Avoids byte bytes
avoids_by_test byte [] h = tt
avoids_by_test byte (each ∷ bytes) h =
    let parts = and_parts _ _ h in
    (eqb-false each byte (not-true _ parts.0), avoids_by_test byte bytes parts.1)

-- ---- the place of the first such byte

-- how many bytes stand before the first such one
abbrev count_before : ℕ → List ℕ → ℕ
count_before byte bytes = position_or_len (λ each. eqb each byte) bytes

none_before : (byte first : ℕ) (bytes : List ℕ) → first ≡ byte → count_before byte (first ∷ bytes) ≡ 0
none_before byte first bytes same = rw (eq-eqb first byte same) refl

one_more_before : (byte first : ℕ) (bytes : List ℕ) → first ≢ byte → count_before byte (first ∷ bytes) ≡ 1 + count_before byte bytes
one_more_before byte first bytes other = rw (ne_eqb first byte other) refl

split_more : (byte first at : ℕ) (bytes : List ℕ) → first ≢ byte → IsSplitAt byte bytes (take at bytes) (drop (at + 1) bytes) → IsSplitAt byte (first ∷ bytes) (take (suc at) (first ∷ bytes)) (drop (suc at + 1) (first ∷ bytes))
split_more byte first at bytes other r =
    let more : suc at + 1 ≡ suc (at + 1) = omega arith in
    rw more (record { joined = ap (λ bs. first ∷ bs) r.joined; first = (other, r.first) })

split_here_at : (byte first : ℕ) (bytes : List ℕ) → first ≡ byte → IsSplitAt byte (first ∷ bytes) (take 0 (first ∷ bytes)) (drop (0 + 1) (first ∷ bytes))
split_here_at byte first bytes same = record { joined = ap (λ b. b ∷ bytes) same; first = tt }

split_place : (byte : ℕ) (bytes : List ℕ) (at : ℕ) → count_before byte bytes ≡ at → at < length bytes → IsSplitAt byte bytes (take at bytes) (drop (at + 1) bytes)
split_place byte [] at e lt = absurd (omega arith)
split_place byte (first ∷ bytes) at e lt =
    elim (cases_eq first byte) [
      | inl same ↦
          let zero_at : at ≡ 0 = sym e ∙ none_before byte first bytes same in
          subst (λ k. IsSplitAt byte (first ∷ bytes) (take k (first ∷ bytes)) (drop (k + 1) (first ∷ bytes))) (sym zero_at) (split_here_at byte first bytes same)
      | inr other ↦
          let before : at ≡ 1 + count_before byte bytes = sym e ∙ one_more_before byte first bytes other in
          let suc_at : suc (count_before byte bytes) ≡ at = omega arith in
          subst (λ k. IsSplitAt byte (first ∷ bytes) (take k (first ∷ bytes)) (drop (k + 1) (first ∷ bytes))) suc_at
          (split_more byte first (count_before byte bytes) bytes other (split_place byte bytes (count_before byte bytes) refl (omega arith)))
    ]

no_place : (byte : ℕ) (bytes : List ℕ) → length bytes ≤ count_before byte bytes → Avoids byte bytes
no_place byte [] le = tt
no_place byte (first ∷ bytes) le =
    elim (cases_eq first byte) [
      | inl same ↦ let none = none_before byte first bytes same in absurd (omega arith)
      | inr other ↦ let more = one_more_before byte first bytes other in (other, no_place byte bytes (omega arith))
    ]

pub split_at_position : (byte : ℕ) (bytes : List ℕ) (at : ℕ) → Some at ≡ position (λ each. eqb each byte) bytes → IsSplitAt byte bytes (take at bytes) (drop (at + 1) bytes)
split_at_position byte bytes at e =
    elim (cases_lt (count_before byte bytes) (length bytes)) [
      | inl lt ↦
          let place : Some at ≡ Some (count_before byte bytes) = e ∙ cond-true _ _ _ (lt-ltb _ _ lt) in
          let same : count_before byte bytes ≡ at = cc in
          split_place byte bytes at same (omega arith)
      | inr le ↦
          let none : Some at ≡ None = e ∙ cond-false _ _ _ (le-ltb _ _ le) in
          absurd cc
    ]

pub avoids_by_position : (byte : ℕ) (bytes : List ℕ) → None ≡ position (λ each. eqb each byte) bytes → Avoids byte bytes
avoids_by_position byte bytes e =
    elim (cases_lt (count_before byte bytes) (length bytes)) [
      | inl lt ↦
          let some : None ≡ Some (count_before byte bytes) = e ∙ cond-true _ _ _ (lt-ltb _ _ lt) in
          absurd cc
      | inr le ↦ no_place byte bytes le
    ]

-- ---- cutting undoes joining

split_here : (byte : ℕ) (rest : List ℕ) → slice_split (λ each. eqb each byte) (byte ∷ rest) ≡ [] ∷ slice_split (λ each. eqb each byte) rest
split_here byte rest = cond-true (eqb byte byte) _ _ (eq-eqb byte byte refl)

split_later : (byte first : ℕ) (rest : List ℕ) → first ≢ byte → slice_split (λ each. eqb each byte) (first ∷ rest) ≡ onto_first first (slice_split (λ each. eqb each byte) rest)
split_later byte first rest other = cond-false (eqb first byte) _ _ (ne_eqb first byte other)

pub split_first : (byte : ℕ) (front back : List ℕ) → Avoids byte front → slice_split (λ each. eqb each byte) (front ++ byte ∷ back) ≡ front ∷ slice_split (λ each. eqb each byte) back
split_first byte [] back h = split_here byte back
split_first byte (x ∷ front) back h = split_later byte x (front ++ byte ∷ back) h.0 ∙ ap (onto_first x) (split_first byte front back h.1)

pub split_none : (byte : ℕ) (bytes : List ℕ) → Avoids byte bytes → slice_split (λ each. eqb each byte) bytes ≡ bytes ∷ []
split_none byte [] h = refl
split_none byte (x ∷ bytes) h = split_later byte x bytes h.0 ∙ ap (onto_first x) (split_none byte bytes h.1)

-- words that avoid a byte, joined by it and cut at it again
pub slice_split-join : (byte : ℕ) (word : List ℕ) (words : List (List ℕ)) → AllByRecursion (Avoids byte) (word ∷ words) → slice_split (λ each. eqb each byte) (join_with_byte byte (word ∷ words)) ≡ word ∷ words
slice_split-join byte word [] h = split_none byte word h.0
slice_split-join byte word (next ∷ words) h =
    split_first byte word (join_with_byte byte (next ∷ words)) h.0 ∙ ap (λ ws. word ∷ ws) (slice_split-join byte next words h.1)

-- words avoid what the text joined by another byte avoids
pub avoids_joined : (byte between : ℕ) (words : List (List ℕ)) → between ≢ byte → AllByRecursion (Avoids byte) words → Avoids byte (join_with_byte between words)
avoids_joined byte between [] other h = tt
avoids_joined byte between (word ∷ []) other h = h.0
avoids_joined byte between (word ∷ next ∷ words) other h =
    all_joined _ word (between ∷ join_with_byte between (next ∷ words)) h.0 (other, avoids_joined byte between (next ∷ words) other h.1)
