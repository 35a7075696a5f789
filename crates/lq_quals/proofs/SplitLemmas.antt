-- Bytes cut before the first of a kind.
use Rattle.std.proofs.Common.{◌≡◌, ◌≤◌, ℕ, suc, ◌+◌, Bool, false, not, cond, List, [], ◌∷◌, ◌++◌, length, take, drop, Some, None, refl, sym, ap, subst, ◌∙◌, inl, inr, arith}
use Rattle.std.specs.List.{AllByRecursion, position, position_or_len}
use Rattle.std.specs.Option.{unwrap_or}
use Rattle.std.proofs.lemmas.Bool.{cases_Bool, cases_lt, lt-ltb, le-ltb, true≢false}
use Rattle.std.proofs.lemmas.List.Sums.{prefix_len-le-length}
use Rattle.lq_text.proofs.Lists.{Avoids, meets}
use Rattle.lq_quals.specs.Split.{Begins, IsCut}

abbrev CutAt : (ℕ → Bool) → List ℕ → ℕ → Type 0
CutAt test bytes at = IsCut test bytes (take at bytes) (drop at bytes)

cut_more : (test : ℕ → Bool) (byte : ℕ) (bytes : List ℕ) (at : ℕ) → test byte ≡ false → CutAt test bytes at → CutAt test (byte ∷ bytes) (suc at)
cut_more test byte bytes at out r = record { joined = ap (λ bs. byte ∷ bs) r.joined; clear = (out, r.clear); begins = r.begins }

-- cut at the place of the first
pub cut_at : (test : ℕ → Bool) (bytes : List ℕ) → IsCut test bytes (take (position_or_len test bytes) bytes) (drop (position_or_len test bytes) bytes)
cut_at test [] = record { joined = refl; clear = tt; begins = tt }
cut_at test (byte ∷ bytes) = elim (cases_Bool (test byte)) [
  | inl is ↦
      let at : position_or_len test (byte ∷ bytes) ≡ 0 = ap (λ b. cond (not b) (1 + position_or_len test bytes) 0) is in
      let here : CutAt test (byte ∷ bytes) 0 = record { joined = refl; clear = tt; begins = is } in
      subst (CutAt test (byte ∷ bytes)) (sym at) here
  | inr out ↦
      let at : position_or_len test (byte ∷ bytes) ≡ 1 + position_or_len test bytes = ap (λ b. cond (not b) (1 + position_or_len test bytes) 0) out in
      let next : suc (position_or_len test bytes) ≡ 1 + position_or_len test bytes = omega arith in
      subst (CutAt test (byte ∷ bytes)) (next ∙ sym at) (cut_more test byte bytes (position_or_len test bytes) out (cut_at test bytes))
]

-- two cuts of the same bytes are one
pub one_cut : (test : ℕ → Bool) (a b c d : List ℕ) → AllByRecursion (λ byte. test byte ≡ false) a → AllByRecursion (λ byte. test byte ≡ false) c → Begins test b → Begins test d → a ++ b ≡ c ++ d → (a ≡ c) × (b ≡ d)
one_cut test [] b [] d h k p q e = (refl, e)
one_cut test [] [] (y ∷ c) d h k p q e = absurd (omega (arith, ap length e))
one_cut test [] (x ∷ b) (y ∷ c) d h k p q e = let same : x ≡ y = cc in absurd (true≢false (sym p ∙ ap test same ∙ k.0))
one_cut test (x ∷ a) b [] [] h k p q e = absurd (omega (arith, ap length e))
one_cut test (x ∷ a) b [] (y ∷ d) h k p q e = let same : x ≡ y = cc in absurd (true≢false (sym q ∙ ap test (sym same) ∙ h.0))
one_cut test (x ∷ a) b (y ∷ c) d h k p q e =
    let first : x ≡ y = cc in
    let rest : a ++ b ≡ c ++ d = cc in
    let r = one_cut test a b c d h.1 k.1 p q rest in
    let same : a ≡ c = r.0 in
    (cc, r.1)

-- where neither part but one holds the byte, any cut at it is this one
pub only_split : (one : ℕ) (a b c d : List ℕ) → Avoids one a → Avoids one b → a ++ one ∷ b ≡ c ++ one ∷ d → (a ≡ c) × (b ≡ d)
only_split one [] b [] d h k e = (refl, cc)
only_split one [] b (y ∷ c) d h k e =
    let rest : b ≡ c ++ one ∷ d = cc in
    absurd (meets one c d (subst (Avoids one) rest k))
only_split one (x ∷ a) b [] d h k e = let same : x ≡ one = cc in absurd (h.0 same)
only_split one (x ∷ a) b (y ∷ c) d h k e =
    let first : x ≡ y = cc in
    let rest : a ++ one ∷ b ≡ c ++ one ∷ d = cc in
    let r = only_split one a b c d h.1 k rest in
    let same : a ≡ c = r.0 in
    (cc, r.1)

-- ---- cut at a place

place_is : (test : ℕ → Bool) (bytes : List ℕ) → unwrap_or (position test bytes) (length bytes) ≡ position_or_len test bytes
place_is test bytes = elim (cases_lt (position_or_len test bytes) (length bytes)) [
  | inl lt ↦ ap (λ b. unwrap_or (cond b (Some (position_or_len test bytes)) None) (length bytes)) (lt-ltb _ _ lt)
  | inr le ↦
      let most : position_or_len test bytes ≤ length bytes = prefix_len-le-length (λ byte. not (test byte)) bytes in
      ap (λ b. unwrap_or (cond b (Some (position_or_len test bytes)) None) (length bytes)) (le-ltb _ _ le) ∙ omega arith
]

pub cut_made : (test : ℕ → Bool) (bytes front back : List ℕ) (at : ℕ) → at ≡ unwrap_or (position test bytes) (length bytes) → front ≡ take at bytes → back ≡ drop at bytes → IsCut test bytes front back
cut_made test bytes front back at e f b =
    let same : at ≡ position_or_len test bytes = e ∙ place_is test bytes in
    let front_is : take (position_or_len test bytes) bytes ≡ front = ap (λ k. take k bytes) (sym same) ∙ sym f in
    let back_is : drop (position_or_len test bytes) bytes ≡ back = ap (λ k. drop k bytes) (sym same) ∙ sym b in
    subst (λ l. IsCut test bytes l back) front_is (subst (IsCut test bytes (take (position_or_len test bytes) bytes)) back_is (cut_at test bytes))
