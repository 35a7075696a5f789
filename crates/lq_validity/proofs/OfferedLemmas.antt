-- The numbers of a stretch that pass a test.
use Rattle.std.proofs.Common.{◌≡◌, ℕ, zero, suc, ◌+◌, ◌<◌, ◌≤◌, inl, inr, Bool, true, false, [], ◌∷◌, refl, ap, ◌∙◌, arith}
use Rattle.std.proofs.Math.Nat.{eq-or-lt_of_le}
use Rattle.std.specs.List.{filter, range_with_len}

module _ (test : ℕ → Bool) where
  -- none passes
  pub none_passes : (a n : ℕ) → ((k : ℕ) → a ≤ k → k < a + n → test k ≡ false) → filter test (range_with_len a n) ≡ []
  none_passes a zero h = refl
  none_passes a (suc n) h =
      let here : test a ≡ false = h a (omega arith) (omega arith) in
      let later = none_passes (a + 1) n (λ k le lt. h k (omega arith) (omega arith)) in
      cc

  -- the first that passes, and those behind it
  pub first_passes : (a n i m : ℕ) → a ≤ i → i + 1 + m ≡ a + n → test i ≡ true → ((k : ℕ) → a ≤ k → k < i → test k ≡ false) → filter test (range_with_len a n) ≡ i ∷ filter test (range_with_len (i + 1) m)
  first_passes a zero i m le e t h = absurd (omega arith)
  first_passes a (suc n) i m le e t h = elim (eq-or-lt_of_le le) as (λ _. filter test (range_with_len a (suc n)) ≡ i ∷ filter test (range_with_len (i + 1) m)) [
    | inl same ↦
        let count : n ≡ m = omega arith in
        let here : test a ≡ true = ap test same ∙ t in
        cc
    | inr less ↦
        let here : test a ≡ false = h a (omega arith) less in
        let later = first_passes (a + 1) n i m (omega arith) (omega arith) t (λ k l lt. h k (omega arith) lt) in
        cc
  ]
