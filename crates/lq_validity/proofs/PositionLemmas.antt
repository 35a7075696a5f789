-- The first positions, and the fewest.
use Rattle.std.proofs.Common.{◌≡◌, ℕ, ◌+◌, ◌<◌, ◌≤◌, inl, inr, Bool, List, [], ◌∷◌, ◌++◌, length, refl, sym, ap, ◌∙◌, arith, subst, append_assoc, append-nil}
use Rattle.std.specs.Prelude.{Option}
use Rattle.std.specs.List.{AllByRecursion}
use Rattle.lq_linear.specs.Row.{Inequality}
use Rattle.lq_linear.specs.Derivation.{Combination, IsMultiplier}
use Rattle.lq_linear.proofs.Collecting.{all_map}
use Rattle.lq_linear.specs.Ascend.{Ascend}
use Rattle.lq_validity.specs.Order.{Before, numbers_of}
use Rattle.lq_validity.specs.Families.{WithNumbers, WithMore, WithMoreAt, WithFew, FindsFirst}
use Rattle.lq_validity.proofs.FirstLemmas.{not_by_number, numbers_length, first_here}
use Rattle.lq_validity.proofs.MultipliedLemmas.{finds_map}

module _ (multipliers : List ℕ) (Usable : ℕ → Type 0) (all : List Inequality) (goal : Inequality) (direct : Bool) where
  module _ (numbers : List ℕ) (from : ℕ) where
    no_more : (c : Combination) → WithNumbers multipliers all goal direct [] numbers c → WithMore multipliers Usable all goal direct numbers 0 from c
    no_more c h = record {
      more = [];
      joined = ap numbers_of h.joined ∙ h.numbered ∙ sym (append-nil numbers);
      count = refl;
      ascending = tt;
      starts = tt;
      usable = tt;
      multiplied = subst (AllByRecursion (λ part. IsMultiplier multipliers part.0)) (sym h.joined) h.multiplied;
      settles = h.settles;
    }

    no_more_back : (c : Combination) → WithMore multipliers Usable all goal direct numbers 0 from c → WithNumbers multipliers all goal direct [] numbers c
    no_more_back c h = record { more = c.parts; joined = refl; numbered = h.joined ∙ none h.more h.count; multiplied = h.multiplied; settles = h.settles } where
      none : (more : List ℕ) → length more ≡ 0 → numbers ++ more ≡ numbers
      none [] e = append-nil numbers
      none (n ∷ more) e = absurd (omega arith)

    pub finds_no_more : (found : Option Combination) → FindsFirst (WithNumbers multipliers all goal direct [] numbers) found → FindsFirst (WithMore multipliers Usable all goal direct numbers 0 from) found
    finds_no_more found h = finds_map (WithNumbers multipliers all goal direct [] numbers) (WithMore multipliers Usable all goal direct numbers 0 from) no_more no_more_back found h

    module _ (left : ℕ) (some : 0 < left) where
      more_at : (n : ℕ) (c : Combination) → from ≤ n → WithMoreAt multipliers Usable all goal direct numbers left n c → WithMore multipliers Usable all goal direct numbers left from c
      more_at n c l h =
          let r = h.1 in
          record {
            more = n ∷ r.more;
            joined = r.joined ∙ append_assoc numbers (n ∷ []) r.more;
            count = omega (arith, r.count);
            ascending = (all_map (λ k. n + 1 ≤ k) (λ k. n < k) (λ k q. omega arith) r.more r.starts, r.ascending);
            starts = (l, all_map (λ k. n + 1 ≤ k) (λ k. from ≤ k) (λ k q. omega arith) r.more r.starts);
            usable = (h.0, r.usable);
            multiplied = r.multiplied;
            settles = r.settles;
          }

      split_more : (c : Combination) → WithMore multipliers Usable all goal direct numbers left from c → (n : ℕ) × (from ≤ n) × WithMoreAt multipliers Usable all goal direct numbers left n c
      split_more c h = go h.more h.joined h.count h.ascending h.starts h.usable where
        go : (more : List ℕ) → numbers_of c.parts ≡ numbers ++ more → length more ≡ left → Ascend more → AllByRecursion (λ n. from ≤ n) more → AllByRecursion Usable more
            → (n : ℕ) × (from ≤ n) × WithMoreAt multipliers Usable all goal direct numbers left n c
        go [] j e a s u = absurd (omega arith)
        go (n ∷ more) j e a s u = (
          n,
          s.0,
          (
            u.0,
            record {
              more = more;
              joined = j ∙ sym (append_assoc numbers (n ∷ []) more);
              count = omega arith;
              ascending = a.1;
              starts = all_map (λ k. n < k) (λ k. n + 1 ≤ k) (λ k q. omega arith) more a.0;
              usable = u.1;
              multiplied = h.multiplied;
              settles = h.settles;
            },
          ),
        )

      At : ℕ → Combination → Type 0
      At k c = (from ≤ k) × WithMoreAt multipliers Usable all goal direct numbers left k c

      pub positions_first : (i : ℕ) → from ≤ i → (found : Combination)
          → ((k : ℕ) → from ≤ k → k < i → (c : Combination) → WithMoreAt multipliers Usable all goal direct numbers left k c → ⊥)
          → WithMoreAt multipliers Usable all goal direct numbers left i found
          × ((other : Combination) → WithMoreAt multipliers Usable all goal direct numbers left i other → Before other found → ⊥)
          → WithMore multipliers Usable all goal direct numbers left from found
          × ((other : Combination) → WithMore multipliers Usable all goal direct numbers left from other → Before other found → ⊥)
      unfolding At
      positions_first i l found none h =
          first_here (WithMore multipliers Usable all goal direct numbers left from) At i found
          (λ a. more_at i found a.0 a.1)
          (λ other o. let s = split_more other o in (s.0, (s.1, s.2)))
          (λ k q c a. none k a.0 q c a.1)
          (λ k other q a b.
          let o = a.1.1 in
          let f = h.0.1 in
          not_by_number other found numbers o.more f.more k i (o.joined ∙ append_assoc numbers (k ∷ []) o.more) (f.joined ∙ append_assoc numbers (i ∷ []) f.more) (o.count ∙ sym f.count) q b)
          (l, h.0)
          (λ other a. h.1 other a.1)

      pub positions_none : ((k : ℕ) → from ≤ k → Usable k → (c : Combination) → WithMoreAt multipliers Usable all goal direct numbers left k c → ⊥)
          → (c : Combination) → WithMore multipliers Usable all goal direct numbers left from c → ⊥
      positions_none none c h = let s = split_more c h in none s.0 s.1 s.2.0 c s.2

  -- fewer facts come first
  count_of : (k : ℕ) (c : Combination) → WithMore multipliers Usable all goal direct [] k 1 c → length c.parts ≡ k
  count_of k c h = sym (numbers_length c.parts) ∙ ap length h.joined ∙ h.count

  FewAt : ℕ → ℕ → Combination → Type 0
  FewAt count k c = (k < count) × WithMore multipliers Usable all goal direct [] k 1 c

  pub few_first : (count i : ℕ) → i < count → (found : Combination)
      → ((k : ℕ) → k < i → (c : Combination) → WithMore multipliers Usable all goal direct [] k 1 c → ⊥)
      → WithMore multipliers Usable all goal direct [] i 1 found × ((other : Combination) → WithMore multipliers Usable all goal direct [] i 1 other → Before other found → ⊥)
      → WithFew multipliers Usable all goal direct count found × ((other : Combination) → WithFew multipliers Usable all goal direct count other → Before other found → ⊥)
  unfolding FewAt
  few_first count i l found none h =
      first_here (WithFew multipliers Usable all goal direct count) (FewAt count) i found
      (λ a. record { left = i; fewer = a.0; rest = a.1 })
      (λ other o. (o.left, (o.fewer, o.rest)))
      (λ k q c a. none k q c a.1)
      (λ k other q a b. elim b [
        | inl s ↦ omega (arith, s, count_of k other a.1, count_of i found h.0)
        | inr s ↦ omega (arith, s.0, count_of k other a.1, count_of i found h.0)
      ])
      (l, h.0)
      (λ other a. h.1 other a.1)

  pub few_none : (count : ℕ) → ((k : ℕ) → k < count → (c : Combination) → WithMore multipliers Usable all goal direct [] k 1 c → ⊥) → (c : Combination) → WithFew multipliers Usable all goal direct count c → ⊥
  few_none count none c h = none h.left h.fewer c h.rest
