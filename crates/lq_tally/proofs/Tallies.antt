-- What is asked one after the other is asked at once.
use Rattle.std.proofs.Common.{◌≡◌, ℕ, zero, suc, ◌+◌, ◌-◌, ◌<◌, ◌≤◌, List, [], ◌∷◌, ◌++◌, length, take, refl, ap, ap₂, sym, ◌∙◌, length-append, append_assoc, append-nil, arith}
use Rattle.std.proofs.Math.Seq.{take-nil}
use Rattle.lq_templates.specs.declared.condition.Condition.{Condition}
use Rattle.lq_tally.specs.declared.tally.Tally.{Tally}
use Rattle.lq_tally.specs.Tally.{most, tallied}

-- the front of two lists, when what the first leaves room for is taken from the second
take_both : {A : Type 0} → (n : ℕ) (a b : List A) → take n a ++ take (n - length (take n a)) b ≡ take n (a ++ b)
take_both zero a b = refl
take_both (suc n) [] b = let all : suc n - 0 ≡ suc n = omega arith in ap (λ k. take k b) all
take_both (suc n) (x ∷ a) b =
    let left : suc n - length (take (suc n) (x ∷ a)) ≡ n - length (take n a) = omega arith in
    ap (λ k. x ∷ (take n a ++ take k b)) left ∙ ap (λ l. x ∷ l) (take_both n a b)

-- what is kept of two lists, one after the other
kept_both : {A : Type 0} → (n : ℕ) (kept a b : List A) →
    (kept ++ take (n - length kept) a) ++ take (n - length (kept ++ take (n - length kept) a)) b ≡ kept ++ take (n - length kept) (a ++ b)
kept_both n kept a b =
    let room = n - length kept in
    let left : n - length (kept ++ take room a) ≡ room - length (take room a) = omega (arith, length-append kept (take room a)) in
    append_assoc kept (take room a) (take (n - length (kept ++ take room a)) b) ∙
    ap (λ k. kept ++ (take room a ++ take k b)) left ∙
    ap (λ l. kept ++ l) (take_both room a b)

-- two lists of conditions, one after the other
pub tallied_again : (a b : List Condition) (t : Tally) → tallied b (tallied a t) ≡ tallied (a ++ b) t
tallied_again a b t =
    let count : t.count + length a + length b ≡ t.count + length (a ++ b) = omega (arith, length-append a b) in
    ap₂ (λ (kept : List Condition) (count : ℕ). record { kept = kept; count = count }) (kept_both most t.kept a b) count

-- none
pub tallied_none : (t : Tally) → tallied [] t ≡ t
tallied_none t =
    let count : t.count + 0 ≡ t.count = omega arith in
    let kept : t.kept ++ take (most - length t.kept) [] ≡ t.kept = ap (λ l. t.kept ++ l) (take-nil (most - length t.kept)) ∙ append-nil t.kept in
    ap₂ (λ (kept : List Condition) (count : ℕ). record { kept = kept; count = count }) kept count

-- where there is no room conditions are counted only
pub tallied_full : (conditions : List Condition) (t : Tally) → most ≤ length t.kept → record t { count = t.count + length conditions } ≡ tallied conditions t
tallied_full conditions t full =
    let none : 0 ≡ most - length t.kept = omega arith in
    ap (λ (kept : List Condition). record { kept = kept; count = t.count + length conditions })
    (sym (append-nil t.kept) ∙ ap (λ room. t.kept ++ take room conditions) none)

-- where there is, one is kept
pub tallied_kept : (condition : Condition) (t : Tally) → length t.kept < most → record { kept = t.kept ++ condition ∷ []; count = t.count + 1 } ≡ tallied (condition ∷ []) t
tallied_kept condition t room =
    let some : suc (most - length t.kept - 1) ≡ most - length t.kept = omega arith in
    ap (λ (kept : List Condition). record { kept = kept; count = t.count + 1 })
    (ap (λ l. t.kept ++ condition ∷ l) (sym (take-nil (most - length t.kept - 1))) ∙ ap (λ left. t.kept ++ take left (condition ∷ [])) some)
