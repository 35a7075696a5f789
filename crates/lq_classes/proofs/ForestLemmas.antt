-- Sets of numbers in which each number leads to one that isn't greater.
use Rattle.std.proofs.Common.{◌≡◌, ◌≢◌, inl, inr, ℕ, ◌+◌, ◌<◌, ◌≤◌, List, [], ◌∷◌, ◌++◌, length, get_or, set, sum, below_more, refl, sym, ap, subst, ◌∙◌, arith}
use Rattle.std.proofs.lemmas.List.Sums.{sum_by-set}
use Rattle.std.proofs.lemmas.Bool.{cases_eq}
use Rattle.std.proofs.Math.ListN.{length-set}
use Rattle.std.proofs.lemmas.List.{get_or-set_same, get_or-set_other, get_or_default, get_or_append_left, get_or_push, length_push}
use Rattle.std.specs.Prelude.{slice_index}
use Rattle.lq_classes.specs.Forest.{IsForest, Leads, stays, steps, Respects, Shortened}

-- what is led to isn't greater
pub leads-le : {ps : List ℕ} {i j : ℕ} → IsForest ps → Leads ps i j → j ≤ i
leads-le forest stays = omega arith
leads-le {ps = ps} forest (steps {i = i} way) = let one = forest i in let more = leads-le forest way in omega (arith, one, more)

pub leads-respects : {ps : List ℕ} {i j : ℕ} (label : ℕ → ℕ) → IsForest ps → Respects label ps → i < length ps → Leads ps i j → label i ≡ label j
leads-respects label forest same within stays = refl
leads-respects {ps = ps} label forest same within (steps {i = i} way) =
    let down = forest i in let below : slice_index ps i < length ps = omega (arith, down, within) in sym (same i within) ∙ leads-respects label forest same below way

pub leads-more : {ps : List ℕ} {i j : ℕ} → Leads ps i j → Leads ps i (slice_index ps j)
leads-more stays = steps stays
leads-more (steps way) = steps (leads-more way)

pub leads-on : {ps : List ℕ} {i j k : ℕ} → Leads ps i j → Leads ps j k → Leads ps i k
leads-on stays next = next
leads-on (steps way) next = steps (leads-on way next)

-- ---- a set that gets shorter ways

pub sum-set : (xs : List ℕ) (i y : ℕ) → i < length xs → sum (set xs i y) + get_or xs i 0 ≡ sum xs + y
sum-set xs i y within = sum_by-set (λ x. x) xs i y 0 within

pub shortened_start : (ps : List ℕ) → IsForest ps → Shortened ps ps
shortened_start ps forest = record { forest = forest; count = refl; less = omega arith; onward = λ i. steps stays; back = λ label same. same }

-- what a number leads to behind one that is led on
pub set_cases : (ps : List ℕ) (at next : ℕ) (P : ℕ → ℕ → Type 0) → at < length ps → P at next → ((i : ℕ) → i ≢ at → P i (get_or ps i 0)) → (i : ℕ) → P i (get_or (set ps at next) i 0)
set_cases ps at next P within one others i =
    elim (cases_eq i at) [
      | inl same ↦ subst (λ j. P j (get_or (set ps at next) j 0)) (sym same) (subst (λ v. P at v) (sym (get_or-set_same ps at next 0 within)) one)
      | inr other ↦ subst (λ v. P i v) (sym (get_or-set_other ps at i next 0 other)) (others i other)
    ]

module _ (old ps : List ℕ) (at next : ℕ) (s : Shortened old ps) (within : at < length ps) (moves : get_or ps at 0 ≢ at) (is : next ≡ get_or ps (get_or ps at 0) 0) where
  pub led_on : Leads old at next
  led_on = subst (λ n. Leads old at n) (sym is) (leads-on (s.onward at) (s.onward (get_or ps at 0)))

  up_le : get_or ps at 0 ≤ at
  up_le = s.forest at

  pub next_le : next ≤ at
  next_le = let a = s.forest at in let b = s.forest (get_or ps at 0) in omega (arith, a, b, is)

  up_stays : get_or (set ps at next) (get_or ps at 0) 0 ≡ next
  up_stays = get_or-set_other ps at (get_or ps at 0) next 0 moves ∙ sym is

  back_one : (label : ℕ → ℕ) → Respects label (set ps at next) → label (get_or ps at 0) ≡ label at
  back_one label same =
      let size = length-set ps at next in
      let up : get_or ps at 0 < length (set ps at next) = let a = up_le in omega (arith, a, within, size) in
      let here : at < length (set ps at next) = omega (arith, within, size) in
      sym (same (get_or ps at 0) up) ∙ ap label (up_stays ∙ sym (get_or-set_same ps at next 0 within)) ∙ same at here

  back_all : (label : ℕ → ℕ) → Respects label (set ps at next) → Respects label ps
  back_all label same i low =
      elim (cases_eq i at) [
        | inl e ↦ subst (λ j. label (get_or ps j 0) ≡ label j) (sym e) (back_one label same)
        | inr other ↦ ap label (sym (get_or-set_other ps at i next 0 other)) ∙ same i (let size = length-set ps at next in omega (arith, low, size))
      ]

  pub shortened_more : Shortened old (set ps at next)
  shortened_more = record {
    forest = set_cases ps at next (λ i v. v ≤ i) within next_le (λ i other. s.forest i);
    count = length-set ps at next ∙ s.count;
    less = (let a = sum-set ps at next within in let b = s.less in let up = get_or ps at 0 in let d = s.forest up in omega (arith, a, b, d, is));
    onward = set_cases ps at next (λ i v. Leads old i v) within led_on (λ i other. s.onward i);
    back = λ label same. s.back label (back_all label same);
  }

-- ---- labels

-- a number that was read, whatever stands behind the end
pub read_at : (xs : List ℕ) (i r : ℕ) → i < length xs → r ≡ get_or xs i r → get_or xs i 0 ≡ r
read_at xs i r within is = get_or_default xs i 0 r within ∙ sym is

push_old : (xs : List ℕ) (x i : ℕ) → i < length xs → get_or (xs ++ x ∷ []) i 0 ≡ get_or xs i 0
push_old xs x i within = get_or_append_left xs (x ∷ []) 0 i within

-- one label more
pub found_more : (ps labels : List ℕ) (n label : ℕ) → length labels ≡ n → ((i : ℕ) → i < n → Leads ps i (get_or labels i 0)) → Leads ps n label
    → (i : ℕ) → i < n + 1 → Leads ps i (get_or (labels ++ label ∷ []) i 0)
found_more ps labels n label size all one =
    below_more _ _
    (λ i low. subst (λ v. Leads ps i v) (sym (push_old labels label i (omega (arith, low, size)))) (all i low))
    (subst (λ v. Leads ps n v) (sym (get_or_push labels label 0 n size)) one)

pub same_more : (ps labels : List ℕ) (n label : ℕ) → IsForest ps → length labels ≡ n → ((i : ℕ) → i < n → get_or labels (get_or ps i 0) 0 ≡ get_or labels i 0)
    → get_or (labels ++ label ∷ []) (get_or ps n 0) 0 ≡ label → (i : ℕ) → i < n + 1 → get_or (labels ++ label ∷ []) (get_or ps i 0) 0 ≡ get_or (labels ++ label ∷ []) i 0
same_more ps labels n label forest size all one =
    below_more _ _
    (λ i low. let down = forest i in push_old labels label (get_or ps i 0) (omega (arith, down, low, size)) ∙ all i low ∙ sym (push_old labels label i (omega (arith, low, size))))
    (one ∙ sym (get_or_push labels label 0 n size))

-- a number that leads to a lesser one has its label
pub label_of_lesser : (ps labels : List ℕ) (n label : ℕ) → length labels ≡ n → get_or ps n 0 < n → get_or labels (get_or ps n 0) 0 ≡ label → get_or (labels ++ label ∷ []) (get_or ps n 0) 0 ≡ label
label_of_lesser ps labels n label size low is = push_old labels label (get_or ps n 0) (omega (arith, low, size)) ∙ is

-- and one that leads to itself is its own
pub label_of_least : (ps labels : List ℕ) (n label : ℕ) → length labels ≡ n → get_or ps n 0 ≡ n → get_or (labels ++ label ∷ []) (get_or ps n 0) 0 ≡ label
label_of_least ps labels n label size is = ap (λ i. get_or (labels ++ label ∷ []) i 0) is ∙ get_or_push labels label 0 n size

-- the step of the loop over all numbers
pub labels_more : (ps labels new : List ℕ) (n label : ℕ) → IsForest ps → length labels ≡ n → ((i : ℕ) → i < n → Leads ps i (get_or labels i 0)) → ((i : ℕ) → i < n → get_or labels (get_or ps i 0) 0 ≡ get_or labels i 0)
    → new ≡ labels ++ label ∷ [] → Leads ps n label → get_or (labels ++ label ∷ []) (get_or ps n 0) 0 ≡ label
    → record { size : length new ≡ n + 1; found : (i : ℕ) → i < n + 1 → Leads ps i (get_or new i 0); same : (i : ℕ) → i < n + 1 → get_or new (get_or ps i 0) 0 ≡ get_or new i 0 }
labels_more ps labels new n label forest size found same is way one =
    record {
      size = ap length is ∙ length_push labels label ∙ ap (λ k. k + 1) size;
      found = λ i low. subst (λ xs. Leads ps i (get_or xs i 0)) (sym is) (found_more ps labels n label size found way i low);
      same = λ i low. subst (λ xs. get_or xs (get_or ps i 0) 0 ≡ get_or xs i 0) (sym is) (same_more ps labels n label forest size same one i low);
    }
