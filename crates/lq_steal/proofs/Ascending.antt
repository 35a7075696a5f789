-- Lists of numbers that ascend, and what holds of each number of a list.
use Rattle.std.proofs.Common.{◌≡◌, ◌≢◌, ℕ, ◌<◌, ◌≤◌, List, [], ◌∷◌, ◌++◌, refl, subst, arith}
use Rattle.std.specs.List.{AllByRecursion}
use native.Mathlib.Decide.{ℕ_discrete}
use Rattle.lq_claims.specs.View.{times}
use Rattle.lq_claims.proofs.Counts.{times_same, times_other}
use Rattle.lq_steal.specs.Handed.{Ascends}

module _ {X : Type 0} (P : X → Type 0) where
  -- one more at the end
  pub all_push : (xs : List X) (y : X) → AllByRecursion P xs → P y → AllByRecursion P (xs ++ y ∷ [])
  all_push [] y all here = (here, tt)
  all_push (x ∷ xs) y all here = (all.0, all_push xs y all.1 here)

pub all_map : {X : Type 0} (P Q : X → Type 0) → ((x : X) → P x → Q x) → (xs : List X) → AllByRecursion P xs → AllByRecursion Q xs
all_map P Q each [] all = tt
all_map P Q each (x ∷ xs) all = (each x all.0, all_map P Q each xs all.1)

module _ (P : ℕ → Type 0) where
  -- what holds of each number of a list, by how often it stands there
  pub all_at : (xs : List ℕ) → AllByRecursion P xs → (k : ℕ) → 0 < times k xs → P k
  all_at [] all k some = absurd (omega arith)
  all_at (x ∷ xs) all k some = by (all_at xs all.1 k) (ℕ_discrete x k)
    where
      by : (0 < times k xs → P k) → Dec (x ≡ k) → P k
      by further (yes e) = subst P e all.0
      by further (no apart) = let rest = times_other k x xs apart in further (omega arith)

  pub all_from : (xs : List ℕ) → ((k : ℕ) → 0 < times k xs → P k) → AllByRecursion P xs
  all_from [] each = tt
  all_from (x ∷ xs) each = (
    each x (let one = times_same x x xs refl in omega arith),
    all_from xs (λ k some. each k (let more = grows k in omega arith)),
  )
    where
      grows : (k : ℕ) → times k xs ≤ times k (x ∷ xs)
      grows k = by (ℕ_discrete x k)
        where
          by : Dec (x ≡ k) → times k xs ≤ times k (x ∷ xs)
          by (yes e) = let one = times_same k x xs e in omega arith
          by (no apart) = let rest = times_other k x xs apart in omega arith

-- a larger number at the end
pub ascends_push : (xs : List ℕ) (y : ℕ) → Ascends xs → AllByRecursion (λ x. x < y) xs → Ascends (xs ++ y ∷ [])
ascends_push [] y up below = (tt, tt)
ascends_push (x ∷ xs) y up below = (all_push (λ behind. x < behind) xs y up.0 below.0, ascends_push xs y up.1 below.1)

-- a number below all of them is none of them
none_below : (k : ℕ) (xs : List ℕ) → AllByRecursion (λ x. k < x) xs → times k xs ≡ 0
none_below k [] above = refl
none_below k (x ∷ xs) above =
    let first = above.0 in
    let apart : x ≢ k = λ e. omega arith in
    let rest = times_other k x xs apart in
    let none_there = none_below k xs above.1 in
    omega arith

-- none of them stands there twice
pub once_each : (k : ℕ) (xs : List ℕ) → Ascends xs → times k xs ≤ 1
once_each k [] up = omega arith
once_each k (x ∷ xs) up = by (once_each k xs up.1) (ℕ_discrete x k)
  where
    by : times k xs ≤ 1 → Dec (x ≡ k) → times k (x ∷ xs) ≤ 1
    by fewer (yes e) =
        let one = times_same k x xs e in
        let none_behind = none_below k xs (subst (λ n. AllByRecursion (λ behind. n < behind) xs) e up.0) in
        omega arith
    by fewer (no apart) =
        let rest = times_other k x xs apart in
        omega arith
