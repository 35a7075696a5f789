-- The opening table, splits and joins keep the rule.
use Rattle.std.proofs.Common.{◌≡◌, ◌≢◌, ◌⊎◌, ℕ, zero, suc, ◌+◌, ◌<◌, ◌≤◌, List, [], ◌∷◌, ◌++◌, length, map, set, sym, ap, refl, subst, ◌∙◌, inl, inr, ⊎_elim, Bool, true, false, true≢false, arith}
use Rattle.std.specs.Prelude.{◌||◌, replicate}
use mathlib.Core.Option.{some, some-injective, some-ne-none}
use lib.ListN.{get_elem?}
use Rattle.atomic_table.specs.Table.{opening, Splits, Joins}
use Rattle.atomic_table.proofs.Lists.{at_set, at_snoc}
use Rattle.std.proofs.lemmas.List.{length-map, length-append}
use Rattle.lq_claims.specs.declared.view.Round.{Round}
use Rattle.lq_claims.specs.declared.view.View.{View}
use Rattle.lq_claims.specs.View.{times, claimed, spent}
use Rattle.lq_claims.specs.Claims.{next_number, IsRight, IsKept, opening_view}
use Rattle.lq_claims.specs.Steps.{kept_part, given_part, joined_view}
use Rattle.lq_claims.proofs.Counts.{times_append, split_total, join_total, views_set}
use Rattle.lq_claims.proofs.Kept.{IsFine, right_of, moved}

-- each value of a list stands in the slot of its number
there : {S : Type 0} (such : S → Type 0) (xs : List S) (k : ℕ) → ((x : S) → get_elem? xs k ≡ some x → such x) → k < length xs
    → (x : S) × (get_elem? (map some xs) k ≡ some (some x)) × such x
there such [] k all inside = absurd (omega arith)
there such (x ∷ xs) zero all inside = (x, refl, all x refl)
there such (x ∷ xs) (suc k) all inside = there such xs k all (omega arith)

pub opening_keeps : {S : Type 0} (waiting finished : ℕ → S → Type 0) (round : Round) (chunks : List S) → length chunks ≡ round.chunks
    → ((number : ℕ) (x : S) → get_elem? chunks number ≡ some x → waiting number x)
    → IsKept waiting finished round (opening (replicate 3 0) chunks (opening_view round))
opening_keeps {S} waiting finished round chunks count wait = record {
  counted = record {
    size = refl;
    draws = omega arith;
    stakes = refl;
    right = first;
  };
  claimed = record { once = λ number below. absurd (omega arith); no_other = λ number past. refl; many = omega arith; back = refl };
  slots = record {
    count = length-map chunks some ∙ count;
    unclaimed = λ number inside past. there (waiting number) chunks number (wait number) (omega arith);
    out = λ number held. absurd (omega arith);
    back = λ number back. absurd (omega arith);
  };
}
  where
    first : (seat : ℕ) (v : View) → get_elem? (opening_view round ∷ []) seat ≡ some v → IsFine round.chunks 0 v
    first zero v at = inr (subst (IsRight round.chunks 0) (some-injective (opening_view round) v at) record { stake = omega arith; knows = refl; past = λ e. absurd (true≢false (sym e)) })
    first (suc seat) v at = absurd (some-ne-none v (sym at))

-- both views of a split are right
kept_fine : (chunks next : ℕ) (v : View) (draws : ℕ) → 1 < v.stakes → IsRight chunks next v → IsFine chunks next (kept_part draws v)
kept_fine chunks next v draws spare r = inr record { stake = omega arith; knows = r.knows; past = r.past }

given_fine : (chunks next : ℕ) (v : View) (draws : ℕ) → IsRight chunks next v → IsFine chunks next (given_part draws v)
given_fine chunks next v draws r = inr record { stake = omega arith; knows = r.knows; past = λ e. absurd (true≢false (sym e)) }

pub split_keeps : {S : Type 0} (waiting finished : ℕ → S → Type 0) (round : Round) (draws seat : ℕ) (v : View) → 1 < v.stakes → draws ≤ v.draws
    → Splits (IsKept waiting finished round) seat v (kept_part draws v) (given_part draws v)
split_keeps waiting finished round draws seat v spare enough s kept at =
    let left = kept_part draws v in
    let right = given_part draws v in
    let next = next_number s.words in
    let r = right_of round.chunks next v (kept.counted.right seat v at) (omega arith) in
    let total = λ (f : View → ℕ) (parts : f left + f right ≡ f v). split_total f s.views seat v left right at parts in
    moved waiting finished round s (set s.views seat left ++ right ∷ []) kept
    (total (λ u. u.draws) (omega arith))
    (total (λ u. u.stakes) (omega arith))
    (λ number. total (λ u. times number u.held) (omega arith))
    (λ number. total (λ u. times number u.returned) (omega arith))
    (total (λ u. length (claimed u)) (omega arith))
    (total (λ u. length u.returned) (omega arith))
    (λ by u there.
    ⊎_elim
    (λ (old : get_elem? (set s.views seat left) by ≡ some u).
    views_set (IsFine round.chunks next) s.views seat left (λ k x _ was. kept.counted.right k x was) (kept_fine round.chunks next v draws spare r) by u old)
    (λ (new : right ≡ u). subst (IsFine round.chunks next) new (given_fine round.chunks next v draws r))
    (at_snoc (set s.views seat left) right u by there))

-- a mark that either has
either_marked : (a b : Bool) → a || b ≡ true → (a ≡ true) ⊎ (b ≡ true)
either_marked true b e = inl refl
either_marked false b e = inr e

-- no spent view is marked
mark_is_past : (chunks next : ℕ) (w : View) → IsFine chunks next w → w.past ≡ true → chunks < next
mark_is_past chunks next w fine e = ⊎_elim (λ (is : w ≡ spent). absurd (true≢false (sym e ∙ ap (λ (u : View). u.past) is))) (λ (r : IsRight chunks next w). r.past e) fine

joined_fine : (chunks next : ℕ) (v w : View) → 0 < v.stakes → IsRight chunks next v → IsFine chunks next w → IsFine chunks next (joined_view v w)
joined_fine chunks next v w stake r other =
    inr record {
      stake = omega arith;
      knows = r.knows;
      past = λ e. ⊎_elim (λ (a : v.past ≡ true). r.past a) (λ (b : w.past ≡ true). mark_is_past chunks next w other b) (either_marked v.past w.past e);
    }

-- how many numbers are claimed by both
joined_length : (v w : View) → length (claimed (joined_view v w)) ≡ length (claimed v) + length (claimed w)
joined_length v w =
    let a = length-append (v.held ++ w.held) (v.returned ++ w.returned) in
    let b = length-append v.held w.held in
    let c = length-append v.returned w.returned in
    let d = length-append v.held v.returned in
    let e = length-append w.held w.returned in
    omega arith

pub join_keeps : {S : Type 0} (waiting finished : ℕ → S → Type 0) (round : Round) (seat other : ℕ) (v w : View) → 0 < v.stakes
    → Joins (IsKept waiting finished round) seat v other w (joined_view v w) spent
join_keeps waiting finished round seat other v w stake s kept at apart there =
    let both = joined_view v w in
    let next = next_number s.words in
    let mine = right_of round.chunks next v (kept.counted.right seat v at) stake in
    let theirs : IsFine round.chunks next w =
    ⊎_elim (λ (t : (other ≡ seat) × (both ≡ w)). absurd (apart t.0)) (λ (t : (other ≢ seat) × (get_elem? s.views other ≡ some w)). kept.counted.right other w t.1) (at_set s.views seat other both w there) in
    let total = λ (f : View → ℕ) (sums : f both ≡ f v + f w) (nothing : f spent ≡ 0). join_total f s.views seat other v w both spent at there sums nothing in
    moved waiting finished round s (set (set s.views seat both) other spent) kept
    (total (λ u. u.draws) refl refl)
    (total (λ u. u.stakes) refl refl)
    (λ number. total (λ u. times number u.held) (times_append number v.held w.held) refl)
    (λ number. total (λ u. times number u.returned) (times_append number v.returned w.returned) refl)
    (total (λ u. length (claimed u)) (joined_length v w) refl)
    (total (λ u. length u.returned) (length-append v.returned w.returned) refl)
    (views_set (IsFine round.chunks next) (set s.views seat both) other spent
    (λ by u _ was. views_set (IsFine round.chunks next) s.views seat both (λ k x _ old. kept.counted.right k x old) (joined_fine round.chunks next v w stake mine theirs) by u was)
    (inl refl))
