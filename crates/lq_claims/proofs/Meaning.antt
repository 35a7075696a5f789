-- What the rule means.
use Rattle.std.proofs.Common.{◌≡◌, ◌≢◌, ℕ, min, ◌+◌, ◌<◌, ◌≤◌, List, [], length, ap, refl, ◌∙◌, ⊎_elim, sum_by, true, arith}
use mathlib.Core.Option.{some}
use lib.ListN.{get_elem?}
use native.Mathlib.Decide.{dec_lt}
use Rattle.atomic_table.specs.Table.{State}
use Rattle.std.proofs.lemmas.List.{length-append}
use Rattle.lq_rule.proofs.Totals.{two_of_sum}
use Rattle.lq_claims.specs.declared.view.Round.{Round}
use Rattle.lq_claims.specs.declared.view.View.{View}
use Rattle.lq_claims.specs.View.{times, claimed, spent}
use Rattle.lq_claims.specs.Claims.{all_stakes, next_number, back_count, holders, returners, IsHome, IsRight, AreClaimed, IsKept}
use Rattle.lq_claims.proofs.Counts.{times_append, sum_by_both, sum_of_one}
use Rattle.lq_claims.proofs.Kept.{right_of}

-- all numbers that views claimed
claimers : (views : List View) (number : ℕ) → sum_by (λ (v : View). times number (claimed v)) views ≡ holders views number + returners views number
claimers views number = sum_by_both (λ (v : View). times number v.held) (λ (v : View). times number v.returned) (λ (v : View). times number (claimed v)) (λ v. times_append number v.held v.returned) views

-- no number is claimed twice
at_most_once : (round : Round) (words : List ℕ) (views : List View) (number : ℕ) → AreClaimed round words views → holders views number + returners views number ≤ 1
at_most_once round words views number owned = by (dec_lt number (min (next_number words) round.chunks))
  where
    by : Dec (number < min (next_number words) round.chunks) → holders views number + returners views number ≤ 1
    by (yes low) = let once = owned.once number low in omega arith
    by (no high) = let none_there = owned.no_other number (omega arith) in omega arith

module _ {S : Type 0} (waiting finished : ℕ → S → Type 0) (round : Round) (state : State S View) (kept : IsKept waiting finished round state) where
  pub one_claims : (number one other : ℕ) (v w : View) → one ≢ other → get_elem? state.views one ≡ some v → get_elem? state.views other ≡ some w
      → 0 < times number (claimed v) → (times number (claimed v) ≡ 1) × (times number (claimed w) ≡ 0)
  one_claims number one other v w apart at there has =
      let both = two_of_sum (λ (u : View). times number (claimed u)) state.views one other v w apart at there in
      let all = claimers state.views number in
      let most = at_most_once round state.words state.views number kept.claimed in
      (omega arith, omega arith)

  module _ (seat : ℕ) (v : View) (at : get_elem? state.views seat ≡ some v) (stakes : v.stakes ≡ all_stakes) where
    -- whoever has all stakes is alone with its numbers
    no_stake_else : (other : ℕ) (w : View) → other ≢ seat → get_elem? state.views other ≡ some w → w ≡ spent
    no_stake_else other w apart there =
        let both = two_of_sum (λ (u : View). u.stakes) state.views other seat w v apart there at in
        let all = kept.counted.stakes in
        ⊎_elim (λ (e : w ≡ spent). e) (λ (r : IsRight round.chunks (next_number state.words) w). let stake = r.stake in absurd (omega arith)) (kept.counted.right other w there)

    alone_with : (f : View → ℕ) → f spent ≡ 0 → sum_by f state.views ≡ f v
    alone_with f nothing = sum_of_one f state.views seat v at (λ other w apart there. ap f (no_stake_else other w apart there) ∙ nothing)

    module _ (past : v.past ≡ true) (held : v.held ≡ []) where
      nothing_held : (number : ℕ) → times number v.held ≡ 0
      nothing_held number = ap (times number) held

      all_drawn : round.chunks < next_number state.words
      all_drawn = (right_of round.chunks (next_number state.words) v (kept.counted.right seat v at) (omega arith)).past past

      pub each_is_back : (number : ℕ) → number < round.chunks → (times number v.returned ≡ 1) × IsHome finished state number
      each_is_back number inside =
          let drawn = all_drawn in
          let once = kept.claimed.once number (omega arith) in
          let holding = alone_with (λ (u : View). times number u.held) refl in
          let returning = alone_with (λ (u : View). times number u.returned) refl in
          let none_out = nothing_held number in
          (omega arith, kept.slots.back number (omega arith))

      pub as_many_are_back : (length v.returned ≡ round.chunks) × (back_count state.words ≡ round.chunks)
      as_many_are_back =
          let drawn = all_drawn in
          let many = kept.claimed.many in
          let mine = alone_with (λ (u : View). length (claimed u)) refl in
          let back = kept.claimed.back in
          let returning = alone_with (λ (u : View). length u.returned) refl in
          let both = length-append v.held v.returned in
          let none_out = ap (λ (ns : List ℕ). length ns) held in
          (omega arith, omega arith)
