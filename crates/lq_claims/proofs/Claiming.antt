-- A claim keeps the rule.
use Rattle.std.proofs.Common.{◌≡◌, ◌≢◌, ℕ, zero, suc, min, ◌+◌, ◌-◌, ◌%◌, ◌^◌, ◌<◌, ◌≤◌, List, [], ◌∷◌, length, set, sym, ap, refl, subst, ◌∙◌, inl, inr, ⊎_elim, true, false, arith}
use Rattle.std.specs.Prelude.{nat_lt}
use Rattle.std.proofs.Math.Nat.{mod-eq_of_lt}
use mathlib.Core.Option.{some, none, some-ne-none}
use lib.ListN.{get_elem?}
use native.Mathlib.Decide.{ℕ_discrete, dec_lt}
use Rattle.atomic_table.specs.Table.{State, Me, Act, step, stepped, keeps, takes, carried_after, Valid, Allows}
use Rattle.atomic_table.proofs.Lists.{set_here, set_else}
use Rattle.std.proofs.lemmas.List.{length-set, length-append}
use Rattle.std.proofs.lemmas.Bool.{lt-ltb, le-ltb}
use Rattle.lq_rule.proofs.Totals.{sum_by_set_at, one_of_sum}
use Rattle.lq_claims.specs.declared.view.Round.{Round}
use Rattle.lq_claims.specs.declared.view.View.{View}
use Rattle.lq_claims.specs.View.{times, claimed, spent}
use Rattle.lq_claims.specs.Claims.{next_number, holders, returners, IsRight, AreCounted, AreClaimed, HasSlots, IsKept}
use Rattle.lq_claims.specs.Steps.{with_number, marked, Claims}
use Rattle.lq_claims.specs.Laws.{Fits}
use Rattle.lq_claims.proofs.Counts.{views_set, times_same, times_other}
use Rattle.lq_claims.proofs.Kept.{IsFine, right_of_draw, next_after, back_stays}

-- a view that is fine stays so where more numbers were drawn
later : (chunks next : ℕ) (v : View) → IsFine chunks next v → IsFine chunks (next + 1) v
later chunks next v fine = ⊎_elim (λ (e : v ≡ spent). inl e) (λ (r : IsRight chunks next v). inr record { stake = r.stake; knows = r.knows; past = λ e. let was = r.past e in omega arith }) fine

-- what is counted, after a draw
drawn : (round : Round) (words : List ℕ) (views : List View) (seat : ℕ) (v w : View) → AreCounted round words views → get_elem? views seat ≡ some v
    → 0 < v.draws → w.draws ≡ v.draws - 1 → w.stakes ≡ v.stakes → IsFine round.chunks (next_number words + 1) w
    → AreCounted round (set words 1 (next_number words + 1)) (set views seat w)
drawn round words views seat v w counted at draw less same fine =
    let next = next_number words in
    let after = next_after words (next + 1) counted.size in
    record {
      size = length-set words 1 (next + 1) ∙ counted.size;
      draws = (
          let total = sum_by_set_at (λ (u : View). u.draws) views seat v w at in
          let was = counted.draws in
          omega arith);
      stakes = (
          let total = sum_by_set_at (λ (u : View). u.stakes) views seat v w at in
          let was = counted.stakes in
          omega arith);
      right = subst (λ k. (by : ℕ) (u : View) → get_elem? (set views seat w) by ≡ some u → IsFine round.chunks k u) (sym after)
          (views_set (IsFine round.chunks (next + 1)) views seat w (λ by u _ was. later round.chunks next u (counted.right by u was)) fine);
    }

-- who holds a number after a claim of `number`, and who gave it back
holders_same : (views : List View) (seat : ℕ) (v : View) (number k : ℕ) → get_elem? views seat ≡ some v → number ≡ k
    → holders (set views seat (with_number v number)) k ≡ holders views k + 1
holders_same views seat v number k at same =
    let total = sum_by_set_at (λ (u : View). times k u.held) views seat v (with_number v number) at in
    let one = times_same k number v.held same in
    omega arith

holders_other : (views : List View) (seat : ℕ) (v : View) (number k : ℕ) → get_elem? views seat ≡ some v → number ≢ k
    → holders (set views seat (with_number v number)) k ≡ holders views k
holders_other views seat v number k at apart =
    let total = sum_by_set_at (λ (u : View). times k u.held) views seat v (with_number v number) at in
    let none_more = times_other k number v.held apart in
    omega arith

returners_stay : (views : List View) (seat : ℕ) (v w : View) (k : ℕ) → get_elem? views seat ≡ some v → w.returned ≡ v.returned
    → returners (set views seat w) k ≡ returners views k
returners_stay views seat v w k at same =
    let total = sum_by_set_at (λ (u : View). times k u.returned) views seat v w at in
    let as_many = ap (times k) same in
    omega arith

-- what is claimed, after the number `next` was claimed
claimed_one : (round : Round) (words : List ℕ) (views : List View) (seat : ℕ) (v : View) (next : ℕ) → length words ≡ 3 → next ≡ next_number words → next < round.chunks
    → get_elem? views seat ≡ some v → AreClaimed round words views → AreClaimed round (set words 1 (next + 1)) (set views seat (with_number v next))
claimed_one round words views seat v next size is below at owned =
    let after = next_after words (next + 1) size in
    let w = with_number v next in
    let stay = λ (k : ℕ). returners_stay views seat v w k at refl in
    record {
      once = λ k low. once k low (ℕ_discrete next k);
      no_other = λ k past. (
          let apart : next ≢ k = λ e. (let inside : k < next + 1 = omega arith in omega arith) in
          let same = holders_other views seat v next k at apart in
          let back = stay k in
          let was = owned.no_other k (omega arith) in
          omega arith);
      many = (
          let total = sum_by_set_at (λ (u : View). length (claimed u)) views seat v w at in
          let old = length-append v.held v.returned in
          let new = length-append (next ∷ v.held) v.returned in
          let was = owned.many in
          omega arith);
      back = (
          let total = sum_by_set_at (λ (u : View). length u.returned) views seat v w at in
          let word = back_stays words (next + 1) in
          let was = owned.back in
          omega arith);
    }
  where
    once : (k : ℕ) → k < min (next_number (set words 1 (next + 1))) round.chunks → Dec (next ≡ k)
        → holders (set views seat (with_number v next)) k + returners (set views seat (with_number v next)) k ≡ 1
    once k low (yes e) =
        let more = holders_same views seat v next k at e in
        let back = returners_stay views seat v (with_number v next) k at refl in
        let was = owned.no_other k (omega arith) in
        omega arith
    once k low (no apart) =
        let same = holders_other views seat v next k at apart in
        let back = returners_stay views seat v (with_number v next) k at refl in
        let after = next_after words (next + 1) size in
        let was = owned.once k (omega arith) in
        omega arith

-- what is claimed, where a number past the last chunk was drawn
claimed_none : (round : Round) (words : List ℕ) (views : List View) (seat : ℕ) (v : View) (next : ℕ) → length words ≡ 3 → next ≡ next_number words → round.chunks ≤ next
    → get_elem? views seat ≡ some v → AreClaimed round words views → AreClaimed round (set words 1 (next + 1)) (set views seat (marked v))
claimed_none round words views seat v next size is past at owned =
    let after = next_after words (next + 1) size in
    let w = marked v in
    let held = λ (k : ℕ). sum_by_set_at (λ (u : View). times k u.held) views seat v w at in
    let back = λ (k : ℕ). returners_stay views seat v w k at refl in
    record {
      once = λ k low. (let a = held k in let b = back k in let was = owned.once k (omega arith) in omega arith);
      no_other = λ k high. (let a = held k in let b = back k in let was = owned.no_other k (omega arith) in omega arith);
      many = (
          let total = sum_by_set_at (λ (u : View). length (claimed u)) views seat v w at in
          let was = owned.many in
          omega arith);
      back = (
          let total = sum_by_set_at (λ (u : View). length u.returned) views seat v w at in
          let word = back_stays words (next + 1) in
          let was = owned.back in
          omega arith);
    }

-- no view has more numbers than there are chunks
claimed_within : (round : Round) (words : List ℕ) (views : List View) (seat : ℕ) (w : View) → AreClaimed round words views → get_elem? views seat ≡ some w
    → length (claimed w) ≤ round.chunks
claimed_within round words views seat w owned at =
    let mine = one_of_sum (λ (u : View). length (claimed u)) views seat w at in
    let all = owned.many in
    omega arith

-- a place that is there is within the list
place_within : {A : Type 0} (xs : List A) (i : ℕ) (x : A) → get_elem? xs i ≡ some x → i < length xs
place_within [] i x at = absurd (some-ne-none x (sym at))
place_within (y ∷ xs) zero x at = omega arith
place_within (y ∷ xs) (suc i) x at = let inside = place_within xs i x at in omega arith

module _ {S : Type 0} (waiting finished : ℕ → S → Type 0) where
  -- the slots after a claim: the one of this number is out
  slots_one : (round : Round) (s : State S View) (seat : ℕ) (v : View) (next : ℕ) → length s.words ≡ 3 → next ≡ next_number s.words → next < round.chunks
      → get_elem? s.views seat ≡ some v → AreClaimed round s.words s.views → HasSlots waiting finished round s
      → HasSlots waiting finished round record { words = set s.words 1 (next + 1); homes = set s.homes next none; views = set s.views seat (with_number v next) }
  slots_one round s seat v next size is below at owned slots =
      let after = next_after s.words (next + 1) size in
      record {
        count = length-set s.homes next none ∙ slots.count;
        unclaimed = λ k inside past. (
            let apart : k ≢ next = λ e. omega arith in
            let was = slots.unclaimed k inside (omega arith) in
            (was.0, set_else s.homes next k none apart ∙ was.1, was.2));
        out = λ k held. out k held (ℕ_discrete next k);
        back = λ k returned. (
            let stay = returners_stay s.views seat v (with_number v next) k at refl in
            let none_here = owned.no_other next (omega arith) in
            let there : 0 < returners s.views k = omega arith in
            let apart : k ≢ next = λ e. (let here : 0 < returners s.views next = subst (λ n. 0 < returners s.views n) e there in omega arith) in
            let was = slots.back k there in
            (was.0, set_else s.homes next k none apart ∙ was.1, was.2));
      }
    where
      out : (k : ℕ) → 0 < holders (set s.views seat (with_number v next)) k → Dec (next ≡ k) → get_elem? (set s.homes next none) k ≡ some none
      out k held (yes e) =
          let count = slots.count in
          subst (λ n. get_elem? (set s.homes next none) n ≡ some none) e (set_here s.homes next none (omega arith))
      out k held (no apart) =
          let same = holders_other s.views seat v next k at apart in
          set_else s.homes next k none (λ e. apart (sym e)) ∙ slots.out k (omega arith)

  -- and where none was claimed they stay
  slots_none : (round : Round) (s : State S View) (seat : ℕ) (v : View) (next : ℕ) → length s.words ≡ 3 → next ≡ next_number s.words
      → get_elem? s.views seat ≡ some v → HasSlots waiting finished round s
      → HasSlots waiting finished round record { words = set s.words 1 (next + 1); homes = s.homes; views = set s.views seat (marked v) }
  slots_none round s seat v next size is at slots =
      let after = next_after s.words (next + 1) size in
      record {
        count = slots.count;
        unclaimed = λ k inside past. slots.unclaimed k inside (omega arith);
        out = λ k held. (let a = sum_by_set_at (λ (u : View). times k u.held) s.views seat v (marked v) at in slots.out k (omega arith));
        back = λ k there. (let b = returners_stay s.views seat v (marked v) k at refl in slots.back k (omega arith));
      }

  pub claim_keeps : (round : Round) → Fits round → (seat : ℕ) (me : Me S View) → 0 < me.0.draws
      → Allows (IsKept waiting finished round) round.chunks seat me 1 (λ n. (n + 1) % 2 ^ 64) (Claims waiting (step round.chunks 1 1 0 none) me)
  claim_keeps round fits seat me draw s kept homes at small =
      let v = me.0 in
      let next = next_number s.words in
      let r = right_of_draw round.chunks next v (kept.counted.right seat v at) draw in
      let mine = one_of_sum (λ (u : View). u.draws) s.views seat v at in
      let fixed = kept.counted.draws in
      let word : (next + 1) % 2 ^ 64 ≡ next + 1 = mod-eq_of_lt (omega arith) in
      subst (λ k. Goes k) (sym word) (by_place r (dec_lt next round.chunks))
    where
      -- where the word becomes this number
      Goes : ℕ → Type 0
      Goes k =
          (w : View) × (a : Act S) × Valid s.homes me.1 a × IsKept waiting finished round (stepped s 1 k seat me.1 w a)
          × Claims waiting (step round.chunks 1 1 0 none) me (next_number s.words) (w, carried_after me.1 a)

      by_place : IsRight round.chunks (next_number s.words) me.0 → Dec (next_number s.words < round.chunks) → Goes (next_number s.words + 1)
      by_place r (yes below) =
          let next = next_number s.words in
          let x = kept.slots.unclaimed next below (omega arith) in
          let w = with_number me.0 next in
          let inside : seat < length s.views = place_within s.views seat me.0 at in
          let owned = claimed_one round s.words s.views seat me.0 next kept.counted.size refl below at kept.claimed in
          let within = claimed_within round (set s.words 1 (next + 1)) (set s.views seat w) seat w owned (set_here s.views seat w inside) in
          let test : nat_lt next me.0.chunks ≡ true = lt-ltb next me.0.chunks (let knows = r.knows in omega arith) in (
            w,
            takes next x.0,
            x.1,
            record {
              counted = drawn round s.words s.views seat me.0 w kept.counted at draw refl refl (inr record { stake = r.stake; knows = r.knows; past = λ e. let was = r.past e in omega arith });
              claimed = owned;
              slots = slots_one round s seat me.0 next kept.counted.size refl below at kept.claimed kept.slots;
            },
            record {
              drawn = rw test (x.0, x.2, refl);
              within = (let knows = r.knows in omega arith);
            },
          )
      by_place r (no past) =
          let next = next_number s.words in
          let high : round.chunks ≤ next = omega arith in
          let w = marked me.0 in
          let inside : seat < length s.views = place_within s.views seat me.0 at in
          let owned = claimed_none round s.words s.views seat me.0 next kept.counted.size refl high at kept.claimed in
          let within = claimed_within round (set s.words 1 (next + 1)) (set s.views seat w) seat w owned (set_here s.views seat w inside) in
          let test : nat_lt next me.0.chunks ≡ false = le-ltb next me.0.chunks (let knows = r.knows in omega arith) in (
            w,
            keeps,
            tt,
            record {
              counted = drawn round s.words s.views seat me.0 w kept.counted at draw refl refl (inr record { stake = r.stake; knows = r.knows; past = λ _. omega arith });
              claimed = owned;
              slots = slots_none round s seat me.0 next kept.counted.size refl at kept.slots;
            },
            record {
              drawn = rw test refl;
              within = (let knows = r.knows in omega arith);
            },
          )
