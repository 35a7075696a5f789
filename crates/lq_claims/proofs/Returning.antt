-- A return keeps the rule.
use Rattle.std.proofs.Common.{◌≡◌, ◌≢◌, ℕ, min, ◌+◌, ◌%◌, ◌^◌, ◌<◌, ◌≤◌, List, ◌∷◌, length, set, sym, ap, refl, subst, ◌∙◌, inr, ⊎_elim, sum_by, arith}
use Rattle.std.proofs.Math.Nat.{mod-eq_of_lt}
use mathlib.Core.Option.{some, none}
use lib.ListN.{get_elem?}
use native.Mathlib.Decide.{ℕ_discrete, dec_lt}
use Rattle.atomic_table.specs.Table.{State, Me, step, gives, rest, put_back, Allows}
use Rattle.atomic_table.proofs.Lists.{set_here, set_else}
use Rattle.std.proofs.lemmas.List.{length-set, length-append}
use Rattle.lq_rule.proofs.Totals.{sum_by_set_at, one_of_sum}
use Rattle.lq_claims.specs.declared.view.Round.{Round}
use Rattle.lq_claims.specs.declared.view.View.{View}
use Rattle.lq_claims.specs.View.{times, claimed, spent}
use Rattle.lq_claims.specs.Claims.{next_number, back_count, holders, returners, IsHome, IsRight, IsKept}
use Rattle.lq_claims.specs.Steps.{given_back, GivesBack}
use Rattle.lq_claims.specs.Laws.{Fits}
use Rattle.lq_claims.proofs.Counts.{views_set, times_same, times_other, sum_by_both}
use Rattle.lq_claims.proofs.Kept.{IsFine, next_stays, back_after}

-- the view behind a return of this number, where the others are held
abbrev behind : View → (number : ℕ) → (held : List ℕ) → View
behind v number held = record v { held = held; returned = number ∷ v.returned }

-- a view that is fine stays so behind a return
behind_fine : (chunks next : ℕ) (v : View) (number : ℕ) (held : List ℕ) → v.held ≡ number ∷ held → IsFine chunks next v → IsFine chunks next (behind v number held)
behind_fine chunks next v number held is fine =
    ⊎_elim
    (λ (e : v ≡ spent). let nothing = ap (λ (u : View). length u.held) e in let one = ap (λ (ns : List ℕ). length ns) is in absurd (omega arith))
    (λ (r : IsRight chunks next v). inr record { stake = r.stake; knows = r.knows; past = r.past })
    fine

module _ (views : List View) (seat : ℕ) (v : View) (number : ℕ) (held : List ℕ) (is : v.held ≡ number ∷ held) (at : get_elem? views seat ≡ some v) where
  abbrev views' : List View
  views' = set views seat (behind v number held)

  -- who holds a number behind a return, and who gave it back
  holders_fewer : (k : ℕ) → number ≡ k → holders views' k + 1 ≡ holders views k
  holders_fewer k same =
      let total = sum_by_set_at (λ (u : View). times k u.held) views seat v (behind v number held) at in
      let was = ap (times k) is in
      let one = times_same k number held same in
      omega arith

  returners_more : (k : ℕ) → number ≡ k → returners views' k ≡ returners views k + 1
  returners_more k same =
      let total = sum_by_set_at (λ (u : View). times k u.returned) views seat v (behind v number held) at in
      let one = times_same k number v.returned same in
      omega arith

  holders_stay : (k : ℕ) → number ≢ k → holders views' k ≡ holders views k
  holders_stay k apart =
      let total = sum_by_set_at (λ (u : View). times k u.held) views seat v (behind v number held) at in
      let was = ap (times k) is in
      let none_less = times_other k number held apart in
      omega arith

  returners_stay : (k : ℕ) → number ≢ k → returners views' k ≡ returners views k
  returners_stay k apart =
      let total = sum_by_set_at (λ (u : View). times k u.returned) views seat v (behind v number held) at in
      let none_more = times_other k number v.returned apart in
      omega arith

  both_stay : (k : ℕ) → holders views' k + returners views' k ≡ holders views k + returners views k
  both_stay k = by (ℕ_discrete number k)
    where
      by : Dec (number ≡ k) → holders views' k + returners views' k ≡ holders views k + returners views k
      by (yes e) = let a = holders_fewer k e in let b = returners_more k e in omega arith
      by (no apart) = let a = holders_stay k apart in let b = returners_stay k apart in omega arith

  -- the number is held
  is_held : 0 < holders views number
  is_held = let fewer = holders_fewer number refl in omega arith

  -- one more is back, and as many are claimed
  back_more : sum_by (λ (u : View). length u.returned) views' ≡ sum_by (λ (u : View). length u.returned) views + 1
  back_more =
      let total = sum_by_set_at (λ (u : View). length u.returned) views seat v (behind v number held) at in
      omega arith

  many_stay : sum_by (λ (u : View). length (claimed u)) views' ≡ sum_by (λ (u : View). length (claimed u)) views
  many_stay =
      let total = sum_by_set_at (λ (u : View). length (claimed u)) views seat v (behind v number held) at in
      let old = length-append v.held v.returned in
      let new = length-append held (number ∷ v.returned) in
      let was = ap (λ (ns : List ℕ). length ns) is in
      omega arith

  -- fewer are back than are claimed
  some_out : sum_by (λ (u : View). length u.returned) views + 1 ≤ sum_by (λ (u : View). length (claimed u)) views
  some_out =
      let both = sum_by_both (λ (u : View). length u.held) (λ (u : View). length u.returned) (λ (u : View). length (claimed u)) (λ u. length-append u.held u.returned) views in
      let mine = one_of_sum (λ (u : View). length u.held) views seat v at in
      let was = ap (λ (ns : List ℕ). length ns) is in
      omega arith

module _ {S : Type 0} (waiting finished : ℕ → S → Type 0) where
  -- what is kept, behind a return of a finished chunk
  behind_kept : (round : Round) (s : State S View) (seat : ℕ) (v : View) (number : ℕ) (held : List ℕ) (x : S) → v.held ≡ number ∷ held → get_elem? s.views seat ≡ some v → finished number x
      → IsKept waiting finished round s
      → IsKept waiting finished round record { words = set s.words 2 (back_count s.words + 1); homes = set s.homes number (some x); views = set s.views seat (behind v number held) }
  behind_kept round s seat v number held x is at done kept =
      let counted = kept.counted in
      let owned = kept.claimed in
      let slots = kept.slots in
      let words' = set s.words 2 (back_count s.words + 1) in
      let next_same = next_stays s.words (back_count s.words + 1) in
      let back_word = back_after s.words (back_count s.words + 1) counted.size in
      let out = is_held s.views seat v number held is at in
      record {
        counted = record {
          size = length-set s.words 2 (back_count s.words + 1) ∙ counted.size;
          draws = (
              let total = sum_by_set_at (λ (u : View). u.draws) s.views seat v (behind v number held) at in
              let was = counted.draws in
              omega arith);
          stakes = (
              let total = sum_by_set_at (λ (u : View). u.stakes) s.views seat v (behind v number held) at in
              let was = counted.stakes in
              omega arith);
          right = subst (λ k. (by : ℕ) (u : View) → get_elem? (set s.views seat (behind v number held)) by ≡ some u → IsFine round.chunks k u) (sym next_same)
              (views_set (IsFine round.chunks (next_number s.words)) s.views seat (behind v number held) (λ by u _ was. counted.right by u was)
              (behind_fine round.chunks (next_number s.words) v number held is (counted.right seat v at)));
        };
        claimed = record {
          once = λ k low. (let stay = both_stay s.views seat v number held is at k in let was = owned.once k (omega arith) in omega arith);
          no_other = λ k high. (let stay = both_stay s.views seat v number held is at k in let was = owned.no_other k (omega arith) in omega arith);
          many = (let stay = many_stay s.views seat v number held is at in let was = owned.many in omega arith);
          back = (let more = back_more s.views seat v number held is at in let was = owned.back in omega arith);
        };
        slots = record {
          count = length-set s.homes number (some x) ∙ slots.count;
          unclaimed = λ k inside past. (
              let apart : k ≢ number = λ e. (
              let none_there = owned.no_other k (omega arith) in
              let here : 0 < holders s.views k = subst (λ n. 0 < holders s.views n) (sym e) out in
              omega arith) in
              let was = slots.unclaimed k inside (omega arith) in
              (was.0, set_else s.homes number k (some x) apart ∙ was.1, was.2));
          out = λ k there. (
              let apart : number ≢ k = λ e. (
              let fewer = holders_fewer s.views seat v number held is at k e in
              let inside = below k (omega arith) in
              let once = owned.once k inside in
              omega arith) in
              let same = holders_stay s.views seat v number held is at k apart in
              set_else s.homes number k (some x) (λ e. apart (sym e)) ∙ slots.out k (omega arith));
          back = λ k there. back k there (ℕ_discrete number k);
        };
      }
    where
      -- a number that a view holds is one of a chunk
      below : (k : ℕ) → 0 < holders s.views k → k < min (next_number s.words) round.chunks
      below k held' = by (dec_lt k (min (next_number s.words) round.chunks))
        where
          by : Dec (k < min (next_number s.words) round.chunks) → k < min (next_number s.words) round.chunks
          by (yes low) = low
          by (no high) = let none_there = kept.claimed.no_other k (omega arith) in absurd (omega arith)

      back : (k : ℕ) → 0 < returners (set s.views seat (behind v number held)) k → Dec (number ≡ k) → IsHome finished record { words = set s.words 2 (back_count s.words + 1); homes = set s.homes number (some x); views = set s.views seat (behind v number held) } k
      back k there (yes e) =
          let inside = below number (is_held s.views seat v number held is at) in
          let count = kept.slots.count in
          let room : number < length s.homes = omega arith in
          (x, subst (λ n. get_elem? (set s.homes number (some x)) n ≡ some (some x)) e (set_here s.homes number (some x) room), subst (λ n. finished n x) e done)
      back k there (no apart) =
          let same = returners_stay s.views seat v number held is at k apart in
          let was = kept.slots.back k (omega arith) in
          (was.0, set_else s.homes number k (some x) (λ e. apart (sym e)) ∙ was.1, was.2)

  pub return_keeps : (round : Round) → Fits round → (seat : ℕ) (me : Me S View) (number : ℕ) (x : S) (held : List ℕ) (out : List (ℕ × S))
      → me.0.held ≡ number ∷ held → me.1 ≡ (number, x) ∷ out → finished number x
      → Allows (IsKept waiting finished round) round.chunks seat me 2 (λ n. (n + 1) % 2 ^ 64) (GivesBack (step round.chunks 2 1 0 none) me)
  return_keeps round fits seat me number x held out is carried done s kept homes at small =
      let count = some_out s.views seat me.0 number held is at in
      let many = kept.claimed.many in
      let back = kept.claimed.back in
      let drawn = kept.counted.draws in
      let word : (back_count s.words + 1) % 2 ^ 64 ≡ back_count s.words + 1 = mod-eq_of_lt (omega arith) in (
        behind me.0 number held,
        gives,
        tt,
        subst
            (λ k. IsKept waiting finished round record { words = set s.words 2 k; homes = put_back s.homes me.1; views = set s.views seat (behind me.0 number held) })
            (sym word)
            (subst
            (λ (c : List (ℕ × S)). IsKept waiting finished round record { words = set s.words 2 (back_count s.words + 1); homes = put_back s.homes c; views = set s.views seat (behind me.0 number held) })
            (sym carried)
            (behind_kept round s seat me.0 number held x is at done kept)),
        ap (λ (ns : List ℕ). (given_back me.0 ns, rest me.1)) (sym is),
      )
