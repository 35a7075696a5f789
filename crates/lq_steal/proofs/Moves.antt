-- Each kind of step keeps the rule of a deque.
use Rattle.std.proofs.Common.{◌≡◌, ◌≢◌, ◌⊎◌, ℕ, zero, suc, ◌+◌, ◌%◌, ◌<◌, ◌≤◌, List, [], ◌∷◌, ◌++◌, map, length, set, sym, ap, refl, subst, ◌∙◌, inl, inr, ⊎_elim, arith}
use Rattle.std.specs.List.{AllByRecursion}
use mathlib.Core.Option.{some, some-injective, some-ne-none}
use lib.ListN.{get_elem?}
use Rattle.crossbeam_deque.proofs.Lists.{at_set, at_snoc}
use Rattle.crossbeam_deque.specs.Tasks.{Pushes, Takes, Admits, Forks, Merges}
use Rattle.std.proofs.lemmas.List.{nil_from_length, length-append, map-append, append-nil}
use Rattle.std.proofs.lemmas.List.Sums.{sum_by_push}
use Rattle.lq_rule.proofs.Totals.{sum_by_set_at, two_of_sum}
use Rattle.lq_claims.specs.View.{times}
use Rattle.lq_claims.proofs.Counts.{times_append, views_set, split_total, join_total}
use Rattle.lq_steal.specs.declared.view.View.{View}
use Rattle.lq_steal.specs.View.{all_stakes, first_view, spent}
use Rattle.lq_steal.specs.Handed.{Ascends, IsHanded}
use Rattle.lq_steal.specs.Steps.{Pushed, Taken, kept_part, given_part, joined_view}
use Rattle.lq_steal.proofs.Ascending.{all_push, all_map, all_at, all_from, ascends_push}
use Rattle.lq_steal.proofs.Kept.{alone_with, has_put, moved}

-- a view knows nothing of what was put, or all
abbrev Knows : List ℕ → View → Type 0
Knows put v = (v.put ≡ []) ⊎ (v.put ≡ put)

-- a view without a stake has nothing
abbrev IsIdle : View → Type 0
IsIdle v = v.stakes ≡ 0 → v ≡ spent

module _ {T : Type 0} (number : T → ℕ) (deques : ℕ) (waiting : T → Type 0) where
  pub opens : IsHanded number deques waiting [] (first_view ∷ [])
  opens = record {
    put = [];
    deque = 0;
    were_put = record { known = only (Knows []) (inl refl); once = refl };
    ascend = tt;
    dealt = tt;
    placed = λ k. refl;
    queued = tt;
    wait = tt;
    stakes = record { all = refl; without = only IsIdle (λ none_left. absurd (omega arith)) };
  }
    where
      only : (P : View → Type 0) → P first_view → (pass : ℕ) (v : View) → get_elem? (first_view ∷ []) pass ≡ some v → P v
      only P first zero v at = subst P (some-injective first_view v at) first
      only P first (suc pass) v at = absurd (some-ne-none v (sym at))

  pub guests : Admits (IsHanded number deques waiting) spent
  guests tasks views h =
      moved number deques waiting tasks views (views ++ spent ∷ []) h
      record {
        known = λ pass v at. ⊎_elim (h.were_put.known pass v) (λ (e : spent ≡ v). inl (ap (λ (u : View). u.put) (sym e))) (at_snoc views spent v pass at);
        once = sum_by_push (λ (u : View). length u.put) views spent ∙ (let was = h.were_put.once in omega arith);
      }
      (λ k. (let total = sum_by_push (λ (u : View). times k u.taken) views spent in omega arith))
      record {
        all = (let total = sum_by_push (λ (u : View). u.stakes) views spent in let was = h.stakes.all in omega arith);
        without = λ pass v at. ⊎_elim (h.stakes.without pass v) (λ (e : spent ≡ v) _. sym e) (at_snoc views spent v pass at);
      }

  pub push_keeps : (pass : ℕ) (v : View) (task : T) → v.stakes ≡ all_stakes → waiting task
      → AllByRecursion (λ earlier. (earlier < number task) × (earlier % deques ≡ number task % deques)) v.put
      → Pushes (IsHanded number deques waiting) pass v (task ∷ []) (Pushed number v (task ∷ []))
  push_keeps pass v task all wait earlier tasks views h at =
      let n = number task in
      let w : View = record v { put = v.put ++ n ∷ [] } in
      let put = v.put ++ n ∷ [] in
      let has = has_put h.put views pass v h.were_put h.stakes at all in
      let below = all_map (λ j. (j < n) × (j % deques ≡ n % deques)) (λ j. j < n) (λ j both. both.0) v.put earlier in
      let same_deque = all_map (λ j. (j < n) × (j % deques ≡ n % deques)) (λ j. j % deques ≡ n % deques) (λ j both. both.1) v.put earlier in
      let placed_before = λ (k : ℕ). ap (times k) has ∙ h.placed k in (
        w,
        record {
          put = put;
          deque = n % deques;
          were_put = record {
            known = views_set (Knows put) views pass w (λ by u apart there. inl (ap (λ (x : View). x.put) (alone_with views pass v h.stakes at all by u apart there))) (inr refl);
            once = (
                let total = sum_by_set_at (λ (u : View). length u.put) views pass v w at in
                let was = h.were_put.once in
                let longer = length-append v.put (n ∷ []) in
                let same = ap (λ (ns : List ℕ). length ns) has in
                omega arith);
          };
          ascend = ascends_push v.put n (subst Ascends (sym has) h.ascend) below;
          dealt = all_push (λ j. j % deques ≡ n % deques) v.put n same_deque refl;
          placed = λ k. (
              let before = placed_before k in
              let more = times_append k v.put (n ∷ []) in
              let total = sum_by_set_at (λ (u : View). times k u.taken) views pass v w at in
              let queue = times_append k (map number tasks) (n ∷ []) in
              let numbers = ap (times k) (map-append number tasks (task ∷ [])) in
              omega arith);
          queued = subst Ascends (sym (map-append number tasks (task ∷ [])))
              (ascends_push (map number tasks) n h.queued
              (all_from (λ j. j < n) (map number tasks) (λ k there. all_at (λ j. j < n) v.put below k (let before = placed_before k in omega arith))));
          wait = all_push waiting tasks task h.wait wait;
          stakes = record {
            all = (let total = sum_by_set_at (λ (u : View). u.stakes) views pass v w at in let was = h.stakes.all in omega arith);
            without = views_set IsIdle views pass w (λ by u apart there. h.stakes.without by u there) (λ none_left. absurd (omega arith));
          };
        },
        refl,
      )

  -- the first task leaves
  take_one : (pass : ℕ) (v : View) → 0 < v.stakes → (x : T) (tasks : List T) (views : List View) → IsHanded number deques waiting (x ∷ tasks) views → get_elem? views pass ≡ some v
      → (w : View) × IsHanded number deques waiting tasks (set views pass w) × Taken number waiting v (x ∷ []) w
  take_one pass v stake x tasks views h at =
      let n = number x in
      let w : View = record v { taken = v.taken ++ n ∷ [] } in (
        w,
        record {
          put = h.put;
          deque = h.deque;
          were_put = record {
            known = views_set (Knows h.put) views pass w (λ by u apart there. h.were_put.known by u there) (h.were_put.known pass v at);
            once = (let total = sum_by_set_at (λ (u : View). length u.put) views pass v w at in let was = h.were_put.once in omega arith);
          };
          ascend = h.ascend;
          dealt = h.dealt;
          placed = λ k. (
              let was = h.placed k in
              let first = times_append k (n ∷ []) (map number tasks) in
              let more = times_append k v.taken (n ∷ []) in
              let total = sum_by_set_at (λ (u : View). times k u.taken) views pass v w at in
              omega arith);
          queued = h.queued.1;
          wait = h.wait.1;
          stakes = record {
            all = (let total = sum_by_set_at (λ (u : View). u.stakes) views pass v w at in let was = h.stakes.all in omega arith);
            without = views_set IsIdle views pass w (λ by u apart there. h.stakes.without by u there) (λ none_left. absurd (omega arith));
          };
        },
        (refl, (h.wait.0, tt)),
      )

  pub take_keeps : (pass : ℕ) (v : View) → 0 < v.stakes → Takes (IsHanded number deques waiting) pass v 1 (Taken number waiting v)
  take_keeps pass v stake [] tasks views any few h at = absurd (omega arith)
  take_keeps pass v stake (x ∷ []) tasks views any few h at = take_one pass v stake x tasks views h at
  take_keeps pass v stake (x ∷ y ∷ xs) tasks views any few h at = absurd (omega arith)

  pub split_keeps : (pass : ℕ) (v : View) → 1 < v.stakes → Forks (IsHanded number deques waiting) pass v (kept_part v) (given_part v)
  split_keeps pass v spare tasks views h at =
      let left = kept_part v in
      let right = given_part v in
      let views' = set views pass left ++ right ∷ [] in
      let total = λ (f : View → ℕ) (parts : f left + f right ≡ f v). split_total f views pass v left right at parts in
      let known = views_set (Knows h.put) views pass left (λ by u apart there. h.were_put.known by u there) (h.were_put.known pass v at) in
      let idle = views_set IsIdle views pass left (λ by u apart there. h.stakes.without by u there) (λ none_left. absurd (omega arith)) in
      moved number deques waiting tasks views views' h
      record {
        known = λ by u there. ⊎_elim (known by u) (λ (e : right ≡ u). inl (ap (λ (x : View). x.put) (sym e))) (at_snoc (set views pass left) right u by there);
        once = total (λ (u : View). length u.put) (omega arith) ∙ h.were_put.once;
      }
      (λ k. total (λ (u : View). times k u.taken) (omega arith))
      record {
        all = total (λ (u : View). u.stakes) (omega arith) ∙ h.stakes.all;
        without = λ by u there. ⊎_elim (idle by u) (λ (e : right ≡ u) none_left. (let one = ap (λ (x : View). x.stakes) e in absurd (omega arith))) (at_snoc (set views pass left) right u by there);
      }

  -- two views that know nothing or all of what was put, of which at most one knows all
  joined_knows : (put : List ℕ) (v w : View) → Knows put v → Knows put w → length v.put + length w.put ≤ length put → Knows put (joined_view v w)
  joined_knows put v w mine theirs most = ⊎_elim first second mine
    where
      -- where the first knows nothing
      first : v.put ≡ [] → Knows put (joined_view v w)
      first e = ⊎_elim (λ (f : w.put ≡ []). inl (ap (λ ns. ns ++ w.put) e ∙ f)) (λ (f : w.put ≡ put). inr (ap (λ ns. ns ++ w.put) e ∙ f)) theirs

      -- where it knows all, the other has none
      second : v.put ≡ put → Knows put (joined_view v w)
      second e =
          let same = ap (λ (ns : List ℕ). length ns) e in
          let nothing : w.put ≡ [] = nil_from_length w.put (omega arith) in
          inr (ap (λ ns. v.put ++ ns) nothing ∙ append-nil v.put ∙ e)

  -- two views without a stake have nothing together
  joined_idle : (v w : View) → IsIdle v → IsIdle w → IsIdle (joined_view v w)
  joined_idle v w mine theirs none_left =
      let a = mine (omega arith) in
      let b = theirs (omega arith) in
      ap (λ (u : View). joined_view u w) a ∙ ap (λ (u : View). joined_view spent u) b

  pub join_keeps : (pass other : ℕ) (v w : View) → Merges (IsHanded number deques waiting) pass v other w (joined_view v w) spent
  join_keeps pass other v w tasks views h at apart there =
      let both = joined_view v w in
      let was : get_elem? views other ≡ some w =
      ⊎_elim (λ (t : (other ≡ pass) × (both ≡ w)). absurd (apart t.0)) (λ (t : (other ≢ pass) × (get_elem? views other ≡ some w)). t.1) (at_set views pass other both w there) in
      let views' = set (set views pass both) other spent in
      let total = λ (f : View → ℕ) (sums : f both ≡ f v + f w) (nothing : f spent ≡ 0). join_total f views pass other v w both spent at there sums nothing in
      let most = two_of_sum (λ (u : View). length u.put) views pass other v w (λ e. apart (sym e)) at was in
      let once = h.were_put.once in
      let knows = joined_knows h.put v w (h.were_put.known pass v at) (h.were_put.known other w was) (omega arith) in
      let idle = joined_idle v w (h.stakes.without pass v at) (h.stakes.without other w was) in
      moved number deques waiting tasks views views' h
      record {
        known = views_set (Knows h.put) (set views pass both) other spent (λ by u _ old. views_set (Knows h.put) views pass both (λ k x _ before. h.were_put.known k x before) knows by u old) (inl refl);
        once = total (λ (u : View). length u.put) (length-append v.put w.put) refl ∙ h.were_put.once;
      }
      (λ k. total (λ (u : View). times k u.taken) (times_append k v.taken w.taken) refl)
      record {
        all = total (λ (u : View). u.stakes) refl refl ∙ h.stakes.all;
        without = views_set IsIdle (set views pass both) other spent (λ by u _ old. views_set IsIdle views pass both (λ k x _ before. h.stakes.without k x before) idle by u old) (λ _. refl);
      }
