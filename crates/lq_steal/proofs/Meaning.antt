-- What the rule of a deque means.
use Rattle.std.proofs.Common.{◌≡◌, ◌≢◌, ℕ, ◌<◌, List, [], map, ap, refl, arith}
use mathlib.Core.Option.{some}
use lib.ListN.{get_elem?}
use Rattle.crossbeam_deque.specs.Tasks.{Finds, Learns}
use Rattle.lq_rule.proofs.Totals.{two_of_sum}
use Rattle.lq_claims.specs.View.{times}
use Rattle.lq_steal.specs.declared.view.View.{View}
use Rattle.lq_steal.specs.Handed.{IsHanded}
use Rattle.lq_steal.specs.Steps.{KnowsAll, FoundEmpty}
use Rattle.lq_steal.proofs.Ascending.{once_each}
use Rattle.lq_steal.proofs.Kept.{whole_of, has_put}

module _ {T : Type 0} (number : T → ℕ) (deques : ℕ) (waiting : T → Type 0) where
  pub one_place : (tasks : List T) (views : List View) → IsHanded number deques waiting tasks views
      → (k one other : ℕ) (v w : View) → one ≢ other → get_elem? views one ≡ some v → get_elem? views other ≡ some w → 0 < times k v.taken
      → (times k v.taken ≡ 1) × (times k w.taken ≡ 0) × (times k (map number tasks) ≡ 0)
  one_place tasks views h k one other v w apart at there took =
      let both = two_of_sum (λ (u : View). times k u.taken) views one other v w apart at there in
      let placed = h.placed k in
      let once = once_each k h.put h.ascend in
      (omega arith, omega arith, omega arith)

  pub total_tells : (pass : ℕ) (v : View) → Learns (IsHanded number deques waiting) pass v (KnowsAll number v)
  total_tells pass v tasks views h at all k =
      let has = ap (times k) (has_put h.put views pass v h.were_put h.stakes at all) in
      let mine = whole_of (λ (u : View). times k u.taken) refl views pass v h.stakes at all in
      let placed = h.placed k in
      omega arith

  pub empty_tells : (pass : ℕ) (v : View) → Finds (IsHanded number deques waiting) pass v (FoundEmpty v)
  empty_tells pass v views h at all k = let told = total_tells pass v [] views h at all k in omega arith
