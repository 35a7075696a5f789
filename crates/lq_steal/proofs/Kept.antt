-- What keeps the rule of a deque.
use Rattle.std.proofs.Common.{◌≡◌, ◌≢◌, ℕ, List, [], length, sym, ap, refl, ◌∙◌, ⊎_elim, sum_by, arith}
use mathlib.Core.Option.{some}
use lib.ListN.{get_elem?}
use Rattle.std.proofs.lemmas.List.{nil_from_length}
use Rattle.lq_rule.proofs.Totals.{two_of_sum}
use Rattle.lq_claims.proofs.Counts.{sum_of_one}
use Rattle.lq_steal.specs.declared.view.View.{View}
use Rattle.lq_steal.specs.View.{all_stakes, spent}
use Rattle.lq_steal.specs.Handed.{takers, HasStakes, WerePut, IsHanded}

-- whoever has all stakes is alone with its numbers
pub alone_with : (views : List View) (pass : ℕ) (v : View) → HasStakes views → get_elem? views pass ≡ some v → v.stakes ≡ all_stakes
    → (other : ℕ) (w : View) → other ≢ pass → get_elem? views other ≡ some w → w ≡ spent
alone_with views pass v stakes at all other w apart there =
    let both = two_of_sum (λ (u : View). u.stakes) views other pass w v apart there at in
    let total = stakes.all in
    stakes.without other w there (omega arith)

-- so it has the whole of what any number sums up
pub whole_of : (f : View → ℕ) → f spent ≡ 0 → (views : List View) (pass : ℕ) (v : View) → HasStakes views → get_elem? views pass ≡ some v → v.stakes ≡ all_stakes
    → sum_by f views ≡ f v
whole_of f nothing views pass v stakes at all =
    sum_of_one f views pass v at (λ other w apart there. ap f (alone_with views pass v stakes at all other w apart there) ∙ nothing)

-- and knows what was put
pub has_put : (put : List ℕ) (views : List View) (pass : ℕ) (v : View) → WerePut put views → HasStakes views → get_elem? views pass ≡ some v → v.stakes ≡ all_stakes
    → v.put ≡ put
has_put put views pass v were stakes at all =
    ⊎_elim
    (λ (e : v.put ≡ []).
    let mine = whole_of (λ (u : View). length u.put) refl views pass v stakes at all in
    let none_put = ap (λ (ns : List ℕ). length ns) e in
    let once = were.once in
    e ∙ sym (nil_from_length put (omega arith)))
    (λ (e : v.put ≡ put). e)
    (were.known pass v at)

-- other views that know as much together
module _ {T : Type 0} (number : T → ℕ) (deques : ℕ) (waiting : T → Type 0) where
  pub moved : (tasks : List T) (views views' : List View) (h : IsHanded number deques waiting tasks views) → WerePut h.put views'
      → ((k : ℕ) → takers views' k ≡ takers views k) → HasStakes views' → IsHanded number deques waiting tasks views'
  moved tasks views views' h were same stakes = record {
    put = h.put;
    deque = h.deque;
    were_put = were;
    ascend = h.ascend;
    dealt = h.dealt;
    placed = λ k. (let was = h.placed k in let now = same k in omega arith);
    queued = h.queued;
    wait = h.wait;
    stakes = stakes;
  }
