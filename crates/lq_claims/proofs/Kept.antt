-- What keeps the rule: other views where the words and slots stay, and the words that a step writes.
use Rattle.std.proofs.Common.{◌≡◌, ◌⊎◌, ℕ, ◌<◌, List, length, set, sym, ap, ◌∙◌, ⊎_elim, sum_by, arith}
use mathlib.Core.Option.{some}
use lib.ListN.{get_elem?}
use Rattle.atomic_table.specs.Table.{State}
use Rattle.std.proofs.lemmas.List.{get_or-set_same, get_or-set_other}
use Rattle.lq_claims.specs.declared.view.Round.{Round}
use Rattle.lq_claims.specs.declared.view.View.{View}
use Rattle.lq_claims.specs.View.{claimed, spent}
use Rattle.lq_claims.specs.Claims.{next_number, back_count, holders, returners, IsRight, IsKept}

-- a view is spent, or right
abbrev pub IsFine : (chunks next : ℕ) → View → Type 0
IsFine chunks next v = (v ≡ spent) ⊎ IsRight chunks next v

-- a view with a stake is right
pub right_of : (chunks next : ℕ) (v : View) → IsFine chunks next v → 0 < v.stakes → IsRight chunks next v
right_of chunks next v fine stake = ⊎_elim (λ (e : v ≡ spent). let zero_stakes = ap (λ (u : View). u.stakes) e in absurd (omega arith)) (λ (r : IsRight chunks next v). r) fine

-- and so is one with a draw
pub right_of_draw : (chunks next : ℕ) (v : View) → IsFine chunks next v → 0 < v.draws → IsRight chunks next v
right_of_draw chunks next v fine draw = ⊎_elim (λ (e : v ≡ spent). let zero_draws = ap (λ (u : View). u.draws) e in absurd (omega arith)) (λ (r : IsRight chunks next v). r) fine

-- other views that come to the same totals, where the words and slots stay
pub moved : {S : Type 0} (waiting finished : ℕ → S → Type 0) (round : Round) (state : State S View) (views : List View) → IsKept waiting finished round state
    → sum_by (λ (v : View). v.draws) views ≡ sum_by (λ (v : View). v.draws) state.views
    → sum_by (λ (v : View). v.stakes) views ≡ sum_by (λ (v : View). v.stakes) state.views
    → ((number : ℕ) → holders views number ≡ holders state.views number)
    → ((number : ℕ) → returners views number ≡ returners state.views number)
    → sum_by (λ (v : View). length (claimed v)) views ≡ sum_by (λ (v : View). length (claimed v)) state.views
    → sum_by (λ (v : View). length v.returned) views ≡ sum_by (λ (v : View). length v.returned) state.views
    → ((seat : ℕ) (v : View) → get_elem? views seat ≡ some v → IsFine round.chunks (next_number state.words) v)
    → IsKept waiting finished round record { words = state.words; homes = state.homes; views = views }
moved waiting finished round state views kept draws stakes holding returning many back fine =
    let counted = kept.counted in
    let owned = kept.claimed in
    let slots = kept.slots in
    record {
      counted = record { size = counted.size; draws = (let was = counted.draws in omega arith); stakes = stakes ∙ counted.stakes; right = fine };
      claimed = record {
        once = λ number below. let was = owned.once number below in let a = holding number in let b = returning number in omega arith;
        no_other = λ number past. let was = owned.no_other number past in let a = holding number in let b = returning number in omega arith;
        many = many ∙ owned.many;
        back = owned.back ∙ sym back;
      };
      slots = record {
        count = slots.count;
        unclaimed = slots.unclaimed;
        out = λ number held. slots.out number (let a = holding number in omega arith);
        back = λ number there. slots.back number (let b = returning number in omega arith);
      };
    }

-- the words after a step on word 1, and on word 2
pub next_after : (words : List ℕ) (k : ℕ) → length words ≡ 3 → next_number (set words 1 k) ≡ k
next_after words k size = get_or-set_same words 1 k 0 (omega arith)

pub back_stays : (words : List ℕ) (k : ℕ) → back_count (set words 1 k) ≡ back_count words
back_stays words k = get_or-set_other words 1 2 k 0 (λ e. omega arith)

pub back_after : (words : List ℕ) (k : ℕ) → length words ≡ 3 → back_count (set words 2 k) ≡ k
back_after words k size = get_or-set_same words 2 k 0 (omega arith)

pub next_stays : (words : List ℕ) (k : ℕ) → next_number (set words 2 k) ≡ next_number words
next_stays words k = get_or-set_other words 2 1 k 0 (λ e. omega arith)
