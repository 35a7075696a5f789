-- Each kind of step keeps the rule.
use Rattle.std.proofs.Common.{◌≡◌, ◌≢◌, ℕ, ◌+◌, ◌-◌, ◌<◌, ◌≤◌, List, length, set, sym, ap, refl, subst, ◌∙◌, inl, inr, ⊎_elim, arith}
use Rattle.std.specs.Prelude.{slice_index, slice_set, nat_lt, if◌then◌else◌}
use mathlib.Core.Option.{some, none}
use lib.ListN.{get_elem?}
use native.Mathlib.Decide.{ℕ_discrete, dec_lt}
use Rattle.atomic_table.specs.Table.{State, keeps, step, Allows, Splits, Joins, stepped}
use Rattle.atomic_table.proofs.Lists.{at_set, at_snoc}
use Rattle.std.proofs.lemmas.List.Sums.{sum_by_push}
use Rattle.std.proofs.lemmas.List.{set-get_or, get_or-set_same, get_or-set_other, length-set, get_or_past}
use Rattle.std.proofs.lemmas.List.FromFn.{length-map-range_with_len, get_or-map-range_with_len}
use Rattle.std.proofs.lemmas.Bool.{lt-ltb, le-ltb}
use Rattle.lq_rule.specs.declared.view.Held.{Held}
use Rattle.lq_rule.specs.declared.view.Supply.{Supply}
use Rattle.lq_rule.specs.declared.view.View.{View}
use Rattle.lq_rule.specs.View.{units_at, word_at, units_of, nothing, spent}
use Rattle.lq_rule.specs.Units.{HasWords, IsRight, IsKept}
use Rattle.lq_rule.specs.Steps.{Seated, with_word, each_cell, with_units, foot_part, rest_part, joined_view, put_together, Loads, Stores, Looks}
use Rattle.lq_rule.proofs.Totals.{sum_by_set_at, one_of_sum, two_of_sum}

-- a fact of each view is one of each view after a change at one seat
views_set : (P : View → Type 0) (views : List View) (seat : ℕ) (w : View) → ((by : ℕ) (u : View) → by ≢ seat → get_elem? views by ≡ some u → P u) → P w
    → (by : ℕ) (u : View) → get_elem? (set views seat w) by ≡ some u → P u
views_set P views seat w others mine by u at =
    ⊎_elim
    (λ (x : (by ≡ seat) × (w ≡ u)). subst P x.1 mine)
    (λ (x : (by ≢ seat) × (get_elem? views by ≡ some u)). others by u x.0 x.1)
    (at_set views seat by w u at)

-- a seat's view may be changed for one with no more units, where the words stay
changed : (supply : Supply) (state : State (Unit {0}) View) (seat : ℕ) (v w : View) → IsKept supply state → get_elem? state.views seat ≡ some v
    → ((cell : ℕ) → units_of w cell ≤ units_of v cell) → IsRight supply.units state.words w
    → IsKept supply record { words = state.words; homes = state.homes; views = set state.views seat w }
changed supply state seat v w kept at fewer right = record {
  size = kept.size;
  units = λ cell.
      let sums = sum_by_set_at (λ u. units_of u cell) state.views seat v w at in
      let most = kept.units cell in
      let less = fewer cell in
      omega arith;
  views = views_set (IsRight supply.units state.words) state.views seat w (λ by u _ there. kept.views by u there) right;
}

-- a list that is read at the place where it was written
same_words : (words : List ℕ) (place : ℕ) → set words place (slice_index words place) ≡ words
same_words words place = set-get_or words place 0

-- a step that only reads, and leaves the seat with a view of no more units
reads : (supply : Supply) (s : State (Unit {0}) View) (seat place : ℕ) (v w : View) (carried : List (ℕ × Unit {0})) → IsKept supply s → get_elem? s.views seat ≡ some v
    → ((cell : ℕ) → units_of w cell ≤ units_of v cell) → IsRight supply.units s.words w
    → IsKept supply (stepped s place (slice_index s.words place) seat carried w keeps)
reads supply s seat place v w carried kept at fewer right =
    subst (λ words. IsKept supply record { words = words; homes = s.homes; views = set s.views seat w }) (sym (same_words s.words place))
    (changed supply s seat v w kept at fewer right)

-- cell c is word c + 1
pub cell_of_word : (cell : ℕ) → cell + 1 - 1 ≡ cell
cell_of_word cell = omega arith

pub load_keeps : (supply : Supply) (slots seat cell : ℕ) (me : Seated) → 0 < units_at me.0.own cell
    → Allows (IsKept supply) slots seat me (cell + 1) (λ n. n) (Loads (step slots (cell + 1) 0 0 none) me)
load_keeps supply slots seat cell me unit s kept homes at small =
    let right = kept.views seat me.0 at in
    let found = right.own cell unit in (
      me.0,
      keeps,
      tt,
      reads supply s seat (cell + 1) me.0 me.0 me.1 kept at (λ other. omega arith) right,
      (sym found ∙ ap (word_at me.0.own) (sym (cell_of_word cell)), refl),
    )

-- a view that isn't spent knows how many all units are
pub number_of : (all : ℕ) (words : List ℕ) (v : View) → IsRight all words v → 0 < v.all → v.all ≡ all
number_of all words v right unspent = ⊎_elim (λ (e : v ≡ spent). let zero_units = ap (λ (u : View). u.all) e in absurd (omega arith)) (λ (e : v.all ≡ all). e) right.number

-- a write to a cell of which no unit is held
other_words : (words : List ℕ) (cell new : ℕ) (h : Held) → units_at h cell ≡ 0 → HasWords words h → HasWords (set words (cell + 1) new) h
other_words words cell new h empty right other unit =
    let apart : other + 1 ≢ cell + 1 = λ e. (let same : other ≡ cell = omega arith in let here : 0 < units_at h cell = subst (λ k. 0 < units_at h k) same unit in omega arith) in
    right other unit ∙ sym (get_or-set_other words (cell + 1) (other + 1) new 0 apart)

-- a write to the cell, on both sides
own_words : (words : List ℕ) (cell new : ℕ) (h : Held) → cell < length h.words → cell + 1 < length words → HasWords words h
    → HasWords (set words (cell + 1) new) record { units = h.units; words = slice_set h.words cell new }
own_words words cell new h known inside right other unit = at (ℕ_discrete other cell)
  where
    at : Dec (other ≡ cell) → slice_index (slice_set h.words cell new) other ≡ slice_index (set words (cell + 1) new) (other + 1)
    at (yes e) =
        rw e (get_or-set_same h.words cell new 0 known ∙ sym (get_or-set_same words (cell + 1) new 0 inside))
    at (no apart) =
        let up : other + 1 ≢ cell + 1 = λ e. apart (omega arith) in
        get_or-set_other h.words cell other new 0 apart ∙ right other unit ∙ sym (get_or-set_other words (cell + 1) (other + 1) new 0 up)

store_right : (supply : Supply) (s : State (Unit {0}) View) (seat cell new : ℕ) (v : View) → IsKept supply s → get_elem? s.views seat ≡ some v
    → cell < supply.cells → cell < length v.own.words → 0 < v.all → units_at v.own cell ≡ v.all
    → IsKept supply record { words = set s.words (cell + 1) new; homes = s.homes; views = set s.views seat (with_word v cell new) }
store_right supply s seat cell new v kept at inside known unspent all =
    let right = kept.views seat v at in
    let number = number_of supply.units s.words v right unspent in
    let most = kept.units cell in
    let mine = one_of_sum (λ u. units_of u cell) s.views seat v at in
    let empty : units_at v.joined cell ≡ 0 = omega arith in
    let size = kept.size in
    let room : cell + 1 < length s.words = omega arith in
    record {
      size = length-set s.words (cell + 1) new ∙ size;
      units = λ other.
          let sums = sum_by_set_at (λ u. units_of u other) s.views seat v (with_word v cell new) at in
          let less = kept.units other in
          omega arith;
      views = views_set (IsRight supply.units (set s.words (cell + 1) new)) s.views seat (with_word v cell new)
          (λ by u apart there.
          let both = two_of_sum (λ x. units_of x cell) s.views by seat u v apart there at in
          let other = kept.views by u there in
          record {
            number = other.number;
            own = other_words s.words cell new u.own (omega arith) other.own;
            joined = other_words s.words cell new u.joined (omega arith) other.joined;
          })
          record {
            number = inr number;
            own = own_words s.words cell new v.own known room right.own;
            joined = other_words s.words cell new v.joined empty right.joined;
          };
    }

pub store_keeps : (supply : Supply) (slots seat cell new : ℕ) (me : Seated) → cell < supply.cells → cell < length me.0.own.words → 0 < me.0.all → units_at me.0.own cell ≡ me.0.all
    → Allows (IsKept supply) slots seat me (cell + 1) (λ _. new) (λ _. Stores (step slots (cell + 1) new 0 none) me new)
store_keeps supply slots seat cell new me inside known unspent all s kept homes at small = (
  with_word me.0 cell new,
  keeps,
  tt,
  store_right supply s seat cell new me.0 kept at inside known unspent all,
  ap (λ k. (with_word me.0 k new, me.1)) (sym (cell_of_word cell)),
)

-- a list by cells, read at a cell
pub each_cell_at : (n : ℕ) (f : ℕ → ℕ) (cell : ℕ) → cell < n → slice_index (each_cell n f) cell ≡ f cell
each_cell_at n f cell inside = get_or-map-range_with_len f 0 n cell cell 0 inside (omega arith)

pub each_cell_past : (n : ℕ) (f : ℕ → ℕ) (cell : ℕ) → n ≤ cell → slice_index (each_cell n f) cell ≡ 0
each_cell_past n f cell past = get_or_past (each_cell n f) cell 0 (omega (arith, length-map-range_with_len f 0 n))

-- a number of each cell that is 0 past the last is in the list everywhere
pub each_cell_all : (n : ℕ) (f : ℕ → ℕ) (cell : ℕ) → (n ≤ cell → f cell ≡ 0) → slice_index (each_cell n f) cell ≡ f cell
each_cell_all n f cell zero_past = by_place (dec_lt cell n)
  where
    by_place : Dec (cell < n) → slice_index (each_cell n f) cell ≡ f cell
    by_place (yes inside) = each_cell_at n f cell inside
    by_place (no past) = let out : n ≤ cell = omega arith in each_cell_past n f cell out ∙ sym (zero_past out)

-- no unit is held past the last cell
pub units_past : (h : Held) (cell : ℕ) → length h.units ≤ cell → units_at h cell ≡ 0
units_past h cell past = get_or_past h.units cell 0 past

-- the units of a part
pub with_units_at : (v : View) (f : ℕ → ℕ) (cell : ℕ) → ((other : ℕ) → f other ≤ units_at v.own other) → units_of (with_units v f) cell ≡ f cell
with_units_at v f cell fewer =
    let is = each_cell_all (length v.own.units) f cell (λ past. let less = fewer cell in let empty = units_past v.own cell past in omega arith) in
    omega arith

-- a part of a view's units is right with its words
part_right : (all : ℕ) (words : List ℕ) (v : View) (f : ℕ → ℕ) → ((cell : ℕ) → f cell ≤ units_at v.own cell) → IsRight all words v → IsRight all words (with_units v f)
part_right all words v f fewer right = record {
  number = ⊎_elim (λ (e : v ≡ spent). inl (subst (λ (u : View). with_units u f ≡ spent) (sym e) refl)) (λ (e : v.all ≡ all). inr e) right.number;
  own = λ cell unit.
      let is = with_units_at v f cell fewer in
      let less = fewer cell in
      right.own cell (omega arith);
  joined = λ cell unit. absurd (omega arith);
}

pub split_keeps : (supply : Supply) (foot : ℕ → ℕ) (seat : ℕ) (v : View) → ((cell : ℕ) → foot cell ≤ units_at v.own cell) → Splits (IsKept supply) seat v (foot_part foot v) (rest_part foot v)
split_keeps supply foot seat v within s kept at =
    let right = kept.views seat v at in
    let left = foot_part foot v in
    let other = rest_part foot v in
    record {
      size = kept.size;
      units = λ cell.
          let sums = sum_by_set_at (λ u. units_of u cell) s.views seat v left at in
          let more = sum_by_push (λ u. units_of u cell) (set s.views seat left) other in
          let here = with_units_at v foot cell within in
          let there = with_units_at v (λ k. units_at v.own k - foot k) cell (λ k. omega arith) in
          let less = within cell in
          let most = kept.units cell in
          omega arith;
      views = λ by u there.
          ⊎_elim
          (λ (old : get_elem? (set s.views seat left) by ≡ some u).
          views_set (IsRight supply.units s.words) s.views seat left (λ k x _ was. kept.views k x was) (part_right supply.units s.words v foot within right) by u old)
          (λ (new : other ≡ u). subst (IsRight supply.units s.words) new (part_right supply.units s.words v (λ k. units_at v.own k - foot k) (λ k. omega arith) right))
          (at_snoc (set s.views seat left) other u by there);
    }

pub join_keeps : (supply : Supply) (seat other : ℕ) (v w : View) → 0 < v.all → Joins (IsKept supply) seat v other w (joined_view v w) spent
join_keeps supply seat other v w unspent s kept at apart there =
    let both = joined_view v w in
    let mine = kept.views seat v at in
    let theirs = ⊎_elim (λ (t : (other ≡ seat) × (both ≡ w)). absurd (apart t.0)) (λ (t : (other ≢ seat) × (get_elem? s.views other ≡ some w)). kept.views other w t.1) (at_set s.views seat other both w there) in
    record {
      size = kept.size;
      units = λ cell.
          let first = sum_by_set_at (λ u. units_of u cell) s.views seat v both at in
          let second = sum_by_set_at (λ u. units_of u cell) (set s.views seat both) other w spent there in
          let most = kept.units cell in
          omega arith;
      views = views_set (IsRight supply.units s.words) (set s.views seat both) other spent
          (λ by u _ was. views_set (IsRight supply.units s.words) s.views seat both (λ k x _ old. kept.views k x old)
          record { number = inr (number_of supply.units s.words v mine unspent); own = mine.own; joined = theirs.own } by u was)
          record { number = inl refl; own = λ cell unit. absurd (omega arith); joined = λ cell unit. absurd (omega arith) };
    }

-- the units of two together, no more than those of each
pub together_units : (h k : Held) (cell : ℕ) → units_at (put_together h k) cell ≤ units_at h cell + units_at k cell
together_units h k cell = by_place (dec_lt cell (length h.units))
  where
    by_place : Dec (cell < length h.units) → units_at (put_together h k) cell ≤ units_at h cell + units_at k cell
    by_place (yes inside) = let is = each_cell_at (length h.units) (λ c. units_at h c + units_at k c) cell inside in omega arith
    by_place (no past) = let is = each_cell_past (length h.units) (λ c. units_at h c + units_at k c) cell (omega arith) in omega arith

-- the word of two together is that of one which has a unit
together_words : (words : List ℕ) (h k : Held) → HasWords words h → HasWords words k → HasWords words (put_together h k)
together_words words h k mine theirs cell unit = by_place (dec_lt cell (length h.units)) (dec_lt 0 (units_at h cell))
  where
    by_place : Dec (cell < length h.units) → Dec (0 < units_at h cell) → word_at (put_together h k) cell ≡ slice_index words (cell + 1)
    by_place (no past) own = let is = each_cell_past (length h.units) (λ c. units_at h c + units_at k c) cell (omega arith) in absurd (omega arith)
    by_place (yes inside) (yes own) =
        each_cell_at (length h.units) (λ c. if nat_lt 0 (units_at h c) then word_at h c else word_at k c) cell inside ∙ rw (lt-ltb 0 (units_at h cell) own) (mine cell own)
    by_place (yes inside) (no bare) =
        let is = each_cell_at (length h.units) (λ c. units_at h c + units_at k c) cell inside in
        let other : 0 < units_at k cell = omega arith in
        let off : units_at h cell ≤ 0 = omega arith in
        each_cell_at (length h.units) (λ c. if nat_lt 0 (units_at h c) then word_at h c else word_at k c) cell inside ∙ rw (le-ltb 0 (units_at h cell) off) (theirs cell other)

pub look_keeps : (supply : Supply) (slots seat : ℕ) (me : Seated) → 0 < me.0.all → Allows (IsKept supply) slots seat me 0 (λ n. n) (Looks (step slots 0 0 0 none) me)
look_keeps supply slots seat me unspent s kept homes at small =
    let v = me.0 in
    let right = kept.views seat v at in
    let number = number_of supply.units s.words v right unspent in
    let h = put_together v.own v.joined in
    let w : View = record { all = v.all; own = h; joined = nothing } in (
      w,
      keeps,
      tt,
      reads supply s seat 0 v w me.1 kept at (λ cell. let fewer = together_units v.own v.joined cell in omega arith)
          record { number = inr number; own = together_words s.words v.own v.joined right.own right.joined; joined = λ cell unit. absurd (omega arith) },
      record {
        view = refl;
        agree = λ cell one two. right.own cell one ∙ sym (right.joined cell two);
        units = λ cell.
            let mine = one_of_sum (λ u. units_of u cell) s.views seat v at in
            let most = kept.units cell in
            omega arith;
      },
    )
