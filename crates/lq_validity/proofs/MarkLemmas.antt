-- Marks on the rows that are facts.
use Rattle.std.proofs.Common.{◌≡◌, ℕ, zero, suc, ◌-◌, ◌<◌, ◌≤◌, inl, inr, Bool, true, false, List, [], ◌∷◌, ◌++◌, length, get_or, refl, sym, ap, ◌∙◌, arith, subst, length-append}
use Rattle.std.proofs.lemmas.Bool.{cases_lt}
use Rattle.std.specs.Prelude.{Contains, ◌↔◌, ◌*◌, Result, Ok, Err, IfOk}
use Rattle.lq_linear.specs.Row.{IsBounded, nothing}
use Rattle.lq_linear.specs.Item.{rows, rows_of, dividend_row}
use Rattle.lq_linear.specs.declared.item.Item.{Item}
use Rattle.lq_linear.specs.declared.item.Item.TheVariants.{Holds, Division, Remainder}
use Rattle.lq_linear.proofs.ItemLemmas.{get_left, get_right}
use Rattle.lq_linear.specs.Derivation.{FollowsDirectly, IsFact}
use Rattle.lq_validity.specs.Marks.{Marks, AddsMarks, IsMarked}

pub contains_at : (xs : List ℕ) (k : ℕ) → k < length xs → Contains xs (get_or xs k 0)
contains_at xs k h = (k, h, go xs k h) where
  go : (xs : List ℕ) (k : ℕ) → k < length xs → get_or xs k (get_or xs k 0) ≡ get_or xs k 0
  go [] k h = absurd (omega arith)
  go (x ∷ xs) zero h = refl
  go (x ∷ xs) (suc k) h = go xs k (omega arith)

-- a mark is within the list
marked_length : (marks : List Bool) (k : ℕ) → get_or marks k false ≡ true → k < length marks
marked_length [] k e = cc
marked_length (m ∷ marks) zero e = omega arith
marked_length (m ∷ marks) (suc k) e = omega (arith, marked_length marks k e)

pub marked_inside : (marks : List Bool) (n : ℕ) → IsMarked marks n → n ≤ length marks
marked_inside marks n h = omega (arith, h.0, marked_length marks (n - 1) h.1)

-- the marks of one item more
module _ (multipliers : List ℕ) (before : List Item) (item : Item) (exact : Bool) (old new : List Bool) (m : Marks multipliers before old) (a : AddsMarks item exact old new)
    (e : (exact ≡ true) ↔ FollowsDirectly multipliers (IsFact multipliers before) (rows before) (dividend_row item)) where
  new_marked : (n : ℕ) → IsMarked new n → IsFact multipliers (item ∷ before) n
  new_marked n h = elim (cases_lt (n - 1) (length old)) [
    | inl l ↦ inl ((m.right n).0 (h.0, sym (get_left old a.added (n - 1) false l) ∙ ap (λ x. get_or x (n - 1) false) (sym a.joined) ∙ h.1))
    | inr l ↦
        let at : get_or a.added (n - 1 - length old) false ≡ true = sym (get_right old a.added (n - 1) false l) ∙ ap (λ x. get_or x (n - 1) false) (sym a.joined) ∙ h.1 in
        let inside : n - 1 - length old < length a.added = marked_length a.added (n - 1 - length old) at in
        let tells = (a.marks (n - 1 - length old) inside).0 at in
        inr (
          n - 1 - length old,
          omega (arith, m.count, h.0),
          record {
            there = omega (arith, a.count, inside);
            bounded = subst (λ k. IsBounded (get_or (rows_of item) k nothing)) (omega arith) tells.0;
            third = λ q. e.0 (tells.1 q);
          },
        )
  ]

  new_fact : (n : ℕ) → IsFact multipliers (item ∷ before) n → IsMarked new n
  new_fact n (inl h) =
      let k = (m.right n).1 h in
      (k.0, ap (λ x. get_or x (n - 1) false) a.joined ∙ get_left old a.added (n - 1) false (marked_length old (n - 1) k.1) ∙ k.1)
  new_fact n (inr h) =
      let fact = h.2 in
      let inside : h.0 < length a.added = omega (arith, a.count, fact.there) in
      let at = (a.marks h.0 inside).1 (subst (λ k. IsBounded (get_or (rows_of item) k nothing)) (omega arith) fact.bounded, λ q. e.1 (fact.third q)) in
      (omega (arith, h.1), ap (λ x. get_or x (n - 1) false) a.joined ∙ get_right old a.added (n - 1) false (omega (arith, h.1, m.count)) ∙ ap (λ k. get_or a.added k false) (omega (arith, h.1, m.count)) ∙ at)

  pub marks_more : Marks multipliers (item ∷ before) new
  marks_more = record {
    count = ap length a.joined ∙ length-append old a.added ∙ omega (arith, m.count, a.count, length-append (rows before) (rows_of item));
    right = λ n. (new_marked n, new_fact n);
  }

-- one mark more for an item
pub marks_push : (added : List Bool) (b : Bool) (k : ℕ) → k < length added → get_or (added ++ b ∷ []) k false ≡ get_or added k false
marks_push added b k l = get_left added (b ∷ []) k false l

pub marks_last : (added : List Bool) (b : Bool) → get_or (added ++ b ∷ []) (length added) false ≡ b
marks_last [] b = refl
marks_last (m ∷ added) b = marks_last added b

pub rows_few : (item : Item) → length (rows_of item) ≤ 3
rows_few (Holds row) = omega arith
rows_few (Division q e d) = omega arith
rows_few (Remainder r e d) = omega arith

pub rows_bound : (items : List Item) → length (rows items) ≤ 3 * length items
rows_bound [] = omega arith
rows_bound (item ∷ items) = omega (arith, rows_bound items, rows_few item, length-append (rows items) (rows_of item))

pub if_ok : {X E : Type 0} (P Q : X → Type 0) → ((x : X) → P x → Q x) → (r : Result X E) → IfOk r P → IfOk r Q
if_ok P Q f (Ok x) h = f x h
if_ok P Q f (Err e) h = tt
