-- Rows that may be used, by their places.
use Rattle.std.proofs.Common.{◌≡◌, ℕ, ◌+◌, ◌<◌, List, ◌∷◌, ◌++◌, Bool, true, false, length, get_or, take, reverse, refl, sym, ap, ◌∙◌, subst, arith, length-append}
use Rattle.std.specs.Prelude.{◌↔◌}
use Rattle.lq_linear.specs.Row.{IsBounded, nothing}
use Rattle.lq_linear.specs.Item.{rows_of, dividend_row}
use Rattle.lq_linear.specs.Certificate.{Exactness}
use Rattle.lq_linear.specs.declared.item.Item.{Item}
use Rattle.lq_validity.specs.Derives.{divisions, division_count}
use Rattle.lq_cert.specs.Right.{HasEntry, MayUse, IsRight, IsRightEntry}
use Rattle.lq_cert.specs.Located.{IsRowAt, IsDivisionAt}
use Rattle.lq_cert.proofs.PlaceLemmas.{rows_total, divisions_total, one_split, take_front, get_behind}

pub located_use : (entries : List Exactness) (items : List Item) (number : ℕ) → (h : MayUse entries items number) → IsRowAt items number (length h.before) h.place
located_use entries items number h = record { before = h.before; item = h.item; after = h.after; parts = h.parts; indexed = refl; within = h.fact.there; counted = h.counted }

-- the test at the place that was found tells whether the row may be used
pub use_located : (entries : List Exactness) (items : List Item) (number index place : ℕ) → (at : IsRowAt items number index place) → (exact fact : Bool)
    → (exact ≡ true) ↔ HasEntry entries (divisions (reverse at.before) + 1)
    → (fact ≡ true) ↔ (IsBounded (get_or (rows_of at.item) place nothing) × (place ≡ 2 → exact ≡ true))
    → (fact ≡ true) ↔ MayUse entries items number
use_located entries items number index place at exact fact e f = (
  λ t. let tells = f.0 t in record {
    before = at.before;
    item = at.item;
    after = at.after;
    place = place;
    parts = at.parts;
    counted = at.counted;
    fact = record { there = at.within; bounded = subst (λ k. IsBounded (get_or (rows_of at.item) k nothing)) (omega arith) tells.0; third = λ q. e.0 (tells.1 q) };
  },
  λ h.
      let same = one_split (λ x. length (rows_of x)) h.before h.after at.before at.after h.item at.item h.place place (sym h.parts ∙ at.parts)
      (omega (arith, h.counted, at.counted, rows_total h.before, rows_total at.before)) h.fact.there at.within in
      f.1 (
        subst (λ (x : Item). IsBounded (get_or (rows_of x) place nothing)) same.1 (subst (λ k. IsBounded (get_or (rows_of h.item) k nothing)) same.2 (subst (λ k. IsBounded (get_or (rows_of h.item) k nothing)) (omega arith) h.fact.bounded)),
        λ q. e.1 (subst (λ b. HasEntry entries (divisions (reverse b) + 1)) same.0 (h.fact.third (same.2 ∙ q))),
      ),
)

pub located_entry : (entries : List Exactness) (items : List Item) (entry : Exactness) → (h : IsRightEntry entries items entry) → IsDivisionAt items entry.item (length h.before)
located_entry entries items entry h = record { before = h.before; item = h.item; after = h.after; parts = h.parts; indexed = refl; divides = h.divides; counted = h.counted }

-- the test of the combination at the division that was found tells whether the entry is right
pub entry_located : (entries : List Exactness) (items : List Item) (entry : Exactness) (index : ℕ) → entry.combination.void ≡ false → (at : IsDivisionAt items entry.item index) → (right : Bool)
    → (right ≡ true) ↔ IsRight entries at.before (dividend_row at.item) entry.combination
    → (right ≡ true) ↔ IsRightEntry entries items entry
entry_located entries items entry index d at right r = (
  λ t. record { before = at.before; item = at.item; after = at.after; parts = at.parts; divides = at.divides; counted = at.counted; directly = d; right = r.0 t },
  λ h.
      let same = one_split division_count h.before h.after at.before at.after h.item at.item 0 0 (sym h.parts ∙ at.parts)
      (omega (arith, h.counted, at.counted, divisions_total h.before, divisions_total at.before)) (omega (arith, h.divides)) (omega (arith, at.divides)) in
      r.1 (subst (λ b. IsRight entries b (dividend_row at.item) entry.combination) same.0 (subst (λ (x : Item). IsRight entries h.before (dividend_row x) entry.combination) same.1 h.right)),
)

pub located_before : (items before after : List Item) (item : Item) (index : ℕ) → items ≡ before ++ item ∷ after → index ≡ length before → take index items ≡ before
located_before items before after item index e i = ap (λ n. take n items) i ∙ ap (take (length before)) e ∙ take_front before (item ∷ after)

pub located_item : (items before after : List Item) (item x : Item) (index : ℕ) → items ≡ before ++ item ∷ after → index ≡ length before → x ≡ get_or items index x → x ≡ item
located_item items before after item x index e i g = g ∙ ap (λ n. get_or items n x) i ∙ ap (λ l. get_or l (length before) x) e ∙ get_behind before after item x

pub located_few : (items before after : List Item) (item : Item) → items ≡ before ++ item ∷ after → length before < length items
located_few items before after item e = omega (arith, ap length e, length-append before (item ∷ after))
