-- Where rows and divisions stand: their numbers tell their places.
use Rattle.std.proofs.Common.{◌≡◌, ℕ, zero, suc, ◌+◌, ◌<◌, ◌≤◌, ◌⊎◌, inl, inr, List, [], ◌∷◌, ◌++◌, length, get_or, take, drop, reverse, refl, sym, ap, ◌∙◌, arith, length-append, length-take, add-one}
use Rattle.std.proofs.lemmas.Grind.{reverse_onto}
use Rattle.lq_linear.specs.Item.{rows, rows_of}
use Rattle.lq_linear.specs.declared.item.Item.{Item}
use Rattle.lq_linear.specs.declared.item.Item.TheVariants.{Holds, Division, Remainder}
use Rattle.lq_linear.proofs.ItemLemmas.{rows_append}
use Rattle.lq_validity.specs.Derives.{divisions, division_count}
use Rattle.lq_cert.specs.Located.{IsRowAt, NoRow, IsDivisionAt, NoDivision}

-- a weight of items, summed up
abbrev pub total : (Item → ℕ) → List Item → ℕ
total w [] = 0
total w (x ∷ xs) = w x + total w xs

pub total-append : (w : Item → ℕ) (xs ys : List Item) → total w (xs ++ ys) ≡ total w xs + total w ys
total-append w [] ys = omega arith
total-append w (x ∷ xs) ys = omega (arith, total-append w xs ys)

pub rows_total : (xs : List Item) → length (rows (reverse xs)) ≡ total (λ x. length (rows_of x)) xs
rows_total [] = refl
rows_total (x ∷ xs) = ap (λ l. length (rows l)) (reverse_onto xs x []) ∙ ap length (rows_append (reverse xs) (x ∷ [])) ∙ length-append (rows_of x) (rows (reverse xs)) ∙ ap (λ n. length (rows_of x) + n) (rows_total xs)

divisions-append : (xs ys : List Item) → divisions (xs ++ ys) ≡ divisions xs + divisions ys
divisions-append [] ys = omega arith
divisions-append (x ∷ xs) ys = omega (arith, divisions-append xs ys)

pub divisions_total : (xs : List Item) → divisions (reverse xs) ≡ total division_count xs
divisions_total [] = refl
divisions_total (x ∷ xs) = ap divisions (reverse_onto xs x []) ∙ divisions-append (reverse xs) (x ∷ []) ∙ omega (arith, divisions_total xs)

-- two splits of a list at items that cover one number are one
pub one_split : (w : Item → ℕ) (b1 a1 b2 a2 : List Item) (x1 x2 : Item) (p1 p2 : ℕ) → b1 ++ x1 ∷ a1 ≡ b2 ++ x2 ∷ a2 → total w b1 + p1 ≡ total w b2 + p2 → p1 < w x1 → p2 < w x2
    → (b1 ≡ b2) × (x1 ≡ x2) × (p1 ≡ p2)
one_split w [] a1 [] a2 x1 x2 p1 p2 e s l m = (refl, head e, omega arith) where
  head : x1 ∷ a1 ≡ x2 ∷ a2 → x1 ≡ x2
  head q = cc
one_split w [] a1 (y ∷ b2) a2 x1 x2 p1 p2 e s l m = absurd (omega (arith, ap w (head e))) where
  head : x1 ∷ a1 ≡ y ∷ (b2 ++ x2 ∷ a2) → x1 ≡ y
  head q = cc
one_split w (y ∷ b1) a1 [] a2 x1 x2 p1 p2 e s l m = absurd (omega (arith, ap w (head e))) where
  head : y ∷ (b1 ++ x1 ∷ a1) ≡ x2 ∷ a2 → y ≡ x2
  head q = cc
one_split w (y ∷ b1) a1 (z ∷ b2) a2 x1 x2 p1 p2 e s l m =
    let r = one_split w b1 a1 b2 a2 x1 x2 p1 p2 (tail e) (omega (arith, ap w (head e))) l m in
    (ap (λ t. t ∷ b1) (head e) ∙ ap (λ t. z ∷ t) r.0, r.1, r.2) where
      head : y ∷ (b1 ++ x1 ∷ a1) ≡ z ∷ (b2 ++ x2 ∷ a2) → y ≡ z
      head q = cc

      tail : y ∷ (b1 ++ x1 ∷ a1) ≡ z ∷ (b2 ++ x2 ∷ a2) → b1 ++ x1 ∷ a1 ≡ b2 ++ x2 ∷ a2
      tail q = cc

-- a list split at a place
pub split_at : (xs : List Item) (i : ℕ) (d : Item) → i < length xs → xs ≡ take i xs ++ get_or xs i d ∷ drop (suc i) xs
split_at [] i d l = absurd (omega arith)
split_at (x ∷ xs) zero d l = refl
split_at (x ∷ xs) (suc i) d l = ap (λ t. x ∷ t) (split_at xs i d (omega arith))

pub take_front : (xs ys : List Item) → take (length xs) (xs ++ ys) ≡ xs
take_front [] ys = refl
take_front (x ∷ xs) ys = ap (λ t. x ∷ t) (take_front xs ys)

pub get_behind : (xs ys : List Item) (x d : Item) → get_or (xs ++ x ∷ ys) (length xs) d ≡ x
get_behind [] ys x d = refl
get_behind (y ∷ xs) ys x d = get_behind xs ys x d

step : (w : Item → ℕ) (xs : List Item) (i : ℕ) (d : Item) → i < length xs → total w (take (suc i) xs) ≡ total w (take i xs) + w (get_or xs i d)
step w [] i d l = absurd (omega arith)
step w (x ∷ xs) zero d l = omega arith
step w (x ∷ xs) (suc i) d l = omega (arith, step w xs i d (omega arith))

pub total_step : (w : Item → ℕ) (xs : List Item) (i : ℕ) (item : Item) → i < length xs → item ≡ get_or xs i item → total w (take (i + 1) xs) ≡ total w (take i xs) + w item
total_step w xs i item l e = ap (λ n. total w (take n xs)) (add-one i) ∙ step w xs i item l ∙ ap (λ x. total w (take i xs) + w x) (sym e)

pub total_at_most : (w : Item → ℕ) (xs : List Item) → ((x : Item) → w x ≤ 1) → total w xs ≤ length xs
total_at_most w [] h = omega arith
total_at_most w (x ∷ xs) h = omega (arith, h x, total_at_most w xs h)

pub one_at_most : (item : Item) → division_count item ≤ 1
one_at_most (Holds row) = omega arith
one_at_most (Division q e d) = omega arith
one_at_most (Remainder r e d) = omega arith

pub total_split : (w : Item → ℕ) (items before after : List Item) (item : Item) → items ≡ before ++ item ∷ after → total w before + w item ≤ total w items
total_split w items before after item e = omega (arith, ap (total w) e, total-append w before (item ∷ after))

-- the row at a place of the list
pub row_at_place : (items : List Item) (number i place : ℕ) (item : Item) → i < length items → item ≡ get_or items i item → place < length (rows_of item)
    → number ≡ total (λ x. length (rows_of x)) (take i items) + place + 1 → IsRowAt items number i place
row_at_place items number i place item l e w c = record {
  before = take i items;
  item = item;
  after = drop (suc i) items;
  parts = split_at items i item l ∙ ap (λ x. take i items ++ x ∷ drop (suc i) items) (sym e);
  indexed = omega (arith, length-take i items);
  within = w;
  counted = c ∙ ap (λ n. n + place + 1) (sym (rows_total (take i items)));
}

pub no_row_past : (items : List Item) (number : ℕ) → total (λ x. length (rows_of x)) items < number → NoRow items number
no_row_past items number l index place h =
    omega (arith, l, h.counted, h.within, rows_total h.before, total_split (λ x. length (rows_of x)) items h.before h.after h.item h.parts)

pub division_at_place : (items : List Item) (number i : ℕ) (item : Item) → i < length items → item ≡ get_or items i item → division_count item ≡ 1
    → number ≡ total division_count (take i items) + 1 → IsDivisionAt items number i
division_at_place items number i item l e w c = record {
  before = take i items;
  item = item;
  after = drop (suc i) items;
  parts = split_at items i item l ∙ ap (λ x. take i items ++ x ∷ drop (suc i) items) (sym e);
  indexed = omega (arith, length-take i items);
  divides = w;
  counted = c ∙ ap (λ n. n + 1) (sym (divisions_total (take i items)));
}

pub no_division_past : (items : List Item) (number : ℕ) → (number ≡ 0) ⊎ (total division_count items < number) → NoDivision items number
no_division_past items number (inl z) index h = omega (arith, h.counted)
no_division_past items number (inr l) index h =
    omega (arith, l, h.counted, h.divides, divisions_total h.before, total_split division_count items h.before h.after h.item h.parts)

pub division_few : (item : Item) → (division_count item ≡ 0) ⊎ (division_count item ≡ 1)
division_few (Holds row) = inl refl
division_few (Division q e d) = inr refl
division_few (Remainder r e d) = inr refl
