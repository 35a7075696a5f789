-- The rows of the first items.
use Rattle.std.proofs.Common.{◌≡◌, ℕ, zero, suc, ◌-◌, ◌≤◌, ◌^◌, List, [], ◌∷◌, ◌++◌, map, length, get_or, take, drop, reverse, Bool, false, refl, sym, ap, ◌∙◌, arith, subst, length-append, length-take}
use Rattle.std.specs.List.{AllByRecursion}
use Rattle.lq_linear.specs.Row.{Inequality}
use Rattle.lq_linear.specs.Item.{rows}
use Rattle.lq_linear.specs.declared.item.Item.{Item}
use Rattle.lq_linear.proofs.ItemLemmas.{rows_in, rows-reverse, get_left}
use Rattle.lq_validity.specs.declared.sum.Sum.{Sum}
use Rattle.lq_validity.specs.declared.pool.Multiple.{Multiple}
use Rattle.lq_validity.specs.Marks.{IsMarked, AddsMarks}
use Rattle.lq_validity.specs.Sum.{sum_of, IsNear}
use Rattle.lq_validity.specs.Table.{Table}
use Rattle.lq_validity.specs.Pool.{AreNear, HasSums, HasMultiples}
use Rattle.lq_validity.specs.Narrow.{AreWeighed, IsPool}
use Rattle.lq_validity.proofs.RowLemmas.{rows_in-append}

take_drop : {X : Type 0} (n : ℕ) (xs : List X) → take n xs ++ drop n xs ≡ xs
take_drop zero xs = refl
take_drop (suc n) [] = refl
take_drop (suc n) (x ∷ xs) = ap (λ l. x ∷ l) (take_drop n xs)

take_front : {X : Type 0} (xs ys : List X) → take (length xs) (xs ++ ys) ≡ xs
take_front [] ys = refl
take_front (x ∷ xs) ys = ap (λ l. x ∷ l) (take_front xs ys)

take_map : {X Y : Type 0} (f : X → Y) (n : ℕ) (xs : List X) → take n (map f xs) ≡ map f (take n xs)
take_map f zero xs = refl
take_map f (suc n) [] = refl
take_map f (suc n) (x ∷ xs) = ap (λ l. f x ∷ l) (take_map f n xs)

all_take : {X : Type 0} (P : X → Type 0) (n : ℕ) (xs : List X) → AllByRecursion P xs → AllByRecursion P (take n xs)
all_take P zero xs h = tt
all_take P (suc n) [] h = tt
all_take P (suc n) (x ∷ xs) h = (h.0, all_take P n xs h.1)

pub rows_split : (items : List Item) (i : ℕ) → rows (reverse items) ≡ rows (reverse (take i items)) ++ rows_in (drop i items)
rows_split items i =
    rows-reverse items ∙ ap rows_in (sym (take_drop i items)) ∙ rows_in-append (take i items) (drop i items)
    ∙ ap (λ l. l ++ rows_in (drop i items)) (sym (rows-reverse (take i items)))

-- the rows of the first items are the first rows
pub front_rows : (items : List Item) (i n : ℕ) (fetched : List Inequality) → fetched ≡ rows (reverse items) → n ≡ length (rows (reverse (take i items))) → take n fetched ≡ rows (reverse (take i items))
front_rows items i n fetched e c =
    ap (take n) (e ∙ rows_split items i) ∙ ap (λ k. take k (rows (reverse (take i items)) ++ rows_in (drop i items))) c ∙ take_front (rows (reverse (take i items))) (rows_in (drop i items))

pub front_short : (items : List Item) (i n : ℕ) (fetched : List Inequality) → fetched ≡ rows (reverse items) → n ≡ length (rows (reverse (take i items))) → n ≤ length fetched
front_short items i n fetched e c =
    omega (arith, c, ap length (e ∙ rows_split items i), length-append (rows (reverse (take i items))) (rows_in (drop i items)))

pub front_weighed : (n : ℕ) (sums : List Sum) (all : List Inequality) → AreWeighed sums all → AreWeighed (take n sums) (take n all)
front_weighed n sums all w = record { same = ap (take n) w.same ∙ take_map sum_of n all; near = all_take (IsNear (2 ^ 82)) n sums w.near }

length_map : (all : List Inequality) → length (map sum_of all) ≡ length all
length_map [] = refl
length_map (row ∷ all) = ap suc (length_map all)

pub sums_long : (sums : List Sum) (all : List Inequality) → AreWeighed sums all → length sums ≡ length all
sums_long sums all w = ap length w.same ∙ length_map all

-- the pool is one of the first rows
pub front_pool : (multipliers : List ℕ) (marks : List Bool) (sums : List Sum) (all : List Inequality) (multiples : List Multiple) (table : Table) (n : ℕ) → n ≡ length marks → n ≤ length all → AreWeighed sums all
    → AreNear multiples → HasSums multiples table → HasMultiples multipliers (IsMarked marks) sums multiples → IsPool multipliers marks (take n all) multiples table
front_pool multipliers marks sums all multiples table n c l w near has there = record {
  near = near;
  has = has;
  more = drop n sums;
  there = subst (λ s. HasMultiples multipliers (IsMarked marks) s multiples) (sym (ap (λ s. s ++ drop n sums) (sym (take_map sum_of n all) ∙ ap (take n) (sym w.same)) ∙ take_drop n sums)) there;
  marked = omega (arith, c, l, length-take n all);
}

-- a mark up to the old ones is an old one
pub old_mark : (item : Item) (exact : Bool) (old new : List Bool) → AddsMarks item exact old new → (n : ℕ) → IsMarked new n → n ≤ length old → IsMarked old n
old_mark item exact old new a n m l = (m.0, sym (get_left old a.added (n - 1) false (omega (arith, m.0, l))) ∙ ap (λ x. get_or x (n - 1) false) (sym a.joined) ∙ m.1)
