-- Rows that can be spared take part in no combination.
use Rattle.std.proofs.Common.{◌≡◌, ℕ, zero, suc, ◌-◌, ◌<◌, ◌≤◌, inl, inr, Bool, ℤ, pos, negsuc, ◌+ℤ◌, ◌*ℤ◌, ◌≤ℤ◌, ◌<ℤ◌, List, [], ◌∷◌, ◌++◌, map, length, take, drop, reverse, length-append, refl, sym, ap, ◌∙◌, arith, subst}
use Rattle.std.proofs.lemmas.Int.{ints}
use Rattle.std.proofs.lemmas.List.Elements.{Contains-append_right}
use Rattle.std.specs.Prelude.{Contains}
use Rattle.std.specs.List.{AllByRecursion}
use Rattle.lq_linear.specs.Ascend.{Ascend}
use Rattle.lq_linear.specs.Terms.{coefficient}
use Rattle.lq_linear.specs.Row.{Inequality, nothing, added, multiplied}
use Rattle.lq_linear.specs.Item.{rows, row_numbered, dividend_row}
use Rattle.lq_linear.specs.declared.item.Item.{Item}
use Rattle.lq_linear.specs.Derivation.{Part, combined}
use Rattle.lq_linear.proofs.Collecting.{all_map}
use Rattle.lq_linear.proofs.CombinationLemmas.{combined_coefficient}
use Rattle.lq_linear.proofs.ItemLemmas.{get_left, rows_in}
use Rattle.lq_linear.proofs.TermsLemmas.{coefficient-times}
use Rattle.lq_linear.proofs.Whole.{mul_add, mul_assoc}
use Rattle.lq_validity.specs.Marks.{IsMarked, AreBoth}
use Rattle.lq_validity.specs.Spare.{AreOpposite, AreAligned, IsSpare, AreThere, LeavesFor, Leaves, Unmarks}
use Rattle.lq_validity.specs.Narrow.{AreMarked, KeepsConsequences, KeepsContradictions}
use Rattle.lq_validity.proofs.FirstLemmas.{place_of, positive_at}
use Rattle.lq_validity.proofs.FrontLemmas.{rows_split}
use Rattle.lq_validity.proofs.MarkLemmas.{marked_inside}
use Rattle.lq_validity.proofs.NarrowedLemmas.{both_all}

-- signs of products
not_opposite : (a b : ℤ) → (AreOpposite b a → ⊥) → pos 0 ≤ℤ (a *ℤ b)
not_opposite (pos zero) b n = omega (arith, ints)
not_opposite (pos (suc m)) (pos k) n = omega (arith, ints)
not_opposite (pos (suc m)) (negsuc k) n = absurd (n (inl (omega (arith, ints), omega (arith, ints))))
not_opposite (negsuc m) (pos zero) n = omega (arith, ints)
not_opposite (negsuc m) (pos (suc k)) n = absurd (n (inr (omega (arith, ints), omega (arith, ints))))
not_opposite (negsuc m) (negsuc k) n = omega (arith, ints)

not_aligned : (a b : ℤ) → (AreAligned b a → ⊥) → (a *ℤ b) ≤ℤ pos 0
not_aligned (pos zero) b n = omega (arith, ints)
not_aligned (pos (suc m)) (pos zero) n = omega (arith, ints)
not_aligned (pos (suc m)) (pos (suc k)) n = absurd (n (inr (omega (arith, ints), omega (arith, ints))))
not_aligned (pos (suc m)) (negsuc k) n = omega (arith, ints)
not_aligned (negsuc m) (pos k) n = omega (arith, ints)
not_aligned (negsuc m) (negsuc k) n = absurd (n (inl (omega (arith, ints), omega (arith, ints))))

square_above : (a : ℤ) → (a ≡ pos 0 → ⊥) → pos 0 <ℤ (a *ℤ a)
square_above (pos zero) n = absurd (n refl)
square_above (pos (suc m)) n = omega (arith, ints)
square_above (negsuc m) n = omega (arith, ints)

times_above : (m : ℕ) (z : ℤ) → 0 < m → pos 0 <ℤ z → pos 0 <ℤ (pos m *ℤ z)
times_above zero z l h = absurd (omega arith)
times_above (suc m) (pos zero) l h = absurd (omega (arith, ints, h))
times_above (suc m) (pos (suc k)) l h = omega (arith, ints)
times_above (suc m) (negsuc k) l h = absurd (omega (arith, ints, h))

times_from : (m : ℕ) (z : ℤ) → pos 0 ≤ℤ z → pos 0 ≤ℤ (pos m *ℤ z)
times_from m (pos k) h = omega (arith, ints)
times_from m (negsuc k) h = absurd (omega (arith, ints, h))

times_up_to : (m : ℕ) (z : ℤ) → z ≤ℤ pos 0 → (pos m *ℤ z) ≤ℤ pos 0
times_up_to m (pos zero) h = omega (arith, ints)
times_up_to m (pos (suc k)) h = absurd (omega (arith, ints, h))
times_up_to m (negsuc k) h = omega (arith, ints)

turned : (a m c : ℤ) → a *ℤ (m *ℤ c) ≡ m *ℤ (a *ℤ c)
turned a m c = sym (mul_assoc a m c) ∙ ap (λ z. z *ℤ c) (swapped a m) ∙ mul_assoc m a c where
  swapped : (x y : ℤ) → x *ℤ y ≡ y *ℤ x
  swapped x y = omega (arith, ints)

module _ (all : List Inequality) (x : ℕ) (a : ℤ) where
  -- the row has the symbol with the sign of a, or doesn't have it
  abbrev Fits : Part → Type 0
  Fits part = pos 0 ≤ℤ (a *ℤ coefficient (row_numbered all part.1).terms x)

  one_more : (part : Part) (parts : List Part)
      → a *ℤ coefficient (combined all (part ∷ parts)).terms x ≡ (pos part.0 *ℤ (a *ℤ coefficient (row_numbered all part.1).terms x)) +ℤ (a *ℤ coefficient (combined all parts).terms x)
  one_more part parts =
      let c = coefficient (row_numbered all part.1).terms x in
      let r = coefficient (combined all parts).terms x in
      ap (λ z. a *ℤ z) (combined_coefficient all part parts x) ∙ mul_add a (pos part.0 *ℤ c) r ∙ ap (λ z. z +ℤ (a *ℤ r)) (turned a (pos part.0) c)

  -- a sum of such rows has it so too
  sum_fits : (parts : List Part) → AllByRecursion Fits parts → pos 0 ≤ℤ (a *ℤ coefficient (combined all parts).terms x)
  sum_fits [] h = omega (arith, ints)
  sum_fits (part ∷ parts) h =
      sum_from _ _ _ (one_more part parts) (times_from part.0 (a *ℤ coefficient (row_numbered all part.1).terms x) h.0) (sum_fits parts h.1) where
        sum_from : (s u v : ℤ) → s ≡ u +ℤ v → pos 0 ≤ℤ u → pos 0 ≤ℤ v → pos 0 ≤ℤ s
        sum_from s u v e h k = omega (arith, ints, e, h, k)

  -- where the sum hasn't, none of the rows has it with the sign of a
  none_has : (n : ℕ) → pos 0 <ℤ (a *ℤ coefficient (row_numbered all n).terms x) → (parts : List Part) → AllByRecursion (λ part. 0 < part.0) parts → AllByRecursion Fits parts
      → (a *ℤ coefficient (combined all parts).terms x) ≤ℤ pos 0 → AllByRecursion (λ part. part.1 ≡ n → ⊥) parts
  none_has n above [] p f l = tt
  none_has n above (part ∷ parts) p f l =
      let z = a *ℤ coefficient (row_numbered all part.1).terms x in
      let rest = sum_fits parts f.1 in (
        λ e. too_much _ _ _ (one_more part parts) l (times_above part.0 z p.0 (subst (λ k. pos 0 <ℤ (a *ℤ coefficient (row_numbered all k).terms x)) (sym e) above)) rest,
        none_has n above parts p.1 f.1 (less _ _ _ (one_more part parts) l (times_from part.0 z f.0)),
      ) where
        too_much : (s u v : ℤ) → s ≡ u +ℤ v → s ≤ℤ pos 0 → pos 0 <ℤ u → pos 0 ≤ℤ v → ⊥
        too_much s u v e l h k = omega (arith, ints, e, l, h, k)

        less : (s u v : ℤ) → s ≡ u +ℤ v → s ≤ℤ pos 0 → pos 0 ≤ℤ u → v ≤ℤ pos 0
        less s u v e l h = omega (arith, ints, e, l, h)

-- a row that can be spared is left out
module _ (all goals : List Inequality) (left new : List Bool) (number : ℕ) (s : IsSpare all goals left number) (u : Unmarks number left new) where
  leaves_for : (goal : Inequality) → (AreAligned (coefficient goal.terms s.symbol) (coefficient (row_numbered all number).terms s.symbol) → ⊥) → LeavesFor all left goal → LeavesFor all new goal
  leaves_for goal n h parts divisor there alike =
      let x = s.symbol in
      let a = coefficient (row_numbered all number).terms x in
      let c = coefficient goal.terms x in
      let marked = h parts divisor there alike in
      let fits : AllByRecursion (λ part. pos 0 ≤ℤ (a *ℤ coefficient (row_numbered all part.1).terms x)) parts
      = all_map (λ part. IsMarked left part.1) (λ part. pos 0 ≤ℤ (a *ℤ coefficient (row_numbered all part.1).terms x)) (λ part m. not_opposite a (coefficient (row_numbered all part.1).terms x) (s.alone part.1 m)) parts marked in
      let positive : AllByRecursion (λ part. 0 < part.0) parts = all_map (λ part. (0 < part.0) × (0 < part.1) × (part.1 ≤ length all)) (λ part. 0 < part.0) (λ part t. t.0) parts there in
      let value : a *ℤ coefficient (combined all parts).terms x ≡ pos divisor *ℤ (a *ℤ c) = ap (λ z. a *ℤ z) (alike x ∙ coefficient-times (pos divisor) goal.terms x) ∙ turned a (pos divisor) c in
      let small : (a *ℤ coefficient (combined all parts).terms x) ≤ℤ pos 0 = subst (λ z. z ≤ℤ pos 0) (sym value) (times_up_to divisor (a *ℤ c) (not_aligned a c n)) in
      let others = none_has all x a number (square_above a s.stands) parts positive fits small in
      all_map (λ part. IsMarked left part.1 × (part.1 ≡ number → ⊥)) (λ part. IsMarked new part.1) (λ part h. u.kept part.1 h.0 h.1) parts
      (both_all (λ part. IsMarked left part.1) (λ part. part.1 ≡ number → ⊥) parts marked others)

  pub spared : Leaves all goals left → Leaves all goals new
  spared h = record {
    none = leaves_for nothing (λ k. elim k [ inl q ↦ omega (arith, ints, q.0) | inr q ↦ omega (arith, ints, q.0) ]) h.none;
    each = λ goal c. leaves_for goal (s.unwanted goal c) (h.each goal c);
  }

-- facts among the rows that are left
module _ (multipliers : List ℕ) (up : Ascend (0 ∷ multipliers)) (all : List Inequality) (marks left both : List Bool) (inside : length marks ≤ length all) (b : AreBoth marks left both) where
  are_there : (parts : List Part) → AreMarked multipliers marks parts → AreThere all parts
  are_there parts m =
      all_map (λ part. Contains multipliers part.0 × IsMarked marks part.1) (λ part. (0 < part.0) × (0 < part.1) × (part.1 ≤ length all))
      (λ part h. (positive part.0 h.0, h.1.0, omega (arith, inside, marked_inside marks part.1 h.1))) parts m.each where
        positive : (n : ℕ) → Contains multipliers n → 0 < n
        positive n c = let p = place_of multipliers n c in subst (λ k. 0 < k) p.2 (positive_at multipliers p.0 up p.1)

  are_left : (parts : List Part) → AreMarked multipliers marks parts → AllByRecursion (λ part. IsMarked left part.1) parts → AllByRecursion (λ part. IsMarked both part.1) parts
  are_left parts m l =
      all_map (λ part. (Contains multipliers part.0 × IsMarked marks part.1) × IsMarked left part.1) (λ part. IsMarked both part.1) (λ part h. (b.right part.1).1 (h.0.1, h.1)) parts
      (both_all (λ part. Contains multipliers part.0 × IsMarked marks part.1) (λ part. IsMarked left part.1) parts m.each l)

  pub left_consequences : (goal : Inequality) → LeavesFor all left goal → KeepsConsequences multipliers marks both all goal
  left_consequences goal h = record {
    count = b.count;
    facts = λ n m. ((b.right n).0 m).0;
    kept = λ parts divisor m d c. are_left parts m (h parts divisor (are_there parts m) c.alike);
  }

  pub left_contradictions : LeavesFor all left nothing → KeepsContradictions multipliers marks both all
  left_contradictions h = record {
    count = b.count;
    facts = λ n m. ((b.right n).0 m).0;
    kept = λ parts m c. are_left parts m (h parts 1 (are_there parts m) c.alike);
  }

-- the first rows
combined_front : (xs ys : List Inequality) (parts : List Part) → AreThere xs parts → combined (xs ++ ys) parts ≡ combined xs parts
combined_front xs ys [] h = refl
combined_front xs ys (part ∷ parts) h =
    ap (λ r. added (multiplied part.0 r) (combined (xs ++ ys) parts)) (get_left xs ys (part.1 - 1) nothing (omega (arith, h.0.1, h.0.2)))
    ∙ ap (added (multiplied part.0 (row_numbered xs part.1))) (combined_front xs ys parts h.1)

pub leaves_front : (xs ys : List Inequality) (left : List Bool) (goal : Inequality) → LeavesFor (xs ++ ys) left goal → LeavesFor xs left goal
leaves_front xs ys left goal h parts divisor there alike =
    h parts divisor
    (all_map (λ part. (0 < part.0) × (0 < part.1) × (part.1 ≤ length xs)) (λ part. (0 < part.0) × (0 < part.1) × (part.1 ≤ length (xs ++ ys))) (λ part t. (t.0, t.1, omega (arith, t.2, length-append xs ys))) parts there)
    (λ s. ap (λ r. coefficient r.terms s) (combined_front xs ys parts there) ∙ alike s)

-- where all rows are left
pub all_leave : (all : List Inequality) (left : List Bool) → ((n : ℕ) → 0 < n → n ≤ length all → IsMarked left n) → (goal : Inequality) → LeavesFor all left goal
all_leave all left h goal parts divisor there alike =
    all_map (λ part. (0 < part.0) × (0 < part.1) × (part.1 ≤ length all)) (λ part. IsMarked left part.1) (λ part t. h part.1 t.1 t.2) parts there

-- what holds of the dividends' rows among others holds of each item's
pub each_dividend : (P : Inequality → Type 0) (others : List Inequality) (items : List Item) → ((row : Inequality) → Contains (others ++ map dividend_row items) row → P row) → AllByRecursion (λ item. P (dividend_row item)) items
each_dividend P others items f = of_items items (λ row c. f row (Contains-append_right others (map dividend_row items) row c)) where
  of_items : (items : List Item) → ((row : Inequality) → Contains (map dividend_row items) row → P row) → AllByRecursion (λ item. P (dividend_row item)) items
  of_items [] g = tt
  of_items (item ∷ items) g = (
    g (dividend_row item) (0, omega arith, refl),
    of_items items (λ row c. g row (Contains-append_right (dividend_row item ∷ []) (map dividend_row items) row c)),
  )

-- where all rows are left, they are for all items
pub all_dividends : (all : List Inequality) (left : List Bool) → ((goal : Inequality) → LeavesFor all left goal) → (items : List Item) → AllByRecursion (λ item. LeavesFor all left (dividend_row item)) items
all_dividends all left h [] = tt
all_dividends all left h (item ∷ items) = (h (dividend_row item), all_dividends all left h items)

-- for the rows of the first items
pub left_before : (items : List Item) (i : ℕ) (fetched : List Inequality) (left : List Bool) (goal : Inequality) → fetched ≡ rows (reverse items) → LeavesFor fetched left goal → LeavesFor (rows (reverse (take i items))) left goal
left_before items i fetched left goal e h =
    leaves_front (rows (reverse (take i items))) (rows_in (drop i items)) left goal (subst (λ a. LeavesFor a left goal) (e ∙ rows_split items i) h)

pub leaves_same : (a b g h : List Inequality) (l m : List Bool) → a ≡ b → g ≡ h → l ≡ m → Leaves a g l → Leaves b h m
leaves_same a b g h l m e q r s = subst (Leaves b h) r (subst (λ k. Leaves b k l) q (subst (λ k. Leaves k g l) e s))
