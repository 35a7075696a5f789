-- What items derive is met by every valuation that meets the items.
use Rattle.std.proofs.Common.{◌≡◌, ℕ, zero, suc, ◌+◌, ◌-◌, ◌*◌, ◌/◌, ◌<◌, ◌≤◌, inl, inr, ℤ, pos, negsuc, ◌+ℤ◌, ◌-ℤ◌, ◌*ℤ◌, neg_ℤ, ◌≤ℤ◌, ◌<ℤ◌, Bool, true, false, List, [], ◌∷◌, ◌++◌, length, get_or, reverse, refl, sym, ap, ◌∙◌, arith, subst, length-append}
use Rattle.std.proofs.Math.Nat.{mul-le-mul_left}
use Rattle.std.proofs.Math.IntN.{*ℤ_comm, +ℤ_invl}
use Rattle.lq_linear.proofs.Whole.{add_mul, zero_mul}
use Rattle.std.proofs.lemmas.Int.{ints, quot-rem, rem_below}
use Rattle.std.proofs.lemmas.Bool.{cases_lt}
use Rattle.std.proofs.lemmas.Grind.{reverse_onto}
use Rattle.std.specs.Prelude.{int_div, int_rem}
use Rattle.std.specs.List.{AllByRecursion}
use borrow.Author.Differences.{le_out}
use Rattle.lq_linear.specs.Terms.{times, terms_value}
use Rattle.lq_linear.specs.Form.{Linear, value_of}
use Rattle.lq_linear.specs.Row.{Inequality, Meets, nothing, not_negative}
use Rattle.lq_linear.specs.Item.{MeetsItem, rows, rows_of, row_numbered, dividend_row}
use Rattle.lq_linear.specs.Derivation.{Part, combined, floor, IsConsequence, IsContradiction, Proves, IsFact, Derives}
use Rattle.lq_linear.specs.declared.item.Item.{Item}
use Rattle.lq_linear.specs.declared.item.Item.TheVariants.{Holds, Division, Remainder}
use Rattle.lq_linear.proofs.TermsLemmas.{value-append, value-times, value-alike}
use Rattle.lq_linear.proofs.ItemLemmas.{get_left, get_right}

pub multiple_le : (m : ℕ) (a b : ℤ) → a ≤ℤ b → (pos m *ℤ a) ≤ℤ (pos m *ℤ b)
multiple_le m a b h = omega (arith, ints, mul-le-mul_left m (le_out a b h))

-- the floor is the greatest number that the divisor times doesn't pass z
pub le_floor : (m : ℕ) (g s : ℤ) → 0 < m → (pos m *ℤ g) ≤ℤ s → g ≤ℤ floor s m
le_floor m (pos k) (pos a) p h = omega (arith, ints, below m k a p (omega (arith, ints, h))) where
  below : (m k a : ℕ) → 0 < m → m * k ≤ a → k ≤ a / m
  below m k a p h = elim (cases_lt (a / m) k) [ inl l ↦ absurd (omega (arith, mul-le-mul_left {m = a / m + 1} {n = k} m (omega arith))) | inr l ↦ l ]
le_floor m (negsuc k) (pos a) p h = omega (arith, ints)
le_floor m (pos k) (negsuc a) p h = absurd (omega (arith, ints, h))
le_floor m (negsuc k) (negsuc a) p h = omega (arith, ints, above m k a p (omega (arith, ints, h))) where
  above : (m k a : ℕ) → 0 < m → a + 1 ≤ m * (k + 1) → a / m ≤ k
  above m k a p h = elim (cases_lt k (a / m)) [ inl l ↦ absurd (omega (arith, mul-le-mul_left {m = k + 1} {n = a / m} m (omega arith))) | inr l ↦ l ]

-- multiples of rows that are met, added up, are met
pub meets_combined : (v : ℕ → ℤ) (all : List Inequality) (parts : List Part) → AllByRecursion (λ part. Meets v (row_numbered all part.1)) parts → Meets v (combined all parts)
meets_combined v all [] h = omega (arith, ints)
meets_combined v all (part ∷ parts) h =
    let row = row_numbered all part.1 in
    let rest = meets_combined v all parts h.1 in
    let here = multiple_le part.0 (terms_value v row.terms) row.most h.0 in
    omega (arith, ints, value-append v (times (pos part.0) row.terms) (combined all parts).terms, value-times v (pos part.0) row.terms, rest, here)

module _ (v : ℕ → ℤ) (all : List Inequality) (parts : List Part) (met : AllByRecursion (λ part. Meets v (row_numbered all part.1)) parts) where
  pub consequence_met : (divisor : ℕ) (goal : Inequality) → 0 < divisor → IsConsequence all parts divisor goal → Meets v goal
  consequence_met divisor goal p h =
      let sum = meets_combined v all parts met in
      let same : terms_value v (combined all parts).terms ≡ pos divisor *ℤ terms_value v goal.terms = value-alike v (combined all parts).terms (times (pos divisor) goal.terms) h.alike ∙ value-times v (pos divisor) goal.terms in
      let low : terms_value v goal.terms ≤ℤ floor (combined all parts).most divisor = le_floor divisor (terms_value v goal.terms) (combined all parts).most p (subst (λ z. z ≤ℤ (combined all parts).most) same sum) in
      omega (arith, ints, low, h.most)

  pub contradiction_absurd : IsContradiction all parts → ⊥
  contradiction_absurd h =
      let sum = meets_combined v all parts met in
      omega (arith, ints, sum, h.negative, value-alike v (combined all parts).terms [] h.alike)

pub all_usable : (P Q : ℕ → Type 0) (parts : List Part) → ((n : ℕ) → P n → Q n) → AllByRecursion (λ part. P part.1) parts → AllByRecursion (λ part. Q part.1) parts
all_usable P Q [] f h = tt
all_usable P Q (part ∷ parts) f h = (f part.1 h.0, all_usable P Q parts f h.1)

pub proves_met : (v : ℕ → ℤ) (all : List Inequality) (goal : Inequality) (void : Bool) (divisor : ℕ) (parts : List Part) → 0 < divisor → AllByRecursion (λ part. Meets v (row_numbered all part.1)) parts
    → Proves all goal (record { void = void; divisor = divisor; parts = parts }) → Meets v goal
proves_met v all goal true divisor parts p met h = absurd (contradiction_absurd v all parts met h.0)
proves_met v all goal false divisor parts p met h = consequence_met v all parts met divisor goal p h

-- a number that is at least 1
natural : (z : ℤ) → pos 1 ≤ℤ z → (k : ℕ) × (z ≡ pos k) × (0 < k)
natural (pos k) h = (k, refl, omega (arith, ints, h))
natural (negsuc k) h = absurd (omega (arith, ints, h))

module _ (e : ℤ) (d : ℤ) (h : pos 1 ≤ℤ d) where
  -- what a division leaves over is nearer to 0 than the divisor
  left_over : (neg_ℤ d <ℤ int_rem e d) × (int_rem e d <ℤ d)
  left_over =
      let k = natural d h in
      let near = rem_below e d (omega (arith, ints, h)) in
      (omega (arith, ints, near, h), omega (arith, ints, near, h))

  -- and isn't negative where the dividend isn't
  left_over_up : pos 0 ≤ℤ e → pos 0 ≤ℤ int_rem e d
  left_over_up p =
      let k = natural d h in
      subst (λ y. pos 0 ≤ℤ int_rem e y) (sym k.1) (up_at k.0 p) where
        up_at : (k : ℕ) → pos 0 ≤ℤ e → pos 0 ≤ℤ int_rem e (pos k)
        up_at k q = omega (arith, ints, q)

division_below : (t e0 d : ℤ) → pos 1 ≤ℤ d → ((d *ℤ int_div (t +ℤ e0) d) +ℤ (negsuc 0 *ℤ t)) ≤ℤ (e0 +ℤ (d -ℤ pos 1))
division_below t e0 d h =
    let r = left_over (t +ℤ e0) d h in
    omega (arith, ints, quot-rem (t +ℤ e0) d, *ℤ_comm (int_div (t +ℤ e0) d) d, r.0, r.1)

division_above : (t e0 d : ℤ) → pos 1 ≤ℤ d → ((neg_ℤ d *ℤ int_div (t +ℤ e0) d) +ℤ t) ≤ℤ ((d -ℤ pos 1) -ℤ e0)
division_above t e0 d h =
    let r = left_over (t +ℤ e0) d h in
    omega (arith, ints, quot-rem (t +ℤ e0) d, *ℤ_comm (int_div (t +ℤ e0) d) d, negated_product d (int_div (t +ℤ e0) d), r.0, r.1) where
      negated_product : (a b : ℤ) → neg_ℤ a *ℤ b ≡ neg_ℤ (a *ℤ b)
      negated_product a b = opposite (neg_ℤ a *ℤ b) (a *ℤ b) (sym (add_mul (neg_ℤ a) a b) ∙ ap (λ z. z *ℤ b) (+ℤ_invl a) ∙ zero_mul b) where
        opposite : (x y : ℤ) → x +ℤ y ≡ pos 0 → x ≡ neg_ℤ y
        opposite x y e = omega (arith, ints, e)

division_exact : (t e0 d : ℤ) → pos 1 ≤ℤ d → pos 0 ≤ℤ (t +ℤ e0) → ((d *ℤ int_div (t +ℤ e0) d) +ℤ (negsuc 0 *ℤ t)) ≤ℤ e0
division_exact t e0 d h p =
    let r = left_over_up (t +ℤ e0) d h p in
    omega (arith, ints, quot-rem (t +ℤ e0) d, *ℤ_comm (int_div (t +ℤ e0) d) d, r)

-- a dividend whose row is met isn't negative
dividend_up : (v : ℕ → ℤ) (e : Linear) → Meets v (not_negative e) → pos 0 ≤ℤ value_of v e
dividend_up v e h = omega (arith, ints, value-times v (negsuc 0) e.terms, h)

-- the rows of an item that is met are met, the third where the dividend isn't negative
pub item_row : (v : ℕ → ℤ) (item : Item) (place : ℕ) → MeetsItem v item → place < length (rows_of item) → (place ≡ 2 → Meets v (dividend_row item)) → Meets v (get_or (rows_of item) place nothing)
item_row v (Holds row) zero m l h = m
item_row v (Holds row) (suc place) m l h = absurd (omega arith)
item_row v (Division q e d) zero m l h =
    omega (arith, ints, ap (λ z. d.value *ℤ z) m, value-times v (negsuc 0) e.terms, division_below (terms_value v e.terms) e.constant d.value d.at_least)
item_row v (Division q e d) (suc zero) m l h =
    omega (arith, ints, ap (λ z. neg_ℤ d.value *ℤ z) m, division_above (terms_value v e.terms) e.constant d.value d.at_least)
item_row v (Division q e d) (suc (suc zero)) m l h =
    omega (arith, ints, ap (λ z. d.value *ℤ z) m, value-times v (negsuc 0) e.terms, division_exact (terms_value v e.terms) e.constant d.value d.at_least (dividend_up v e (h refl)))
item_row v (Division q e d) (suc (suc (suc place))) m l h = absurd (omega arith)
item_row v (Remainder r e d) zero m l h =
    let near = left_over (value_of v e) d.value d.at_least in
    omega (arith, ints, m, near.0, near.1)
item_row v (Remainder r e d) (suc zero) m l h =
    let near = left_over (value_of v e) d.value d.at_least in
    omega (arith, ints, m, near.0, near.1)
item_row v (Remainder r e d) (suc (suc zero)) m l h =
    let near = left_over_up (value_of v e) d.value d.at_least (dividend_up v e (h refl)) in
    omega (arith, ints, m, near)
item_row v (Remainder r e d) (suc (suc (suc place))) m l h = absurd (omega arith)

-- the number of a fact is that of a row
pub fact_inside : (multipliers : List ℕ) (items : List Item) (n : ℕ) → IsFact multipliers items n → (0 < n) × (n ≤ length (rows items))
fact_inside multipliers [] n h = absurd h
fact_inside multipliers (item ∷ before) n (inl h) =
    let r = fact_inside multipliers before n h in
    (r.0, omega (arith, r.1, length-append (rows before) (rows_of item)))
fact_inside multipliers (item ∷ before) n (inr h) =
    let there = h.2.there in
    (omega (arith, h.1), omega (arith, h.1, there, length-append (rows before) (rows_of item)))

-- the rows that the facts before an item number stay where they are
pub row_before : (before : List Item) (item : Item) (n : ℕ) → 0 < n → n ≤ length (rows before) → row_numbered (rows (item ∷ before)) n ≡ row_numbered (rows before) n
row_before before item n p l = get_left (rows before) (rows_of item) (n - 1) nothing (omega arith)

pub row_new : (before : List Item) (item : Item) (n place : ℕ) → n ≡ length (rows before) + place + 1 → row_numbered (rows (item ∷ before)) n ≡ get_or (rows_of item) place nothing
row_new before item n place e = get_right (rows before) (rows_of item) (n - 1) nothing (omega arith) ∙ ap (λ k. get_or (rows_of item) k nothing) (omega arith)

-- every fact is met
pub facts_met : (v : ℕ → ℤ) (multipliers : List ℕ) (items : List Item) → AllByRecursion (MeetsItem v) items → (n : ℕ) → IsFact multipliers items n → Meets v (row_numbered (rows items) n)
facts_met v multipliers [] m n h = absurd h
facts_met v multipliers (item ∷ before) m n (inl h) =
    let inside = fact_inside multipliers before n h in
    subst (Meets v) (sym (row_before before item n inside.0 inside.1)) (facts_met v multipliers before m.1 n h)
facts_met v multipliers (item ∷ before) m n (inr h) =
    let fact = h.2 in
    subst (Meets v) (sym (row_new before item n h.0 h.1)) (item_row v item h.0 m.0 fact.there (λ e.
    let exact = fact.third e in
    let c = exact.0 in
    let usable = exact.1 in
    proves_met v (rows before) (dividend_row item) c.void c.divisor c.parts usable.allowed.0
    (all_usable (IsFact multipliers before) (λ k. Meets v (row_numbered (rows before) k)) c.parts (facts_met v multipliers before m.1) usable.usable) exact.3))

pub derived_met : (v : ℕ → ℤ) (multipliers : List ℕ) (items : List Item) (goal : Inequality) → AllByRecursion (MeetsItem v) items → Derives multipliers items goal → Meets v goal
derived_met v multipliers items goal m h =
    let c = h.0 in
    let usable = h.1 in
    proves_met v (rows items) goal c.void c.divisor c.parts usable.allowed.0
    (all_usable (IsFact multipliers items) (λ k. Meets v (row_numbered (rows items) k)) c.parts (facts_met v multipliers items m) usable.usable) h.2

pub all_append : {X : Type 0} (P : X → Type 0) (xs ys : List X) → AllByRecursion P xs → AllByRecursion P ys → AllByRecursion P (xs ++ ys)
all_append P [] ys h k = k
all_append P (x ∷ xs) ys h k = (h.0, all_append P xs ys h.1 k)

pub all_reverse : {X : Type 0} (P : X → Type 0) (xs : List X) → AllByRecursion P xs → AllByRecursion P (reverse xs)
all_reverse P [] h = tt
all_reverse P (x ∷ xs) h = subst (AllByRecursion P) (sym (reverse_onto xs x [])) (all_append P (reverse xs) (x ∷ []) (all_reverse P xs h.1) (h.0, tt))
