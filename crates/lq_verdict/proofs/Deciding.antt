-- What combinations give and which facts they may use, told by tests that compute.
use Rattle.std.proofs.Common.{◌≡◌, ℕ, ◌+◌, ◌-◌, ◌^◌, ◌<◌, ◌≤◌, ◌⊎◌, inl, inr, Bool, true, false, not, cond, List, [], ◌∷◌, ◌++◌, length, reverse, Option, None, Some, refl, sym, ap, ap₂, subst, ◌∙◌, arith, append_assoc, append-nil}
use Rattle.std.specs.Prelude.{Decides, ◌&&◌, ◌||◌, ◌==◌, nat_lt, nat_le, ℤ, pos, negsuc, ◌≤ℤ◌, ◌<ℤ◌, int_le, MatchBool, T}
use Rattle.std.specs.List.{AllByRecursion, list_any, list_all}
use Rattle.std.specs.Option.{is_some}
use Rattle.std.specs.Ordering.{int_eq}
use Rattle.std.specs.Int.Signed.{le_z_yes}
use Rattle.std.specs.Cmp.Lexicographic.{pointwise}
use Rattle.std.proofs.lemmas.Bool.{true≢false, and_parts, leb-true, le-leb}
use Rattle.std.proofs.lemmas.Bool.Decides.{Decides-and, Decides-or, Decides-like, Decides-ltb, Decides-eqb, Decides-int_eq}
use Rattle.std.proofs.lemmas.Float.{T_from_true}
use Rattle.std.proofs.lemmas.Int.{ints}
use Rattle.lq_linear.specs.Ascend.{AscendBy}
use Rattle.lq_linear.specs.Terms.{Term, AreAlike, coefficient, times}
use Rattle.lq_linear.specs.Row.{Inequality, IsBounded}
use Rattle.lq_linear.specs.Collect.{collected, as_row}
use Rattle.lq_linear.specs.Item.{rows_of, rows, row_numbered, dividend_row}
use Rattle.lq_linear.specs.declared.item.Item.{Item}
use Rattle.lq_linear.specs.Certificate.{Exactness}
use Rattle.lq_linear.specs.Derivation.{floor, Part, Combination, combined, IsCombination, Proves, IsConsequence, IsContradiction, IsRowFact}
use Rattle.lq_linear.proofs.Collecting.{one_collected}
use Rattle.lq_validity.specs.Derives.{divisions, division_count}
use Rattle.lq_cert.specs.Right.{IsAllowed, HasEntry, MayUse, IsRight, IsRightEntry}
use Rattle.lq_templates.specs.Rows.{same_term}
use Rattle.lq_symbolic.proofs.Collected.{collected_alike, are_collected, row_if, if_row}

-- ---- tests put together

pub decides_le : (a b : ℕ) → Decides (nat_le a b) (a ≤ b)
decides_le a b = (leb-true a b, le-leb a b)

-- each passes a test
pub all_if : {X : Type 0} (P : X → Type 0) (test : X → Bool) → ((x : X) → test x ≡ true → P x) → (xs : List X) → list_all test xs ≡ true → AllByRecursion P xs
all_if P test each [] h = tt
all_if P test each (x ∷ xs) h = let both = and_parts (test x) (list_all test xs) h in (each x both.0, all_if P test each xs both.1)

pub decides_all : {X : Type 0} (P : X → Type 0) (test : X → Bool) → ((x : X) → Decides (test x) (P x)) → (xs : List X) → Decides (list_all test xs) (AllByRecursion P xs)
decides_all P test each [] = (λ e. tt, λ h. refl)
decides_all P test each (x ∷ xs) = Decides-and (test x) (list_all test xs) (each x) (decides_all P test each xs)

pub decides_some : {X : Type 0} (found : Option X) → Decides (is_some found) ((x : X) × (found ≡ Some x))
decides_some None = (λ e. absurd (true≢false (sym e)), λ h. let none : None ≡ Some h.0 = h.1 in absurd cc)
decides_some (Some x) = (λ e. (x, refl), λ h. refl)

true_if : (b : Bool) → T b → b ≡ true
true_if true t = refl
true_if false t = absurd t

decides_le_z : (a b : ℤ) → Decides (int_le a b) (a ≤ℤ b)
decides_le_z a b = (λ e. le_z_yes (T_from_true (int_le a b) e), λ h. true_if (int_le a b) h.le)

decides_negative : (z : ℤ) → Decides (int_le z (negsuc 0)) (z <ℤ pos 0)
decides_negative z = Decides-like (int_le z (negsuc 0)) (λ low. omega (arith, ints, low)) (λ low. omega (arith, ints, low)) (decides_le_z z (negsuc 0))

-- a test that fails
pub if_not : (b : Bool) → not b ≡ true → b ≡ false
if_not true e = absurd (true≢false (sym e))
if_not false e = refl

pub decides_false : (b : Bool) → Decides (not b) (b ≡ false)
decides_false b = (if_not b, λ e. ap not e)

decides_implied : {P Q : Type 0} (b x : Bool) → Decides b P → Decides x Q → Decides (not b || x) (P → Q)
decides_implied true x d k = (λ e p. k.0 e, λ h. k.1 (h (d.0 refl)))
decides_implied false x d k = (λ e p. absurd (true≢false (sym (d.1 p))), λ h. refl)

-- ---- sums

decides_term : (a b : Term) → Decides (same_term a b) (a ≡ b)
decides_term a b =
    Decides-like (same_term a b) (λ h. ap₂ (λ (n : ℕ) (z : ℤ). (n, z)) h.0 h.1) (λ e. (ap (λ (t : Term). t.0) e, ap (λ (t : Term). t.1) e))
    (Decides-and (a.0 == b.0) (int_eq a.1 b.1) (Decides-eqb a.0 b.0) (Decides-int_eq a.1 b.1))

decides_terms : (xs ys : List Term) → Decides (pointwise same_term xs ys) (xs ≡ ys)
decides_terms [] [] = (λ e. refl, λ e. refl)
decides_terms [] (y ∷ ys) = (λ e. absurd (true≢false (sym e)), λ e. absurd cc)
decides_terms (x ∷ xs) [] = (λ e. absurd (true≢false (sym e)), λ e. absurd cc)
decides_terms (x ∷ xs) (y ∷ ys) =
    Decides-like (same_term x y && pointwise same_term xs ys) (λ h. ap₂ (λ (z : Term) (zs : List Term). z ∷ zs) h.0 h.1) (λ e. (cc, cc))
    (Decides-and (same_term x y) (pointwise same_term xs ys) (decides_term x y) (decides_terms xs ys))

abbrev are_alike : (a b : List Term) → Bool
are_alike a b = pointwise same_term (collected a) (collected b)

decides_alike : (a b : List Term) → Decides (are_alike a b) (AreAlike a b)
decides_alike a b =
    Decides-like (are_alike a b)
    (λ e x. sym (collected_alike a x) ∙ ap (λ (l : List Term). coefficient l x) e ∙ collected_alike b x)
    (λ h. one_collected (collected a) (collected b) (are_collected a) (are_collected b) (λ x. collected_alike a x ∙ h x ∙ sym (collected_alike b x)))
    (decides_terms (collected a) (collected b))

pub decides_bounded : (row : Inequality) → Decides (is_some (as_row row)) (IsBounded row)
decides_bounded row =
    Decides-like (is_some (as_row row)) (λ found. row_if row found.0 found.1) (λ h. (record { terms = collected row.terms; most = row.most }, if_row row h))
    (decides_some (as_row row))

-- ---- combinations

abbrev contradicts : List Inequality → List Part → Bool
contradicts all parts = are_alike (combined all parts).terms [] && int_le (combined all parts).most (negsuc 0)

decides_contradiction : (all : List Inequality) (parts : List Part) → Decides (contradicts all parts) (IsContradiction all parts)
decides_contradiction all parts =
    Decides-like (contradicts all parts) (λ h. record { alike = h.0; negative = h.1 }) (λ h. (h.alike, h.negative))
    (Decides-and (are_alike (combined all parts).terms []) (int_le (combined all parts).most (negsuc 0)) (decides_alike (combined all parts).terms []) (decides_negative (combined all parts).most))

abbrev gives : List Inequality → List Part → (divisor : ℕ) → Inequality → Bool
gives all parts divisor goal = are_alike (combined all parts).terms (times (pos divisor) goal.terms) && int_le (floor (combined all parts).most divisor) goal.most

decides_consequence : (all : List Inequality) (parts : List Part) (divisor : ℕ) (goal : Inequality) → Decides (gives all parts divisor goal) (IsConsequence all parts divisor goal)
decides_consequence all parts divisor goal =
    Decides-like (gives all parts divisor goal) (λ h. record { alike = h.0; most = h.1 }) (λ h. (h.alike, h.most))
    (Decides-and (are_alike (combined all parts).terms (times (pos divisor) goal.terms)) (int_le (floor (combined all parts).most divisor) goal.most)
    (decides_alike (combined all parts).terms (times (pos divisor) goal.terms)) (decides_le_z (floor (combined all parts).most divisor) goal.most))

abbrev pub proves : List Inequality → Inequality → Combination → Bool
proves all goal c = cond c.void (contradicts all c.parts && (c.divisor == 1)) (gives all c.parts c.divisor goal)

decides_kind : (all : List Inequality) (goal : Inequality) (divisor : ℕ) (parts : List Part) (void : Bool)
    → Decides (cond void (contradicts all parts && (divisor == 1)) (gives all parts divisor goal)) (MatchBool void (IsContradiction all parts × (divisor ≡ 1)) (IsConsequence all parts divisor goal))
decides_kind all goal divisor parts true = Decides-and (contradicts all parts) (divisor == 1) (decides_contradiction all parts) (Decides-eqb divisor 1)
decides_kind all goal divisor parts false = decides_consequence all parts divisor goal

pub decides_proves : (all : List Inequality) (goal : Inequality) (c : Combination) → Decides (proves all goal c) (Proves all goal c)
decides_proves all goal c = decides_kind all goal c.divisor c.parts c.void

abbrev pub is_allowed : ℕ → Bool
is_allowed n = nat_le 1 n && nat_le n (2 ^ 20)

pub decides_allowed : (n : ℕ) → Decides (is_allowed n) (IsAllowed n)
decides_allowed n = Decides-and (nat_le 1 n) (nat_le n (2 ^ 20)) (decides_le 1 n) (decides_le n (2 ^ 20))

abbrev pub ascends : {X : Type 0} → (X → ℕ) → List X → Bool
ascends key [] = true
ascends key (x ∷ xs) = list_all (λ y. nat_lt (key x) (key y)) xs && ascends key xs

pub decides_ascends : {X : Type 0} (key : X → ℕ) (xs : List X) → Decides (ascends key xs) (AscendBy key xs)
decides_ascends key [] = (λ e. tt, λ h. refl)
decides_ascends key (x ∷ xs) =
    Decides-and (list_all (λ y. nat_lt (key x) (key y)) xs) (ascends key xs)
    (decides_all (λ y. key x < key y) (λ y. nat_lt (key x) (key y)) (λ y. Decides-ltb (key x) (key y)) xs) (decides_ascends key xs)

abbrev combines : (usable : ℕ → Bool) → Combination → Bool
combines usable c =
    nat_le (length c.parts) 256 && (ascends (λ (q : Part). q.1) c.parts && (list_all (λ (q : Part). is_allowed q.0) c.parts
    && (list_all (λ (q : Part). usable q.1) c.parts && is_allowed c.divisor)))

decides_combination : (usable : ℕ → Bool) (Usable : ℕ → Type 0) → ((n : ℕ) → Decides (usable n) (Usable n)) → (c : Combination) → Decides (combines usable c) (IsCombination 256 IsAllowed Usable c)
decides_combination usable Usable each c =
    Decides-like (combines usable c)
    (λ h. record { few = h.0; ascending = h.1.0; multipliers = h.1.1.0; usable = h.1.1.1.0; allowed = h.1.1.1.1 })
    (λ h. (h.few, (h.ascending, (h.multipliers, (h.usable, h.allowed)))))
    (Decides-and (nat_le (length c.parts) 256) _ (decides_le (length c.parts) 256)
    (Decides-and (ascends (λ (q : Part). q.1) c.parts) _ (decides_ascends (λ (q : Part). q.1) c.parts)
    (Decides-and (list_all (λ (q : Part). is_allowed q.0) c.parts) _ (decides_all (λ (q : Part). IsAllowed q.0) (λ (q : Part). is_allowed q.0) (λ q. decides_allowed q.0) c.parts)
    (Decides-and (list_all (λ (q : Part). usable q.1) c.parts) (is_allowed c.divisor) (decides_all (λ (q : Part). Usable q.1) (λ (q : Part). usable q.1) (λ q. each q.1) c.parts) (decides_allowed c.divisor)))))

-- ---- items of a list

-- an item, and what stands before and behind it
abbrev Split : Type 0
Split = List Item × Item × List Item

abbrev splits : (before items : List Item) → List Split
splits before [] = []
splits before (x ∷ xs) = (before, x, xs) ∷ splits (before ++ x ∷ []) xs

record Found (P : Split → Type 0) (before items : List Item) : Type 0 where
  front : List Item
  item : Item
  behind : List Item
  parts : items ≡ front ++ item ∷ behind
  holds : P (before ++ front, item, behind)

module _ (P : Split → Type 0) where
  found_here : (before items : List Item) (y : Item) → P (before, y, items) ⊎ Found P (before ++ y ∷ []) items → Found P before (y ∷ items)
  found_here before items y (inl h) = record { front = []; item = y; behind = items; parts = refl; holds = subst (λ (l : List Item). P (l, y, items)) (sym (append-nil before)) h }
  found_here before items y (inr r) = record {
    front = y ∷ r.front;
    item = r.item;
    behind = r.behind;
    parts = ap (λ (l : List Item). y ∷ l) r.parts;
    holds = subst (λ (l : List Item). P (l, r.item, r.behind)) (append_assoc before (y ∷ []) r.front) r.holds;
  }

  here_found : (before items : List Item) (y : Item) (front : List Item) (item : Item) (behind : List Item) → y ∷ items ≡ front ++ item ∷ behind → P (before ++ front, item, behind)
      → P (before, y, items) ⊎ Found P (before ++ y ∷ []) items
  here_found before items y [] item behind e p =
      let same : item ≡ y = cc in
      let rest : behind ≡ items = cc in
      inl (subst (λ (l : List Item). P (l, y, items)) (append-nil before) (subst (λ (x : Item). P (before ++ [], x, items)) same (subst (λ (a : List Item). P (before ++ [], item, a)) rest p)))
  here_found before items y (z ∷ front) item behind e p =
      let same : z ≡ y = cc in
      let rest : items ≡ front ++ item ∷ behind = cc in
      inr (record {
        front = front;
        item = item;
        behind = behind;
        parts = rest;
        holds = subst (λ (l : List Item). P (l, item, behind)) (sym (append_assoc before (y ∷ []) front)) (subst (λ (w : Item). P (before ++ w ∷ front, item, behind)) same p);
      })

  nowhere : (before front : List Item) (item : Item) (behind : List Item) → [] ≡ front ++ item ∷ behind → ⊥
  nowhere before [] item behind e = absurd cc
  nowhere before (z ∷ front) item behind e = absurd cc

  decides_split : (test : Split → Bool) → ((s : Split) → Decides (test s) (P s)) → (before items : List Item) → Decides (list_any test (splits before items)) (Found P before items)
  decides_split test each before [] = (λ e. absurd (true≢false (sym e)), λ h. absurd (nowhere before h.front h.item h.behind h.parts))
  decides_split test each before (y ∷ items) =
      Decides-like (list_any test (splits before (y ∷ items))) (found_here before items y) (λ h. here_found before items y h.front h.item h.behind h.parts h.holds)
      (Decides-or (test (before, y, items)) (list_any test (splits (before ++ y ∷ []) items)) (each (before, y, items)) (decides_split test each (before ++ y ∷ []) items))

-- ---- facts that may be used

abbrev has_entry : List Exactness → ℕ → Bool
has_entry entries number = list_any (λ (entry : Exactness). entry.item == number) entries

decides_entry : (entries : List Exactness) (number : ℕ) → Decides (has_entry entries number) (HasEntry entries number)
decides_entry [] number = (λ e. absurd (true≢false (sym e)), λ h. absurd h)
decides_entry (entry ∷ entries) number = Decides-or (entry.item == number) (has_entry entries number) (Decides-eqb entry.item number) (decides_entry entries number)

abbrev pub row_holds : Item → (place : ℕ) → (exact : Bool) → Bool
row_holds item place exact = nat_lt place (length (rows_of item)) && (is_some (as_row (row_numbered (rows_of item) (place + 1))) && (not (place == 2) || exact))

decides_fact : (item : Item) (place : ℕ) (exact : Bool) (Known : Type 0) → Decides exact Known → Decides (row_holds item place exact) (IsRowFact item place Known)
decides_fact item place exact Known d =
    Decides-like (row_holds item place exact) (λ h. record { there = h.0; bounded = h.1.0; third = h.1.1 }) (λ h. (h.there, (h.bounded, h.third)))
    (Decides-and (nat_lt place (length (rows_of item))) _ (Decides-ltb place (length (rows_of item)))
    (Decides-and (is_some (as_row (row_numbered (rows_of item) (place + 1)))) (not (place == 2) || exact) (decides_bounded (row_numbered (rows_of item) (place + 1)))
    (decides_implied (place == 2) exact (Decides-eqb place 2) d)))

-- how many numbers of facts stand before an item
abbrev before_it : Split → ℕ
before_it s = length (rows (reverse s.0))

abbrev Uses : List Exactness → ℕ → Split → Type 0
Uses entries number s = (before_it s < number) × IsRowFact s.1 (number - before_it s - 1) (HasEntry entries (divisions (reverse s.0) + 1))

abbrev uses : List Exactness → ℕ → Split → Bool
uses entries number s = nat_lt (before_it s) number && row_holds s.1 (number - before_it s - 1) (has_entry entries (divisions (reverse s.0) + 1))

abbrev may_use : List Exactness → List Item → ℕ → Bool
may_use entries items number = list_any (uses entries number) (splits [] items)

decides_use : (entries : List Exactness) (items : List Item) (number : ℕ) → Decides (may_use entries items number) (MayUse entries items number)
decides_use entries items number =
    Decides-like (may_use entries items number)
    (λ f. let beyond : length (rows (reverse f.front)) < number = (f.holds).0 in record {
      before = f.front;
      item = f.item;
      after = f.behind;
      place = number - length (rows (reverse f.front)) - 1;
      parts = f.parts;
      counted = omega (arith, beyond);
      fact = (f.holds).1;
    })
    (λ h. let counted = h.counted in let beyond : length (rows (reverse h.before)) < number = omega (arith, counted) in record {
      front = h.before;
      item = h.item;
      behind = h.after;
      parts = h.parts;
      holds = (beyond, subst (λ place. IsRowFact h.item place (HasEntry entries (divisions (reverse h.before) + 1))) (omega (arith, counted)) h.fact);
    })
    (decides_split (Uses entries number) (uses entries number)
    (λ s. Decides-and (nat_lt (before_it s) number) _ (Decides-ltb (before_it s) number)
    (decides_fact s.1 (number - before_it s - 1) (has_entry entries (divisions (reverse s.0) + 1)) (HasEntry entries (divisions (reverse s.0) + 1)) (decides_entry entries (divisions (reverse s.0) + 1))))
    [] items)

abbrev pub is_right : List Exactness → List Item → Inequality → Combination → Bool
is_right entries items goal c = combines (may_use entries items) c && proves (rows (reverse items)) goal c

pub decides_right : (entries : List Exactness) (items : List Item) (goal : Inequality) (c : Combination) → Decides (is_right entries items goal c) (IsRight entries items goal c)
decides_right entries items goal c =
    Decides-and (combines (may_use entries items) c) (proves (rows (reverse items)) goal c)
    (decides_combination (may_use entries items) (MayUse entries items) (decides_use entries items) c) (decides_proves (rows (reverse items)) goal c)

abbrev Enters : List Exactness → Exactness → Split → Type 0
Enters entries entry s = (division_count s.1 ≡ 1) × ((entry.item ≡ divisions (reverse s.0) + 1) × ((entry.combination.void ≡ false) × IsRight entries s.0 (dividend_row s.1) entry.combination))

abbrev enters : List Exactness → Exactness → Split → Bool
enters entries entry s = (division_count s.1 == 1) && ((entry.item == divisions (reverse s.0) + 1) && (not entry.combination.void && is_right entries s.0 (dividend_row s.1) entry.combination))

abbrev pub is_right_entry : List Exactness → List Item → Exactness → Bool
is_right_entry entries items entry = list_any (enters entries entry) (splits [] items)

pub decides_right_entry : (entries : List Exactness) (items : List Item) (entry : Exactness) → Decides (is_right_entry entries items entry) (IsRightEntry entries items entry)
decides_right_entry entries items entry =
    Decides-like (is_right_entry entries items entry)
    (λ f. record { before = f.front; item = f.item; after = f.behind; parts = f.parts; divides = (f.holds).0; counted = (f.holds).1.0; directly = (f.holds).1.1.0; right = (f.holds).1.1.1 })
    (λ h. record { front = h.before; item = h.item; behind = h.after; parts = h.parts; holds = (h.divides, (h.counted, (h.directly, h.right))) })
    (decides_split (Enters entries entry) (enters entries entry)
    (λ s. Decides-and (division_count s.1 == 1) _ (Decides-eqb (division_count s.1) 1)
    (Decides-and (entry.item == divisions (reverse s.0) + 1) _ (Decides-eqb entry.item (divisions (reverse s.0) + 1))
    (Decides-and (not entry.combination.void) _ (decides_false entry.combination.void) (decides_right entries s.0 (dividend_row s.1) entry.combination))))
    [] items)
